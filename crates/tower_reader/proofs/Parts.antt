-- Lists that grow by the parts of one kind.
use Rattle.std.proofs.Common.{◌≡◌, List, [], ◌∷◌, ◌++◌, append_assoc, Option, Some, None}
use Rattle.std.specs.List.{filter_map, cons_option}

append_option : {Y : Type 0} (o : Option Y) (xs ys : List Y) → (xs ++ cons_option o []) ++ ys ≡ xs ++ cons_option o ys
append_option None xs ys = rw append_assoc
append_option (Some y) xs ys = append_assoc xs (y ∷ []) ys

-- one more part was looked at
pub filter_step : {X Y : Type 0} (h : X → Option Y) (xs : List Y) (p : X) (ps : List X) → (xs ++ cons_option (h p) []) ++ filter_map h ps ≡ xs ++ filter_map h (p ∷ ps)
filter_step h xs p ps = append_option (h p) xs (filter_map h ps)
