-- How large the values are that a callback names: their words can be counted by 64-bit numbers.
use Rattle.std.proofs.Common.{◌≡◌, ℕ, zero, suc, ◌<◌, ◌≤◌, ◌^◌, List, [], ◌∷◌, map, inl, inr, refl, ap, arith, slice_index_or}
use Rattle.std.specs.Prelude.{All, sum}
use Rattle.std.proofs.lemmas.List.Elements.{All-cons, All-nil}
use Rattle.tower_types.specs.Ty.{Shape, all, shapes_of, shape_of_fields, table_of, words}
use Rattle.tower_syntax.specs.declared.body.Root.{Root}
use Rattle.tower_syntax.specs.declared.body.Root.TheVariants as root
use Rattle.tower_syntax.specs.Arch.{Arch, Handler, Monitor, Body}
use Rattle.tower_syntax.specs.Graph.{handler}
use Rattle.tower_syntax.specs.Weights.{shape_at, scope_of, root_shape, field_shapes, states_of, monitor_words, handler_memory, memory}
use Rattle.channel_graph.proofs.Members.{In}
use Rattle.task_code.proofs.Lists.{cons_sum}

-- the words of each name's value
abbrev pub IsSmallBody : Arch → Handler → Body → Type 0
IsSmallBody arch h b = (r : Root) → words (root_shape (scope_of arch h b) r) < 2 ^ 63

pub in_sum : {X : Type 0} (g : X → ℕ) (xs : List X) (x : X) → In x xs → g x ≤ sum (map g xs)
in_sum g [] x h = absurd h
in_sum g (y ∷ ys) x (inl e) = let s = cons_sum (g y) (map g ys) in let q : g x ≡ g y = ap g e in omega (arith, s, q)
in_sum g (y ∷ ys) x (inr h) = let s = cons_sum (g y) (map g ys) in let q = in_sum g ys x h in omega (arith, s, q)

shape_in_sum : (ss : List Shape) (c : ℕ) → words (shape_at ss c) ≤ sum (map words ss)
shape_in_sum [] c = omega arith
shape_in_sum (s ∷ ss) zero = let q = cons_sum (words s) (map words ss) in omega (arith, q)
shape_in_sum (s ∷ ss) (suc c) = let q = cons_sum (words s) (map words ss) in let r = shape_in_sum ss c in omega (arith, q, r)

state_in_all : (ss : List Shape) (k : ℕ) → words (shape_at ss k) ≤ words (all (shapes_of ss))
state_in_all [] k = omega arith
state_in_all (s ∷ ss) zero = omega arith
state_in_all (s ∷ ss) (suc k) = let q = state_in_all ss k in omega (arith, q)

pub all_of : {X : Type 0} (P : X → Type 0) (xs : List X) → ((x : X) → In x xs → P x) → All P xs
all_of P [] f = All-nil P
all_of P (x ∷ xs) f = All-cons P x xs (f x (inl refl)) (all_of P xs (λ y h. f y (inr h)))

monitor_in_sum : (arch : Arch) (ms : List Monitor) (m : ℕ) → words (shape_of_fields (table_of arch.records) (slice_index_or (map (λ y. y.states) ms) m [])) ≤ sum (map (monitor_words arch) ms)
monitor_in_sum arch [] m = omega arith
monitor_in_sum arch (y ∷ ms) zero = let q = cons_sum (monitor_words arch y) (map (monitor_words arch) ms) in omega (arith, q)
monitor_in_sum arch (y ∷ ms) (suc m) = let q = cons_sum (monitor_words arch y) (map (monitor_words arch) ms) in let r = monitor_in_sum arch ms m in omega (arith, q, r)

pub small_bodies : (arch : Arch) (h : ℕ) → memory arch ≤ 1048576 → handler_memory arch (handler arch h) ≤ 1048576 → All (IsSmallBody arch (handler arch h)) (handler arch h).callbacks
small_bodies arch h limit own = all_of (IsSmallBody arch (handler arch h)) (handler arch h).callbacks small
  where
    small : (b : Body) → In b (handler arch h).callbacks → IsSmallBody arch (handler arch h) b
    small b there root.Param = omega (arith, own)
    small b there (root.Binder c) =
        let q1 = in_sum (λ (d : Body). sum (map words (field_shapes (table_of arch.records) d.binders))) (handler arch h).callbacks b there in
        let q2 = shape_in_sum (field_shapes (table_of arch.records) b.binders) c in
        omega (arith, own, q1, q2)
    small b there (root.State k) =
        let q1 = state_in_all (field_shapes (table_of arch.records) (states_of arch (handler arch h).monitor)) k in
        let q2 = monitor_in_sum arch arch.monitors (handler arch h).monitor in
        omega (arith, q1, q2, limit)
