-- The places of a record's fields by their names.
use Rattle.std.specs.Prelude.{ℕ, List, Bool, nat_eq, Option}
use Rattle.std.specs.Option.{option_map}
use Rattle.std.specs.Map.{lookup}
use Rattle.std.specs.Coded.{Coded, coded×, coded_ℕ, coded_list}
use Rattle.std.specs.Cmp.Lexicographic.{pointwise}
use Rattle.tower_types.specs.Ty.{Name, Fields}
use Rattle.arch_types.specs.Typing.{field_in}

abbrev pub Places : Type 0
Places = List (Name × ℕ)

abbrev pub coded_places : Coded Places
coded_places = coded_list (coded× (coded_list coded_ℕ) coded_ℕ)

abbrev pub same : Name → Name → Bool
same n m = pointwise nat_eq n m

-- the place that each name finds
abbrev pub find : Places → Name → Option ℕ
find places name = lookup (same name) places

-- the place of the first field of a name
abbrev pub place_in : Fields → Name → Option ℕ
place_in fields name = option_map (λ f. f.0) (field_in fields name)
