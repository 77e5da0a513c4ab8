-- A set of names beside the tree that finds them.
use Rattle.std.specs.Prelude.{◌≡◌, ⊤, List, [], ◌∷◌, None}
use Rattle.std.specs.Map.{lookup}
use Rattle.std.specs.Ordering.{is_eq, nat_cmp}
use Rattle.std.specs.Cmp.Lexicographic.{slice_cmp}
use Rattle.tower_types.specs.Ty.{Name}
use Rattle.arch_names.specs.declared.names.Declared.{Declared}
use Rattle.arch_names.specs.Names.{Names, find}

-- no name is declared twice
abbrev pub AreOnce : {T : Type 0} → Names T → Type 0
AreOnce [] = ⊤
AreOnce (e ∷ es) = (find es e.0 ≡ None) × AreOnce es

-- the entries of a tree, whose keys are read by `of`, give for each name its first declaration in the list
pub record Finds {K T : Type 0} (of : K → Name) (entries : List (K × Declared T)) (names : Names T) : Type 0 where
  pub first : (n : Name) → lookup (λ k. is_eq (slice_cmp nat_cmp n (of k))) entries ≡ find names n
  pub once : AreOnce names
