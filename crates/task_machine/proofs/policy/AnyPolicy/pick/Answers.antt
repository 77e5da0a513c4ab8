-- Without priorities all ready tasks have the greatest one.
use Rattle.std.proofs.Common.{◌≡◌, ◌==◌, ℕ, List, [], ◌∷◌, map, refl, ap, ◌∙◌, arith, true}
use Rattle.std.specs.Prelude.{slice_index, filter}
use Rattle.std.proofs.lemmas.Bool.Decides.{nat_tests}
use Rattle.task_code.specs.Policy.{at_turn, greatest, places_from}
use Rattle.task_machine.proofs.policy.AnyPolicy.pick.Goals as goal

none_greatest : (xs : List ℕ) → greatest (map (slice_index []) xs) ≡ 0
none_greatest [] = refl
none_greatest (x ∷ xs) = none_greatest xs

all_pass : (top : ℕ) (xs : List ℕ) → top ≡ 0 → filter (λ x. slice_index [] x == top) xs ≡ xs
all_pass top [] e = refl
all_pass top (x ∷ xs) e =
    let h : (0 == top) ≡ true = grind (arith, nat_tests) in
    rw h (ap (λ r. x ∷ r) (all_pass top xs e))

pub returns : goal.returns
returns c =
    let xs = places_from 0 c.args.ready.now in
    c.most_urgent.ensures ∙ ap (at_turn c.args.k) (all_pass _ xs (none_greatest xs))
