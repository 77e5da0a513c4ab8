-- How often the rule names a waiting task, step by step.
use Rattle.std.proofs.Common.{◌≡◌, ℕ, ◌+◌, ◌≤◌, List, [], ◌∷◌, ◌++◌, map, Option, Some, None, Bool, true, false, ◌&&◌, cond, sym, ap, ◌∙◌, arith}
use Rattle.std.proofs.lemmas.Option.{same_Some}
use Rattle.tower_syntax.specs.Arch.{Events}
use Rattle.task_code.specs.Program.{Program}
use Rattle.task_code.specs.Run.{Run, step, steps_from}
use Rattle.task_code.specs.Policy.{Policy}
use Rattle.task_code.specs.Plan.{Planned, goes, comes, step_of, instructions}
use Rattle.task_code.specs.Tally.{waits, waits_before}

abbrev pub one_if : Bool → ℕ
one_if b = cond b 1 0

pub at_most_one : (b : Bool) → one_if b ≤ 1
at_most_one true = omega arith
at_most_one false = omega arith

module _ (policy : Policy) (p : Program) (events : Events) where
  -- one step more
  pub waits_push : (o : Option Run) (ss : List Planned) (z : Planned) (r : Run) → steps_from p events o (map step_of ss) ≡ Some r
      → waits policy p events o (ss ++ z ∷ []) ≡ waits policy p events o ss + one_if (waits_before policy p events r.machine z)
  waits_push None [] z r e = cc
  waits_push (Some q) [] z r e =
      let same : one_if (waits_before policy p events q.machine z) ≡ one_if (waits_before policy p events r.machine z) = ap (λ (t : Run). one_if (waits_before policy p events t.machine z)) (same_Some q r e) in
      omega (arith, same)
  waits_push None (s ∷ ss) z r e = cc
  waits_push (Some q) (s ∷ ss) z r e =
      let rest = waits_push (step p events q (step_of s)) ss z r e in
      omega (arith, rest)

  -- no more than there are instructions
  pub waits_few : (o : Option Run) (ss : List Planned) → waits policy p events o ss ≤ instructions ss
  waits_few o [] = omega arith
  waits_few None (goes k x ∷ ss) = omega arith
  waits_few None (comes ∷ ss) = omega arith
  waits_few (Some r) (goes k x ∷ ss) =
      let rest = waits_few (step p events r (step_of (goes k x))) ss in
      let one = at_most_one (waits_before policy p events r.machine (goes k x)) in
      omega (arith, rest, one)
  waits_few (Some r) (comes ∷ ss) = let rest = waits_few (step p events r (step_of comes)) ss in omega (arith, rest)

-- the same where it is counted only if it is asked for
pub counted_more : (counting b : Bool) (more all old now : ℕ) → all ≡ more + one_if b → cond counting more 0 ≡ old → now ≡ old + one_if (counting && b) → cond counting all 0 ≡ now
counted_more true b more all old now e f g = e ∙ ap (λ n. n + one_if b) f ∙ sym g
counted_more false b more all old now e f g = let h : now ≡ old + 0 = g in omega (arith, f, h)

pub counted_few : (counting : Bool) (all n : ℕ) → all ≤ n → cond counting all 0 ≤ n
counted_few true all n h = h
counted_few false all n h = omega arith
