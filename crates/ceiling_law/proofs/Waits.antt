-- No instruction comes while the ceiling rule names a waiting task.
use Rattle.std.proofs.Common.{◌≡◌, ℕ, Bool, false, cond, List, [], ◌∷◌, ◌++◌, Option, Some, None, refl, ap, arith}
use Rattle.tower_syntax.specs.Arch.{Arch, Events}
use Rattle.tower_syntax.specs.WellNumbered.{IsWellNumbered}
use Rattle.tower_meaning.specs.Atomic.{Fit}
use Rattle.task_code.specs.Program.{Program}
use Rattle.task_code.specs.Standing.{Standing, IsStuck, IsIdle, IsWaiting, IsReady, standing}
use Rattle.task_code.specs.Run.{Run, Step, step, first_run, reached}
use Rattle.task_code.specs.Ceiling.{ceiling}
use Rattle.task_code.specs.Plan.{Planned, goes, comes, step_of}
use Rattle.task_code.specs.Tally.{is_waiting, names_waiting, waits_before, waits}
use Rattle.lock_reduction.specs.Reduce.{Sound}
use Rattle.ceiling_law.specs.ByPolicy.{named_busy}
use Rattle.ceiling_law.specs.Ceilings.{NeverWaits}
use Rattle.ceiling_law.proofs.Held.{goes_on}
use Rattle.ceiling_law.proofs.Named.{names_the_ready}

ready_not_waiting : (s : Standing) → s ≡ IsReady → is_waiting s ≡ false
ready_not_waiting IsStuck e = refl
ready_not_waiting IsIdle e = refl
ready_not_waiting (IsWaiting m) e = cc
ready_not_waiting IsReady e = refl

abbrev one_if : Bool → ℕ
one_if b = cond b 1 0

module _ (arch : Arch) (p : Program) (events : Events) (numbered : IsWellNumbered arch) (sound : Sound arch p) (fit : Fit arch events) where
  named_not_waiting : (steps : List Step) (r : Run) → reached p events steps ≡ Some r → (k : ℕ) (o : Option ℕ) → named_busy (ceiling arch p) p events r.machine k ≡ o → names_waiting p events r.machine o ≡ false
  named_not_waiting steps r e k None i = refl
  named_not_waiting steps r e k (Some x) i = ready_not_waiting (standing p events r.machine x) (names_the_ready arch p events numbered sound fit steps r e k x i)

  none_before : (steps : List Step) (r : Run) → reached p events steps ≡ Some r → (s : Planned) → waits_before (ceiling arch p) p events r.machine s ≡ false
  none_before steps r e comes = refl
  none_before steps r e (goes k x) = named_not_waiting steps r e k (named_busy (ceiling arch p) p events r.machine k) refl

  no_waits : (ss : List Planned) (o : Option Run) → ((r : Run) → o ≡ Some r → (steps : List Step) × (reached p events steps ≡ Some r)) → waits (ceiling arch p) p events o ss ≡ 0
  no_waits [] o h = refl
  no_waits (s ∷ ss) None h = refl
  no_waits (s ∷ ss) (Some r) h =
      let g = h r refl in
      let none : one_if (waits_before (ceiling arch p) p events r.machine s) ≡ 0 = ap one_if (none_before g.0 r g.1 s) in
      let rest = no_waits ss (step p events r (step_of s)) (λ q k. (g.0 ++ step_of s ∷ [], goes_on p events g.0 (Some (first_run p events)) r q (step_of s) g.1 k)) in
      omega (arith, none, rest)

pub never_waits : (arch : Arch) (p : Program) → IsWellNumbered arch → Sound arch p → NeverWaits arch p
never_waits arch p numbered sound events steps fit =
    no_waits arch p events numbered sound fit steps (Some (first_run p events))
    (λ r k. ([], k))
