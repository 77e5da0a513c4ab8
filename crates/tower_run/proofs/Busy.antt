-- The tasks that are not idle.
use Rattle.std.proofs.Common.{◌≡◌, ◌<◌, ℕ, List, Bool, true, Option, Some, None, length, not, ◌∙◌, subst}
use Rattle.std.proofs.lemmas.List.{length-map}
use Rattle.std.proofs.lemmas.Option.{slice_get_within}
use Rattle.tower_syntax.specs.View.{events_of}
use Rattle.task_code.specs.Standing.{Standing, standing, standings, is_idle}
use Rattle.task_machine.specs.Policy.{IsLawful}
use Rattle.task_machine.specs.State.{State}
use Rattle.task_machine.proofs.Numbers.{length_over}
use Rattle.tower_run.specs.declared.scheduler.Scheduler.{Scheduler}
use Rattle.tower_run.specs.Scheduler.{names_by, scheduler_is_lawful}
use Rattle.tower_run.specs.Waiting.{busy_in}

pub busy_length : (s : State) → length (busy_in s) ≡ length s.program.tasks
busy_length s =
    length-map (standings s.program (events_of s.events) s.machine) (λ (st : Standing). not (is_idle st))
    ∙ length_over (standing s.program (events_of s.events) s.machine) (length s.program.tasks)

-- a task that is named is one of those of the list
pub named_within : (bs : List Bool) (o : Option ℕ) (x : ℕ) → IsLawful bs o → o ≡ Some x → x < length bs
named_within bs None x lawful e = cc
named_within bs (Some y) x lawful e =
    let is : y ≡ x = cc in
    subst (λ z. z < length bs) is (slice_get_within bs y true lawful)

pub within : (rule : Scheduler) (bs : List Bool) (hs : List (Option ℕ)) (k x : ℕ) → names_by rule bs hs k ≡ Some x → x < length bs
within rule bs hs k x e = named_within bs (names_by rule bs hs k) x (scheduler_is_lawful rule bs hs k) e
