-- The text of a run spells its marks.
use Rattle.std.proofs.Common.{◌≤◌, ℕ, List, Option, Some, subst, sym, arith}
use Rattle.tower_syntax.specs.declared.event.Choice.{Choice}
use Rattle.tower_syntax.specs.declared.event.Mark.{Mark}
use Rattle.tower_syntax.specs.Arch.{Arch, Events}
use Rattle.task_code.specs.Program.{Program}
use Rattle.task_code.specs.Run.{first_run}
use Rattle.task_code.specs.Plan.{plan}
use Rattle.task_code.proofs.Planned.{IsPlanned, planned}
use Rattle.tower_report.specs.declared.rule.Rule.{Rule}
use Rattle.tower_report.specs.RunText.{policy_of, steps_text, tally_of, run_text}
use Rattle.tower_report.specs.EndText.{end_text}
use Rattle.event_record.specs.Lines.{Bytes}
use Rattle.event_record.specs.Order.{instruction_limit, order_format, SpellsOrder}
use Rattle.event_record.specs.Laws.{HasOneOutcome}
use Rattle.event_record.proofs.Outcomes.{orders_law}
use Rattle.declared_names.specs.Laws.{HasNames}
use Rattle.declared_names.proofs.Accepted.{accepted_has_names}
use Rattle.run_order.specs.Laws.{run_marks, HasFewTasks, IsOrderOf, RunTextsAreOrders}
use Rattle.run_order.proofs.Says.{Says, says_then, says_spells}
use Rattle.run_order.proofs.Ends.{end_said}
use Rattle.run_order.proofs.Steps.{steps_said}

run_said : (arch : Arch) (p : Program) (events : Events) (choices : List Choice) (limit : ℕ) (given : Option Rule) → HasNames arch → HasFewTasks arch p → limit ≤ instruction_limit → Says arch (run_text arch p events choices limit given) (run_marks arch p events choices limit given)
run_said arch p events choices limit given names few small =
    let policy = policy_of given arch p in
    let s = plan policy p events choices limit in
    let is : IsPlanned policy p events limit s = planned policy p events choices limit in
    let counts = is.counts in
    let said = steps_said arch names p events few s.steps s.run 0 (first_run p events) (omega (arith, counts, small)) is.reaches in
    let steps = steps_text arch p events 0 (Some (first_run p events)) s.steps in
    let end = end_text arch s.run.machine (tally_of given arch p events s.steps) s.stopped in
    says_then arch steps end s.run.marks (subst (Says arch steps) (sym said.are) said.says) (end_said arch names s.run.machine (tally_of given arch p events s.steps) s.stopped)

order_of : (arch : Arch) (text : Bytes) (marks : List Mark) → SpellsOrder arch text marks → IsOrderOf arch text marks
order_of arch text marks s =
    let outcome : HasOneOutcome (order_format arch) text = orders_law arch text in
    record { spells = s; only = λ other t. outcome.one_list other marks t s; faultless = λ n k f. outcome.not_both marks n k s f }

pub run_texts_are_orders : RunTextsAreOrders
run_texts_are_orders bs arch p events choices limit given accepted few small short =
    let text = run_text arch p events choices limit given in
    let marks = run_marks arch p events choices limit given in
    order_of arch text marks (says_spells arch text marks (run_said arch p events choices limit given (accepted_has_names bs arch accepted) few small) short)
