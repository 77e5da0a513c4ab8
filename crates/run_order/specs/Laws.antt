-- The text of a run is an order: what it spells, read as one, is the list of the run's marks.
use Rattle.std.specs.Prelude.{◌≡◌, ◌≤◌, ℕ, List, length, Option}
use Rattle.tower_syntax.specs.declared.event.Choice.{Choice}
use Rattle.tower_syntax.specs.declared.event.Mark.{Mark}
use Rattle.tower_syntax.specs.Arch.{Arch, Events}
use Rattle.arch_checks.specs.Offences.{IsAccepted}
use Rattle.task_code.specs.Program.{Program}
use Rattle.task_code.specs.Plan.{plan}
use Rattle.tower_report.specs.declared.rule.Rule.{Rule}
use Rattle.tower_report.specs.RunText.{policy_of, run_text}
use Rattle.event_record.specs.declared.order.OrderKind.{OrderKind}
use Rattle.event_record.specs.Lines.{Bytes}
use Rattle.event_record.specs.Format.{byte_limit, IsFirst}
use Rattle.event_record.specs.Order.{instruction_limit, order_format, SpellsOrder}

-- the marks of the run with these choices and at most so many instructions
abbrev pub run_marks : Arch → Program → Events → List Choice → ℕ → Option Rule → List Mark
run_marks arch p events choices limit given = (plan (policy_of given arch p) p events choices limit).run.marks

-- the text spells these marks and no others, and has no fault
pub record IsOrderOf (arch : Arch) (text : Bytes) (marks : List Mark) : Type 0 where
  pub spells : SpellsOrder arch text marks
  pub only : (other : List Mark) → SpellsOrder arch text other → other ≡ marks
  pub faultless : (n : ℕ) (k : OrderKind) → IsFirst (order_format arch) text n k → ⊥

-- the text of the run, where an order may have so many bytes, is an order of its marks
abbrev pub RunTextIsOrder : Arch → Program → Events → List Choice → ℕ → Option Rule → Type 0
RunTextIsOrder arch p events choices limit given =
    length (run_text arch p events choices limit given) ≤ byte_limit
    → IsOrderOf arch (run_text arch p events choices limit given) (run_marks arch p events choices limit given)

-- each task is that of a source
abbrev pub HasFewTasks : Arch → Program → Type 0
HasFewTasks arch p = length p.tasks ≤ length arch.sources

abbrev pub RunTextsAreOrders : Type 0
RunTextsAreOrders =
    (bs : List ℕ) (arch : Arch) (p : Program) (events : Events) (choices : List Choice) (limit : ℕ) (given : Option Rule)
    → IsAccepted bs arch → HasFewTasks arch p → limit ≤ instruction_limit → RunTextIsOrder arch p events choices limit given
