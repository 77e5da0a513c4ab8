use Rattle.std.proofs.Common.{refl}
use Rattle.event_record.specs.OrderLine.{judge_mark, over_marks}
use Rattle.event_record.proofs.Walks.{adds_none}
use Rattle.event_record.proofs.order.add_line.Goals as goal

pub returns-in-Ok-None : goal.returns-in-Ok-None
returns-in-Ok-None c = adds_none over_marks c.args.marks.now.items (judge_mark c.args.arch.now c.args.line.now) refl (rw c.in-Ok-None.field-0-is at c.in-Ok-None.ensures)
