use Rattle.std.proofs.Common.{ap, sym}
use Rattle.tower_report.specs.RefusalText.{unread_line}
use Rattle.tower_report.proofs.Puts.{Puts-answer, Puts-same}
use Rattle.tower_report.proofs.refusals.put_unread.Goals as goal

pub returns : goal.returns
returns g c = Puts-answer c.answer.ensures (Puts-same (ap unread_line c.as_bytes-name.ensures.value) c.put_line.ensures)
