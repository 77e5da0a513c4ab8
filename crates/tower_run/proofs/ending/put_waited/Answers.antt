use Rattle.std.proofs.Common.{sym, ap}
use Rattle.tower_report.specs.EndText.{waits_text}
use Rattle.tower_run.proofs.Paging.{over_none, over_same}
use Rattle.tower_run.proofs.ending.put_waited.Goals as goal

pub returns-in-None : goal.returns-in-None
returns-in-None g c = over_same (ap waits_text (sym c.in-None.is)) over_none
