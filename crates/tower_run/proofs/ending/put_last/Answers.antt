use Rattle.tower_report.specs.EndText.{last_line}
use Rattle.tower_run.proofs.Paging.{over_then, over_stop}
use Rattle.tower_run.proofs.ending.put_last.Goals as goal

pub returns-in-Failed : goal.returns-in-Failed
returns-in-Failed g c = over_stop (last_line c.args.end.stopped) c.in-Failed.ensures

pub returns-in-Done : goal.returns-in-Done
returns-in-Done g c = over_then c.put_paged.result c.in-Done.ensures c.put_paged.ensures
