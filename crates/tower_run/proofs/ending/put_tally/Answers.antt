use Rattle.tower_io.specs.declared.answers.Put.TheVariants as put
use Rattle.tower_report.specs.EndText.{waits_text, cores_text}
use Rattle.tower_run.proofs.Paging.{over_then, over_stop}
use Rattle.tower_run.proofs.ending.put_tally.Goals as goal

pub returns-in-Failed : goal.returns-in-Failed
returns-in-Failed g c = over_stop (cores_text c.args.end.cores.now) (over_stop (waits_text c.args.end.waits) c.in-Failed.ensures)

pub returns-in-Done-put_waited : goal.returns-in-Done-put_waited
returns-in-Done-put_waited g c = over_then c.put_cores.result (over_then put.Done c.in-Done.ensures c.in-Done-put_waited.ensures) c.put_cores.ensures

pub returns-in-Failed-put_waited : goal.returns-in-Failed-put_waited
returns-in-Failed-put_waited g c = over_stop (cores_text c.args.end.cores.now) (over_then put.Failed c.in-Done.ensures c.in-Failed-put_waited.ensures)
