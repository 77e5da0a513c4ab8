use Rattle.tower_report.specs.ReplayText.{replay_end}
use Rattle.tower_run.proofs.Paging.{over_then, over_stop}
use Rattle.tower_replay.proofs.text.put_verdict.Goals as goal

pub returns-in-Done : goal.returns-in-Done
returns-in-Done g c = over_then c.put_paged.result c.in-Done.ensures c.put_paged.ensures

pub returns-in-Failed : goal.returns-in-Failed
returns-in-Failed g c = over_stop (replay_end c.args.verdict.now.misfit) c.in-Failed.ensures
