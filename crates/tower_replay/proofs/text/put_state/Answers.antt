use Rattle.std.proofs.Common.{sym, append_assoc}
use Rattle.tower_io.specs.declared.answers.Put.TheVariants as put
use Rattle.tower_report.specs.EndText.{losses_text}
use Rattle.tower_run.proofs.Paging.{over_then, over_stop, over_same}
use Rattle.tower_replay.specs.Pieces.{sources_text}
use Rattle.tower_replay.proofs.text.put_state.Goals as goal

pub returns-in-Failed : goal.returns-in-Failed
returns-in-Failed g c =
    over_stop (losses_text c.args.arch.now c.args.state.now.state.lost) (over_stop (sources_text c.args.arch.now c.args.state.now.state) c.in-Failed.ensures)

pub returns-in-Done-put_sources : goal.returns-in-Done-put_sources
returns-in-Done-put_sources g c = over_then c.put_losses.result (over_then put.Done c.in-Done.ensures c.in-Done-put_sources.ensures) c.put_losses.ensures

pub returns-in-Failed-put_sources : goal.returns-in-Failed-put_sources
returns-in-Failed-put_sources g c = over_stop (losses_text c.args.arch.now c.args.state.now.state.lost) (over_then put.Failed c.in-Done.ensures c.in-Failed-put_sources.ensures)
