use Rattle.std.proofs.Common.{sym, append_assoc}
use Rattle.tower_io.specs.declared.answers.Put.TheVariants as put
use Rattle.tower_report.specs.EndText.{losses_text, tally_text, last_line}
use Rattle.tower_run.specs.LastText.{tally_in}
use Rattle.tower_run.proofs.Paging.{over_then, over_stop, over_same}
use Rattle.tower_run.proofs.ending.put_ending.Goals as goal

pub returns-in-Failed : goal.returns-in-Failed
returns-in-Failed g c =
    over_stop (last_line c.args.end.stopped) (over_stop (tally_text (tally_in c.args.end)) (over_stop (losses_text c.args.arch.now c.args.machine.now.machine.lost) c.in-Failed.ensures))

pub returns-in-Done-put_losses : goal.returns-in-Done-put_losses
returns-in-Done-put_losses g c =
    over_same (sym (append_assoc _ (tally_text (tally_in c.args.end)) (last_line c.args.end.stopped)))
    (over_then c.put_last.result (over_then put.Done c.in-Done.ensures c.in-Done-put_losses.ensures) c.put_last.ensures)

pub returns-in-Failed-put_losses : goal.returns-in-Failed-put_losses
returns-in-Failed-put_losses g c =
    over_stop (last_line c.args.end.stopped) (over_stop (tally_text (tally_in c.args.end)) (over_then put.Failed c.in-Done.ensures c.in-Failed-put_losses.ensures))
