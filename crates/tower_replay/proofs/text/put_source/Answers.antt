use Rattle.std.proofs.Common.{◌∙◌, ap, arith}
use Rattle.arch_checks.specs.Offences.{source_name}
use Rattle.tower_report.specs.ReplayText.{waiting_line, pending_line}
use Rattle.tower_run.proofs.Paging.{over_then, over_stop, over_same}
use Rattle.tower_replay.proofs.text.put_source.Goals as goal

pub waiting-requires : goal.waiting-requires
waiting-requires g c = omega (arith, c.requires.exists, c.requires.fits.queue_count)

pub pending-requires : goal.pending-requires
pending-requires g c = omega (arith, c.requires.exists, c.requires.fits.pending_count)

pub returns-in-Done : goal.returns-in-Done
returns-in-Done g c =
    let name = source_name c.args.arch.now c.args.x in
    over_then c.put_paged-in-Done.result (over_same (ap (waiting_line name) c.waiting.ensures) c.in-Done.ensures) (over_same (ap (pending_line name) c.pending.ensures) c.put_paged-in-Done.ensures)

pub returns-in-Failed : goal.returns-in-Failed
returns-in-Failed g c =
    let name = source_name c.args.arch.now c.args.x in
    over_stop (pending_line name _) (over_same (ap (waiting_line name) c.waiting.ensures) c.in-Failed.ensures)
