use Rattle.std.proofs.Common.{ℕ, length}
use Rattle.std.specs.Prelude.{slice_index}
use Rattle.tower_report.specs.Bytes.{Bytes}
use Rattle.tower_report.specs.EndText.{core_line}
use Rattle.tower_run.proofs.Paging.{over_none, over_number, over_number_part}
use Rattle.tower_run.proofs.ending.put_cores.Goals as goal

pub loop-i-init : goal.loop-i-init
loop-i-init g c = over_none

pub returns-in-Failed : goal.returns-in-Failed
returns-in-Failed g c =
    let text : ℕ → Bytes = λ i. core_line i (slice_index c.args.counts.now i) in
    over_number_part text c.loop-i.i (length c.args.counts.now) c.loop-i-test.true c.loop-i.invariant c.in-Failed.ensures

pub loop-i-preserved : goal.loop-i-preserved
loop-i-preserved g c =
    let text : ℕ → Bytes = λ i. core_line i (slice_index c.args.counts.now i) in
    over_number text c.loop-i.i c.loop-i.invariant c.in-Done.ensures
