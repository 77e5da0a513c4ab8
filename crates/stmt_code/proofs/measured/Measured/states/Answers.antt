use Rattle.std.proofs.Common.{length, subst}
use Rattle.tower_syntax.specs.Arch.{Arch}
use Rattle.stmt_code.specs.Measured.{AreMonitorStarts}
use Rattle.stmt_code.proofs.Begun.{states_start}
use Rattle.stmt_code.proofs.measured.Measured.states.Goals as goal

pub returns : goal.returns
returns c =
    let all = c.self.inside.table.now.monitors in
    let table = subst (λ (a : Arch). AreMonitorStarts a (length a.monitors) all) c.self.view_is c.self.invariant.monitors_begin in
    states_start c.args.self.now all c.as_slice.result.now c.args.m c.index-as_slice-m.result table c.as_slice.ensures c.requires c.index-as_slice-m.is
