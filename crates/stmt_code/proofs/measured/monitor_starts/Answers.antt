use Rattle.std.proofs.Common.{◌∙◌, ap, sym, subst, length}
use Rattle.tower_types.specs.View.{fields_of}
use Rattle.tower_syntax.specs.WellNumbered.{AreNumberedFields}
use Rattle.channel_graph.proofs.Looked.{states_read}
use Rattle.stmt_code.proofs.Begun.{monitors_begun, monitors_more}
use Rattle.stmt_code.proofs.measured.monitor_starts.Goals as goal

pub loop-m-init : goal.loop-m-init
loop-m-init c = monitors_begun c.args.arch.now c.new-all.result c.new-all.ensures

pub starts_of-requires : goal.starts_of-requires
starts_of-requires c =
    subst (λ fs. AreNumberedFields (length c.args.arch.now.records) (fields_of fs)) (sym c.as_slice.ensures) c.monitor-monitor.ensures.numbered

pub loop-m-preserved : goal.loop-m-preserved
loop-m-preserved c =
    let arch = c.args.arch.now in
    let states = states_read arch c.loop-m.m c.monitor-monitor.result.now c.monitor-monitor.ensures.value ∙ ap fields_of (sym c.as_slice.ensures) in
    monitors_more arch c.loop-m.m c.loop-m.all c.push.new.self c.in_ok-starts.starts (fields_of c.as_slice.result.now) c.loop-m.invariant c.in_ok-push.ensures.ok states c.in_ok-starts.ensures
