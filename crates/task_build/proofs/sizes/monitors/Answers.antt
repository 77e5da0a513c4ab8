use Rattle.std.proofs.Common.{◌<◌, [], length, ap, arith}
use Rattle.std.proofs.lemmas.List.{length-map}
use Rattle.tower_syntax.specs.View.{monitor_of}
use Rattle.tower_syntax.specs.Weights.{monitor_words}
use Rattle.task_build.proofs.Pushed.{mapped_more, got}
use Rattle.task_build.proofs.sizes.monitors.Goals as goal

pub loop-m-preserved : goal.loop-m-preserved
loop-m-preserved c =
    let arch = c.args.arch.now in
    let m = c.loop-m.m in
    let x = monitor_of c.monitor.result.now in
    let within : m < length arch.monitors = omega (arith, c.loop-m-test.true, ap length c.monitors-m-end.ensures.value, length-map c.monitors-m-end.result.now monitor_of) in
    mapped_more (monitor_words arch) arch.monitors m x [] c.loop-m.counts c.push.new.self c.in_ok-count.count within (got arch.monitors m x c.monitor.ensures.value) c.loop-m.invariant c.in_ok-push.ensures.ok c.in_ok-count.ensures
