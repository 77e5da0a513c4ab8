use Rattle.arch_checks.proofs.Limited.{what_at, order_at, within_more}
use Rattle.arch_checks.proofs.sizes.check_sizes.Goals as goal

pub loop-what-preserved : goal.loop-what-preserved
loop-what-preserved c =
    let i = c.loop-what.what-index in
    let k = c.in_ok-count.ensures c.requires in
    within_more c.args.arch.now i (what_at i) k.0 c.in_ok-count.count c.limit-limit.result (order_at i c.loop-what-test.true) c.loop-what.invariant k.1 k.2 c.limit-limit.ensures c.if-count-limit.false
