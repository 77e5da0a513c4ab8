use Rattle.channel_graph.proofs.ReachedList.{found_is, found_reaches}
use Rattle.channel_graph.proofs.reach.reached.Goals as goal

pub returns-clause-list : goal.returns-clause-list
returns-clause-list c =
    found_is c.args.arch.now c.args.source c.in_ok-marks.marks c.as_slice-2.result.now c.in_ok-found.found.items c.in_ok-heard.ensures.numbered.listeners c.in_ok-marks.ensures c.as_slice-2.ensures c.in_ok-found.ensures

pub returns-clause-links : goal.returns-clause-links
returns-clause-links c =
    let list = found_is c.args.arch.now c.args.source c.in_ok-marks.marks c.as_slice-2.result.now c.in_ok-found.found.items c.in_ok-heard.ensures.numbered.listeners c.in_ok-marks.ensures c.as_slice-2.ensures c.in_ok-found.ensures in
    found_reaches c.args.arch.now c.args.source c.in_ok-found.found.items c.in_ok-heard.ensures.numbered.listeners list
