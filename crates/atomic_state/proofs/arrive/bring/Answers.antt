use Rattle.atomic_state.proofs.Arrived.{comes}
use Rattle.tower_types.specs.View.{value_of}
use Rattle.atomic_state.proofs.Lists.{get_set_other}
use Rattle.atomic_state.proofs.arrive.bring.Goals as goal

pub returns-clause-state : goal.returns-clause-state
returns-clause-state c = λ system s same.
    let waits = rw c.depth_of-depth.ensures at c.bring.ensures.waiting in
    let drops = rw c.depth_of-depth.ensures at c.bring.ensures.lost in
    comes system s c.args.depths.now c.args.queues.now.items c.args.x c.index_mut.result.now c.bring.new.self (value_of c.args.message) same c.requires.source c.index_mut.ensures.value waits drops

pub returns-clause-others : goal.returns-clause-others
returns-clause-others c = λ y ne. get_set_other c.args.queues.now.items c.args.x y c.bring.new.self ne
