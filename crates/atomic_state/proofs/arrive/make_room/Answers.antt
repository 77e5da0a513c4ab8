use Rattle.std.proofs.Common.{◌<◌, ◌∙◌, length, arith, length-set}
use Rattle.std.proofs.lemmas.Option.{slice_get_within}
use Rattle.atomic_state.proofs.Arrived.{same_set, same_lost, one_more_room}
use Rattle.atomic_state.proofs.arrive.make_room.Goals as goal

pub returns-in_err-make_room-clause-waiting : goal.returns-in_err-make_room-clause-waiting
returns-in_err-make_room-clause-waiting c =
    same_set c.loop-x.queues.items c.loop-x.x c.index_mut.result.now c.make_room.new.self (omega (arith, c.loop-x.invariant.count)) c.index_mut.ensures.value c.make_room.ensures.waiting ∙ c.loop-x.invariant.waiting

pub returns-in_err-make_room-clause-lost : goal.returns-in_err-make_room-clause-lost
returns-in_err-make_room-clause-lost c =
    same_lost c.loop-x.queues.items c.loop-x.x c.index_mut.result.now c.make_room.new.self (omega (arith, c.loop-x.invariant.count)) c.index_mut.ensures.value c.make_room.ensures.lost ∙ c.loop-x.invariant.lost

pub loop-x-preserved : goal.loop-x-preserved
loop-x-preserved c =
    let lt : c.loop-x.x < length c.loop-x.queues.items = omega (arith, c.loop-x.invariant.count) in
    record {
      waiting = same_set c.loop-x.queues.items c.loop-x.x c.index_mut.result.now c.make_room.new.self lt c.index_mut.ensures.value c.make_room.ensures.waiting ∙ c.loop-x.invariant.waiting;
      lost = same_lost c.loop-x.queues.items c.loop-x.x c.index_mut.result.now c.make_room.new.self lt c.index_mut.ensures.value c.make_room.ensures.lost ∙ c.loop-x.invariant.lost;
      count = length-set c.loop-x.queues.items c.loop-x.x c.make_room.new.self ∙ c.loop-x.invariant.count;
      room = one_more_room c.loop-x.queues.items c.loop-x.x c.make_room.new.self lt c.in_ok-make_room.ensures.room c.loop-x.invariant.room;
    }

pub returns-clause-room : goal.returns-clause-room
returns-clause-room c = λ x q e. c.loop-x.invariant.room x q (omega (arith, slice_get_within c.loop-x.queues.items x q e, c.loop-x.invariant.count)) e
