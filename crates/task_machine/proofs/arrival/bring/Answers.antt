use Rattle.std.proofs.Common.{◌≡◌, ◌+◌, ℕ, ℤ, Bool, true, false, cond, suc, List, [], ◌∷◌, ◌++◌, length, Option, refl, ap, sym, ◌∙◌, add-one}
use Rattle.tower_syntax.specs.Arrival.{is_full}
use Rattle.task_machine.specs.Message.{said_words}
use Rattle.task_machine.specs.Queue.{Queue, waiting, lost, with_more}
use Rattle.task_machine.specs.Brought.{depth_at, Brought}
use Rattle.task_machine.proofs.Kept.{get_read, read_is, get_set_same, get_set_other}
use Rattle.task_machine.proofs.Brought.{bring_is}
use Rattle.task_machine.proofs.arrival.bring.Goals as goal

-- what comes of a message that is brought
by_full : (b : Bool) (depth : Option ℕ) (message : List ℤ) (q r : Queue) → is_full depth (length (waiting q)) ≡ b
    → r ≡ cond b (record q { dropped = q.dropped + 1 }) (with_more q message) → Brought depth message q r
by_full true depth message q r f e = rw e (record { waits = rw f refl; drops = rw (f, add-one) refl; room = refl; kind = refl })
by_full false depth message q r f e = rw e (record { waits = rw f refl; drops = rw f refl; room = refl; kind = refl })

brings : (depth : Option ℕ) (message : List ℤ) (q r : Queue)
    → r ≡ cond (is_full depth (length (waiting q))) (record q { dropped = q.dropped + 1 }) (with_more q message) → Brought depth message q r
brings depth message q r e = by_full (is_full depth (length (waiting q))) depth message q r refl e

pub bring-requires-clause-kind : goal.bring-requires-clause-kind
bring-requires-clause-kind c =
    let q = c.index_mut.result.now in
    let can = c.requires.room q (get_read c.args.queues.now.items c.args.x q c.requires.source c.index_mut.ensures.value) in
    can.kind

pub bring-requires-clause-room : goal.bring-requires-clause-room
bring-requires-clause-room c =
    let q = c.index_mut.result.now in
    let can = c.requires.room q (get_read c.args.queues.now.items c.args.x q c.requires.source c.index_mut.ensures.value) in
    rw c.depth_of-depth.ensures can.room

pub bring-requires-clause-few : goal.bring-requires-clause-few
bring-requires-clause-few c =
    let q = c.index_mut.result.now in
    let can = c.requires.room q (get_read c.args.queues.now.items c.args.x q c.requires.source c.index_mut.ensures.value) in
    can.count

pub returns-clause-machine : goal.returns-clause-machine
returns-clause-machine c = λ m.
    let q = c.index_mut.result.now in
    let at = get_read c.args.queues.now.items c.args.x q c.requires.source c.index_mut.ensures.value in
    let is : Brought (depth_at c.args.depths.now c.args.x) (said_words c.args.message) q c.bring.new.self = rw (← c.depth_of-depth.ensures) (brings _ _ q c.bring.new.self c.bring.ensures) in
    bring_is m c.args.queues.now.items c.args.x q c.bring.new.self (said_words c.args.message) at c.args.depths.now is

pub returns-clause-brought : goal.returns-clause-brought
returns-clause-brought c = λ q r e f.
    let old = c.index_mut.result.now in
    let o : old ≡ q = read_is c.args.queues.now.items c.args.x old q c.requires.source c.index_mut.ensures.value e in
    let n : c.bring.new.self ≡ r = let g = sym (get_set_same c.args.queues.now.items c.args.x c.bring.new.self c.requires.source) ∙ f in cc in
    let is : Brought (depth_at c.args.depths.now c.args.x) (said_words c.args.message) old c.bring.new.self = rw (← c.depth_of-depth.ensures) (brings _ _ old c.bring.new.self c.bring.ensures) in
    rw (o, n) at is

pub returns-clause-others : goal.returns-clause-others
returns-clause-others c = λ y other. get_set_other c.args.queues.now.items c.args.x y c.bring.new.self other
