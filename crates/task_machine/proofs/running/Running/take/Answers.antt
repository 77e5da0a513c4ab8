use Rattle.std.proofs.Common.{◌≡◌, refl, slice_get, length, ◌<◌, ◌≤◌, ◌+◌, Some, ap}
use Rattle.task_machine.specs.Message.{said_words}
use Rattle.task_machine.specs.Queue.{Queue, waiting, lost}
use Rattle.task_machine.proofs.Stands.{get_exists}
use Rattle.task_machine.specs.Action.{with_message}
use Rattle.task_machine.proofs.Kept.{kept_take, length_laid, read_is, get_read, message_fits, oldest_is, waiting_taken, lost_taken}
use Rattle.task_machine.proofs.running.Running.take.Goals as goal

pub invariant_of-self : goal.invariant_of-self
invariant_of-self c =
    let part = c.index_mut-in-Some.result.now in
    let q = c.index_mut.result.now in
    let r : c.args.x < length c.self.inside.program.tasks = rw (← c.self.view_is) at c.requires.task in
    let l : c.args.x < length c.self.inside.tasks.items = rw c.self.invariant.kept.owns_count r in
    let n : c.args.x < length c.self.inside.queues.items = rw c.self.invariant.kept.queues_count r in
    let g = get_read c.self.inside.tasks.items c.args.x part l c.index_mut-in-Some.ensures.value in
    let at = get_read c.self.inside.queues.items c.args.x q n c.index_mut.ensures.value in
    let t = get_exists c.self.inside.program.tasks c.args.x r in
    let within : c.args.at + t.0.message ≤ t.0.room = rw (← c.self.view_is) at c.requires.within t.0 t.1 in
    let fits : c.args.at + length (said_words c.in-Some.message) ≤ length part.words =
    message_fits c.self.invariant.kept c.args.x c.args.at t.0 part q (said_words c.in-Some.message) t.1 g at c.in-Some.ensures.first within in
    record { kept = rw c.give.ensures (kept_take c.self.invariant.kept c.args.x part (with_message c.args.at part (said_words c.in-Some.message)) q c.take.new.self g l at (length_laid c.args.at (said_words c.in-Some.message) part.words fits) refl (λ h. h) (ap waiting c.in-Some.ensures.rest) (ap lost c.in-Some.ensures.rest) (ap (λ (z : Queue). z.room) c.in-Some.ensures.rest) (ap (λ (z : Queue). z.numbered) c.in-Some.ensures.rest)); known = (r, tt) }

pub returns : goal.returns
returns c = λ own e.
    let part = c.index_mut-in-Some.result.now in
    let q = c.index_mut.result.now in
    let r : c.args.x < length c.self.inside.program.tasks = rw (← c.self.view_is) at c.requires.task in
    let l : c.args.x < length c.self.inside.tasks.items = rw c.self.invariant.kept.owns_count r in
    let n : c.args.x < length c.self.inside.queues.items = rw c.self.invariant.kept.queues_count r in
    let g : slice_get c.self.inside.tasks.items c.args.x ≡ Some own = rw (← c.self.view_is) at e in
    let o : part ≡ own = read_is c.self.inside.tasks.items c.args.x part own l c.index_mut-in-Some.ensures.value g in
    let at = get_read c.self.inside.queues.items c.args.x q n c.index_mut.ensures.value in
    let message = oldest_is c.self.inside.queues.items c.args.x q (said_words c.in-Some.message) at c.in-Some.ensures.first in
    let rest = waiting_taken c.self.inside.queues.items c.args.x q c.take.new.self at (ap waiting c.in-Some.ensures.rest) in
    let drops = lost_taken c.self.inside.queues.items c.args.x q c.take.new.self at (ap lost c.in-Some.ensures.rest) in
    rw (c.give.ensures, o, ← c.self.view_is, message, rest, drops) refl

pub give-requires : goal.give-requires
give-requires c =
    let part = c.index_mut-in-Some.result.now in
    let q = c.index_mut.result.now in
    let r : c.args.x < length c.self.inside.program.tasks = rw (← c.self.view_is) at c.requires.task in
    let l : c.args.x < length c.self.inside.tasks.items = rw c.self.invariant.kept.owns_count r in
    let n : c.args.x < length c.self.inside.queues.items = rw c.self.invariant.kept.queues_count r in
    let g = get_read c.self.inside.tasks.items c.args.x part l c.index_mut-in-Some.ensures.value in
    let at = get_read c.self.inside.queues.items c.args.x q n c.index_mut.ensures.value in
    let t = get_exists c.self.inside.program.tasks c.args.x r in
    let within : c.args.at + t.0.message ≤ t.0.room = rw (← c.self.view_is) at c.requires.within t.0 t.1 in
    let fits : c.args.at + length (said_words c.in-Some.message) ≤ length part.words =
    message_fits c.self.invariant.kept c.args.x c.args.at t.0 part q (said_words c.in-Some.message) t.1 g at c.in-Some.ensures.first within in
    let place = rw (← c.self.view_is) at c.requires.place in
    record { within = fits; place = place part g }
