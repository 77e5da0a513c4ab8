use Rattle.std.proofs.Common.{◌≡◌, ℕ, ◌+◌, ◌<◌, ◌/◌, List, Bool, false, true, length, Some, None, slice_get, slice_set, arith, sym, ap, ◌∙◌, subst}
use Rattle.std.proofs.Math.ListN.{length-set}
use Rattle.task_machine.proofs.Kept.{get_read, read_is, get_set_same}
use Rattle.task_machine.proofs.Settling.{marked_within, released}
use Rattle.task_machine.proofs.noted.Noted.release_at.Goals as goal

pub mark-requires : goal.mark-requires
mark-requires c =
    let rows = c.self.inside.at_lock.items in
    let m = c.args.m in
    let row = c.index_mut.result.now in
    let later = c.remove.new.self in
    let left = rw (← c.self.view_is) at c.requires.left in
    let within : m < length rows = let e = left.places.rows in omega (arith, e, c.requires.monitor) in
    let at : slice_get rows m ≡ Some row = get_read rows m row within c.index_mut.ensures.value in
    let still : m < length (slice_set rows m later) = let e = length-set rows m later in omega (arith, e, within) in
    let last : c.words.result.now ≡ later = c.words.ensures ∙ read_is (slice_set rows m later) m c.index.result.now later still c.index.ensures (get_set_same rows m later within) in
    rw last (marked_within c.args.running.now c.args.x m _ left row later at c.remove.ensures.here c.remove.ensures.others c.remove.ensures.count)

pub returns : goal.returns
returns c =
    let rows = c.self.inside.at_lock.items in
    let m = c.args.m in
    let row = c.index_mut.result.now in
    let later = c.remove.new.self in
    let left = rw (← c.self.view_is) at c.requires.left in
    let within : m < length rows = let e = left.places.rows in omega (arith, e, c.requires.monitor) in
    let at : slice_get rows m ≡ Some row = get_read rows m row within c.index_mut.ensures.value in
    let still : m < length (slice_set rows m later) = let e = length-set rows m later in omega (arith, e, within) in
    let last : c.words.result.now ≡ later = c.words.ensures ∙ read_is (slice_set rows m later) m c.index.result.now later still c.index.ensures (get_set_same rows m later within) in
    let marked = rw last at c.mark.ensures.marked in
    let others = rw last at c.mark.ensures.others in
    released c.args.running.now c.args.x m _ left row later at c.remove.ensures.here c.remove.ensures.others c.remove.ensures.count
    c.mark.new.ready.items c.is_free-free.result c.is_free-free.ensures marked others c.mark.ensures.count
