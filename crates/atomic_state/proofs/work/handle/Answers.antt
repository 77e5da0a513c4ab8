use Rattle.std.proofs.Common.{◌≡◌, ◌∙◌, ◌<◌, ◌≤◌, ◌+◌, ◌++◌, [], length, map, replicate, slice_set, drop, vec_len, vec_capacity, ap, sym, subst, refl, arith}
use Rattle.std.proofs.lemmas.List.{length-map}
use Rattle.tower_types.specs.View.{value_of}
use Rattle.tower_syntax.specs.declared.arch.Listener.TheVariants as to
use Rattle.atomic_state.specs.Items.{effect_in, item_of}
use Rattle.atomic_state.specs.StateView.{atomic_of, pending_of}
use Rattle.atomic_state.specs.TreeView.{tree_of}
use Rattle.tower_meaning.specs.Atomic.{Atomic}
use Rattle.tower_meaning.specs.System.{Item}
use Rattle.tower_types.specs.Value.{Value}
use Rattle.std.specs.Prelude.{List}
use Rattle.atomic_state.proofs.Lists.{map_replicate, set_read}
use Rattle.atomic_state.proofs.Pending.{Pending, items_of, at_first, first_within, not_empty}
use Rattle.atomic_state.proofs.Working.{is_there, message, others, begins, can, leads, monitors_back, monitors_new, pending_back, pending_new}
use Rattle.atomic_state.proofs.work.handle.Goals as goal

pub handler-handler-requires : goal.handler-handler-requires
handler-handler-requires c =
    let i = at_first _ (to.Handler c.args.h) c.requires.first in
    is_there c.args.arch.now (atomic_of c.args.parts.now) c.requires.fits c.args.x c.args.h i.0 i.1 i.2

pub index_mut-requires-2 : goal.index_mut-requires-2
index_mut-requires-2 c = omega (arith, first_within c.args.parts.now.pending.items c.args.x (to.Handler c.args.h) c.requires.first)

pub carry_out-requires-clause-some : goal.carry_out-requires-clause-some
carry_out-requires-clause-some c = omega (arith, not_empty c.args.parts.now.pending.items c.args.x (to.Handler c.args.h) c.index_mut-2.result.now c.requires.first c.index_mut-2.ensures.value)

pub index_mut-requires-in-Ok-carry_out-2 : goal.index_mut-requires-in-Ok-carry_out-2
index_mut-requires-in-Ok-carry_out-2 c = omega (arith, first_within c.args.parts.now.pending.items c.args.x (to.Handler c.args.h) c.requires.first)

pub put_in_place-requires-clause-some : goal.put_in_place-requires-clause-some
put_in_place-requires-clause-some c =
    let ps = c.args.parts.now.pending.items in
    let within : c.args.x < length ps = first_within ps c.args.x (to.Handler c.args.h) c.requires.first in
    let same = set_read ps c.args.x c.carry_out.new.pending c.index_mut-in-Ok-carry_out-2.result.now within c.index_mut-in-Ok-carry_out-2.ensures.value in
    let some : 0 < length c.index_mut-2.result.now.items = not_empty ps c.args.x (to.Handler c.args.h) c.index_mut-2.result.now c.requires.first c.index_mut-2.ensures.value in
    subst (λ (p : Pending). 0 < vec_len p) (sym same) (omega (arith, some, ap length c.carry_out.ensures.pending))

pub put_in_place-requires-clause-room : goal.put_in_place-requires-clause-room
put_in_place-requires-clause-room c =
    let ps = c.args.parts.now.pending.items in
    let within : c.args.x < length ps = first_within ps c.args.x (to.Handler c.args.h) c.requires.first in
    let same = set_read ps c.args.x c.carry_out.new.pending c.index_mut-in-Ok-carry_out-2.result.now within c.index_mut-in-Ok-carry_out-2.ensures.value in
    subst (λ (p : Pending). vec_len p + vec_len c.in-Ok-carry_out.items ≤ vec_capacity p) (sym same) c.in-Ok-carry_out.ensures.room

pub returns-in-Ok-carry_out-clause-steps : goal.returns-in-Ok-carry_out-clause-steps
returns-in-Ok-carry_out-clause-steps c =
    let arch = c.args.arch.now in
    let typed = c.requires.typed in
    let fits = c.requires.fits in
    let s = atomic_of c.args.parts.now in
    let ps = c.args.parts.now.pending.items in
    let ms = c.args.parts.now.monitors.items in
    let x = c.args.x in
    let h = c.args.h in
    let r = c.handler-handler.result.now in
    let found = c.handler-handler.ensures.value in
    let numbered = c.handler-handler.ensures.numbered in
    let first = c.requires.first in
    let m = r.monitor in
    let t = c.index_mut.result.now in
    let frame = c.new_frame-frame.result in
    let e = effect_in c.carry_out.new.frame in
    let its = map item_of c.in-Ok-carry_out.items.items in
    let within : x < length ps = first_within ps x (to.Handler h) first in
    let exists : m < length ms = omega (arith, c.handler-handler.ensures.numbered.monitor, fits.monitor_count, length-map ms tree_of) in
    let same = set_read ps x c.carry_out.new.pending c.index_mut-in-Ok-carry_out-2.result.now within c.index_mut-in-Ok-carry_out-2.ensures.value in
    let is_a : frame.states.value ≡ tree_of t = c.new_frame-frame.ensures.value ∙ ap tree_of c.replace-value.ensures.value in
    let is_b : map (map value_of) frame.lists.items ≡ replicate (length r.emitters) [] =
    ap (λ l. map (map value_of) l) (ap (λ l. l.items) c.new_frame-frame.ensures.lists ∙ c.in-Ok.ensures) ∙ map_replicate (map value_of) c.len.result [] ∙ ap (λ k. replicate k []) c.len.ensures in
    let v = message arch typed s fits ps ms refl refl x h r found numbered first in
    let rest = others arch typed s fits ps ms refl refl x h r found numbered first in
    let front = begins arch typed s fits ps ms refl refl x h r found numbered first c.index_mut-2.result.now within c.index_mut-2.ensures.value in
    let ready = can arch typed s fits ps ms refl refl x h r found numbered first t frame.states.value (map (map value_of) frame.lists.items) exists c.index_mut.ensures.value is_a is_b in
    leads arch typed s fits ps ms refl refl x h r found numbered first t frame.states.value (map (map value_of) frame.lists.items) e _ _ its exists c.index_mut.ensures.value is_a is_b
    (c.in-Ok-carry_out.ensures.effect (to.Handler h, v) rest front ready) c.in-Ok-carry_out.ensures.follows
    (monitors_new ms m c.replace-value.new.dest c.finish.result e.states c.finish.ensures)
    (pending_new ps x c.carry_out.new.pending c.put_in_place.new.pending (its ++ rest)
    (c.put_in_place.ensures ∙ ap (λ (p : Pending). its ++ drop 1 (pending_of p.items)) same ∙ ap (λ l. its ++ drop 1 (pending_of l)) c.carry_out.ensures.pending ∙ ap (λ l. its ++ drop 1 l) front))

pub returns-in-Err-clause-steps : goal.returns-in-Err-clause-steps
returns-in-Err-clause-steps c =
    let s = atomic_of c.args.parts.now in
    let ps = c.args.parts.now.pending.items in
    let ms = c.args.parts.now.monitors.items in
    let x = c.args.x in
    let m = c.handler-handler.result.now.monitor in
    let within : x < length ps = first_within ps x (to.Handler c.args.h) c.requires.first in
    let exists : m < length ms = omega (arith, c.handler-handler.ensures.numbered.monitor, c.requires.fits.monitor_count, length-map ms tree_of) in
    let back : tree_of c.undo.result ≡ tree_of c.index_mut.result.now =
    c.undo.ensures ∙ c.carry_out.ensures.before ∙ c.new_frame-frame.ensures.before ∙ ap tree_of c.replace-value.ensures.value in
    let made : List Value → List (List Item) → Atomic = λ a b. record s { monitors = a; pending = b } in
    ap (λ a. made a (map items_of (slice_set ps x c.carry_out.new.pending))) (monitors_back ms m c.replace-value.new.dest c.undo.result c.index_mut.result.now exists c.index_mut.ensures.value back)
    ∙ ap (made s.monitors) (pending_back ps x c.index_mut-2.result.now c.carry_out.new.pending within c.index_mut-2.ensures.value c.carry_out.ensures.pending)
