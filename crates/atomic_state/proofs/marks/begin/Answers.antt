use Rattle.std.proofs.Common.{◌≡◌, ◌∙◌, ◌<◌, ◌||◌, true, length, map, slice_get, slice_index_or, ap, sym, refl}
use Rattle.tower_syntax.specs.declared.arch.SourceKind.TheVariants as kind
use Rattle.tower_syntax.specs.Arrival.{is_init}
use Rattle.tower_meaning.specs.Atomic.{are_inits_done, may_start}
use Rattle.tower_meaning.specs.System.{system_of}
use Rattle.atomic_state.specs.Queues.{waiting_of}
use Rattle.atomic_state.specs.StateView.{atomic_of}
use Rattle.atomic_state.proofs.Lists.{any_default}
use Rattle.atomic_state.proofs.Marked.{begun}
use Rattle.atomic_state.proofs.Pending.{takes_within}
use Rattle.atomic_state.proofs.marks.begin.Goals as goal

pub returns-in-Ok-clause-steps : goal.returns-in-Ok-clause-steps
returns-in-Ok-clause-steps c =
    let s = atomic_of c.args.parts.now in
    let qs = c.args.parts.now.queues.items in
    let x = c.args.x in
    let lt : x < length qs = takes_within (slice_get s.pending x) qs x (sym c.if-not-can_take.ensures) in
    let may : may_start (system_of c.args.arch.now) s x ≡ true =
    ap (λ ks. is_init (slice_index_or ks x kind.Signal) || are_inits_done ks s.queues s.pending) (c.requires ∙ sym c.as_slice.ensures) ∙ sym c.if-not-may_start.ensures in
    let same : c.index.result.now ≡ c.index_mut.result.now = c.index.ensures ∙ any_default qs x c.index.result.now c.index_mut.result.now lt ∙ sym c.index_mut.ensures.value in
    begun (system_of c.args.arch.now) s c.args.parts.now.pending.items qs x c.index_mut.result.now c.take.new.self c.in-Ok.items refl refl refl lt c.index_mut.ensures.value
    (sym c.if-not-can_take.ensures) may c.take.ensures.waiting c.take.ensures.lost (λ v rest e. c.in-Ok.ensures v rest (ap waiting_of same ∙ e))
