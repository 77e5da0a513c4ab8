use Rattle.std.proofs.Common.{◌≡◌, ◌∙◌, ◌+◌, List, ℕ, fold, ap, sym, rules}
use Rattle.tower_syntax.specs.declared.arch.SourceKind.{SourceKind}
use Rattle.tower_syntax.specs.Arrival.{brought_by_tick}
use Rattle.tower_meaning.specs.Atomic.{Atomic, bring}
use Rattle.atomic_state.specs.StateView.{atomic_of, moved_on}
use Rattle.atomic_state.proofs.Marked.{same_queues}
use Rattle.atomic_state.proofs.marks.arrive_tick.Goals as goal

pub returns-clause-ok : goal.returns-clause-ok
returns-clause-ok c = λ system same.
    let s = moved_on (atomic_of c.args.parts.now) in
    let t : c.in_ok-ticks.ticks ≡ c.args.parts.now.ticks + 1 = search rules in
    c.bring_tick.ensures system s (same ∙ sym c.as_slice-2.ensures)
    ∙ ap (λ (w : Atomic). fold (bring system) w (brought_by_tick c.in_ok-ticks.ticks 0 c.as_slice.result.now)) (same_queues s c.args.parts.now.queues.items c.make_room.new.queues.items c.make_room.ensures.waiting c.make_room.ensures.lost)
    ∙ ap (λ (k : ℕ). fold (bring system) s (brought_by_tick k 0 c.as_slice.result.now)) t
    ∙ ap (λ (ks : List SourceKind). fold (bring system) s (brought_by_tick (c.args.parts.now.ticks + 1) 0 ks)) c.as_slice.ensures
