use Rattle.std.proofs.Common.{◌≡◌, ◌∙◌, ◌+◌, ◌<◌, ℕ, length, map, slice_get, take, Some, ap, sym, subst, arith}
use Rattle.tower_types.specs.View.{value_of}
use Rattle.tower_syntax.specs.Arch.{tick, signal}
use Rattle.tower_syntax.specs.Arrival.{ticks}
use Rattle.tower_syntax.specs.View.{entry_of, events_of}
use Rattle.tower_syntax.specs.declared.event.Entry.{Entry as EntryValue}
use Rattle.atomic_state.specs.StateView.{atomic_of}
use Rattle.atomic_state.proofs.Marked.{tick_done, signal_done, counted_on}
use Rattle.atomic_state.proofs.Pending.{slot}
use Rattle.atomic_state.proofs.marks.arrive_next.Goals as goal

pub returns-in_ok-arrive_tick-in-Tick-clause-ok : goal.returns-in_ok-arrive_tick-in-Tick-clause-ok
returns-in_ok-arrive_tick-in-Tick-clause-ok c = λ system kinds depths.
    let place = c.args.parts.now.place in
    let lt : place < length c.as_slice.result.now = subst (λ l. place < length l) (sym c.as_slice.ensures) c.requires.more in
    let at : slice_get (map entry_of c.args.events.now.entries) place ≡ Some tick =
    ap (λ l. slice_get (map entry_of l) place) (sym c.as_slice.ensures) ∙ slot entry_of c.as_slice.result.now place c.index-as_slice-parts.result lt c.index-as_slice-parts.is
    ∙ ap (λ (d : EntryValue). Some (entry_of d)) c.in-Tick.is in
    tick_done system (events_of c.args.events.now) (atomic_of c.args.parts.now) (atomic_of c.arrive_tick.new.parts) c.args.parts.now.ticks c.args.events.now.kinds at c.requires.counted kinds
    (c.in_ok-arrive_tick-in-Tick.ensures.ok system depths)

pub returns-in_ok-arrive_tick-in-Tick-clause-counted : goal.returns-in_ok-arrive_tick-in-Tick-clause-counted
returns-in_ok-arrive_tick-in-Tick-clause-counted c =
    let place = c.args.parts.now.place in
    let es = map entry_of c.args.events.now.entries in
    let lt : place < length c.as_slice.result.now = subst (λ l. place < length l) (sym c.as_slice.ensures) c.requires.more in
    let at : slice_get es place ≡ Some tick =
    ap (λ l. slice_get (map entry_of l) place) (sym c.as_slice.ensures) ∙ slot entry_of c.as_slice.result.now place c.index-as_slice-parts.result lt c.index-as_slice-parts.is
    ∙ ap (λ (d : EntryValue). Some (entry_of d)) c.in-Tick.is in
    c.in_ok-arrive_tick-in-Tick.ensures.ticks ∙ ap (λ n. n + 1) c.requires.counted ∙ sym (counted_on es place tick at) ∙ ap (λ k. ticks (take k es)) (sym c.in_ok-arrive_tick-in-Tick.ensures.place)

pub returns-in_ok-arrive_signal-in-Signal-clause-ok : goal.returns-in_ok-arrive_signal-in-Signal-clause-ok
returns-in_ok-arrive_signal-in-Signal-clause-ok c = λ system kinds depths.
    let place = c.args.parts.now.place in
    let v = value_of c.in-Signal.value in
    let lt : place < length c.as_slice.result.now = subst (λ l. place < length l) (sym c.as_slice.ensures) c.requires.more in
    let at : slice_get (map entry_of c.args.events.now.entries) place ≡ Some (signal c.in-Signal.x v) =
    ap (λ l. slice_get (map entry_of l) place) (sym c.as_slice.ensures) ∙ slot entry_of c.as_slice.result.now place c.index-as_slice-parts.result lt c.index-as_slice-parts.is
    ∙ ap (λ (d : EntryValue). Some (entry_of d)) c.in-Signal.is in
    signal_done system (events_of c.args.events.now) (atomic_of c.args.parts.now) (atomic_of c.arrive_signal.new.parts) c.in-Signal.x v at (c.in_ok-arrive_signal-in-Signal.ensures.ok system depths)

pub returns-in_ok-arrive_signal-in-Signal-clause-counted : goal.returns-in_ok-arrive_signal-in-Signal-clause-counted
returns-in_ok-arrive_signal-in-Signal-clause-counted c =
    let place = c.args.parts.now.place in
    let es = map entry_of c.args.events.now.entries in
    let v = value_of c.in-Signal.value in
    let lt : place < length c.as_slice.result.now = subst (λ l. place < length l) (sym c.as_slice.ensures) c.requires.more in
    let at : slice_get es place ≡ Some (signal c.in-Signal.x v) =
    ap (λ l. slice_get (map entry_of l) place) (sym c.as_slice.ensures) ∙ slot entry_of c.as_slice.result.now place c.index-as_slice-parts.result lt c.index-as_slice-parts.is
    ∙ ap (λ (d : EntryValue). Some (entry_of d)) c.in-Signal.is in
    let more : ticks (take place es) ≡ ticks (take place es) + 0 = omega arith in
    c.in_ok-arrive_signal-in-Signal.ensures.ticks ∙ c.requires.counted ∙ more ∙ sym (counted_on es place (signal c.in-Signal.x v) at) ∙ ap (λ k. ticks (take k es)) (sym c.in_ok-arrive_signal-in-Signal.ensures.place)
