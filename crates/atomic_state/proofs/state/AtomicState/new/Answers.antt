use Rattle.std.proofs.Common.{◌≡◌, ◌∙◌, ap, sym, subst, map, take}
use Rattle.tower_syntax.specs.Arrival.{ticks}
use Rattle.tower_syntax.specs.View.{events_of, entry_of}
use Rattle.tower_meaning.specs.Atomic.{Atomic}
use Rattle.atomic_state.specs.Fitting.{FitsState}
use Rattle.atomic_state.proofs.StateFits.{start_fits}
use Rattle.atomic_state.proofs.Started.{none_yet}
use Rattle.atomic_state.proofs.state.AtomicState.new.Goals as goal

pub returns-clause-made : goal.returns-clause-made
returns-clause-made c =
    let arch = c.args.arch.now in
    let es = map entry_of c.args.events.now.entries in
    let numbered = c.in_ok-parts.ensures.numbered in
    record {
      numbered = numbered;
      typed = c.requires.typed;
      fit = c.requires.fit;
      state_fits = subst (FitsState arch) (sym c.in_ok-parts.ensures.state) (start_fits arch numbered c.requires.typed (events_of c.args.events.now) c.requires.fit);
      counted = c.in_ok-parts.ensures.ticks ∙ none_yet es ∙ sym (ap (λ (s : Atomic). ticks (take s.place es)) c.in_ok-parts.ensures.state);
    }
