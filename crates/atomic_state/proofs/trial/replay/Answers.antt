use Rattle.std.proofs.Common.{◌≡◌, ◌∙◌, ◌+◌, ap, sym, refl, length, Some, arith}
use Rattle.tower_syntax.specs.declared.event.Mark.TheVariants as mark
use Rattle.tower_syntax.specs.View.{events_of}
use Rattle.tower_meaning.specs.Atomic.{Atomic}
use Rattle.tower_meaning.specs.Replayed.{Replayed}
use Rattle.tower_meaning.specs.System.{system_of}
use Rattle.atomic_state.proofs.Tried.{none_tried, one_fits, one_misfits, all_fit}
use Rattle.atomic_state.proofs.trial.replay.Goals as goal

pub loop-k-init : goal.loop-k-init
loop-k-init c = record {
  made = c.in_ok-state.ensures.made;
  tried = none_tried (system_of c.args.arch.now) (events_of c.args.events.now) c.args.marks.now c.in_ok-state.state.state c.in_ok-state.ensures.start;
}

pub loop-k-preserved : goal.loop-k-preserved
loop-k-preserved c = record {
  made = c.step.ensures.made;
  tried = one_fits (system_of c.args.arch.now) (events_of c.args.events.now) c.args.marks.now c.loop-k.k c.loop-k.state.state c.step.new.self.state _ mark.Arrive c.loop-k-test.true refl c.in-Done.ensures.step c.loop-k.invariant.tried;
}

pub returns-clause-replayed : goal.returns-clause-replayed
returns-clause-replayed c =
    let end : c.loop-k.k ≡ length c.args.marks.now = omega arith in
    all_fit (system_of c.args.arch.now) (events_of c.args.events.now) c.args.marks.now c.loop-k.k c.loop-k.state.state end c.loop-k.invariant.tried

pub returns-in-Misfit-clause-replayed : goal.returns-in-Misfit-clause-replayed
returns-in-Misfit-clause-replayed c =
    one_misfits (system_of c.args.arch.now) (events_of c.args.events.now) c.args.marks.now c.loop-k.k c.loop-k.state.state _ mark.Arrive c.loop-k-test.true refl c.in-Misfit.ensures.step.0 c.loop-k.invariant.tried
    ∙ ap (λ (s : Atomic). record { state = s; misfit = Some (c.loop-k.k + 1) }) (sym c.in-Misfit.ensures.step.1)
