use Rattle.std.proofs.Common.{◌≡◌, ◌∙◌, ap, sym, subst, map, take}
use Rattle.tower_syntax.specs.declared.event.Mark.{Mark}
use Rattle.tower_syntax.specs.declared.event.Mark.TheVariants as mark
use Rattle.tower_syntax.specs.Arrival.{ticks}
use Rattle.tower_syntax.specs.View.{events_of, entry_of}
use Rattle.tower_meaning.specs.Atomic.{act}
use Rattle.tower_meaning.specs.System.{system_of}
use Rattle.atomic_state.specs.Kept.{Kept}
use Rattle.atomic_state.specs.StateView.{atomic_of, kept_of}
use Rattle.atomic_state.specs.Step.{Steps}
use Rattle.atomic_state.proofs.Started.{step_made}
use Rattle.atomic_state.proofs.state.AtomicState.step.Goals as goal

pub returns-in-Arrive-clause-step : goal.returns-in-Arrive-clause-step
returns-in-Arrive-clause-step c =
    let arch = c.args.arch.now in
    let events = events_of c.args.events.now in
    let r = c.arrive.result in
    let new = c.arrive.new.parts in
    let at_arrive = subst (λ (k : Kept). Steps k.state (act (system_of arch) events k.state mark.Arrive) r (atomic_of new)) c.self.view_is
    (c.arrive.ensures.steps (system_of arch) (sym c.requires.fit.kinds) (sym c.requires.fit.depths)) in
    subst (λ (m : Mark). Steps c.args.self.now.state (act (system_of arch) events c.args.self.now.state m) r (atomic_of new)) (sym c.in-Arrive.is) at_arrive

pub returns-in-Arrive-clause-made : goal.returns-in-Arrive-clause-made
returns-in-Arrive-clause-made c =
    let arch = c.args.arch.now in
    let events = events_of c.args.events.now in
    let r = c.arrive.result in
    let new = c.arrive.new.parts in
    let at_arrive = subst (λ (k : Kept). Steps k.state (act (system_of arch) events k.state mark.Arrive) r (atomic_of new)) c.self.view_is
    (c.arrive.ensures.steps (system_of arch) (sym c.requires.fit.kinds) (sym c.requires.fit.depths)) in
    step_made arch events c.args.self.now (kept_of new) mark.Arrive r c.requires at_arrive c.arrive.ensures.counted

pub returns-in-Start-clause-made : goal.returns-in-Start-clause-made
returns-in-Start-clause-made c =
    let arch = c.args.arch.now in
    let events = events_of c.args.events.now in
    let es = map entry_of c.args.events.now.entries in
    let r = c.begin.result in
    let new = c.begin.new.parts in
    let m : Mark = mark.Start c.in-Start.x in
    let steps = subst (λ (k : Kept). Steps k.state (act (system_of arch) events k.state m) r (atomic_of new)) c.self.view_is c.begin.ensures.steps in
    let counted = subst (λ (k : Kept). k.ticks ≡ ticks (take k.state.place es)) (sym c.self.view_is) c.requires.counted in
    step_made arch events c.args.self.now (kept_of new) m r c.requires steps (c.begin.ensures.ticks ∙ counted ∙ ap (λ n. ticks (take n es)) (sym c.begin.ensures.place))

pub returns-in-Run-clause-made : goal.returns-in-Run-clause-made
returns-in-Run-clause-made c =
    let arch = c.args.arch.now in
    let events = events_of c.args.events.now in
    let es = map entry_of c.args.events.now.entries in
    let r = c.run.result in
    let new = c.run.new.parts in
    let m : Mark = mark.Run c.in-Run.x in
    let steps = subst (λ (k : Kept). Steps k.state (act (system_of arch) events k.state m) r (atomic_of new)) c.self.view_is c.run.ensures.steps in
    let counted = subst (λ (k : Kept). k.ticks ≡ ticks (take k.state.place es)) (sym c.self.view_is) c.requires.counted in
    step_made arch events c.args.self.now (kept_of new) m r c.requires steps (c.run.ensures.ticks ∙ counted ∙ ap (λ n. ticks (take n es)) (sym c.run.ensures.place))

pub returns-in-Out-clause-made : goal.returns-in-Out-clause-made
returns-in-Out-clause-made c =
    let arch = c.args.arch.now in
    let events = events_of c.args.events.now in
    let es = map entry_of c.args.events.now.entries in
    let r = c.put.result in
    let new = c.put.new.parts in
    let m : Mark = mark.Out c.in-Out.x in
    let steps = subst (λ (k : Kept). Steps k.state (act (system_of arch) events k.state m) r (atomic_of new)) c.self.view_is c.put.ensures.steps in
    let counted = subst (λ (k : Kept). k.ticks ≡ ticks (take k.state.place es)) (sym c.self.view_is) c.requires.counted in
    step_made arch events c.args.self.now (kept_of new) m r c.requires steps (c.put.ensures.ticks ∙ counted ∙ ap (λ n. ticks (take n es)) (sym c.put.ensures.place))
