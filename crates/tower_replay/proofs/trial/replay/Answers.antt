use Rattle.std.proofs.Common.{◌≡◌, sym, subst}
use Rattle.tower_syntax.specs.Arch.{Arch}
use Rattle.tower_syntax.specs.Typed.{IsTyped}
use Rattle.tower_syntax.specs.View.{events_of}
use Rattle.arch_checks.specs.Laws.{IsSafe}
use Rattle.tower_meaning.specs.Atomic.{Fit}
use Rattle.tower_meaning.specs.Replayed.{first_misfit}
use Rattle.tower_meaning.specs.System.{system_of}
use Rattle.tower_report.specs.ReplayText.{replay_text}
use Rattle.tower_run.proofs.Accepted.{accepted_is_safe}
use Rattle.tower_replay.specs.Trial.{PutsTried}
use Rattle.tower_replay.proofs.Ended.{as_replayed}
use Rattle.tower_replay.proofs.trial.replay.Goals as goal

pub try_marks-requires-clause-typed : goal.try_marks-requires-clause-typed
try_marks-requires-clause-typed g c =
    let a = c.arch-system.ensures.accepted in
    subst IsTyped (sym c.arch-system.ensures.value) (accepted_is_safe a.0 c.args.arch.now a.1).typed

pub try_marks-requires-clause-fit : goal.try_marks-requires-clause-fit
try_marks-requires-clause-fit g c =
    let F : Arch → Type 0 = λ x. Fit x (events_of c.args.events.now) in
    subst F (sym c.arch-system.ensures.value) c.requires

pub put_tried-requires-clause-safe : goal.put_tried-requires-clause-safe
put_tried-requires-clause-safe g c =
    let a = c.arch-system.ensures.accepted in
    subst IsSafe (sym c.arch-system.ensures.value) (accepted_is_safe a.0 c.args.arch.now a.1)

pub put_tried-requires-clause-fits : goal.put_tried-requires-clause-fits
put_tried-requires-clause-fits g c = c.in-Ok.ensures.made.state_fits

pub put_tried-requires-clause-values : goal.put_tried-requires-clause-values
put_tried-requires-clause-values g c = c.in-Ok.ensures.monitors

pub put_tried-requires-clause-empty : goal.put_tried-requires-clause-empty
put_tried-requires-clause-empty g c = c.in-Ok.ensures.held

pub returns-clause-ends : goal.returns-clause-ends
returns-clause-ends g c =
    let w = g.O.Sink.written in
    let f = g.O.Sink.faults in
    let events = events_of c.args.events.now in
    let marks = c.args.marks.now in
    let P : Arch → Type 0 = λ a. PutsTried w f c.args.out.now c.put_tried.new.out (replay_text a events marks) (first_misfit (system_of a) events marks) c.put_tried.result in
    (subst P c.arch-system.ensures.value (as_replayed w f c.args.out.now c.put_tried.new.out c.arch-system.result.now events marks c.in-Ok.tried c.put_tried.result c.in-Ok.ensures c.put_tried.ensures)).ends

pub returns-clause-never_falls : goal.returns-clause-never_falls
returns-clause-never_falls g c = c.put_tried.ensures.never_falls
