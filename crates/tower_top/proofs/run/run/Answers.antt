use Rattle.std.proofs.Common.{◌≡◌, ◌∙◌, List, Option, Some, None, Bool, true, false, refl, sym, ap, subst}
use Rattle.std.specs.Prelude.{option_map}
use Rattle.tower_syntax.specs.declared.event.Choice.{Choice}
use Rattle.tower_syntax.specs.View.{events_of}
use Rattle.tower_report.specs.RunText.{run_text}
use Rattle.tower_run.specs.Ending.{run_stops, RunEnds}
use Rattle.tower_top.specs.Calls.{SinkTold, still, shelf_change, sink_change}
use Rattle.tower_top.specs.Requests.{Request, no_command, answers}
use Rattle.tower_top.specs.Run as command
use Rattle.tower_words.specs.Words.{given_of, has_only}
use Rattle.tower_top.proofs.Endings.{not_chosen, stopped_at, went_on, lacks_memory}
use Rattle.tower_top.proofs.RunFacts.{asks, asks_no_record, asks_no_limit, asks_no_rule, chose, chose_same, choose_stops, run_ends}
use Rattle.tower_top.proofs.run.run.Goals as goal

pub returns-then-not-has_only : goal.returns-then-not-has_only
returns-then-not-has_only g c =
    let has : has_only command.run.options (given_of c.args.given.now) ≡ false = cc in
    not_chosen (command.run.request (given_of c.args.given.now)) no_command _ has (c.usage.ensures _ _)

pub returns-in-None : goal.returns-in-None
returns-in-None g c =
    let has : has_only command.run.options (given_of c.args.given.now) ≡ true = sym c.has_only.ensures ∙ c.if-not-has_only.false in
    asks_no_record (given_of c.args.given.now) has (ap (option_map (λ s. s.now)) c.in-None.is) (c.usage-in-None.ensures _ _)

pub returns-in-None-limit_of : goal.returns-in-None-limit_of
returns-in-None-limit_of g c =
    let has : has_only command.run.options (given_of c.args.given.now) ≡ true = sym c.has_only.ensures ∙ c.if-not-has_only.false in
    asks_no_limit (given_of c.args.given.now) c.in-Some.name.now has (ap (option_map (λ s. s.now)) c.in-Some.is) (sym c.in-None-limit_of.ensures.value) (c.usage-in-None-limit_of.ensures _ _)

pub returns-in-None-rule_of : goal.returns-in-None-rule_of
returns-in-None-rule_of g c =
    let has : has_only command.run.options (given_of c.args.given.now) ≡ true = sym c.has_only.ensures ∙ c.if-not-has_only.false in
    asks_no_rule (given_of c.args.given.now) c.in-Some.name.now c.in-Some-limit_of.limit has (ap (option_map (λ s. s.now)) c.in-Some.is) (sym c.in-Some-limit_of.ensures.value) (sym c.in-None-rule_of.ensures.rule) (c.usage-in-None-rule_of.ensures _ _)

pub returns-in-Err : goal.returns-in-Err
returns-in-Err g c =
    let has : has_only command.run.options (given_of c.args.given.now) ≡ true = sym c.has_only.ensures ∙ c.if-not-has_only.false in
    asks (given_of c.args.given.now) c.in-Some.name.now c.in-Some-limit_of.limit c.in-Some-rule_of.rule has (ap (option_map (λ s. s.now)) c.in-Some.is) (sym c.in-Some-limit_of.ensures.value) (sym c.in-Some-rule_of.ensures.rule)
    (stopped_at (record { written = g.O.Sink.written c.args.out.now; faults = g.O.Sink.faults c.args.out.now }) c.in-Err.ensures)

pub returns-in-Err-read_events : goal.returns-in-Err-read_events
returns-in-Err-read_events g c =
    let has : has_only command.run.options (given_of c.args.given.now) ≡ true = sym c.has_only.ensures ∙ c.if-not-has_only.false in
    let out : SinkTold = record { written = g.O.Sink.written c.args.out.now; faults = g.O.Sink.faults c.args.out.now } in
    let s1 = shelf_change g.F.Shelf.held g.F.Shelf.blamed g.F.Shelf.faults c.args.shelf.now c.read_file.new.shelf in
    let e1 = sink_change g.E.Sink.written g.E.Sink.faults c.args.err.now c.read_file.new.err in
    let s2 = shelf_change g.F.Shelf.held g.F.Shelf.blamed g.F.Shelf.faults c.read_file.new.shelf c.read_events.new.shelf in
    let e2 = sink_change g.E.Sink.written g.E.Sink.faults c.read_file.new.err c.read_events.new.err in
    let h1 = c.in-Ok.ensures in
    asks (given_of c.args.given.now) c.in-Some.name.now c.in-Some-limit_of.limit c.in-Some-rule_of.rule has (ap (option_map (λ s. s.now)) c.in-Some.is) (sym c.in-Some-limit_of.ensures.value) (sym c.in-Some-rule_of.ensures.rule)
    (went_on s1 e1 (record { shelf = s2; out = still out; err = e2 }) h1.0 h1.1 h1.2 refl refl
    (stopped_at out c.in-Err-read_events.ensures.reads))

pub returns-in-Err-read_given_choices : goal.returns-in-Err-read_given_choices
returns-in-Err-read_given_choices g c =
    let has : has_only command.run.options (given_of c.args.given.now) ≡ true = sym c.has_only.ensures ∙ c.if-not-has_only.false in
    let out : SinkTold = record { written = g.O.Sink.written c.args.out.now; faults = g.O.Sink.faults c.args.out.now } in
    let s1 = shelf_change g.F.Shelf.held g.F.Shelf.blamed g.F.Shelf.faults c.args.shelf.now c.read_file.new.shelf in
    let e1 = sink_change g.E.Sink.written g.E.Sink.faults c.args.err.now c.read_file.new.err in
    let s2 = shelf_change g.F.Shelf.held g.F.Shelf.blamed g.F.Shelf.faults c.read_file.new.shelf c.read_events.new.shelf in
    let e2 = sink_change g.E.Sink.written g.E.Sink.faults c.read_file.new.err c.read_events.new.err in
    let s3 = shelf_change g.F.Shelf.held g.F.Shelf.blamed g.F.Shelf.faults c.read_events.new.shelf c.read_given_choices.new.shelf in
    let e3 = sink_change g.E.Sink.written g.E.Sink.faults c.read_events.new.err c.read_given_choices.new.err in
    let h1 = c.in-Ok.ensures in
    let h2 = c.in-Ok-read_events.ensures.reads in
    asks (given_of c.args.given.now) c.in-Some.name.now c.in-Some-limit_of.limit c.in-Some-rule_of.rule has (ap (option_map (λ s. s.now)) c.in-Some.is) (sym c.in-Some-limit_of.ensures.value) (sym c.in-Some-rule_of.ensures.rule)
    (went_on s1 e1 (record { shelf = record { before = s2.before; after = s3.after }; out = still out; err = record { before = e2.before; after = e3.after } }) h1.0 h1.1 h1.2 refl refl
    (went_on s2 e2 (record { shelf = s3; out = still out; err = e3 }) h2.0 h2.1 h2.2 refl refl
    (choose_stops _ _ (option_map (λ s. s.now) c.args.given.now.choices_name) s3 e3 out c.in-Err-read_given_choices.status c.in-Err-read_given_choices.ensures)))

pub returns-in-Err-build : goal.returns-in-Err-build
returns-in-Err-build g c =
    let h1 = c.in-Ok.ensures in
    let h2 = c.in-Ok-read_events.ensures.reads in
    let h3 = chose_same (λ v. v.items) (λ cs. no_command) (option_map (λ s. s.now) c.args.given.now.choices_name) _ _ _ c.in-Ok-read_given_choices.ensures in
    lacks_memory _ _ (h3.0 ∙ h2.1 ∙ h1.1) refl (h3.1 ∙ h2.2 ∙ h1.2)

pub returns : goal.returns
returns g c =
    let has : has_only command.run.options (given_of c.args.given.now) ≡ true = sym c.has_only.ensures ∙ c.if-not-has_only.false in
    let w = g.O.Sink.written in
    let f = g.O.Sink.faults in
    let out = sink_change w f c.args.out.now c.run_program.new.out in
    let s1 = shelf_change g.F.Shelf.held g.F.Shelf.blamed g.F.Shelf.faults c.args.shelf.now c.read_file.new.shelf in
    let e1 = sink_change g.E.Sink.written g.E.Sink.faults c.args.err.now c.read_file.new.err in
    let s2 = shelf_change g.F.Shelf.held g.F.Shelf.blamed g.F.Shelf.faults c.read_file.new.shelf c.read_events.new.shelf in
    let e2 = sink_change g.E.Sink.written g.E.Sink.faults c.read_file.new.err c.read_events.new.err in
    let s3 = shelf_change g.F.Shelf.held g.F.Shelf.blamed g.F.Shelf.faults c.read_events.new.shelf c.read_given_choices.new.shelf in
    let e3 = sink_change g.E.Sink.written g.E.Sink.faults c.read_events.new.err c.read_given_choices.new.err in
    let h1 = c.in-Ok.ensures in
    let h2 = c.in-Ok-read_events.ensures.reads in
    let arch = c.in-Ok.file in
    let events = events_of c.in-Ok-read_events.events in
    let choices = c.in-Ok-read_given_choices.choices.items in
    let limit = c.in-Some-limit_of.limit in
    let rule = c.in-Some-rule_of.rule in
    let program = c.in-Ok-build.program in
    let ends : RunEnds w f c.args.out.now c.run_program.new.out (run_text arch program events choices limit rule) (run_stops arch program events choices limit rule) c.run_program.result =
    subst (λ (cs : List Choice). RunEnds w f c.args.out.now c.run_program.new.out (run_text arch program events cs limit rule) (run_stops arch program events cs limit rule) c.run_program.result)
    c.as_slice.ensures.value c.run_program.ensures.ends in
    let next : List Choice → Request = λ cs. answers (command.status_of arch events cs limit rule) (command.text_of arch events cs limit rule) in
    rw c.status_of.ensures
    (asks (given_of c.args.given.now) c.in-Some.name.now limit rule has (ap (option_map (λ s. s.now)) c.in-Some.is) (sym c.in-Some-limit_of.ensures.value) (sym c.in-Some-rule_of.ensures.rule)
    (went_on s1 e1 (record { shelf = record { before = s2.before; after = s3.after }; out = out; err = record { before = e2.before; after = e3.after } }) h1.0 h1.1 h1.2 refl refl
    (went_on s2 e2 (record { shelf = s3; out = out; err = e3 }) h2.0 h2.1 h2.2 refl refl
    (chose (λ v. v.items) next (option_map (λ s. s.now) c.args.given.now.choices_name) s3 e3 (record { shelf = still s3.after; out = out; err = still e3.after })
    c.in-Ok-read_given_choices.choices c.in-Ok-read_given_choices.ensures refl refl
    (run_ends w f c.args.out.now c.run_program.new.out (command.text_of arch events choices limit rule) (still s3.after) (still e3.after) refl refl c.run_program.ensures.never_falls
    arch events choices limit rule program c.run_program.result c.in-Ok-build.ensures.program refl ends)))))

pub run_program-requires-clause-sound : goal.run_program-requires-clause-sound
run_program-requires-clause-sound g c = c.in-Ok-build.ensures.sound

pub run_program-requires-clause-fit : goal.run_program-requires-clause-fit
run_program-requires-clause-fit g c = c.in-Ok-read_events.ensures.fit

pub run_program-requires-clause-limit : goal.run_program-requires-clause-limit
run_program-requires-clause-limit g c = c.in-Some-limit_of.ensures.few

pub run_program-requires-clause-rule : goal.run_program-requires-clause-rule
run_program-requires-clause-rule g c = c.in-Some-rule_of.ensures.fine
