-- The command `run` by its parts.
use Rattle.std.proofs.Common.{◌≡◌, ◌≤◌, ℕ, List, [], inl, Option, Some, None, Bool, true, false, Result, Ok, Err, refl, sym, subst, ◌∙◌}
use Rattle.std.proofs.lemmas.Bool.{false≢true}
use Rattle.tower_syntax.specs.declared.event.Choice.{Choice}
use Rattle.tower_syntax.specs.Arch.{Arch, Events}
use Rattle.task_code.specs.Program.{Program}
use Rattle.task_build.specs.CodeOf.{code_of}
use Rattle.tower_report.specs.declared.rule.Rule.{Rule}
use Rattle.tower_report.specs.Bytes.{Bytes}
use Rattle.tower_report.specs.RunText.{run_text}
use Rattle.tower_run.specs.declared.run.Ran.{Ran}
use Rattle.tower_run.specs.declared.run.Ran.TheVariants as ran
use Rattle.tower_run.specs.Ending.{run_stops, RunEnds}
use Rattle.tower_top.specs.declared.status.Status.{Status}
use Rattle.tower_top.specs.declared.status.Status.TheVariants.{Done, Stopped, WriteFault, NoMemory}
use Rattle.tower_top.specs.Calls.{ShelfTold, SinkTold, Change, Call, still, sink_change, IsSame}
use Rattle.tower_top.specs.Requests.{Input, Request, no_command, reads, answers, HasRead}
use Rattle.tower_top.specs.Commands.{asked_of, where_given}
use Rattle.tower_top.specs.ChoicesInput.{choices_input, ReadsGivenChoices}
use Rattle.tower_top.specs.Endings.{Ends, IsToWrite, due, prospect}
use Rattle.tower_top.specs.Run.{run, run_request, run_status, status_of, status_of_ran, text_of, limit_of, rule_of, with_choices}
use Rattle.tower_words.specs.Words.{Text, Given, has_only}
use Rattle.tower_top.proofs.Endings.{chosen, not_chosen, where_some, where_none, stopped_at, went_on, still_gets, still_part}

-- ---- words

module _ (g : Given) {call : Call} {s : Status} where
  pub asks : (name : Text) (limit : ℕ) (rule : Option Rule) → has_only run.options g ≡ true → g.record_name ≡ Some name → limit_of g.steps ≡ Some limit → rule_of g.policy g.cores ≡ Some rule
      → Ends (run_request g.file name g.choices_name limit rule) call s → Ends (asked_of run g) call s
  asks name limit rule has named limited ruled ends =
      chosen (run.request g) no_command _ has
      (where_some (λ name. where_given (limit_of g.steps) (λ limit. where_given (rule_of g.policy g.cores) (λ rule. run_request g.file name g.choices_name limit rule))) g.record_name name named
      (where_some (λ limit. where_given (rule_of g.policy g.cores) (λ rule. run_request g.file name g.choices_name limit rule)) (limit_of g.steps) limit limited
      (where_some (λ rule. run_request g.file name g.choices_name limit rule) (rule_of g.policy g.cores) rule ruled ends)))

  pub asks_no_record : has_only run.options g ≡ true → g.record_name ≡ None → Ends no_command call s → Ends (asked_of run g) call s
  asks_no_record has named ends =
      chosen (run.request g) no_command _ has
      (where_none (λ name. where_given (limit_of g.steps) (λ limit. where_given (rule_of g.policy g.cores) (λ rule. run_request g.file name g.choices_name limit rule))) g.record_name named ends)

  pub asks_no_limit : (name : Text) → has_only run.options g ≡ true → g.record_name ≡ Some name → limit_of g.steps ≡ None → Ends no_command call s → Ends (asked_of run g) call s
  asks_no_limit name has named limited ends =
      chosen (run.request g) no_command _ has
      (where_some (λ name. where_given (limit_of g.steps) (λ limit. where_given (rule_of g.policy g.cores) (λ rule. run_request g.file name g.choices_name limit rule))) g.record_name name named
      (where_none (λ limit. where_given (rule_of g.policy g.cores) (λ rule. run_request g.file name g.choices_name limit rule)) (limit_of g.steps) limited ends))

  pub asks_no_rule : (name : Text) (limit : ℕ) → has_only run.options g ≡ true → g.record_name ≡ Some name → limit_of g.steps ≡ Some limit → rule_of g.policy g.cores ≡ None → Ends no_command call s → Ends (asked_of run g) call s
  asks_no_rule name limit has named limited ruled ends =
      chosen (run.request g) no_command _ has
      (where_some (λ name. where_given (limit_of g.steps) (λ limit. where_given (rule_of g.policy g.cores) (λ rule. run_request g.file name g.choices_name limit rule))) g.record_name name named
      (where_some (λ limit. where_given (rule_of g.policy g.cores) (λ rule. run_request g.file name g.choices_name limit rule)) (limit_of g.steps) limit limited
      (where_none (λ rule. run_request g.file name g.choices_name limit rule) (rule_of g.policy g.cores) ruled ends)))

-- ---- choices

module _ {T : Type 0} (items : T → List Choice) (next : List Choice → Request) where
  -- the choices were read, or there are none
  pub chose : (name : Option Text) (shelf : Change ShelfTold) (err : Change SinkTold) (call : Call) {s : Status} (x : T) → ReadsGivenChoices items name shelf err (Ok x)
      → call.shelf.before ≡ shelf.after → call.err.before ≡ err.after → Ends (next (items x)) call s
      → Ends (with_choices name next) (record { shelf = record { before = shelf.before; after = call.shelf.after }; out = call.out; err = record { before = err.before; after = call.err.after } }) s
  chose None shelf err call {s} x is shelf_is err_is ends =
      let P : List Choice → ShelfTold → SinkTold → Type 0 = λ cs a b.
      Ends (next cs) (record { shelf = record { before = a; after = call.shelf.after }; out = call.out; err = record { before = b; after = call.err.after } }) s in
      subst (λ (cs : List Choice). P cs shelf.before err.before) is.0
      (subst (λ (a : ShelfTold). P (items x) a err.before) (shelf_is ∙ is.1) (subst (λ (b : SinkTold). P (items x) call.shelf.before b) (err_is ∙ is.2) ends))
  chose (Some name) shelf err call x is shelf_is err_is ends = went_on shelf err call is.0 is.1 is.2 shelf_is err_is ends

  pub choose_stops : (name : Option Text) (shelf : Change ShelfTold) (err : Change SinkTold) (out : SinkTold) (s : Status) → ReadsGivenChoices items name shelf err (Err s)
      → Ends (with_choices name next) (record { shelf = shelf; out = still out; err = err }) s
  choose_stops None shelf err out s is = absurd is
  choose_stops (Some name) shelf err out s is = stopped_at out is

  pub chose_same : (name : Option Text) (shelf : Change ShelfTold) (err : Change SinkTold) (x : T) → ReadsGivenChoices items name shelf err (Ok x) → IsSame shelf × IsSame err
  chose_same None shelf err x is = (is.1, is.2)
  chose_same (Some name) shelf err x is = (is.1, is.2)

-- ---- the run

module _ {S : Type 0} (w : S → Option (List ℕ)) (f : S → ℕ) (old new : S) (text : Bytes) (shelf : Change ShelfTold) (err : Change SinkTold) (same : IsSame shelf) (err_same : IsSame err) (never_falls : f old ≤ f new) where
  abbrev call : Call
  call = record { shelf = shelf; out = sink_change w f old new; err = err }

  pub ran_ends : (stops : Bool) (how : Ran) → RunEnds w f old new text stops how → Ends (answers (run_status stops) text) call (status_of_ran how)
  ran_ends true ran.Done e = absurd (false≢true (sym e.0))
  ran_ends false ran.Done e = record {
    ends = record { out_text = text; err_text = []; due = (refl, refl, refl); out_gets = record { adds = e.1; calm = e.2 }; err_gets = still_gets err err_same; shelf_same = same };
  }
  ran_ends true ran.Stopped e = record {
    ends = record { out_text = text; err_text = []; due = (refl, refl, refl); out_gets = record { adds = e.1; calm = e.2 }; err_gets = still_gets err err_same; shelf_same = same };
  }
  ran_ends false ran.Stopped e = absurd (false≢true e.0)
  ran_ends stops ran.WriteFault e = record {
    ends = record {
      out_text = text;
      err_text = [];
      to_write = due (run_status stops) text [] (refl, refl, refl) same;
      rose = inl e.1;
      out_gets = record { part = e.0; never_falls = never_falls };
      err_gets = still_part err err_same;
    };
  }
  ran_ends stops ran.NoMemory e = record {
    ends = record { shelf_same = same; out_same = λ i. record { written = w (e i); faults = f (e i) }; err_same = err_same };
  }

  -- of the program of the system
  pub run_ends : (arch : Arch) (events : Events) (choices : List Choice) (limit : ℕ) (rule : Option Rule) (p : Program) (how : Ran) → p ≡ code_of arch → text ≡ text_of arch events choices limit rule
      → RunEnds w f old new (run_text arch p events choices limit rule) (run_stops arch p events choices limit rule) how
      → Ends (answers (status_of arch events choices limit rule) text) call (status_of_ran how)
  unfolding text_of status_of
  run_ends arch events choices limit rule p how is text_is e =
      let P : Program → Type 0 = λ p. RunEnds w f old new (run_text arch p events choices limit rule) (run_stops arch p events choices limit rule) how in
      let Q : Bytes → Type 0 = λ t. RunEnds w f old new t (run_stops arch (code_of arch) events choices limit rule) how in
      ran_ends (run_stops arch (code_of arch) events choices limit rule) how (subst Q (sym text_is) (subst P is e))
