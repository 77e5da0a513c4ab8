-- Runs with enough instructions come to their end.
use Rattle.std.proofs.Common.{◌≡◌, ◌≤◌, ℕ, zero, suc, List, [], inl, inr, Option, Some, None, Bool, true, false, refl, sym, ap, ◌∙◌, subst, codes, slice_get}
use Rattle.tower_syntax.specs.declared.event.Choice.{Choice}
use Rattle.tower_syntax.specs.Arch.{Arch, Events}
use Rattle.task_code.specs.Program.{Program}
use Rattle.task_code.specs.Policy.{fixed, fixed_names, priorities}
use Rattle.task_code.specs.Ceiling.{ceiling, ceilings}
use Rattle.task_code.specs.Cores.{cores}
use Rattle.task_machine.specs.Policy.{IsLawful}
use Rattle.task_machine.specs.Lawful.{fixed_is_lawful}
use Rattle.task_policies.specs.Lawful.{ceiling_is_lawful, cores_is_lawful}
use Rattle.arch_checks.specs.Offences.{IsAccepted}
use Rattle.task_build.specs.CodeOf.{code_of}
use Rattle.task_build.proofs.Closing.{sound}
use Rattle.event_record.specs.Record.{SpellsRecord}
use Rattle.event_record.proofs.RecordFit.{record_fits}
use Rattle.run_laws.specs.Costs.{costs}
use Rattle.run_laws.specs.Enough.{NamesReady}
use Rattle.run_laws.proofs.Paid.{never_stopped}
use Rattle.tower_report.specs.Bytes.{Bytes}
use Rattle.tower_report.specs.declared.rule.Rule.{Rule}
use Rattle.tower_report.specs.declared.rule.Rule.TheVariants.{Fixed, Ceiling, Cores}
use Rattle.tower_report.specs.RunText.{policy_of}
use Rattle.tower_run.specs.Ending.{run_stops}
use Rattle.tower_top.specs.declared.status.Status.{Status}
use Rattle.tower_top.specs.declared.status.Status.TheVariants.{Done}
use Rattle.tower_top.specs.Calls.{Held, Call}
use Rattle.tower_top.specs.ChoicesInput.{choices_input}
use Rattle.tower_top.specs.Commands.{choose, where_given}
use Rattle.tower_top.specs.Endings.{Ends}
use Rattle.tower_top.specs.Inputs.{file_input}
use Rattle.tower_top.specs.RecordInput.{record_input}
use Rattle.tower_top.specs.Laws.{HasNoFault, Comes}
use Rattle.tower_top.specs.Requests.{Request, no_command, reads, answers, HasRead, TellsAll, HasAnswer}
use Rattle.tower_top.specs.Run.{run, run_request, run_status, status_of, text_of, limit_of, rule_of, with_choices}
use Rattle.tower_top.specs.RunLaws.{HasChoices, AsksForRun}
use Rattle.tower_top.specs.Top.{asked, request_of}
use Rattle.tower_words.specs.Words.{Text, Given, given_by, has_only}
use Rattle.tower_top.proofs.Exact.{answer_is_due, comes}
use Rattle.tower_top.proofs.ExactCommands.{request_exact}

-- ---- the status

fixed_names_ready : (p : Program) → NamesReady (fixed p)
fixed_names_ready p ready holds k x e = subst (IsLawful ready) e (fixed_is_lawful (priorities p) ready holds k)

no_core : (x : ℕ) → None ≡ Some x → ⊥
no_core x e = cc

ceiling_names_ready : (arch : Arch) (p : Program) → NamesReady (ceiling arch p)
ceiling_names_ready arch p ready holds k x e = subst (IsLawful ready) e (ceiling_is_lawful (priorities p) (ceilings arch) ready holds k)

cores_name_ready : (n : ℕ) (p : Program) → NamesReady (cores n p)
cores_name_ready zero p ready holds k x e = absurd (no_core x e)
cores_name_ready (suc n) p ready holds k x e = subst (IsLawful ready) e (cores_is_lawful (priorities p) n ready holds k)

names_ready : (rule : Option Rule) (arch : Arch) (p : Program) → NamesReady (policy_of rule arch p)
names_ready None arch p = fixed_names_ready p
names_ready (Some Fixed) arch p = fixed_names_ready p
names_ready (Some Ceiling) arch p = ceiling_names_ready arch p
names_ready (Some (Cores n)) arch p = cores_name_ready n p

never_stops : (arch : Arch) (bs text : List ℕ) (events : Events) (choices : List Choice) (limit : ℕ) (rule : Option Rule) → IsAccepted bs arch → SpellsRecord arch text events → costs arch events ≤ limit
    → run_stops arch (code_of arch) events choices limit rule ≡ false
never_stops arch bs text events choices limit rule accepted spelled enough =
    let p = code_of arch in
    never_stopped arch p events (sound bs arch accepted) (record_fits arch text events spelled) (policy_of rule arch p) limit (names_ready rule arch p) choices enough

done_status : (arch : Arch) (events : Events) (choices : List Choice) (limit : ℕ) (rule : Option Rule) → run_stops arch (code_of arch) events choices limit rule ≡ false → Done ≡ status_of arch events choices limit rule
unfolding status_of
done_status arch events choices limit rule e = sym (ap run_status e)

-- ---- the answer

module _ (held : Held) (s : Status) (text : Bytes) where
  abbrev Has : Request → Type 0
  Has r = HasAnswer held r s text

  chosen : (b : Bool) (x y : Request) → b ≡ true → Has x → Has (choose b x y)
  chosen true x y e h = h
  chosen false x y e h = cc

  where_some : {A : Type 0} (next : A → Request) (o : Option A) (x : A) → o ≡ Some x → Has (next x) → Has (where_given o next)
  where_some next o x e h = subst (λ o. Has (where_given o next)) (sym e) h

  with_read : (name : Option Text) (choices : List Choice) (next : List Choice → Request) → HasChoices held name choices → Has (next choices) → Has (with_choices name next)
  with_read None choices next is h = subst (λ cs. Has (next cs)) is h
  with_read (Some name) choices next is h = inr (choices, is, h)

-- where the command is `run`
run_has : (held : Held) (s : Status) (text : Bytes) (g : Given) → g.command ≡ codes "run" → has_only run.options g ≡ true → HasAnswer held (run.request g) s text → HasAnswer held (asked g) s text
run_has held s text g is allowed h =
    subst (λ name. HasAnswer held (asked (record g { command = name })) s text) (sym is)
    (chosen held s text (has_only run.options g) (run.request g) no_command allowed h)

module _ (words : List Text) (held : Held) (arch : Arch) (events : Events) (choices : List Choice) (limit : ℕ) (rule : Option Rule) where
  run_is_done : (g : Given) (name : Text) → HasRead held (file_input g.file) arch → HasRead held (record_input arch name) events → HasChoices held g.choices_name choices → costs arch events ≤ limit
      → HasAnswer held (run_request g.file name g.choices_name limit rule) Done (text_of arch events choices limit rule)
  run_is_done g name file entries chose enough =
      let text = text_of arch events choices limit rule in
      let status = done_status arch events choices limit rule (never_stops arch file.text entries.text events choices limit rule file.valid entries.valid enough) in
      inr (arch, file, inr (events, entries, with_read held Done text g.choices_name choices (λ cs. answers (status_of arch events cs limit rule) (text_of arch events cs limit rule)) chose (status, refl)))

  pub enough_is_done : AsksForRun words held arch events choices limit rule → costs arch events ≤ limit → HasAnswer held (request_of words) Done (text_of arch events choices limit rule)
  unfolding request_of
  enough_is_done a enough =
      let text = text_of arch events choices limit rule in
      let g = a.given in
      where_some held Done text asked (given_by words) g a.words_are
      (run_has held Done text g a.command_is a.allowed
      (where_some held Done text (λ name. where_given (limit_of g.steps) (λ limit. where_given (rule_of g.policy g.cores) (λ rule. run_request g.file name g.choices_name limit rule))) g.record_name a.record_name a.record_is
      (where_some held Done text (λ limit. where_given (rule_of g.policy g.cores) (λ rule. run_request g.file a.record_name g.choices_name limit rule)) (limit_of g.steps) limit a.limit_is
      (where_some held Done text (λ rule. run_request g.file a.record_name g.choices_name limit rule) (rule_of g.policy g.cores) rule a.rule_is
      (run_is_done g a.record_name a.file_read a.record_read a.choices_read enough)))))

pub done_comes : (words : List Text) (call : Call) (status : Status) (arch : Arch) (events : Events) (choices : List Choice) (limit : ℕ) (rule : Option Rule)
    → AsksForRun words call.shelf.before.held arch events choices limit rule → costs arch events ≤ limit
    → TellsAll call.shelf.before.held (request_of words) → HasNoFault call → Ends (request_of words) call status → Comes call status Done (text_of arch events choices limit rule) []
done_comes words call status arch events choices limit rule a enough tells calm ends =
    let text = text_of arch events choices limit rule in
    let has = enough_is_done words call.shelf.before.held arch events choices limit rule a enough in
    comes (request_of words) (request_exact words) call tells calm Done text [] (answer_is_due call.shelf.before.held (request_of words) Done text has) status ends
