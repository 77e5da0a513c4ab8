-- `run FILE --record NAME` runs the program of an accepted file over a record, with choices, a limit of instructions and a
-- rule for turns.
use Rattle.std.specs.Prelude.{ℕ, List, [], Option, Some, None, option_map, cond, bytes_eq, Bool, true, false, codes}
use Rattle.tower_syntax.specs.declared.event.Choice.{Choice}
use Rattle.tower_syntax.specs.Arch.{Arch, Events}
use Rattle.tower_reader.specs.Words.{number_in}
use Rattle.task_build.specs.CodeOf.{code_of}
use Rattle.tower_report.specs.declared.rule.Rule.{Rule}
use Rattle.tower_report.specs.declared.rule.Rule.TheVariants.{Fixed, Ceiling, Cores}
use Rattle.tower_report.specs.Bytes.{Bytes}
use Rattle.tower_report.specs.RunText.{run_text}
use Rattle.tower_run.specs.declared.run.Ran.{Ran}
use Rattle.tower_run.specs.declared.run.Ran.TheVariants as ran
use Rattle.tower_run.specs.Ending.{run_stops}
use Rattle.tower_top.specs.declared.status.Status.{Status}
use Rattle.tower_top.specs.declared.status.Status.TheVariants.{Done, WriteFault, NoMemory, Stopped}
use Rattle.tower_top.specs.Requests.{Request, reads, answers}
use Rattle.tower_top.specs.Inputs.{file_input}
use Rattle.tower_top.specs.RecordInput.{record_input}
use Rattle.tower_top.specs.ChoicesInput.{choices_input}
use Rattle.tower_words.specs.Words.{Text, no_options}
use Rattle.tower_top.specs.Commands.{Command, where_given}

-- the limit of instructions: the value of `--steps`, or 10,000,000
abbrev pub limit_of : Option Text → Option ℕ
limit_of None = Some 10000000
limit_of (Some text) = number_in 0 1000000000 text

-- the rule that `--policy` names
abbrev pub policy_of : Text → Option Rule
policy_of text = cond (bytes_eq text (codes "fixed")) (Some Fixed) (cond (bytes_eq text (codes "ceiling")) (Some Ceiling) None)

-- that of so many cores, as `--cores` says
abbrev pub cores_of : Text → Option Rule
cores_of text = option_map Cores (number_in 1 64 text)

-- the rule, if there is one: not both may be given
abbrev pub rule_of : Option Text → Option Text → Option (Option Rule)
rule_of None None = Some None
rule_of (Some policy) None = option_map Some (policy_of policy)
rule_of None (Some cores) = option_map Some (cores_of cores)
rule_of (Some policy) (Some cores) = None

-- the texts of a run are long: they are opened where they are spoken of
unfoldable pub text_of : Arch → Events → List Choice → ℕ → Option Rule → Bytes
text_of arch events choices limit rule = run_text arch (code_of arch) events choices limit rule

abbrev pub run_status : Bool → Status
run_status true = Stopped
run_status false = Done

unfoldable pub status_of : Arch → Events → List Choice → ℕ → Option Rule → Status
status_of arch events choices limit rule = run_status (run_stops arch (code_of arch) events choices limit rule)

-- with the choices of a text, or none
abbrev pub with_choices : Option Text → (List Choice → Request) → Request
with_choices None next = next []
with_choices (Some name) next = reads (choices_input name) next

abbrev pub run_request : Text → Text → Option Text → ℕ → Option Rule → Request
run_request file record_name choices_name limit rule =
    reads (file_input file) (λ arch. reads (record_input arch record_name) (λ events. with_choices choices_name (λ choices.
    answers (status_of arch events choices limit rule) (text_of arch events choices limit rule))))

abbrev pub run : Command
run = record {
  name = codes "run";
  options = record no_options { record_name = true; choices_name = true; steps = true; policy = true; cores = true };
  request = λ g. where_given g.record_name (λ name. where_given (limit_of g.steps) (λ limit. where_given (rule_of g.policy g.cores) (λ rule.
      run_request g.file name g.choices_name limit rule)));
}

-- the status of a call whose run ended so
abbrev pub status_of_ran : Ran → Status
status_of_ran ran.Done = Done
status_of_ran ran.Stopped = Stopped
status_of_ran ran.WriteFault = WriteFault
status_of_ran ran.NoMemory = NoMemory
