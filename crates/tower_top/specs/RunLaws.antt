-- When a run comes to its end.
use Rattle.std.specs.Prelude.{◌≡◌, ℕ, ◌≤◌, List, [], Option, Some, None, true, codes}
use Rattle.tower_syntax.specs.declared.event.Choice.{Choice}
use Rattle.tower_syntax.specs.Arch.{Arch, Events}
use Rattle.run_laws.specs.Costs.{costs}
use Rattle.tower_report.specs.declared.rule.Rule.{Rule}
use Rattle.tower_top.specs.declared.status.Status.{Status}
use Rattle.tower_top.specs.declared.status.Status.TheVariants.{Done}
use Rattle.tower_top.specs.Calls.{Held, Call}
use Rattle.tower_top.specs.ChoicesInput.{choices_input}
use Rattle.tower_top.specs.Endings.{Ends}
use Rattle.tower_top.specs.Inputs.{file_input}
use Rattle.tower_top.specs.Laws.{HasNoFault, Comes}
use Rattle.tower_top.specs.RecordInput.{record_input}
use Rattle.tower_top.specs.Requests.{HasRead, TellsAll, HasAnswer}
use Rattle.tower_top.specs.Run.{run, limit_of, rule_of, text_of}
use Rattle.tower_top.specs.Top.{request_of}
use Rattle.tower_words.specs.Words.{Text, Given, given_by, has_only}

-- the choices of the text with this name; there are none where no name is given
abbrev pub HasChoices : Held → Option Text → List Choice → Type 0
HasChoices held None choices = choices ≡ []
HasChoices held (Some name) choices = HasRead held (choices_input name) choices

-- the words ask for a run of this system over these events, with these choices, this limit and this rule, and all that they
-- name is valid
pub record AsksForRun (words : List Text) (held : Held) (arch : Arch) (events : Events) (choices : List Choice) (limit : ℕ) (rule : Option Rule) : Type 0 where
  pub given : Given
  pub record_name : Text
  pub words_are : given_by words ≡ Some given
  pub command_is : given.command ≡ codes "run"
  pub allowed : has_only run.options given ≡ true
  pub record_is : given.record_name ≡ Some record_name
  pub limit_is : limit_of given.steps ≡ Some limit
  pub rule_is : rule_of given.policy given.cores ≡ Some rule
  pub file_read : HasRead held (file_input given.file) arch
  pub record_read : HasRead held (record_input arch record_name) events
  pub choices_read : HasChoices held given.choices_name choices

-- with as many instructions as all messages cost, the answer is that the run is done
abbrev pub EnoughIsDone : Type 0
EnoughIsDone = (words : List Text) (held : Held) (arch : Arch) (events : Events) (choices : List Choice) (limit : ℕ) (rule : Option Rule)
    → AsksForRun words held arch events choices limit rule → costs arch events ≤ limit
    → HasAnswer held (request_of words) Done (text_of arch events choices limit rule)

-- and that answer comes, where the shelf tells what is to be read and no count of faults rose
abbrev pub DoneComes : Type 0
DoneComes = (words : List Text) (call : Call) (status : Status) (arch : Arch) (events : Events) (choices : List Choice) (limit : ℕ) (rule : Option Rule)
    → AsksForRun words call.shelf.before.held arch events choices limit rule → costs arch events ≤ limit
    → TellsAll call.shelf.before.held (request_of words) → HasNoFault call → Ends (request_of words) call status
    → Comes call status Done (text_of arch events choices limit rule) []
