-- The line of a choice, judged.
use Rattle.std.specs.Prelude.{◌≡◌, ℕ, ◌<◌, List, [], ◌∷◌, cond, nat_lt, codes, bytes_eq, Option, Some, None, Result, Ok, Err, option_map}
use Rattle.tower_syntax.specs.declared.event.Choice.{Choice}
use Rattle.tower_syntax.specs.declared.event.Choice.TheVariants as choice
use Rattle.tower_reader.specs.Words.{number_in}
use Rattle.event_record.specs.declared.choices.Verb.{Verb}
use Rattle.event_record.specs.declared.choices.Verb.TheVariants as verb
use Rattle.event_record.specs.declared.choices.ChoiceKind.{ChoiceKind}
use Rattle.event_record.specs.declared.choices.ChoiceKind.TheVariants as wrong
use Rattle.event_record.specs.declared.choices.ChoiceFault.{ChoiceFault}
use Rattle.event_record.specs.declared.choices.ChoiceFault.TheVariants as fault
use Rattle.event_record.specs.Lines.{Bytes, words, say_nothing}
use Rattle.event_record.specs.Choices.{position_limit, repeat_limit, choice_limit}
use Rattle.event_record.specs.Judged.{Judged, makes, is_wrong, verdict}

abbrev pub verb_of : Bytes → Option Verb
verb_of w =
    cond (bytes_eq w (codes "go")) (Some verb.Go)
    (cond (bytes_eq w (codes "see")) (Some verb.See)
    (cond (bytes_eq w (codes "ev")) (Some verb.Ev)
    (cond (bytes_eq w (codes "idle")) (Some verb.Idle) None)))

abbrev pub place_of : Bytes → Option ℕ
place_of w = number_in 0 position_limit w

abbrev pub times_of : Bytes → Option ℕ
times_of w = number_in 1 repeat_limit w

-- two numbers
abbrev pub both : Option ℕ → Option ℕ → Option (ℕ × ℕ)
both None n = None
both (Some k) None = None
both (Some k) (Some n) = Some (k, n)

-- a place, and a repeat count that may be left out
abbrev pub place_and_times : List Bytes → Option (ℕ × ℕ)
place_and_times [] = None
place_and_times (k ∷ []) = both (place_of k) (Some 1)
place_and_times (k ∷ n ∷ []) = both (place_of k) (times_of n)
place_and_times (k ∷ n ∷ more ∷ ws) = None

abbrev pub placed : (ℕ → ℕ → Choice) → Option (ℕ × ℕ) → Option Choice
placed make None = None
placed make (Some (k, n)) = Some (make k n)

abbrev pub repeated : List Bytes → Option Choice
repeated [] = Some (choice.Ev 1)
repeated (n ∷ []) = option_map choice.Ev (times_of n)
repeated (n ∷ more ∷ ws) = None

abbrev pub alone : List Bytes → Option Choice
alone [] = Some choice.Idle
alone (w ∷ ws) = None

abbrev pub choice_by : Option Verb → List Bytes → Option Choice
choice_by None ws = None
choice_by (Some verb.Go) ws = placed choice.Go (place_and_times ws)
choice_by (Some verb.See) ws = placed choice.See (place_and_times ws)
choice_by (Some verb.Ev) ws = repeated ws
choice_by (Some verb.Idle) ws = alone ws

-- the choice that words spell
abbrev pub choice_of : List Bytes → Option Choice
choice_of [] = None
choice_of (w ∷ ws) = choice_by (verb_of w) ws

abbrev pub judged_choice : Option Choice → Judged Choice ChoiceKind
judged_choice None = is_wrong wrong.Line
judged_choice (Some c) = makes (c ∷ [])

abbrev pub judge_words : List Bytes → Judged Choice ChoiceKind
judge_words ws = cond (say_nothing ws) (makes []) (judged_choice (choice_of ws))

abbrev pub judge_choice : Bytes → Judged Choice ChoiceKind
judge_choice l = judge_words (words l)

abbrev pub over_choices : ℕ → Option ChoiceKind
over_choices n = cond (nat_lt choice_limit n) (Some wrong.Many) None

abbrev pub choices_verdict : Bytes → Result (List Choice) (ℕ × ChoiceKind)
choices_verdict text = verdict judge_choice over_choices wrong.Long text

-- the fault that is told, where memory was not wanting
abbrev pub IsTold : Result (List Choice) (ℕ × ChoiceKind) → ChoiceFault → Type 0
IsTold answer (fault.At n k) = answer ≡ Err (n, k)
IsTold answer fault.NoMemory = Unit {0}
