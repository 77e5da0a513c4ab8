-- What a command asks for, one input after another, and what is due.
use Rattle.std.specs.Prelude.{◌≡◌, ◌⊎◌, ℕ, List, [], Option, Some, None, IsSome, ⊤}
use Rattle.tower_report.specs.Bytes.{Bytes}
use Rattle.tower_report.specs.RefusalText.{usage_line}
use Rattle.tower_top.specs.declared.status.Status.{Status}
use Rattle.tower_top.specs.declared.status.Status.TheVariants.{Usage}
use Rattle.tower_top.specs.Calls.{Held, IsHeld}

-- An input: the name of its text, what the text is as a value where it is valid, and where it has a fault the line that
-- tells it, with the status of the call.
pub record Input : Type 1 where
  pub name : List ℕ
  pub Value : Type 0
  pub IsValid : List ℕ → Value → Type 0
  pub IsWrong : List ℕ → Bytes → Type 0
  pub status : Status

-- What words ask for: no command; or an input, and what is asked behind its value; or, with all inputs there, a status
-- with the text on `out`.
pub data Request : Type 1 where
  no_command : Request
  reads : (i : Input) → (i.Value → Request) → Request
  answers : Status → Bytes → Request

-- the text that the shelf holds is valid, and this is its value
pub record HasRead (held : Held) (i : Input) (v : i.Value) : Type 0 where
  pub text : List ℕ
  pub is_held : IsHeld held i.name text
  pub valid : i.IsValid text v

-- the text that the shelf holds has a fault, and this line tells it
pub record HasFault (held : Held) (i : Input) (line : Bytes) : Type 0 where
  pub text : List ℕ
  pub is_held : IsHeld held i.name text
  pub wrong : i.IsWrong text line

-- what is left of a request behind some inputs, all of them valid, has this property
abbrev pub Comes : Held → (Request → Type 0) → Request → Type 0
Comes held P no_command = P no_command
Comes held P (reads i next) = P (reads i next) ⊎ ((v : i.Value) × HasRead held i v × Comes held P (next v))
Comes held P (answers status text) = P (answers status text)

-- the status that is due at once, with the texts that are due on `out` and on `err`
abbrev pub IsDueNow : Held → Status → Bytes → Bytes → Request → Type 0
IsDueNow held status out err no_command = (status ≡ Usage) × (out ≡ []) × (err ≡ usage_line)
IsDueNow held status out err (reads i next) = (status ≡ i.status) × (out ≡ []) × HasFault held i err
IsDueNow held status out err (answers s text) = (status ≡ s) × (out ≡ text) × (err ≡ [])

-- The status that is due, with the texts. There is no command; or an input has a fault, and all before it are valid; or
-- all are valid.
abbrev pub IsDue : Held → Request → Status → Bytes → Bytes → Type 0
IsDue held request status out err = Comes held (IsDueNow held status out err) request

abbrev pub IsNext : List ℕ → Request → Type 0
IsNext name no_command = ⊥
IsNext name (reads i next) = name ≡ i.name
IsNext name (answers status text) = ⊥

-- the text of this name is to be read, and all inputs before it are valid
abbrev pub IsToRead : Held → Request → List ℕ → Type 0
IsToRead held request name = Comes held (IsNext name) request

-- ---- where the shelf tells all that is read

-- the text of each input that is to be read is told
abbrev pub TellsAll : Held → Request → Type 0
TellsAll held no_command = ⊤
TellsAll held (reads i next) = IsSome (held i.name) × ((v : i.Value) → HasRead held i v → TellsAll held (next v))
TellsAll held (answers status text) = ⊤

abbrev pub IsAnswer : Status → Bytes → Request → Type 0
IsAnswer status text no_command = ⊥
IsAnswer status text (reads i next) = ⊥
IsAnswer status text (answers s t) = (status ≡ s) × (text ≡ t)

-- all inputs are valid, and this is the command's answer
abbrev pub HasAnswer : Held → Request → Status → Bytes → Type 0
HasAnswer held request status text = Comes held (IsAnswer status text) request
