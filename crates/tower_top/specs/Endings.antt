-- How a call ends: which status comes, what was written, and why.
use Rattle.std.specs.Prelude.{◌≡◌, ◌⊎◌, ℕ, List, [], Result, Ok, Err}
use Rattle.tower_io.specs.declared.answers.Put.{Put}
use Rattle.tower_io.specs.declared.answers.Put.TheVariants as put
use Rattle.tower_report.specs.Bytes.{Bytes}
use Rattle.tower_report.specs.RefusalText.{unread_line}
use Rattle.tower_top.specs.declared.status.Status.{Status}
use Rattle.tower_top.specs.declared.status.Status.TheVariants.{Done, Refused, Usage, ReadFault, WriteFault, NoMemory, BadInput, Stopped, No}
use Rattle.tower_top.specs.Calls.{Held, ShelfTold, SinkTold, Change, Call, still, IsSame, HasRisen, Gets, GetsPart, FailsAt}
use Rattle.tower_top.specs.Requests.{Input, Request, HasRead, HasFault, IsDue, IsToRead}

-- What may come of a call: the statuses that are due with their texts, and the names of which the text is to be read.
pub record Prospect : Type 1 where
  pub IsDue : Status → Bytes → Bytes → Type 0
  pub IsToRead : List ℕ → Type 0

module _ (p : Prospect) (call : Call) where
  -- the status is due, and both texts were written whole
  pub record Answers (status : Status) : Type 0 where
    pub out_text : Bytes
    pub err_text : Bytes
    pub due : p.IsDue status out_text err_text
    pub out_gets : Gets call.out out_text
    pub err_gets : Gets call.err err_text
    pub shelf_same : IsSame call.shelf

  -- an input could not be read, and its line was written
  pub record FailsToRead : Type 0 where
    pub name : List ℕ
    pub to_read : p.IsToRead name
    pub fails : FailsAt call.shelf name
    pub out_same : IsSame call.out
    pub err_gets : Gets call.err (unread_line name)

  -- what was to be written: what is due, where nothing failed to be read, or the line of the input that did
  pub data IsToWrite : Bytes → Bytes → Type 0 where
    due : (status : Status) (out err : Bytes) → p.IsDue status out err → IsSame call.shelf → IsToWrite out err
    unread : (name : List ℕ) → p.IsToRead name → FailsAt call.shelf name → IsToWrite [] (unread_line name)

  -- a put failed, and a first part of what was to be written was written
  pub record FailsToWrite : Type 0 where
    pub out_text : Bytes
    pub err_text : Bytes
    pub to_write : IsToWrite out_text err_text
    pub rose : HasRisen call.out ⊎ HasRisen call.err
    pub out_gets : GetsPart call.out out_text
    pub err_gets : GetsPart call.err err_text

  -- nothing was written, and nothing failed to be read
  pub record LacksMemory : Type 0 where
    pub shelf_same : IsSame call.shelf
    pub out_same : IsSame call.out
    pub err_same : IsSame call.err

  -- of each status, what was written and why it came
  abbrev pub EndsAs : Status → Type 0
  EndsAs ReadFault = FailsToRead
  EndsAs WriteFault = FailsToWrite
  EndsAs NoMemory = LacksMemory
  EndsAs Done = Answers Done
  EndsAs Refused = Answers Refused
  EndsAs Usage = Answers Usage
  EndsAs BadInput = Answers BadInput
  EndsAs Stopped = Answers Stopped
  EndsAs No = Answers No

abbrev pub prospect : Held → Request → Prospect
prospect held request = record { IsDue = IsDue held request; IsToRead = IsToRead held request }

-- how a call ends that carries out a request
pub record Ends (request : Request) (call : Call) (status : Status) : Type 0 where
  pub ends : EndsAs (prospect call.shelf.before.held request) call status

-- ---- a part of a call

abbrev pub at_input : Held → Input → Prospect
at_input held i = record { IsDue = λ status out err. (status ≡ i.status) × (out ≡ []) × HasFault held i err; IsToRead = λ name. name ≡ i.name }

-- an input has a fault, could not be read, or memory was wanting; whatever `out` is, it was not touched
pub record Stops (i : Input) (shelf : Change ShelfTold) (err : Change SinkTold) (status : Status) : Type 0 where
  pub ends : (out : SinkTold) → EndsAs (at_input shelf.before.held i) (record { shelf = shelf; out = still out; err = err }) status

-- the value of an input, of which the program has the view; or the status of the call
abbrev pub Reads : {T : Type 0} (i : Input) → (T → i.Value) → Change ShelfTold → Change SinkTold → Result T Status → Type 0
Reads i view shelf err (Ok x) = HasRead shelf.before.held i (view x) × IsSame shelf × IsSame err
Reads i view shelf err (Err status) = Stops i shelf err status

-- the status that is left after a put
abbrev pub status_after : Put → Status → Status
status_after put.Done status = status
status_after put.Failed status = WriteFault
