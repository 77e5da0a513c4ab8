-- What holds of every call.
use Rattle.std.specs.Prelude.{◌≡◌, ◌⊎◌, ℕ, List, []}
use Rattle.tower_io.specs.Faults.{Rose}
use Rattle.tower_report.specs.Bytes.{Bytes}
use Rattle.tower_top.specs.declared.status.Status.{Status}
use Rattle.tower_top.specs.declared.status.Status.TheVariants.{NoMemory}
use Rattle.tower_top.specs.Calls.{Held, Call, Gets, HasRisen}
use Rattle.tower_top.specs.Requests.{IsDue, TellsAll, HasAnswer}
use Rattle.tower_top.specs.Endings.{Ends}
use Rattle.tower_top.specs.Top.{request_of}
use Rattle.tower_top.specs.Compile.{listing_of}
use Rattle.tower_syntax.specs.Arch.{Arch}
use Rattle.arch_checks.specs.Offences.{IsAccepted}
use Rattle.task_build.specs.CodeOf.{code_of}
use Rattle.listing_laws.specs.Laws.{ListsOneSound}

-- where the shelf tells what is to be read, at most one status is due, with one text on `out` and one on `err`
abbrev pub OneAnswer : Type 0
OneAnswer = (words : List (List ℕ)) → (held : Held) → TellsAll held (request_of words)
    → (s t : Status) → (o p e f : Bytes) → IsDue held (request_of words) s o e → IsDue held (request_of words) t p f → (s ≡ t) × (o ≡ p) × (e ≡ f)

-- no count of faults rose in the call
pub record HasNoFault (call : Call) : Type 0 where
  pub shelf : Rose call.shelf.before.faults call.shelf.after.faults → ⊥
  pub out : HasRisen call.out → ⊥
  pub err : HasRisen call.err → ⊥

-- the status came, and both texts were written whole; or memory was wanting
abbrev pub Comes : Call → Status → Status → Bytes → Bytes → Type 0
Comes call status s out err = ((status ≡ s) × Gets call.out out × Gets call.err err) ⊎ (status ≡ NoMemory)

-- what is due comes, where the shelf tells what is to be read and no count of faults rose
abbrev pub DueComes : Type 0
DueComes = (words : List (List ℕ)) → (call : Call) → (status s : Status) → (out err : Bytes) → Ends (request_of words) call status
    → TellsAll call.shelf.before.held (request_of words) → HasNoFault call → IsDue call.shelf.before.held (request_of words) s out err → Comes call status s out err

-- where all inputs are valid, the command's answer is due, and no line
abbrev pub AnswersAreDue : Type 0
AnswersAreDue = (words : List (List ℕ)) → (held : Held) → (s : Status) → (text : Bytes) → HasAnswer held (request_of words) s text → IsDue held (request_of words) s text []

-- what `compile` writes of an accepted file is the listing of one program, which is read back, and that is sound
abbrev pub ListingsAreSound : Type 0
ListingsAreSound = (bs : List ℕ) (arch : Arch) → IsAccepted bs arch → ListsOneSound arch (listing_of arch) (code_of arch)
