-- A program, as far as its listing was read.
use Rattle.std.specs.Prelude.{ℕ, List, [], ◌∷◌, ◌++◌, Bool, true, false, Option, Some, None, Ok, Err}
use Rattle.task_code.specs.declared.program.Buffer.{Buffer}
use Rattle.task_code.specs.declared.program.Task.{Task}
use Rattle.task_code.specs.declared.program.Instr.{Instr}
use Rattle.task_listing.specs.declared.kind.Kind.{Kind}
use Rattle.task_listing.specs.declared.kind.Kind.TheVariants as kind
use Rattle.task_listing.specs.declared.rules.Head.{Head}
use Rattle.task_listing.specs.Lines.{Bytes}
use Rattle.task_listing.specs.Context.{numbers}
use Rattle.task_listing.specs.Answers.{Answer, instr_line}

-- the tasks that have ended, and of the last task, where it has not, what the head does not have
pub record Draft : Type 0 where
  pub tasks : List Task
  pub is_open : Bool
  pub priority : ℕ
  pub buffers : List Buffer
  pub code : List Instr

abbrev pub no_draft : Draft
no_draft = record { tasks = []; is_open = false; priority = 0; buffers = []; code = [] }

abbrev pub last_task : Head → Draft → Task
last_task h d = record { priority = d.priority; message = h.message; room = h.room; buffers = d.buffers; code = d.code }

abbrev pub ended_if : Bool → Head → Draft → Draft
ended_if true h d = record { tasks = d.tasks ++ last_task h d ∷ []; is_open = false; priority = d.priority; buffers = []; code = [] }
ended_if false h d = d

-- the last task has ended
abbrev pub ended_task : Head → Draft → Draft
ended_task h d = ended_if d.is_open h d

-- a task begins
abbrev pub begun_task : ℕ → Draft → Draft
begun_task p d = record d { is_open = true; priority = p; buffers = []; code = [] }

-- behind a line of the kind with these numbers, where the last task has this head
abbrev pub numbered : Kind → Head → List ℕ → Draft → Draft
numbered kind.Task h (p ∷ message ∷ room ∷ buffers ∷ code ∷ []) d = begun_task p (ended_task h d)
numbered kind.Buffer h (width ∷ bound ∷ []) d = record d { buffers = d.buffers ++ record { width = width; bound = bound } ∷ [] }
numbered kind.Ending h ns d = ended_task h d
numbered _ h ns d = d

abbrev pub with_instr : Answer (Option Instr) → Draft → Draft
with_instr (Ok (Some i)) d = record d { code = d.code ++ i ∷ [] }
with_instr (Ok None) d = d
with_instr (Err k) d = d

abbrev pub drafted : Kind → Head → List Bytes → Draft → Draft
drafted kind.Instruction h ws d = with_instr (instr_line ws) d
drafted k h ws d = numbered k h (numbers ws) d
