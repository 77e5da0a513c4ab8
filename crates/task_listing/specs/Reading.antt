-- What a reader stands for, and what the taking of a line makes of that.
use Rattle.std.specs.Prelude.{◌≡◌, ℕ, List, [], ◌∷◌, ◌++◌, replicate, ◌==◌, Bool, true, false, Option, Some, None, Result, Ok, Err}
use Rattle.task_listing.specs.declared.fault.ListKind.{ListKind}
use Rattle.task_listing.specs.declared.fault.ListFault.{ListFault}
use Rattle.task_listing.specs.declared.fault.ListFault.TheVariants as list_fault
use Rattle.task_listing.specs.declared.kind.Kind.{Kind}
use Rattle.task_listing.specs.declared.kind.Kind.TheVariants as kind
use Rattle.task_listing.specs.declared.reading.Stage.{Stage}
use Rattle.task_listing.specs.declared.reading.Stage.TheVariants as stage
use Rattle.task_listing.specs.declared.reading.Reader.{Reader}
use Rattle.task_listing.specs.Lines.{Bytes}
use Rattle.task_code.specs.declared.program.Instr.{Instr}
use Rattle.task_code.specs.Program.{Program}
use Rattle.task_listing.specs.Context.{behind}
use Rattle.task_listing.specs.Draft.{ended_task, begun_task, with_instr}
use Rattle.task_listing.specs.Judging.{State, judge, judge_kind, next_kind, next, with_awaits, marked, is_misplaced}

abbrev pub awaits_of : Stage → List Kind
awaits_of stage.Title = kind.Title ∷ kind.Monitors ∷ kind.Outputs ∷ kind.Tasks ∷ kind.Ending ∷ []
awaits_of stage.Monitors = kind.Monitors ∷ kind.Outputs ∷ kind.Tasks ∷ kind.Ending ∷ []
awaits_of (stage.MonitorLines left) = replicate left kind.Monitor ++ kind.Outputs ∷ kind.Tasks ∷ kind.Ending ∷ []
awaits_of (stage.OutputLines left) = replicate left kind.Output ++ kind.Tasks ∷ kind.Ending ∷ []
awaits_of (stage.TaskLines buffers code tasks) = (replicate buffers kind.Buffer ++ replicate code kind.Instruction) ++ replicate tasks kind.Task ++ kind.Ending ∷ []
awaits_of stage.Done = []

-- what a reader stands for, where these lines are awaited
abbrev pub state_with : List Kind → Reader → State
state_with ks r = record {
  context = record { awaits = ks; monitors = r.monitors; outputs = r.outputs; head = r.head; words = r.words; instructions = r.instructions };
  place = r.place;
  draft = record { tasks = r.tasks; is_open = r.is_open; priority = r.priority; buffers = r.buffers; code = r.code };
}

abbrev pub state_of : Reader → State
state_of r = state_with (awaits_of r.stage) r

-- what an answer tells of line n: no fault, a fault of this kind, or nothing
abbrev pub Told : ℕ → Option ListKind → ListFault → Type 0
Told n k (list_fault.At m j) = (m ≡ n) × (k ≡ Some j)
Told n k list_fault.NoMemory = Unit {0}

-- a line of the kind, behind which these are awaited, was taken or not
abbrev pub Takes : Kind → List Kind → Reader → Reader → ℕ → List Bytes → Result (Unit {0}) ListFault → Type 0
Takes k ks old new n ws (Ok u) = (judge_kind k ws ≡ None) × (state_of new ≡ next_kind k (state_with ks old) n ws)
Takes k ks old new n ws (Err f) = Told n (judge_kind k ws) f

abbrev pub TakesAny : Reader → Reader → ℕ → List Bytes → Result (Unit {0}) ListFault → Type 0
TakesAny old new n ws (Ok u) = (judge (awaits_of old.stage) ws ≡ None) × (state_of new ≡ next (state_of old) n ws)
TakesAny old new n ws (Err f) = Told n (judge (awaits_of old.stage) ws) f

-- the last task has ended
abbrev pub with_ended : State → State
with_ended s = record s { draft = ended_task s.context.head s.draft }

-- a task was opened with these numbers, behind which these are awaited
abbrev pub opened : List Kind → State → ℕ → ℕ × ((ℕ × ℕ) × (ℕ × ℕ)) → State
opened ks s n (p, ((message, room), (buffers, code))) = record {
  context = behind kind.Task (p ∷ message ∷ room ∷ buffers ∷ code ∷ []) (with_awaits ks s.context);
  place = marked s.place (message == 0) n;
  draft = begun_task p s.draft;
}

-- an instruction was read on line n, or none where an operand is none of any
abbrev pub with_place : ℕ → Option Instr → State → State
with_place n i s = record s { place = marked s.place (is_misplaced s.context (Ok i)) n; draft = with_instr (Ok i) s.draft }

abbrev pub is_empty : List Kind → Bool
is_empty [] = true
is_empty (k ∷ ks) = false

-- a fault is that of the verdict
abbrev pub Judges : {A : Type 0} → Result A (ℕ × ListKind) → ListFault → Type 0
Judges v (list_fault.At n k) = v ≡ Err (n, k)
Judges v list_fault.NoMemory = Unit {0}

-- an answer is that of the verdict
abbrev pub Says : {A : Type 0} → Result A (ℕ × ListKind) → A → Result (Unit {0}) ListFault → Type 0
Says v a (Ok u) = v ≡ Ok a
Says v a (Err f) = Judges v f

-- the program that lines have come to
abbrev pub program_of : State → Program
program_of s = record { monitors = s.context.monitors; outputs = s.context.outputs; tasks = s.draft.tasks }
