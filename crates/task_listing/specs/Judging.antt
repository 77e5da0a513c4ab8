-- A text, judged line by line: the answer, computed.
use Rattle.std.specs.Prelude.{ℕ, ◌+◌, List, [], ◌∷◌, length, slice_get, slice_index, Bool, true, false, cond, not, ◌&&◌, ◌||◌, ◌==◌, nat_le, nat_lt, codes, Option, Some, None, Result, Ok, Err}
use Rattle.task_code.specs.declared.program.Instr.{Instr}
use Rattle.task_code.specs.declared.program.Instr.TheVariants.{Ld, St, Ldx, Stx, Ldm, Stm, Cast, Jmp, Jz, Call, Take, Lock, Unlock, Out, Bclr, Bput, Badd, Bget, Bcnt}
use Rattle.task_code.specs.Rules.{most_words, most_instructions}
use Rattle.tower_types.specs.Arithmetic.{is_number}
use Rattle.task_listing.specs.declared.fault.ListKind.{ListKind}
use Rattle.task_listing.specs.declared.fault.ListKind.TheVariants as fault
use Rattle.task_listing.specs.declared.kind.Kind.{Kind}
use Rattle.task_listing.specs.declared.kind.Kind.TheVariants as kind
use Rattle.task_listing.specs.declared.rules.Head.{Head}
use Rattle.task_listing.specs.Lines.{Bytes, byte_limit, words, whole_lines, behind_lines}
use Rattle.task_listing.specs.Context.{Context, start, behind, numbers}
use Rattle.task_listing.specs.Draft.{Draft, no_draft, drafted}
use Rattle.task_listing.specs.Answers.{Answer, title_line, count_line, task_line, buffer_line, instr_line, ending_line}

abbrev pub fault_in : {A : Type 0} → Answer A → Option ListKind
fault_in (Ok a) = None
fault_in (Err k) = Some k

abbrev pub judge_kind : Kind → List Bytes → Option ListKind
judge_kind kind.Title ws = title_line ws
judge_kind kind.Monitors ws = fault_in (count_line (codes "monitors") ws)
judge_kind kind.Monitor ws = fault_in (count_line (codes "monitor") ws)
judge_kind kind.Outputs ws = fault_in (count_line (codes "outputs") ws)
judge_kind kind.Output ws = fault_in (count_line (codes "output") ws)
judge_kind kind.Tasks ws = fault_in (count_line (codes "tasks") ws)
judge_kind kind.Task ws = fault_in (task_line ws)
judge_kind kind.Buffer ws = fault_in (buffer_line ws)
judge_kind kind.Instruction ws = fault_in (instr_line ws)
judge_kind kind.Ending ws = ending_line ws

abbrev pub judge : List Kind → List Bytes → Option ListKind
judge [] ws = Some fault.After
judge (k ∷ ks) ws = judge_kind k ws

-- ---- the rules

abbrev pub is_range : ℕ → ℕ → ℕ → Bool
is_range a n room = nat_le 1 n && nat_le (a + n) room

abbrev pub keeps : List ℕ → List ℕ → Head → Instr → Bool
keeps ms os h (Ld a) = nat_lt a h.room
keeps ms os h (St a) = nat_lt a h.room
keeps ms os h (Ldx a n) = is_range a n h.room
keeps ms os h (Stx a n) = is_range a n h.room
keeps ms os h (Ldm m a n) = nat_lt m (length ms) && is_range a n (slice_index ms m)
keeps ms os h (Stm m a n) = nat_lt m (length ms) && is_range a n (slice_index ms m)
keeps ms os h (Cast s) = is_number s
keeps ms os h (Jmp to) = nat_lt to h.code
keeps ms os h (Jz to) = nat_lt to h.code
keeps ms os h (Call to) = nat_lt to h.code
keeps ms os h (Take a) = nat_le (a + h.message) h.room
keeps ms os h (Lock m) = nat_lt m (length ms)
keeps ms os h (Unlock m) = nat_lt m (length ms)
keeps ms os h (Out o a) = nat_lt o (length os) && nat_le (a + slice_index os o) h.room
keeps ms os h (Bclr b) = nat_lt b h.buffers
keeps ms os h (Bput b) = nat_lt b h.buffers
keeps ms os h (Badd b) = nat_lt b h.buffers
keeps ms os h (Bget b) = nat_lt b h.buffers
keeps ms os h (Bcnt b) = nat_lt b h.buffers
keeps ms os h _ = true

abbrev pub is_zero : Option ℕ → Bool
is_zero (Some n) = n == 0
is_zero None = false

-- an instruction that was read, or none where an operand is none of any
abbrev pub is_misplaced : Context → Answer (Option Instr) → Bool
is_misplaced c (Ok (Some i)) = not (keeps c.monitors c.outputs c.head i)
is_misplaced c (Ok None) = true
is_misplaced c (Err k) = false

abbrev pub breaks_kind : Kind → Context → List Bytes → Bool
breaks_kind kind.Task c ws = is_zero (slice_get (numbers ws) 1)
breaks_kind kind.Buffer c ws = is_zero (slice_get (numbers ws) 0)
breaks_kind kind.Instruction c ws = is_misplaced c (instr_line ws)
breaks_kind _ c ws = false

abbrev pub breaks : List Kind → Context → List Bytes → Bool
breaks [] c ws = false
breaks (k ∷ ks) c ws = breaks_kind k (record c { awaits = ks }) ws

-- ---- the walk

-- what is known behind lines, the first line that breaks a rule, and the program so far
pub record State : Type 0 where
  pub context : Context
  pub place : Option ℕ
  pub draft : Draft

abbrev pub begun : State
begun = record { context = start; place = None; draft = no_draft }

abbrev pub marked : Option ℕ → Bool → ℕ → Option ℕ
marked (Some m) b n = Some m
marked None true n = Some n
marked None false n = None

abbrev pub with_awaits : List Kind → Context → Context
with_awaits ks c = record c { awaits = ks }

-- behind line n, which is one of the kind, with these words
abbrev pub next_kind : Kind → State → ℕ → List Bytes → State
next_kind k s n ws = record {
  context = behind k (numbers ws) s.context;
  place = marked s.place (breaks_kind k s.context ws) n;
  draft = drafted k s.context.head ws s.draft;
}

abbrev pub next_by : List Kind → State → ℕ → List Bytes → State
next_by [] s n ws = s
next_by (k ∷ ks) s n ws = next_kind k (record s { context = with_awaits ks s.context }) n ws

abbrev pub next : State → ℕ → List Bytes → State
next s n ws = next_by s.context.awaits s n ws

abbrev pub Verdict : Type 0 → Type 0
Verdict A = Result A (ℕ × ListKind)

abbrev pub walk_on : Option ListKind → ℕ → Verdict State → Verdict State
walk_on (Some k) n go = Err (n, k)
walk_on None n go = go

-- over lines of which the first is line n
abbrev pub walk : State → ℕ → List Bytes → Verdict State
walk s n [] = Ok s
walk s n (l ∷ ls) = walk_on (judge s.context.awaits (words l)) n (walk (next s n (words l)) (n + 1) ls)

abbrev pub limited : Option ℕ → State → Verdict State
limited (Some n) s = Err (n, fault.Place)
limited None s = cond (nat_lt most_words s.context.words || nat_lt most_instructions s.context.instructions) (Err (0, fault.Limit)) (Ok s)

abbrev pub judged : State → Verdict State
judged s = limited s.place s

-- behind n whole lines, where this is awaited
abbrev pub ended : List Kind → ℕ → State → Verdict State
ended [] n s = judged s
ended (k ∷ ks) n s = Err (n + 1, fault.Short)

-- behind n whole lines, where this stands behind the last
abbrev pub closed : Bytes → ℕ → State → Verdict State
closed [] n s = ended s.context.awaits n s
closed (b ∷ bs) n s = walk_on (judge s.context.awaits (words (b ∷ bs))) (n + 1) (Err (n + 2, fault.Short))

abbrev pub finished : Bytes → ℕ → Verdict State → Verdict State
finished last n (Ok s) = closed last n s
finished last n (Err f) = Err f

abbrev pub verdict : Bytes → Verdict State
verdict bs = cond (nat_lt byte_limit (length bs)) (Err (0, fault.Long)) (finished (behind_lines bs) (length (whole_lines bs)) (walk begun 1 (whole_lines bs)))
