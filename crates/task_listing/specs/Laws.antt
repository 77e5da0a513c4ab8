-- The laws of the definitions.
use Rattle.std.specs.Prelude.{◌≡◌, ◌⊎◌, ◌↔◌, ◌≤◌, ◌+◌, ◌*◌, ℕ, List, All, length, map, sum, true, Some, None, Result, Ok, Err}
use Rattle.task_code.specs.declared.program.Instr.{Instr}
use Rattle.task_code.specs.Program.{Program}
use Rattle.task_code.specs.Rules.{KeepsRules, all_instructions}
use Rattle.task_listing.specs.declared.fault.ListKind.{ListKind}
use Rattle.task_listing.specs.declared.fault.ListKind.TheVariants as fault
use Rattle.task_listing.specs.declared.fault.ListFault.{ListFault}
use Rattle.task_listing.specs.declared.fault.ListFault.TheVariants as list_fault
use Rattle.task_listing.specs.declared.kind.Kind.{Kind}
use Rattle.task_listing.specs.declared.kind.Kind.TheVariants as kind
use Rattle.task_listing.specs.Lines.{Bytes, byte_limit}
use Rattle.task_listing.specs.Listing.{listing}
use Rattle.task_listing.specs.Context.{Context}
use Rattle.task_listing.specs.Judging.{State, verdict, judge_kind, keeps, breaks_kind}
use Rattle.task_listing.specs.Answers.{instr_line}
use Rattle.task_listing.specs.InstrRows.{Spells}
use Rattle.task_listing.specs.Forms.{AtSight, IsSpelled, Has}
use Rattle.task_listing.specs.Faults.{IsFirst, IsFaultless}

-- the verdict is the first of what offends
abbrev pub FaultIsFirst : Type 0
FaultIsFirst = (bs : Bytes) (n : ℕ) (k : ListKind) → verdict bs ≡ Err (n, k) → IsFirst bs n k

-- a text whose verdict is no fault has no offence
abbrev pub NoneIsFaultless : Type 0
NoneIsFaultless = (bs : Bytes) (s : State) → verdict bs ≡ Ok s → IsFaultless bs

-- a program that keeps the rules, each priority of which is one
pub record IsProgram (p : Program) : Type 0 where
  pub rules : KeepsRules p
  pub priorities : All (λ t. t.priority ≤ 255) p.tasks

-- a text, not too long, that is the listing of a program
pub record IsListing (bs : Bytes) : Type 0 where
  pub program : Program
  pub is_program : IsProgram program
  pub same : bs ≡ listing program
  pub short : length bs ≤ byte_limit

-- one fault, and no other, is the first
pub record HasOneFault (bs : Bytes) : Type 0 where
  pub line : ℕ
  pub kind : ListKind
  pub first : IsFirst bs line kind
  pub only : (n : ℕ) (k : ListKind) → IsFirst bs n k → (n ≡ line) × (k ≡ kind)

-- a text is the listing of at most one program
abbrev pub ListingIsOfOne : Type 0
ListingIsOfOne = (p q : Program) → IsProgram p → IsProgram q → listing p ≡ listing q → p ≡ q

-- a program's listing has no fault, where it is not too long
abbrev pub ListingIsFaultless : Type 0
ListingIsFaultless = (p : Program) → IsProgram p → length (listing p) ≤ byte_limit → IsFaultless (listing p)

-- each text is a listing or has exactly one first fault
abbrev pub IsListingOrFault : Type 0
IsListingOrFault = (bs : Bytes) → IsListing bs ⊎ HasOneFault bs

-- and no text is both
abbrev pub NoListingHasFault : Type 0
NoListingHasFault = (bs : Bytes) (n : ℕ) (k : ListKind) → IsListing bs → IsFirst bs n k → ⊥

-- words are read as an instruction exactly where they are those of its row in the table
abbrev pub LinesAreRows : Type 0
LinesAreRows = (ws : List Bytes) (i : Instr) → (instr_line ws ≡ Ok (Some i)) ↔ Spells ws i

-- ---- a line by itself, by the table of forms

-- its words are those of the form, and spelled right
abbrev pub IsRight : Kind → List Bytes → Type 0
IsRight k ws = Has AtSight k ws × Has IsSpelled k ws

abbrev pub RightLines : Type 0
RightLines = (k : Kind) (ws : List Bytes) → (judge_kind k ws ≡ None) ↔ IsRight k ws

-- `Line`: its words are not those of the form, whatever numbers stand in it
abbrev pub WrongLines : Type 0
WrongLines = (k : Kind) (ws : List Bytes) → (judge_kind k ws ≡ Some fault.Line) ↔ (Has AtSight k ws → ⊥)

-- `Number`: they are, and one that is to be a number is none, or none of its range
abbrev pub WrongNumbers : Type 0
WrongNumbers = (k : Kind) (ws : List Bytes) → (judge_kind k ws ≡ Some fault.Number) ↔ (Has AtSight k ws × (Has IsSpelled k ws → ⊥))

-- and there is no third kind
abbrev pub NoOtherKind : Type 0
NoOtherKind = (k : Kind) (ws : List Bytes) (j : ListKind) → judge_kind k ws ≡ Some j → (j ≡ fault.Line) ⊎ (j ≡ fault.Number)

-- no instruction that keeps the rules here is spelled so
abbrev pub IsNoneHere : Context → List Bytes → Type 0
IsNoneHere c ws = (i : Instr) → Spells ws i → keeps c.monitors c.outputs c.head i ≡ true → ⊥

-- `Place`: a right line of an instruction that spells none which keeps the rules
abbrev pub WrongPlaces : Type 0
WrongPlaces = (c : Context) (ws : List Bytes) → (breaks_kind kind.Instruction c ws ≡ true) ↔ (IsRight kind.Instruction ws × IsNoneHere c ws)

-- ---- how long a listing is

abbrev pub buffer_count : Program → ℕ
buffer_count p = sum (map (λ t. length t.buffers) p.tasks)

-- the title, three counts and the end, and a line for each thing
abbrev pub line_count : Program → ℕ
line_count p = 5 + length p.monitors + length p.outputs + length p.tasks + buffer_count p + all_instructions p

-- a line takes at most 41 bytes
abbrev pub ListingIsShort : Type 0
ListingIsShort = (p : Program) → IsProgram p → length (listing p) ≤ 41 * line_count p

-- ---- read back

-- the listing of a program, not too long, is read as this program, or memory was wanting
abbrev pub ReadsBack : Bytes → Result Program ListFault → Type 0
ReadsBack bs r = (p : Program) → IsProgram p → bs ≡ listing p → length bs ≤ byte_limit → (r ≡ Ok p) ⊎ (r ≡ Err list_fault.NoMemory)
