-- What a text is read as, computed: its tree, or its fault.
use Rattle.std.specs.Prelude.{ℕ, ◌≡◌, List, [], ◌∷◌, if◌then◌else◌, nat_lt, length, Option, Some, None, Result, Ok, Err}
use Rattle.tower_sexp.specs.declared.fault.SexpFault.{SexpFault}
use Rattle.tower_sexp.specs.declared.fault.SexpFault.TheVariants as token
use Rattle.tower_sexp.specs.Marks.{marks_of, tokens_of}
use Rattle.tower_sexp.specs.FirstFault.{first_fault}
use Rattle.tower_sexp.specs.Trees.{Trees}
use Rattle.tower_sexp.specs.Nesting.{trees_spelled}
use Rattle.tower_syntax.specs.RawTree.{Id, Raw}
use Rattle.tower_syntax.specs.RawView.{raw_of}
use Rattle.tower_syntax.specs.declared.raw.Raw.{Raw as RawValue}
use Rattle.tower_reader.specs.declared.fault.ReadFault.{ReadFault}
use Rattle.tower_reader.specs.declared.fault.ReadFault.TheVariants as fault
use Rattle.tower_reader.specs.declared.found.Found.{Found}
use Rattle.tower_reader.specs.declared.table.Row.TheVariants as row
use Rattle.tower_reader.specs.Part.{Part, as_tower}
use Rattle.tower_reader.specs.Spelled.{byte_limit}
use Rattle.tower_reader.specs.Reading.{offences_in, parts_of}
use Rattle.tower_reader.specs.Machine.{firsts, Frame}

-- a fault of the tokens
abbrev pub fault_of : SexpFault → ReadFault
fault_of (token.Byte at) = fault.Byte at
fault_of (token.Unopened at) = fault.Unopened at
fault_of (token.Nest at) = fault.Nest at
fault_of (token.Unclosed at) = fault.Unclosed at
fault_of token.Empty = fault.Empty
fault_of token.NoMemory = fault.NoMemory

-- the tree of the first part
abbrev pub by_parts : List Part → Result (Raw Id) ReadFault
by_parts [] = Err fault.Empty
by_parts (p ∷ ps) = Ok (as_tower p)

abbrev pub by_length : Option ℕ → List Part → Result (Raw Id) ReadFault
by_length (Some at) ps = Err (fault.Length at)
by_length None ps = by_parts ps

abbrev pub by_number : Option ℕ → Option ℕ → List Part → Result (Raw Id) ReadFault
by_number (Some at) l ps = Err (fault.Number at)
by_number None l ps = by_length l ps

abbrev pub by_form : Option ℕ → Option ℕ → Option ℕ → List Part → Result (Raw Id) ReadFault
by_form (Some at) n l ps = Err (fault.Form at)
by_form None n l ps = by_number n l ps

-- the first form fault of a file, else the first number, else the first length, else the tree
abbrev pub by_found : Found → List Part → Result (Raw Id) ReadFault
by_found o ps = by_form o.form o.number o.length ps

abbrev pub by_trees : Trees → Result (Raw Id) ReadFault
by_trees ts = by_found (firsts (offences_in row.File 0 ts)) (parts_of row.File 0 ts)

abbrev pub by_tokens : Option SexpFault → Trees → Result (Raw Id) ReadFault
by_tokens (Some f) ts = Err (fault_of f)
by_tokens None ts = by_trees ts

-- what a text is read as
abbrev pub verdict : List ℕ → Result (Raw Id) ReadFault
verdict bs = if nat_lt byte_limit (length bs) then Err (fault.Long byte_limit) else by_tokens (first_fault (marks_of bs)) (trees_spelled (tokens_of bs))

-- what the frames that are left at the end of a text say
abbrev pub outcome : List Frame → Result (Raw Id) ReadFault
outcome [] = Err fault.Empty
outcome (f ∷ fs) = by_found f.found f.parts

abbrev pub Fails : ReadFault → Result (Raw Id) ReadFault → Type 0
Fails fault.NoMemory v = Unit {0}
Fails f v = v ≡ Err f

-- an answer is the verdict, unless memory ran out
abbrev pub Gives : Result RawValue ReadFault → Result (Raw Id) ReadFault → Type 0
Gives (Ok r) v = v ≡ Ok (raw_of r)
Gives (Err f) v = Fails f v
