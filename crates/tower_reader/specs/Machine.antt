-- The reader of tokens: the lists that are unclosed, and what a token makes of them.
use Rattle.std.specs.Prelude.{◌≡◌, ℕ, ◌+◌, min, length, List, [], ◌∷◌, ◌++◌, Bool, false, ◌&&◌, if◌then◌else◌, Option, Some, None, is_none}
use Rattle.tower_sexp.specs.declared.token.Token.{Token}
use Rattle.tower_sexp.specs.declared.token.Token.TheVariants as token
use Rattle.tower_sexp.specs.Trees.{Tree, atom, list, Trees, no_trees, tree}
use Rattle.tower_reader.specs.declared.table.Place.{Place}
use Rattle.tower_reader.specs.declared.table.Place.TheVariants as place
use Rattle.tower_reader.specs.declared.table.Row.{Row}
use Rattle.tower_reader.specs.declared.table.Row.TheVariants as row
use Rattle.tower_reader.specs.declared.found.Found.{Found}
use Rattle.tower_reader.specs.declared.frame.Heading.{Heading}
use Rattle.tower_reader.specs.declared.frame.Heading.TheVariants as heading
use Rattle.tower_reader.specs.Table.{atoms_at, row_of, place_at, count_fits}
use Rattle.tower_reader.specs.Part.{Part, nothing, build}
use Rattle.tower_reader.specs.Faults.{Offence}
use Rattle.tower_reader.specs.Reading.{first_form, first_number, first_length, atom_offences, atom_part, offences, part_of}

-- The first offence of each kind.

abbrev pub or_else : Option ℕ → Option ℕ → Option ℕ
or_else (Some a) b = Some a
or_else None b = b

abbrev pub merged : Found → Found → Found
merged a b = record { form = or_else a.form b.form; number = or_else a.number b.number; length = or_else a.length b.length }

abbrev pub firsts : List Offence → Found
firsts os = record { form = first_form os; number = first_number os; length = first_length os }

abbrev pub clean : Found
clean = record { form = None; number = None; length = None }

abbrev pub form_alone : ℕ → Found
form_alone at = record { form = Some at; number = None; length = None }

abbrev pub is_clean : Found → Bool
is_clean o = is_none o.form && is_none o.number && is_none o.length

-- Once something was found in a list, no part of a child is kept.

abbrev pub kept : Found → List Part → List Part
kept o ps = if is_clean o then ps else []

abbrev pub kept_part : Found → Part → Part
kept_part o p = if is_clean o then p else nothing

abbrev pub IsLean : Found → ℕ → Type 0
IsLean o n = is_clean o ≡ false → n ≡ 0

-- how many children are counted: more than any row has places
abbrev pub count_limit : ℕ
count_limit = 255

abbrev pub counted : ℕ → ℕ
counted n = min n count_limit

-- A list that is unclosed: its place and offset, what is known of its head, how many children came behind the head, the
-- parts that they are as long as nothing was found in them, and what was found.
pub record Frame : Type 0 where
  pub place : Place
  pub at : ℕ
  pub heading : Heading
  pub count : ℕ
  pub parts : List Part
  pub found : Found

-- of no list in which something was found a part is kept
abbrev pub AllLean : List Frame → Type 0
AllLean [] = Unit {0}
AllLean (f ∷ fs) = IsLean f.found (length f.parts) × AllLean fs

abbrev pub opened : Place → ℕ → Frame
opened p at = record { place = p; at = at; heading = heading.Fresh; count = 0; parts = []; found = clean }

-- the file, which is a row without a head
abbrev pub bottom : Frame
bottom = record { place = place.Nowhere; at = 0; heading = heading.Known row.File; count = 0; parts = []; found = clean }

abbrev pub IsFile : Frame → Type 0
IsFile f = f.heading ≡ heading.Known row.File

abbrev pub slot_by : Heading → ℕ → Place
slot_by heading.Fresh n = place.Nowhere
slot_by heading.Unknown n = place.Nowhere
slot_by (heading.Known r) n = place_at r n

-- the place of the next child
abbrev pub slot : Frame → Place
slot f = slot_by f.heading f.count

abbrev pub headed : Option Row → Heading
headed None = heading.Unknown
headed (Some r) = heading.Known r

abbrev pub taken_by : Heading → Part → Found → Frame → Frame
taken_by heading.Fresh p o f = record f { heading = heading.Unknown }
taken_by heading.Unknown p o f = f
taken_by (heading.Known r) p o f = record f { count = counted (f.count + 1); parts = kept (merged f.found o) (f.parts ++ p ∷ []); found = merged f.found o }

-- a child that is whole
abbrev pub taken_in : Part → Found → Frame → Frame
taken_in p o f = taken_by f.heading p o f

abbrev pub entered_by : Heading → ℕ → List ℕ → Frame → Frame
entered_by heading.Fresh at w f = record f { heading = headed (row_of f.place w) }
entered_by heading.Unknown at w f = f
entered_by (heading.Known r) at w f = taken_in (atom_part (atoms_at (slot f)) at w) (firsts (atom_offences (atoms_at (slot f)) at w)) f

-- an atom: the head, or a child
abbrev pub entered : ℕ → List ℕ → Frame → Frame
entered at w f = entered_by f.heading at w f

abbrev pub closed_by : Heading → Frame → Part × Found
closed_by heading.Fresh f = (nothing, form_alone f.at)
closed_by heading.Unknown f = (nothing, form_alone f.at)
closed_by (heading.Known r) f = if count_fits r f.count then (kept_part f.found (build r f.at f.parts), f.found) else (nothing, form_alone f.at)

-- what a list is once it is closed
abbrev pub closed : Frame → Part × Found
closed f = closed_by f.heading f

-- The steps; the innermost list stands first.

abbrev pub opens : ℕ → List Frame → List Frame
opens at [] = []
opens at (f ∷ fs) = opened (slot f) at ∷ f ∷ fs

abbrev pub closes : List Frame → List Frame
closes [] = []
closes (f ∷ []) = f ∷ []
closes (f ∷ g ∷ fs) = taken_in (closed f).0 (closed f).1 g ∷ fs

abbrev pub enters : ℕ → List ℕ → List Frame → List Frame
enters at w [] = []
enters at w (f ∷ fs) = entered at w f ∷ fs

abbrev pub step : Token → List Frame → List Frame
step (token.Left at) fs = opens at fs
step (token.Right at) fs = closes fs
step (token.Atom at w) fs = enters at w fs

abbrev pub run : List Token → List Frame → List Frame
run [] fs = fs
run (t ∷ ts) fs = run ts (step t fs)

-- what whole nodes make of a list
abbrev pub added : Tree → Frame → Frame
added (atom at w) f = entered at w f
added (list at ts) f = taken_in (part_of (slot f) (list at ts)) (firsts (offences (slot f) (list at ts))) f

abbrev pub added_all : Trees → Frame → Frame
added_all no_trees f = f
added_all (tree t ts) f = added_all ts (added t f)
