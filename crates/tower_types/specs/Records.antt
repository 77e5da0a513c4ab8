-- Lists of records as they may stand in a file, and what is kept beside them.
use Rattle.std.specs.Prelude.{◌≡◌, ℕ, ◌-◌, ◌^◌, ◌≤◌, min, List, length, map, All, Some, slice_get}
use Rattle.tower_types.specs.Ty.{Ty, Fields, Records, NamesBelow, nesting, table_of, words, depth}
use Rattle.tower_types.specs.View.{fields_of}
use Rattle.tower_types.specs.declared.records.Record.{Record}

-- a type that may stand where n records are known: it names only these, and its arrays nest at most 256 deep
abbrev pub IsTypeAmong : ℕ → Ty → Type 0
IsTypeAmong n t = NamesBelow n t × (nesting t ≤ 256)

-- each record names earlier records only
abbrev pub AreOrdered : Records → Type 0
AreOrdered records = (r : ℕ) (fields : Fields) → slice_get records r ≡ Some fields → All (λ f. IsTypeAmong r f.1) fields

-- a count that stays at the greatest 64-bit number
abbrev pub saturated : ℕ → ℕ
saturated n = min (2 ^ 64 - 1) n

-- the records that a list of kept records shows
abbrev pub records_of : List Record → Records
records_of kept = map (λ r. fields_of r.fields) kept

-- there are few enough records, they are ordered, and the kept numbers are theirs
pub record IsKept (kept : List Record) : Type 0 where
  pub few : length kept ≤ 2 ^ 32
  pub ordered : AreOrdered (records_of kept)
  pub words : map (λ r. r.words) kept ≡ map (λ s. saturated (words s)) (table_of (records_of kept))
  pub depth : map (λ r. r.depth) kept ≡ map (λ s. saturated (depth s)) (table_of (records_of kept))
