-- When the names of a file are right, apart from its offsets: each set has each name once, and whatever is used or bound
-- is right where it stands. A record is known in those behind it.
use Rattle.std.specs.Prelude.{◌≡◌, ℕ, ◌+◌, nat_lt, List, [], ◌∷◌, ◌&&◌, Bool, true, false, Option, Some, None, is_some, is_none}
use Rattle.std.specs.Option.{option_map, unwrap_or}
use Rattle.std.specs.List.{list_all}
use Rattle.tower_syntax.specs.RawTree.{Id, RawType, word, rec, array, RawField, RawHpart, emitter, callback, RawPart, state, handler, RawItem, fields, init, period, signal, channel, output, monitor, Raw}
use Rattle.tower_syntax.specs.declared.named.Target.{Target}
use Rattle.tower_syntax.specs.declared.named.Target.TheVariants as target
use Rattle.tower_reader.specs.Alike.{IsAlike}
use Rattle.arch_names.specs.declared.names.Declared.{Declared}
use Rattle.arch_names.specs.declared.names.Thing.{Thing}
use Rattle.arch_names.specs.declared.names.Thing.TheVariants as thing
use Rattle.arch_names.specs.declared.fault.Sort.{Sort}
use Rattle.arch_names.specs.declared.fault.Sort.TheVariants as sort
use Rattle.arch_names.specs.Names.{Find, find, serves}
use Rattle.arch_names.specs.Sets.{fields_of, emitters_of, states_of, declared_in}
use Rattle.arch_names.specs.Trees.{AreOnce}
use Rattle.arch_names.specs.Site.{Site, declares, binds, refers, part_type, picks}
use Rattle.arch_names.specs.Sites.{Around, around, entry, in_scope, no_names, new_name, type_sites, all_sites, sites}
use Rattle.arch_names.specs.Linked.{linked}
use Rattle.arch_names.specs.Written.{Ascends}
use Rattle.arch_names.specs.Walk.{first}
use Rattle.arch_names.specs.Resolved.{IsLinked}
use Rattle.printed_files.specs.Bare.{bare_raw}

-- what a name is declared as
abbrev pub what_of : {T : Type 0} → Option (Declared T) → Option T
what_of found = option_map (λ d. d.what) found

abbrev pub serving : Sort → Option Thing → Option Target
serving want None = None
serving want (Some t) = serves want t

-- what a use refers to, where records stand behind those that they have in them
abbrev pub plainly : Site → Target
plainly (declares at x) = target.Param
plainly (binds at x) = target.Param
plainly (refers want found u) = unwrap_or (serving want (what_of found)) target.Param
plainly (part_type record_at found u) = unwrap_or (serving sort.Record (what_of found)) target.Param
plainly (picks found u) = unwrap_or (what_of found) target.Param

-- a use, or a name that a callback binds, without a fault
abbrev pub is_right : Site → Bool
is_right (declares at x) = false
is_right (binds other x) = is_none other
is_right (refers want found u) = is_some (serving want (what_of found))
is_right (part_type record_at found u) = false
is_right (picks found u) = is_some (what_of found)

abbrev pub are_right : List Site → Bool
are_right ss = list_all is_right ss

abbrev pub hpart_fits : Around → RawHpart Id → Bool
hpart_fits a (emitter at x u bound) = is_right (refers sort.Channel (a.file u.name) u)
hpart_fits a (callback at x ss) = are_right (new_name (in_scope a.states no_names) x ∷ all_sites a (entry x) ss)

abbrev pub part_fits : Find Thing → Find Target → RawPart Id → Bool
part_fits file states (state at x t) = are_right (type_sites file None t)
part_fits file states (handler at x u hs) = is_right (refers sort.SourceOrChannel (file u.name) u) && list_all (hpart_fits (around file states hs)) hs

-- one of the first n records
abbrev pub is_earlier : ℕ → Option Thing → Bool
is_earlier n (Some (thing.Record r)) = nat_lt r n
is_earlier n _ = false

abbrev pub type_is_earlier : Find Thing → ℕ → RawType Id → Bool
type_is_earlier file n (word at s) = true
type_is_earlier file n (rec u) = is_earlier n (what_of (file u.name))
type_is_earlier file n (array at k t) = type_is_earlier file n t

abbrev pub field_fits : Find Thing → ℕ → RawField Id → Bool
field_fits file n f = type_is_earlier file n f.ty

-- an item before which n records stand
abbrev pub item_fits : Find Thing → ℕ → RawItem Id → Bool
item_fits file n (fields at x fs) = list_all (field_fits file n) fs
item_fits file n (init at x p) = true
item_fits file n (period at x ms p d) = true
item_fits file n (signal at x t p d) = are_right (type_sites file None t)
item_fits file n (channel at x t) = are_right (type_sites file None t)
item_fits file n (output at x u) = is_right (refers sort.Channel (file u.name) u)
item_fits file n (monitor at x ps) = list_all (part_fits file (find (states_of ps))) ps

-- how many records stand before the next
abbrev pub records_after : ℕ → RawItem Id → ℕ
records_after n (fields at x fs) = n + 1
records_after n (init at x p) = n
records_after n (period at x ms p d) = n
records_after n (signal at x t p d) = n
records_after n (channel at x t) = n
records_after n (output at x u) = n
records_after n (monitor at x ps) = n

abbrev pub items_fit : Find Thing → ℕ → List (RawItem Id) → Bool
items_fit file n [] = true
items_fit file n (x ∷ xs) = item_fits file n x && items_fit file (records_after n x) xs

abbrev pub names_fit : Raw Id → Bool
names_fit raw = items_fit (find (declared_in raw.items)) 0 raw.items

-- it holds of each
abbrev pub Each : {X : Type 0} → (X → Type 0) → List X → Type 0
Each P [] = Unit {0}
Each P (x ∷ xs) = P x × Each P xs

-- the sets inside the items
abbrev pub HasEmittersOnce : RawPart Id → Type 0
HasEmittersOnce (state at x t) = Unit {0}
HasEmittersOnce (handler at x u hs) = AreOnce (emitters_of hs)

abbrev pub HasSetsOnce : RawItem Id → Type 0
HasSetsOnce (fields at x fs) = AreOnce (fields_of fs)
HasSetsOnce (monitor at x ps) = AreOnce (states_of ps) × Each HasEmittersOnce ps
HasSetsOnce _ = Unit {0}

pub record HasFitNames (raw : Raw Id) : Type 0 where
  pub file : AreOnce (declared_in raw.items)
  pub inside : Each HasSetsOnce raw.items
  pub fits : names_fit raw ≡ true

-- such a file, in text order, has no offence of names, and its links are plain
abbrev pub FitNamesAreClean : Type 0
FitNamesAreClean = (raw : Raw Id) → Ascends raw → HasFitNames raw → (first (sites raw) ≡ None) × IsLinked raw (linked plainly raw)

-- whether names fit, and what they refer to, depends on no offset
abbrev pub FitHasNoOffsets : Type 0
FitHasNoOffsets = (r s : Raw Id) → IsAlike r s → HasFitNames r → HasFitNames s

abbrev pub LinksHaveNoOffsets : Type 0
LinksHaveNoOffsets = (r s : Raw Id) → IsAlike r s → bare_raw (linked plainly r) ≡ bare_raw (linked plainly s)
