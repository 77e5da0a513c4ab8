-- A printed file reads back: its items, and their parts.
use Rattle.std.proofs.Common.{◌≡◌, ℕ, zero, suc, min, List, [], ◌∷◌, Option, Some, None, refl, ap, ◌∙◌, arith}
use Rattle.std.specs.Prelude.{codes}
use Rattle.std.specs.List.{All, filter_map}
use Rattle.std.proofs.lemmas.List.Elements.{All-head, All-tail}
use Rattle.tower_syntax.specs.RawTree.{Id, RawType, RawField, RawHpart, emitter, callback, RawPart, state, handler, RawItem, fields, init, period, signal, channel, output, monitor, Raw}
use Rattle.tower_syntax.specs.Words.{IsName, IsWithin, tower_word}
use Rattle.tower_syntax.specs.Printed.{field_form, hpart_form, part_form, item_form, raw_form}
use Rattle.tower_syntax.specs.Printable.{IsPrintableField, IsPrintableHpart, IsPrintablePart, IsPrintableItem, IsPrintable}
use Rattle.tower_reader.specs.declared.table.Place.{Place}
use Rattle.tower_reader.specs.declared.table.Place.TheVariants as place
use Rattle.tower_reader.specs.declared.table.Row.TheVariants as row
use Rattle.tower_reader.specs.declared.table.ItemRow.TheVariants as item
use Rattle.tower_reader.specs.declared.table.PartRow.TheVariants as part
use Rattle.tower_reader.specs.Table.{row_of}
use Rattle.tower_reader.specs.Part.{Part, a_number, a_tower, as_name, as_number, as_byte, if_field, if_hpart, if_part, if_item}
use Rattle.tower_reader.specs.Spelled.{fitting}
use Rattle.tower_reader.specs.Alike.{bare_field, bare_hpart, bare_part, bare_item, bare}
use Rattle.tower_reader.proofs.RowsBack.{Backs, two, three, four, one_and_more, two_and_more, HasMore, placed, map_option, option_cons, list_backs}
use Rattle.tower_reader.proofs.ExprsBack.{name_backs, number_backs, type_backs}
use Rattle.tower_reader.proofs.StmtsBack.{stmts_back}

-- The parts of records and monitors.

abbrev IsField : RawField Id → Part → Type 0
IsField f q = map_option bare_field (if_field q) ≡ Some (bare_field f)

field_backs : (f : RawField Id) → IsPrintableField f → Backs place.Field (field_form f) (IsField f)
field_backs f h = two place.Field (row.Part part.Field) (codes "field") refl (name_backs place.Name refl f.name h.0) (type_backs f.ty h.1) (λ n a b k l j. Some (record { at = 0; name = k j; ty = l j }))

callback_more : HasMore (row.Part part.Callback) 1 place.Stmt
callback_more = record { places = refl; more = refl }

hpart_backs : (x : RawHpart Id) → IsPrintableHpart x → Backs place.Hpart (hpart_form x) (λ q. map_option bare_hpart (if_hpart q) ≡ Some (bare_hpart x))
hpart_backs (emitter at i c m) h = three place.Hpart (row.Part part.Emitter) (codes "emitter") refl (name_backs place.Name refl i h.0) (name_backs place.Use refl c h.1) (number_backs place.Bound 0 65536 refl m h.2) (λ n a b d k l o j. Some (emitter 0 (k j) (l j) (as_number (o j))))
hpart_backs (callback at i ss) h = one_and_more place.Hpart (row.Part part.Callback) (codes "callback") refl callback_more (name_backs place.Name refl i h.0) (stmts_back ss h.1 (row.Part part.Callback) 1 (placed callback_more)) (λ n a bs k l j. Some (callback 0 (k j) (l j)))

handler_more : HasMore (row.Part part.Handler) 2 place.Hpart
handler_more = record { places = refl; more = refl }

part_backs : (x : RawPart Id) → IsPrintablePart x → Backs place.Part (part_form x) (λ q. map_option bare_part (if_part q) ≡ Some (bare_part x))
part_backs (state at i t) h = two place.Part (row.Part part.State) (codes "state") refl (name_backs place.Name refl i h.0) (type_backs t h.1) (λ n a b k l j. Some (state 0 (k j) (l j)))
part_backs (handler at i on hs) h =
    two_and_more place.Part (row.Part part.Handler) (codes "handler") refl handler_more (name_backs place.Name refl i h.0) (name_backs place.Use refl on h.1)
    (list_backs bare_hpart if_hpart hpart_form IsPrintableHpart place.Hpart (row.Part part.Handler) 2 hpart_backs (placed handler_more) hs h.2)
    (λ n a b cs k l m j. Some (handler 0 (k j) (l j) (m j)))

-- Items of both versions.

-- a number of one byte
byte_is : (q : Part) (m : ℕ) → q ≡ a_number m → IsWithin 0 255 m → as_byte q ≡ m
byte_is q m e h = let k : min m 255 ≡ m = omega arith in ap as_byte e ∙ k

abbrev IsItem : RawItem Id → Part → Type 0
IsItem x q = map_option bare_item (if_item q) ≡ Some (bare_item x)

-- a place where the items of a version are read
record TakesItems (version : ℕ) (p : Place) : Type 0 where
  records : row_of p (codes "record") ≡ Some (row.Item item.Record)
  inits : fitting 2 (row_of p (codes "init")) ≡ Some (row.Item item.Init)
  periods : version ≡ 1 → fitting 3 (row_of p (codes "period")) ≡ Some (row.Item item.Period)
  deep_periods : version ≡ 2 → fitting 4 (row_of p (codes "period")) ≡ Some (row.Item item.Period2)
  signals : version ≡ 1 → fitting 3 (row_of p (codes "signal")) ≡ Some (row.Item item.Signal)
  deep_signals : version ≡ 2 → fitting 4 (row_of p (codes "signal")) ≡ Some (row.Item item.Signal2)
  channels : fitting 2 (row_of p (codes "channel")) ≡ Some (row.Item item.Channel)
  outputs : fitting 2 (row_of p (codes "output")) ≡ Some (row.Item item.Output)
  monitors : row_of p (codes "monitor") ≡ Some (row.Item item.Monitor)

items_taken : TakesItems 1 place.Item
items_taken = record { records = refl; inits = refl; periods = λ e. refl; deep_periods = λ e. absurd (omega arith); signals = λ e. refl; deep_signals = λ e. absurd (omega arith); channels = refl; outputs = refl; monitors = refl }

deep_items_taken : TakesItems 2 place.Item2
deep_items_taken = record { records = refl; inits = refl; periods = λ e. absurd (omega arith); deep_periods = λ e. refl; signals = λ e. absurd (omega arith); deep_signals = λ e. refl; channels = refl; outputs = refl; monitors = refl }

record_more : HasMore (row.Item item.Record) 2 place.Field
record_more = record { places = refl; more = refl }

monitor_more : HasMore (row.Item item.Monitor) 1 place.Part
monitor_more = record { places = refl; more = refl }

record_backs : (version at : ℕ) (p : Place) → TakesItems version p → (i : Id) (fs : List (RawField Id)) → IsPrintableItem version (fields at i fs) → Backs p (item_form (fields at i fs)) (IsItem (fields at i fs))
record_backs version at p t i [] h = absurd (omega (arith, h.1))
record_backs version at p t i (f ∷ fs) h =
    two_and_more p (row.Item item.Record) (codes "record") t.records record_more (name_backs place.Name refl i h.0) (field_backs f (All-head IsPrintableField f fs h.2))
    (list_backs bare_field if_field field_form IsPrintableField place.Field (row.Item item.Record) 2 field_backs (placed record_more) fs (All-tail IsPrintableField f fs h.2))
    (λ n a b cs k l m. let q = option_cons bare_field (if_field b) f (filter_map if_field cs) fs l m in λ j. Some (fields 0 (k j) (q j)))

period_backs : (version at : ℕ) (p : Place) → TakesItems version p → (i : Id) (ms priority : ℕ) (d : Option ℕ) → IsPrintableItem version (period at i ms priority d) → Backs p (item_form (period at i ms priority d)) (IsItem (period at i ms priority d))
period_backs version at p t i ms priority None h =
    three p (row.Item item.Period) (codes "period") (t.periods h.3) (name_backs place.Name refl i h.0) (number_backs place.Period 1 1000000 refl ms h.1) (number_backs place.Priority 0 255 refl priority h.2)
    (λ n a b c k l m. let q = byte_is c priority m h.2 in λ j. Some (period 0 (k j) (as_number (l j)) (q j) None))
period_backs version at p t i ms priority (Some depth) h =
    four p (row.Item item.Period2) (codes "period") (t.deep_periods h.3.0) (name_backs place.Name refl i h.0) (number_backs place.Period 1 1000000 refl ms h.1) (number_backs place.Priority 0 255 refl priority h.2) (number_backs place.Depth 1 64 refl depth h.3.1)
    (λ n a b c d k l m o. let q = byte_is c priority m h.2 in λ j. Some (period 0 (k j) (as_number (l j)) (q j) (Some (as_number (o j)))))

signal_backs : (version at : ℕ) (p : Place) → TakesItems version p → (i : Id) (ty : RawType Id) (priority : ℕ) (d : Option ℕ) → IsPrintableItem version (signal at i ty priority d) → Backs p (item_form (signal at i ty priority d)) (IsItem (signal at i ty priority d))
signal_backs version at p t i ty priority None h =
    three p (row.Item item.Signal) (codes "signal") (t.signals h.3) (name_backs place.Name refl i h.0) (type_backs ty h.1) (number_backs place.Priority 0 255 refl priority h.2)
    (λ n a b c k l m. let q = byte_is c priority m h.2 in λ j. Some (signal 0 (k j) (l j) (q j) None))
signal_backs version at p t i ty priority (Some depth) h =
    four p (row.Item item.Signal2) (codes "signal") (t.deep_signals h.3.0) (name_backs place.Name refl i h.0) (type_backs ty h.1) (number_backs place.Priority 0 255 refl priority h.2) (number_backs place.Depth 1 64 refl depth h.3.1)
    (λ n a b c d k l m o. let q = byte_is c priority m h.2 in λ j. Some (signal 0 (k j) (l j) (q j) (Some (as_number (o j)))))

item_backs : (version : ℕ) (p : Place) → TakesItems version p → (x : RawItem Id) → IsPrintableItem version x → Backs p (item_form x) (IsItem x)
item_backs version p t (fields at i fs) h = record_backs version at p t i fs h
item_backs version p t (init at i m) h = two p (row.Item item.Init) (codes "init") t.inits (name_backs place.Name refl i h.0) (number_backs place.Priority 0 255 refl m h.1) (λ n a b k l. let q = byte_is b m l h.1 in λ j. Some (init 0 (k j) (q j)))
item_backs version p t (period at i ms m d) h = period_backs version at p t i ms m d h
item_backs version p t (signal at i ty m d) h = signal_backs version at p t i ty m d h
item_backs version p t (channel at i ty) h = two p (row.Item item.Channel) (codes "channel") t.channels (name_backs place.Name refl i h.0) (type_backs ty h.1) (λ n a b k l j. Some (channel 0 (k j) (l j)))
item_backs version p t (output at i c) h = two p (row.Item item.Output) (codes "output") t.outputs (name_backs place.Name refl i h.0) (name_backs place.Use refl c h.1) (λ n a b k l j. Some (output 0 (k j) (l j)))
item_backs version p t (monitor at i ps) h =
    one_and_more p (row.Item item.Monitor) (codes "monitor") t.monitors monitor_more (name_backs place.Name refl i h.0)
    (list_backs bare_part if_part part_form IsPrintablePart place.Part (row.Item item.Monitor) 1 part_backs (placed monitor_more) ps h.1)
    (λ n a bs k l j. Some (monitor 0 (k j) (l j)))

-- The file.

tower_more : HasMore row.Tower 1 place.Item
tower_more = record { places = refl; more = refl }

tower2_more : HasMore row.Tower2 1 place.Item2
tower2_more = record { places = refl; more = refl }

-- a tree is read, which is this tree, offsets apart
abbrev IsTower : Raw Id → Part → Type 0
IsTower r q = (s : Raw Id) × (q ≡ a_tower s) × (bare s ≡ bare r)

abbrev raw : ℕ → ℕ → Id → List (RawItem Id) → Raw Id
raw at version i xs = record { at = at; version = version; name = i; items = xs }

first_version : (at : ℕ) (i : Id) (xs : List (RawItem Id)) → IsName i.name → All (IsPrintableItem 1) xs → Backs place.Tower (raw_form (raw at 1 i xs)) (IsTower (raw at 1 i xs))
first_version at i xs h k =
    one_and_more place.Tower row.Tower (tower_word 1) refl tower_more (name_backs place.Name refl i h)
    (list_backs bare_item if_item item_form (IsPrintableItem 1) place.Item row.Tower 1 (item_backs 1 place.Item items_taken) (placed tower_more) xs k)
    (λ n a bs l m. (raw n 1 (as_name a) (filter_map if_item bs), refl, λ j. raw 0 1 (l j) (m j)))

second_version : (at : ℕ) (i : Id) (xs : List (RawItem Id)) → IsName i.name → All (IsPrintableItem 2) xs → Backs place.Tower (raw_form (raw at 2 i xs)) (IsTower (raw at 2 i xs))
second_version at i xs h k =
    one_and_more place.Tower row.Tower2 (tower_word 2) refl tower2_more (name_backs place.Name refl i h)
    (list_backs bare_item if_item item_form (IsPrintableItem 2) place.Item2 row.Tower2 1 (item_backs 2 place.Item2 deep_items_taken) (placed tower2_more) xs k)
    (λ n a bs l m. (raw n 2 (as_name a) (filter_map if_item bs), refl, λ j. raw 0 2 (l j) (m j)))

by_version : (at version : ℕ) (i : Id) (xs : List (RawItem Id)) → IsWithin 1 2 version → IsName i.name → All (IsPrintableItem version) xs → Backs place.Tower (raw_form (raw at version i xs)) (IsTower (raw at version i xs))
by_version at zero i xs w h k = absurd (omega (arith, w.0))
by_version at (suc zero) i xs w h k = first_version at i xs h k
by_version at (suc (suc zero)) i xs w h k = second_version at i xs h k
by_version at (suc (suc (suc m))) i xs w h k = absurd (omega (arith, w.1))

-- a printable file reads back
pub raw_backs : (r : Raw Id) → IsPrintable r → Backs place.Tower (raw_form r) (IsTower r)
raw_backs r h = by_version r.at r.version r.name r.items h.version h.name h.items
