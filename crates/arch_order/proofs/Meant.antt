-- What the uses of a file that lies in a text refer to exists.
use Rattle.std.proofs.Common.{◌≡◌, ℕ, suc, ◌+◌, ◌<◌, ◌≤◌, List, [], ◌∷◌, map, length, Option, Some, None, subst, arith}
use Rattle.tower_types.specs.Ty.{Name}
use Rattle.tower_syntax.specs.declared.named.Target.{Target}
use Rattle.tower_syntax.specs.declared.named.Target.TheVariants as target
use Rattle.tower_syntax.specs.RawTree.{Id, RawType, word, rec, array, RawPart, state, handler, RawItem, fields, init, period, signal, channel, output, monitor}
use Rattle.tower_syntax.specs.Arch.{Arch}
use Rattle.arch_names.specs.declared.names.Declared.{Declared}
use Rattle.arch_names.specs.declared.names.Thing.{Thing}
use Rattle.arch_names.specs.declared.names.Thing.TheVariants as thing
use Rattle.arch_names.specs.declared.names.Counts.{Counts}
use Rattle.arch_names.specs.declared.fault.Sort.TheVariants as sort
use Rattle.arch_names.specs.Names.{Find, serves}
use Rattle.arch_names.specs.Sets.{each, counting, handler_of, declared_by, counted}
use Rattle.arch_names.specs.Site.{Site, Means, IsUse}
use Rattle.arch_names.specs.Sites.{type_sites}
use Rattle.arch_names.specs.Linked.{linked_type, linked_item}
use Rattle.arch_types.specs.Numbered.{NamesRecord, IsWrittenType, type_nesting, IsChannel, IsHeard}
use Rattle.arch_types.specs.Outline.{record_of, source_of, channel_of}
use Rattle.arch_types.specs.Outline.{each as each_of}
use Rattle.arch_order.proofs.Lists.{AllOf, all_both}
use Rattle.arch_order.proofs.InText.{TypeLies}

-- a use refers to what the linking gives for it
abbrev pub IsMeant : (Site → Target) → Site → Type 0
IsMeant m s = IsUse s → Means s (m s)

-- of so many records, sources and channels
abbrev pub Exists : ℕ → ℕ → ℕ → Thing → Type 0
Exists r s c (thing.Record k) = k < r
Exists r s c (thing.Source k) = k < s
Exists r s c (thing.Channel k) = k < c
Exists r s c thing.Output = Unit {0}
Exists r s c thing.Monitor = Unit {0}
Exists r s c thing.Handler = Unit {0}

pub record_use : (r s c : ℕ) (w : Thing) (t : Target) → Exists r s c w → serves sort.Record w ≡ Some t → NamesRecord r t
record_use r s c (thing.Record k) t h e = let i : target.Record k ≡ t = cc in subst (NamesRecord r) i h
record_use r s c (thing.Source k) t h e = cc
record_use r s c (thing.Channel k) t h e = cc
record_use r s c thing.Output t h e = cc
record_use r s c thing.Monitor t h e = cc
record_use r s c thing.Handler t h e = cc

pub channel_use : (arch : Arch) (w : Thing) (t : Target) → Exists (length arch.records) (length arch.sources) (length arch.channels) w → serves sort.Channel w ≡ Some t → IsChannel arch t
channel_use arch (thing.Record k) t h e = cc
channel_use arch (thing.Source k) t h e = cc
channel_use arch (thing.Channel k) t h e = let i : target.Channel k ≡ t = cc in subst (IsChannel arch) i h
channel_use arch thing.Output t h e = cc
channel_use arch thing.Monitor t h e = cc
channel_use arch thing.Handler t h e = cc

pub heard_use : (arch : Arch) (w : Thing) (t : Target) → Exists (length arch.records) (length arch.sources) (length arch.channels) w → serves sort.SourceOrChannel w ≡ Some t → IsHeard arch t
heard_use arch (thing.Record k) t h e = cc
heard_use arch (thing.Source k) t h e = let i : target.Source k ≡ t = cc in subst (IsHeard arch) i h
heard_use arch (thing.Channel k) t h e = let i : target.Channel k ≡ t = cc in subst (IsHeard arch) i h
heard_use arch thing.Output t h e = cc
heard_use arch thing.Monitor t h e = cc
heard_use arch thing.Handler t h e = cc

-- the names of the handlers of a monitor
handlers_exist : (r s c : ℕ) (ps : List (RawPart Id)) → AllOf (λ e. Exists r s c e.1.what) (each handler_of ps)
handlers_exist r s c [] = tt
handlers_exist r s c (state at x t ∷ ps) = handlers_exist r s c ps
handlers_exist r s c (handler at x u hs ∷ ps) = (tt, handlers_exist r s c ps)

module _ (m : Site → Target) (file : Find Thing) where
  -- the file's names from some items on, behind so many
  pub things_exist : (items : List (RawItem Id)) (n : Counts) (r s c : ℕ)
      → n.records + length (each_of record_of (map (linked_item m file) items)) ≡ r
      → n.sources + length (each_of source_of (map (linked_item m file) items)) ≡ s
      → n.channels + length (each_of channel_of (map (linked_item m file) items)) ≡ c
      → AllOf (λ e. Exists r s c e.1.what) (counting declared_by counted n items)
  things_exist [] n r s c i j k = tt
  things_exist (fields at x fs ∷ items) n r s c i j k = (omega (arith, i), things_exist items (counted n (fields at x fs)) r s c (omega (arith, i)) j k)
  things_exist (init at x p ∷ items) n r s c i j k = (omega (arith, j), things_exist items (counted n (init at x p)) r s c i (omega (arith, j)) k)
  things_exist (period at x ms p d ∷ items) n r s c i j k = (omega (arith, j), things_exist items (counted n (period at x ms p d)) r s c i (omega (arith, j)) k)
  things_exist (signal at x t p d ∷ items) n r s c i j k = (omega (arith, j), things_exist items (counted n (signal at x t p d)) r s c i (omega (arith, j)) k)
  things_exist (channel at x t ∷ items) n r s c i j k = (omega (arith, k), things_exist items (counted n (channel at x t)) r s c i j (omega (arith, k)))
  things_exist (output at x u ∷ items) n r s c i j k = (tt, things_exist items n r s c i j k)
  things_exist (monitor at x ps ∷ items) n r s c i j k = (tt, all_both (λ e. Exists r s c e.1.what) (each handler_of ps) (counting declared_by counted n items) (handlers_exist r s c ps) (things_exist items n r s c i j k))

-- what is found names a record, where one is wanted
abbrev pub RecordsFit : ℕ → Find Thing → Type 0
RecordsFit r file = (name : Name) (d : Declared Thing) (t : Target) → file name ≡ Some d → serves sort.Record d.what ≡ Some t → NamesRecord r t

-- the same of what is declared before an offset
abbrev pub EarlyRecordsFit : ℕ → ℕ → Find Thing → Type 0
EarlyRecordsFit before at file = (name : Name) (d : Declared Thing) (t : Target) → file name ≡ Some d → serves sort.Record d.what ≡ Some t → d.at < at → NamesRecord before t

module _ (m : Site → Target) (file : Find Thing) where
  pub type_written : (r : ℕ) → RecordsFit r file → (t : RawType Id) (n a b : ℕ) → TypeLies n t a b → AllOf (IsMeant m) (type_sites file None t) → IsWrittenType r (linked_type m file None t)
  type_written r f (word at s) n a b h u = h.1
  type_written r f (rec x) n a b h u = let k = u.0 tt in f x.name k.0 _ k.1 k.2
  type_written r f (array at len t) n a b h u = (h.1.1.1, h.1.1.2, type_written r f t (suc n) h.1.0 h.1.2.0 h.1.2.1 u)

  pub early_type_written : (before at : ℕ) → EarlyRecordsFit before at file → (t : RawType Id) (n a b : ℕ) → TypeLies n t a b → AllOf (IsMeant m) (type_sites file (Some at) t) → IsWrittenType before (linked_type m file (Some at) t)
  early_type_written before at f (word y s) n a b h u = h.1
  early_type_written before at f (rec x) n a b h u = let k = u.0 tt in f x.name k.0 _ k.1 k.2 k.3
  early_type_written before at f (array y len t) n a b h u = (h.1.1.1, h.1.1.2, early_type_written before at f t (suc n) h.1.0 h.1.2.0 h.1.2.1 u)

  pub type_nested : (within : Option ℕ) (t : RawType Id) (n a b : ℕ) → TypeLies n t a b → type_nesting (linked_type m file within t) + n ≤ 257
  type_nested within (word at s) n a b h = omega (arith, h.0.2)
  type_nested within (rec x) n a b h = omega (arith, h.2)
  type_nested within (array at len t) n a b h = let k = type_nested within t (suc n) h.1.0 h.1.2.0 h.1.2.1 in omega (arith, k)
