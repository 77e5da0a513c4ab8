-- The numbers of a file are in their ranges and its records have fields; so are and have those of its checked tree.
use Rattle.std.proofs.Common.{ℕ, ◌+◌, ◌<◌, List, [], ◌∷◌, length, All, sym, subst}
use Rattle.std.proofs.lemmas.List.{length-map}
use Rattle.tower_syntax.specs.RawTree.{Link, RawHpart, emitter, callback, RawPart, state, handler, RawItem, fields, init, period, signal, channel, output, monitor, Raw}
use Rattle.tower_syntax.specs.Words.{IsPeriod, IsBound}
use Rattle.tower_syntax.specs.Arch.{Arch, Source, Emitter, Handler}
use Rattle.arch_types.specs.Outline.{each, field, record_of, source_of, outline, Written, written_of, handlers_from, handlers_of, emitter_of}
use Rattle.arch_types.specs.File.{AreHandlers, IsChecked}
use Rattle.arch_types.specs.Ranged.{IsKind, IsSomeDepth}
use Rattle.arch_types.proofs.Lists.{AllOf, all_both, all_more, each_element}

-- ---- of a file, with whatever its uses are

module _ {U : Type 0} where
  abbrev pub HpartRanged : RawHpart U → Type 0
  HpartRanged (emitter at x u n) = IsBound n
  HpartRanged (callback at x ss) = Unit {0}

  abbrev pub PartRanged : RawPart U → Type 0
  PartRanged (state at x t) = Unit {0}
  PartRanged (handler at x u hs) = AllOf HpartRanged hs

  abbrev pub ItemRanged : RawItem U → Type 0
  ItemRanged (fields at x fs) = 0 < length fs
  ItemRanged (period at x ms p d) = IsPeriod ms × IsSomeDepth d
  ItemRanged (signal at x t p d) = IsSomeDepth d
  ItemRanged (monitor at x ps) = AllOf PartRanged ps
  ItemRanged _ = Unit {0}

-- ---- of its checked tree

records_ranged : (items : List (RawItem Link)) → AllOf ItemRanged items → AllOf (λ fs. 0 < length fs) (each record_of items)
records_ranged [] h = tt
records_ranged (fields at x fs ∷ items) h = (subst (λ n. 0 < n) (sym (length-map fs field)) h.0, records_ranged items h.1)
records_ranged (init at x p ∷ items) h = records_ranged items h.1
records_ranged (period at x ms p d ∷ items) h = records_ranged items h.1
records_ranged (signal at x t p d ∷ items) h = records_ranged items h.1
records_ranged (channel at x t ∷ items) h = records_ranged items h.1
records_ranged (output at x u ∷ items) h = records_ranged items h.1
records_ranged (monitor at x ps ∷ items) h = records_ranged items h.1

abbrev SourceRanged : Source → Type 0
SourceRanged s = IsKind s.kind × IsSomeDepth s.depth

sources_ranged : (items : List (RawItem Link)) → AllOf ItemRanged items → AllOf SourceRanged (each source_of items)
sources_ranged [] h = tt
sources_ranged (fields at x fs ∷ items) h = sources_ranged items h.1
sources_ranged (init at x p ∷ items) h = ((tt, tt), sources_ranged items h.1)
sources_ranged (period at x ms p d ∷ items) h = (h.0, sources_ranged items h.1)
sources_ranged (signal at x t p d ∷ items) h = ((tt, h.0), sources_ranged items h.1)
sources_ranged (channel at x t ∷ items) h = sources_ranged items h.1
sources_ranged (output at x u ∷ items) h = sources_ranged items h.1
sources_ranged (monitor at x ps ∷ items) h = sources_ranged items h.1

abbrev WrittenRanged : Written → Type 0
WrittenRanged w = AllOf HpartRanged w.parts

written_ranged : (k : ℕ) (ps : List (RawPart Link)) → AllOf PartRanged ps → AllOf WrittenRanged (each (written_of k) ps)
written_ranged k [] h = tt
written_ranged k (state at x t ∷ ps) h = written_ranged k ps h.1
written_ranged k (handler at x u hs ∷ ps) h = (h.0, written_ranged k ps h.1)

handlers_ranged : (items : List (RawItem Link)) (k : ℕ) → AllOf ItemRanged items → AllOf WrittenRanged (handlers_from k items)
handlers_ranged [] k h = tt
handlers_ranged (fields at x fs ∷ items) k h = handlers_ranged items k h.1
handlers_ranged (init at x p ∷ items) k h = handlers_ranged items k h.1
handlers_ranged (period at x ms p d ∷ items) k h = handlers_ranged items k h.1
handlers_ranged (signal at x t p d ∷ items) k h = handlers_ranged items k h.1
handlers_ranged (channel at x t ∷ items) k h = handlers_ranged items k h.1
handlers_ranged (output at x u ∷ items) k h = handlers_ranged items k h.1
handlers_ranged (monitor at x ps ∷ items) k h = all_both WrittenRanged (each (written_of k) ps) (handlers_from (k + 1) items) (written_ranged k ps h.0) (handlers_ranged items (k + 1) h.1)

abbrev EmittersRanged : List Emitter → Type 0
EmittersRanged es = AllOf (λ e. IsBound e.bound) es

emitters_ranged : (hs : List (RawHpart Link)) → AllOf HpartRanged hs → EmittersRanged (each emitter_of hs)
emitters_ranged [] h = tt
emitters_ranged (emitter at x u n ∷ hs) h = (h.0, emitters_ranged hs h.1)
emitters_ranged (callback at x ss ∷ hs) h = emitters_ranged hs h.1

checked_ranged : (arch : Arch) (ws : List Written) (hs : List Handler) → AreHandlers arch ws hs → AllOf WrittenRanged ws → AllOf (λ h. All (λ e. IsBound e.bound) h.emitters) hs
checked_ranged arch [] [] are h = tt
checked_ranged arch [] (q ∷ hs) are h = absurd are
checked_ranged arch (w ∷ ws) [] are h = absurd are
checked_ranged arch (w ∷ ws) (q ∷ hs) are h = (subst (λ es. All (λ e. IsBound e.bound) es) (sym are.0.emitters) (each_element (λ e. IsBound e.bound) (each emitter_of w.parts) (emitters_ranged w.parts h.0)), checked_ranged arch ws hs are.1 h.1)

module _ (raw : Raw Link) (arch : Arch) (checked : IsChecked raw arch) (items : AllOf ItemRanged raw.items) where
  sources : AllOf SourceRanged arch.sources
  sources = subst (λ a. AllOf SourceRanged a.sources) (sym checked.outlined) (sources_ranged raw.items items)

  pub has_fields : All (λ fs. 0 < length fs) arch.records
  has_fields = subst (λ a. All (λ fs. 0 < length fs) a.records) (sym checked.outlined) (each_element (λ fs. 0 < length fs) (each record_of raw.items) (records_ranged raw.items items))

  pub kinds_ranged : All (λ s. IsKind s.kind) arch.sources
  kinds_ranged = each_element (λ s. IsKind s.kind) arch.sources (all_more SourceRanged (λ s. IsKind s.kind) (λ s r. r.0) arch.sources sources)

  pub depths_ranged : All (λ s. IsSomeDepth s.depth) arch.sources
  depths_ranged = each_element (λ s. IsSomeDepth s.depth) arch.sources (all_more SourceRanged (λ s. IsSomeDepth s.depth) (λ s r. r.1) arch.sources sources)

  pub bounds_ranged : All (λ h. All (λ e. IsBound e.bound) h.emitters) arch.handlers
  bounds_ranged = each_element (λ h. All (λ e. IsBound e.bound) h.emitters) arch.handlers (checked_ranged (outline raw) (handlers_of raw) arch.handlers checked.handlers (handlers_ranged raw.items 0 items))
