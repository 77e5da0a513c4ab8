-- The checked tree of a file whose names are numbered is well numbered and typed.
use Rattle.std.proofs.Common.{◌≡◌, ℕ, suc, List, [], ◌∷◌, length, All, refl, ap, sym, subst, ◌∙◌, arith}
use Rattle.std.proofs.lemmas.List.Elements.{All-weaker}
use Rattle.tower_types.specs.Ty.{Fields}
use Rattle.tower_syntax.specs.RawTree.{Link, Raw}
use Rattle.tower_syntax.specs.declared.arch.SourceKind.{SourceKind}
use Rattle.tower_syntax.specs.declared.arch.SourceKind.TheVariants as kind
use Rattle.tower_syntax.specs.Arch.{Arch, Source, Handler}
use Rattle.tower_syntax.specs.Graph.{numbers_before}
use Rattle.tower_syntax.specs.WellNumbered.{IsNumberedType, IsNumberedSource, IsNumberedHandler, AreNumberedFields, IsWellNumbered}
use Rattle.tower_syntax.specs.Typed.{IsProperType, AreProperFields, HasItsMessage, IsTypedHandler, IsTyped}
use Rattle.arch_types.specs.Outline.{outline, with_handlers, Written, handlers_of}
use Rattle.arch_types.specs.File.{AreHandlers, IsChecked}
use Rattle.arch_types.specs.Numbered.{IsNumbered}
use Rattle.arch_types.specs.Scalars.{AreProperStmts}
use Rattle.arch_types.specs.Laws.{CheckedLaw, ScalarsLaw}
use Rattle.arch_types.proofs.SoundTypes.{Declared, AreDeclared, numbered_type, numbered_fields, ordered, records_numbered, proper}
use Rattle.arch_types.proofs.SoundFile.{few_records, few_sources, few_channels, few_outputs, few_monitors, names_of_records, IsShortRecord, HasMessage, IsSource, sources_are, channels_are, outputs_are, monitors_are, monitors_exist, outputs_listed, handlers_listed}
use Rattle.arch_types.proofs.SoundHandlers.{formed, IsRight, all_right}

same_count : (arch : Arch) (ws : List Written) (hs : List Handler) → AreHandlers arch ws hs → length hs ≡ length ws
same_count arch [] [] h = refl
same_count arch [] (x ∷ hs) h = absurd h
same_count arch (w ∷ ws) [] h = absurd h
same_count arch (w ∷ ws) (x ∷ hs) h = ap suc (same_count arch ws hs h.1)

module _ (raw : Raw Link) (n : IsNumbered raw) (hs : List Handler) (h : AreHandlers (outline raw) (handlers_of raw) hs) where
  abbrev outlined : Arch
  outlined = outline raw

  abbrev arch : Arch
  arch = with_handlers (outline raw) hs

  abbrev known : ℕ
  known = length (outlined).records

  rights : All (IsRight raw hs n) hs
  rights = all_right raw hs n (handlers_of raw) hs n.handlers (monitors_exist raw.items) h

  counted : length hs ≡ length (handlers_of raw)
  counted = same_count outlined (handlers_of raw) hs h

  tree_numbered : IsWellNumbered arch
  tree_numbered = record {
    version = n.version;
    countable = record {
      records = omega (arith, few_records raw.items, n.few);
      sources = omega (arith, few_sources raw.items, n.few);
      channels = omega (arith, few_channels raw.items, n.few);
      outputs = omega (arith, few_outputs raw.items, n.few);
      monitors = omega (arith, few_monitors raw.items, n.few);
      handlers = omega (arith, counted, n.few_handlers);
    };
    records = (ordered (outlined).records (formed raw hs n), records_numbered (outlined).records (formed raw hs n));
    record_names = names_of_records raw.items;
    sources = All-weaker (IsSource known raw.version) (IsNumberedSource arch) (λ s x. record { message = numbered_type known s.message x.message; depth = x.depth }) (outlined).sources
        (sources_are outlined raw.version 0 raw.items n.items);
    channels = All-weaker (λ c. Declared known c.message) (λ c. IsNumberedType known c.message) (λ c. numbered_type known c.message) (outlined).channels
        (channels_are outlined raw.version 0 raw.items n.items);
    outputs = outputs_are outlined raw.version 0 raw.items n.items;
    monitors = All-weaker (λ m. IsShortRecord known m.states) (λ m. AreNumberedFields known m.states) (λ m x. numbered_fields known m.states x.1 x.0) (outlined).monitors
        (monitors_are outlined raw.version 0 raw.items n.items);
    handlers = All-weaker (IsRight raw hs n) (IsNumberedHandler arch) (λ x r. r.numbered) hs rights;
    listeners = record {
      outputs = outputs_listed raw.items;
      handlers = handlers_listed raw.items ∙ ap (λ k. numbers_before k []) (sym counted);
    };
  }

  has_message : (s : Source) (k : SourceKind) → HasMessage s k → Declared known s.message → HasItsMessage arch s k
  has_message s kind.Init x d = x
  has_message s (kind.Period ms) x d = x
  has_message s kind.Signal x d = proper (outlined).records (formed raw hs n) s.message d

  all_proper : (fs : Fields) → AreDeclared known fs → AreProperFields arch fs
  all_proper fs d = All-weaker (λ f. Declared known f.1) (λ f. IsProperType arch f.1) (λ f. proper (outlined).records (formed raw hs n) f.1) fs d

  tree_typed : IsTyped arch
  tree_typed = record {
    sources = All-weaker (IsSource known raw.version) (λ s. HasItsMessage arch s s.kind) (λ s x. has_message s s.kind x.kind x.message) (outlined).sources
        (sources_are outlined raw.version 0 raw.items n.items);
    channels = All-weaker (λ c. Declared known c.message) (λ c. IsProperType arch c.message) (λ c. proper (outlined).records (formed raw hs n) c.message) (outlined).channels
        (channels_are outlined raw.version 0 raw.items n.items);
    monitors = All-weaker (λ m. IsShortRecord known m.states) (λ m. AreProperFields arch m.states) (λ m x. all_proper m.states x.0) (outlined).monitors
        (monitors_are outlined raw.version 0 raw.items n.items);
    handlers = All-weaker (IsRight raw hs n) (IsTypedHandler arch) (λ x r. r.typed) hs rights;
  }

pub well_numbered : (raw : Raw Link) (arch : Arch) → IsNumbered raw → IsChecked raw arch → IsWellNumbered arch
well_numbered raw arch n c = subst IsWellNumbered (sym c.outlined) (tree_numbered raw n arch.handlers c.handlers)

pub typed : (raw : Raw Link) (arch : Arch) → IsNumbered raw → IsChecked raw arch → IsTyped arch
typed raw arch n c = subst IsTyped (sym c.outlined) (tree_typed raw n arch.handlers c.handlers)

pub checked : CheckedLaw
checked raw arch n c = (well_numbered raw arch n c, typed raw arch n c)

pub proper_scalars : ScalarsLaw
proper_scalars raw arch n c =
    All-weaker (IsRight raw arch.handlers n) (λ h. All (λ b. AreProperStmts b.stmts) h.callbacks) (λ x r. r.proper) arch.handlers (rights raw n arch.handlers c.handlers)
