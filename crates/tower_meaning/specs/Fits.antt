-- Which values fit where in a system, and that the meaning keeps to it.
use Rattle.std.specs.Prelude.{◌≡◌, ℕ, suc, ◌<◌, List, length, take, All, Bool, true, pos, ◌&&◌, nat_lt, Some, slice_get}
use Rattle.tower_types.specs.Ty.{shape_in, shape_of_fields, table_of}
use Rattle.tower_types.specs.Value.{Value, word, fits}
use Rattle.tower_syntax.specs.declared.arch.SourceKind.TheVariants as kind
use Rattle.tower_syntax.specs.declared.arch.On.{On}
use Rattle.tower_syntax.specs.declared.arch.On.TheVariants as on
use Rattle.tower_syntax.specs.declared.arch.Listener.TheVariants as to
use Rattle.tower_syntax.specs.Arch.{Arch, Entry, Events}
use Rattle.tower_syntax.specs.Arrival.{ticks, brought}
use Rattle.tower_syntax.specs.Graph.{handler, output}
use Rattle.tower_syntax.specs.Weights.{message_on, states_of}
use Rattle.tower_meaning.specs.System.{system_of, Item}

-- a message of a source or channel
abbrev pub fits_on : Arch → On → Value → Bool
fits_on arch c v = fits (shape_in (table_of arch.records) (message_on arch c)) v

abbrev pub fits_message : Arch → ℕ → Value → Bool
fits_message arch x v = fits_on arch (on.Source x) v

-- a value of a monitor
abbrev pub fits_monitor : Arch → ℕ → Value → Bool
fits_monitor arch m v = fits (shape_of_fields (table_of arch.records) (states_of arch m)) v

-- the handler or output exists, and the message fits what it hears
abbrev pub fits_item : Arch → Item → Bool
fits_item arch (to.Handler h, v) = nat_lt h (length arch.handlers) && fits_on arch (handler arch h).on v
fits_item arch (to.Output o, v) = nat_lt o (length arch.outputs) && fits_on arch (on.Channel (output arch o).channel) v

abbrev pub FitItems : Arch → List Item → Type 0
FitItems arch items = All (λ i. fits_item arch i ≡ true) items

-- zero values fit, and so does all that a source delivers or a handler leaves
pub record KeepsTypes (arch : Arch) : Type 0 where
  pub zeros : (m : ℕ) (v : Value) → slice_get (system_of arch).zeros m ≡ Some v → fits_monitor arch m v ≡ true
  pub first_message : (x : ℕ) → slice_get (system_of arch).kinds x ≡ Some kind.Init → fits_message arch x (word (pos 0)) ≡ true
  pub delivered : (x : ℕ) (v : Value) → fits_message arch x v ≡ true → FitItems arch ((system_of arch).subscribers x v)
  pub has_monitor : (h : ℕ) (v : Value) → fits_item arch (to.Handler h, v) ≡ true → (system_of arch).monitor h < length (system_of arch).zeros
  pub after_fits : (h : ℕ) (v message : Value) → fits_monitor arch ((system_of arch).monitor h) v ≡ true → fits_item arch (to.Handler h, message) ≡ true
      → fits_monitor arch ((system_of arch).monitor h) ((system_of arch).effect h v message).states ≡ true
  pub sent_fit : (h : ℕ) (v message : Value) → fits_monitor arch ((system_of arch).monitor h) v ≡ true → fits_item arch (to.Handler h, message) ≡ true
      → FitItems arch ((system_of arch).follow h ((system_of arch).effect h v message).lists)

-- messages, each with the source that it is brought to
abbrev pub FitBrought : Arch → List (ℕ × Value) → Type 0
FitBrought arch messages = All (λ m. fits_message arch m.0 m.1 ≡ true) messages

-- each message that an entry brings fits its source
abbrev pub BringsFitting : Arch → Events → Type 0
BringsFitting arch events =
    (i : ℕ) (e : Entry) → slice_get events.entries i ≡ Some e → FitBrought arch (brought (system_of arch).kinds (ticks (take (suc i) events.entries)) e)
