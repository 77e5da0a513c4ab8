-- What the law takes from a file.
use Rattle.std.specs.Prelude.{◌≡◌, ℕ, suc, ◌<◌, List, map, take, length, replicate, All, Bool, true, pos, Some, slice_get}
use Rattle.tower_types.specs.Value.{Value, word, flat}
use Rattle.tower_syntax.specs.declared.arch.SourceKind.TheVariants as kind
use Rattle.tower_syntax.specs.declared.arch.Listener.TheVariants as to
use Rattle.tower_syntax.specs.Arch.{Entry, Events}
use Rattle.tower_syntax.specs.Arrival.{ticks, brought}
use Rattle.tower_meaning.specs.System.{System, Item}
use Rattle.task_code.specs.Program.{Program}

-- the meaning, which values fit where, how many instructions one message may cost, and where buffers stand
pub record Setting : Type 0 where
  pub system : System
  pub fits_message : ℕ → Value → Bool  -- a message of this source
  pub fits_monitor : ℕ → Value → Bool  -- a value of this monitor
  pub fits_item : Item → Bool
  pub cost : ℕ → ℕ  -- of a source
  pub buffers : ℕ → ℕ → List ℕ  -- of a source and a handler: the places of its buffers in the source's task

abbrev pub FitItems : Setting → List Item → Type 0
FitItems s items = All (λ i. s.fits_item i ≡ true) items

-- the meaning keeps types
pub record KeepsTypes (s : Setting) : Type 0 where
  pub zeros : (m : ℕ) (v : Value) → slice_get s.system.zeros m ≡ Some v → s.fits_monitor m v ≡ true
  pub first_message : (x : ℕ) → slice_get s.system.kinds x ≡ Some kind.Init → s.fits_message x (word (pos 0)) ≡ true
  pub delivered : (x : ℕ) (v : Value) → s.fits_message x v ≡ true → FitItems s (s.system.subscribers x v)
  pub has_monitor : (h : ℕ) (v : Value) → s.fits_item (to.Handler h, v) ≡ true → s.system.monitor h < length s.system.zeros
  pub after_fits : (h : ℕ) (v message : Value) → s.fits_monitor (s.system.monitor h) v ≡ true → s.fits_item (to.Handler h, message) ≡ true → s.fits_monitor (s.system.monitor h) (s.system.effect h v message).states ≡ true
  pub sent_fit : (h : ℕ) (v message : Value) → s.fits_monitor (s.system.monitor h) v ≡ true → s.fits_item (to.Handler h, message) ≡ true → FitItems s (s.system.follow h (s.system.effect h v message).lists)

-- a program has a task for each source, and each monitor has as many words as its zero value
pub record IsFor (s : Setting) (p : Program) : Type 0 where
  pub tasks : length p.tasks ≡ length s.system.kinds
  pub monitors : map (λ n. replicate n (pos 0)) p.monitors ≡ map flat s.system.zeros

-- the record is one for these sources, and each message that it brings fits its source
pub record Fits (s : Setting) (events : Events) : Type 0 where
  pub kinds : events.kinds ≡ s.system.kinds
  pub depths : events.depths ≡ s.system.depths
  pub messages : (i : ℕ) (e : Entry) → slice_get events.entries i ≡ Some e → All (λ b. s.fits_message b.0 b.1 ≡ true) (brought s.system.kinds (ticks (take (suc i) events.entries)) e)
