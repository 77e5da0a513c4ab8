-- States that fit a system and an event record.
use Rattle.std.specs.Prelude.{◌≡◌, ℕ, List, map, take, length, All, true, slice_get, Option, Some, None, ◌<◌}
use Rattle.tower_types.specs.Value.{Value}
use Rattle.tower_syntax.specs.declared.arch.Listener.TheVariants as to
use Rattle.tower_syntax.specs.Arch.{Arch, Events, Entry, tick, signal}
use Rattle.tower_syntax.specs.Arrival.{ticks}
use Rattle.tower_syntax.specs.Typed.{IsTyped}
use Rattle.tower_syntax.specs.WellNumbered.{IsWellNumbered}
use Rattle.tower_meaning.specs.Atomic.{Atomic, Fit}
use Rattle.tower_meaning.specs.System.{Item, system_of}
use Rattle.tower_meaning.specs.Fits.{fits_monitor, fits_message, fits_item, FitItems}
use Rattle.atomic_state.specs.Kept.{Kept}

-- each value and each output fits its type; there is a value for each monitor, and a queue, a pending list and a lost number
-- for each source
pub record FitsState (arch : Arch) (s : Atomic) : Type 0 where
  pub monitors : (m : ℕ) (v : Value) → slice_get s.monitors m ≡ Some v → fits_monitor arch m v ≡ true
  pub monitor_count : length s.monitors ≡ length arch.monitors
  pub queues : (x : ℕ) (q : List Value) → slice_get s.queues x ≡ Some q → All (λ v. fits_message arch x v ≡ true) q
  pub queue_count : length s.queues ≡ length arch.sources
  pub pending : (x : ℕ) (items : List Item) → slice_get s.pending x ≡ Some items → FitItems arch items
  pub pending_count : length s.pending ≡ length arch.sources
  pub lost_count : length s.lost ≡ length arch.sources
  pub outputs : All (λ o. fits_item arch (to.Output o.0, o.1) ≡ true) s.outputs

-- the system is typed, the events and the state fit it, and so many ticks have arrived
pub record IsStateOf (arch : Arch) (events : Events) (s : Kept) : Type 0 where
  pub numbered : IsWellNumbered arch
  pub typed : IsTyped arch
  pub fit : Fit arch events
  pub state_fits : FitsState arch s.state
  pub counted : s.ticks ≡ ticks (take s.state.place events.entries)

-- an entry of a signal is for one of the first n sources
abbrev pub NamesQueue : ℕ → Option Entry → Type 0
NamesQueue n None = Unit {0}
NamesQueue n (Some tick) = Unit {0}
NamesQueue n (Some (signal x v)) = x < n
