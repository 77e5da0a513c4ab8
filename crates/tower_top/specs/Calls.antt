-- What a shelf and two sinks tell before and after a call.
use Rattle.std.specs.Prelude.{◌≡◌, ◌⊎◌, ◌≤◌, ℕ, List, [], Option, IfSome}
use Rattle.tower_io.specs.Faults.{Rose}
use Rattle.tower_io.specs.Sinks.{Adds, AddsPrefix}
use Rattle.tower_report.specs.Bytes.{Bytes}

-- the text of each name, where a shelf tells it
abbrev pub Held : Type 0
Held = List ℕ → Option (List ℕ)

-- the text is that of the name, where the shelf tells it
abbrev pub IsHeld : Held → List ℕ → List ℕ → Type 0
IsHeld held name text = IfSome (held name) (λ told. told ≡ text)

-- what a shelf tells at one moment
pub record ShelfTold : Type 0 where
  pub held : Held
  pub blamed : List ℕ
  pub faults : ℕ

-- what a sink tells at one moment
pub record SinkTold : Type 0 where
  pub written : Option (List ℕ)
  pub faults : ℕ

pub record Change (T : Type 0) : Type 0 where
  pub before : T
  pub after : T

-- what was not touched
abbrev pub still : {T : Type 0} → T → Change T
still told = record { before = told; after = told }

abbrev pub shelf_change : {S : Type 0} → (S → Held) → (S → List ℕ) → (S → ℕ) → S → S → Change ShelfTold
shelf_change held blamed faults old new = record {
  before = record { held = held old; blamed = blamed old; faults = faults old };
  after = record { held = held new; blamed = blamed new; faults = faults new };
}

abbrev pub sink_change : {S : Type 0} → (S → Option (List ℕ)) → (S → ℕ) → S → S → Change SinkTold
sink_change written faults old new = record {
  before = record { written = written old; faults = faults old };
  after = record { written = written new; faults = faults new };
}

-- what all three tell before and after a call
pub record Call : Type 0 where
  pub shelf : Change ShelfTold
  pub out : Change SinkTold
  pub err : Change SinkTold

abbrev pub IsSame : {T : Type 0} → Change T → Type 0
IsSame c = c.after ≡ c.before

-- the count of faults grew, or stands at its last value
abbrev pub HasRisen : Change SinkTold → Type 0
HasRisen c = Rose c.before.faults c.after.faults

-- the sink took this text, with no fault
pub record Gets (c : Change SinkTold) (text : Bytes) : Type 0 where
  pub adds : Adds c.before.written c.after.written text
  pub calm : c.after.faults ≡ c.before.faults

-- the sink took a first part of this text
pub record GetsPart (c : Change SinkTold) (text : Bytes) : Type 0 where
  pub part : AddsPrefix c.before.written c.after.written text
  pub never_falls : c.before.faults ≤ c.after.faults

-- the shelf could not give the text of this name, and holds what it held
pub record FailsAt (c : Change ShelfTold) (name : List ℕ) : Type 0 where
  pub blames : c.after.blamed ≡ name
  pub rose : Rose c.before.faults c.after.faults
  pub never_falls : c.before.faults ≤ c.after.faults
  pub holds : c.after.held ≡ c.before.held
