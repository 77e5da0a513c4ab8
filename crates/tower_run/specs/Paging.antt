-- Text that goes through a page to a sink.
use Rattle.std.specs.Prelude.{◌≡◌, ℕ, ◌≤◌, List, ◌++◌, Option}
use Rattle.tower_io.specs.declared.answers.Put.{Put}
use Rattle.tower_io.specs.declared.answers.Put.TheVariants as put
use Rattle.tower_io.specs.Faults.{Rose}
use Rattle.tower_io.specs.Sinks.{Adds, AddsPrefix}
use Rattle.tower_report.specs.Bytes.{Bytes}

-- a page: the bytes that are still to go to the sink, and the puts that did not fit
pub record Paged : Type 0 where
  pub held : Bytes
  pub faults : ℕ

module _ {S : Type 0} (written : S → Option (List ℕ)) (faults : S → ℕ) where
  -- since `first` this text was put: the sink has taken a first part of it, and the page holds the rest
  pub record HasPut (first out : S) (held text : Bytes) : Type 0 where
    pub sent : Bytes
    pub whole : sent ++ held ≡ text
    pub adds : Adds (written first) (written out) sent
    pub calm : faults out ≡ faults first

  -- since `first` a put failed, and the sink has taken a first part of this text
  pub record HasFailed (first out : S) (text : Bytes) : Type 0 where
    pub part : AddsPrefix (written first) (written out) text
    pub rose : Rose (faults first) (faults out)
    pub never_falls : faults first ≤ faults out

  abbrev pub AfterPut : S → S → Bytes → Bytes → Put → Type 0
  AfterPut first out held text put.Done = HasPut first out held text
  AfterPut first out held text put.Failed = HasFailed first out text

  -- this text was put, on the sink or on the page that stands before it
  pub record PutsOver (old : S) (before : Bytes) (new : S) (held text : Bytes) (answer : Put) : Type 0 where
    pub behind : (first : S) (told : Bytes) → HasPut first old before told → AfterPut first new held (told ++ text) answer
