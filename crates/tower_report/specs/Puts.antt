-- What a call says that puts a text on a sink.
use Rattle.std.specs.Prelude.{◌≡◌, ℕ, ◌≤◌, List, Option, Result, Ok, Err}
use Rattle.tower_io.specs.declared.answers.Put.{Put}
use Rattle.tower_io.specs.declared.answers.Put.TheVariants.{Done, Failed}
use Rattle.tower_io.specs.Faults.{Rose}
use Rattle.tower_io.specs.Sinks.{Adds, AddsPrefix, OnDone, OnPutFailed}
use Rattle.tower_report.specs.Bytes.{Bytes}

-- `Done`: the whole text was added, with no fault. `Failed`: a first part of it was added, and the faults rose.
pub record Puts {S : Type 0} (written : S → Option (List ℕ)) (faults : S → ℕ) (old new : S) (text : Bytes) (answer : Put) : Type 0 where
  pub all : OnDone answer (Adds (written old) (written new) text)
  pub calm : OnDone answer (faults new ≡ faults old)
  pub part : OnPutFailed answer (AddsPrefix (written old) (written new) text)
  pub rose : OnPutFailed answer (Rose (faults old) (faults new))
  pub never_falls : faults old ≤ faults new

abbrev pub answer_of : {T E : Type 0} → Result T E → Put
answer_of (Ok x) = Done
answer_of (Err e) = Failed
