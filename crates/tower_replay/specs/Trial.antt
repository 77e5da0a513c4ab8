-- How a replay ends, with what it has put on a sink.
use Rattle.std.specs.Prelude.{◌≡◌, ◌≤◌, ℕ, List, [], map, Bool, true, Option, Some, None, is_some}
use Rattle.tower_io.specs.declared.answers.Put.{Put}
use Rattle.tower_io.specs.declared.answers.Put.TheVariants as put
use Rattle.tower_io.specs.Faults.{Rose}
use Rattle.tower_io.specs.Sinks.{Adds, AddsPrefix}
use Rattle.tower_types.specs.View.{value_of}
use Rattle.tower_syntax.specs.declared.event.Mark.{Mark}
use Rattle.tower_syntax.specs.Arch.{Arch, Events}
use Rattle.tower_meaning.specs.Replayed.{replayed}
use Rattle.tower_meaning.specs.System.{system_of}
use Rattle.atomic_state.specs.Fitting.{IsStateOf}
use Rattle.tower_report.specs.Bytes.{Bytes}
use Rattle.tower_replay.specs.declared.trial.Replayed.{Replayed}
use Rattle.tower_replay.specs.declared.trial.Replayed.TheVariants as answer
use Rattle.tower_replay.specs.declared.trial.Tried.{Tried}

-- A replay with this text and this first misfit ended so. The whole text was put with no fault, or a put failed after a
-- first part of it, or nothing was put.
abbrev pub ReplayEnds : {S : Type 0} → (S → Option (List ℕ)) → (S → ℕ) → S → S → Bytes → Option ℕ → Replayed → Type 0
ReplayEnds written faults old new text misfit answer.Done = (misfit ≡ None) × Adds (written old) (written new) text × (faults new ≡ faults old)
ReplayEnds written faults old new text misfit answer.Misfit = (is_some misfit ≡ true) × Adds (written old) (written new) text × (faults new ≡ faults old)
ReplayEnds written faults old new text misfit answer.WriteFault = AddsPrefix (written old) (written new) text × Rose (faults old) (faults new)
ReplayEnds written faults old new text misfit answer.NoMemory = new ≡ old

-- ---- the parts of the call

-- the marks were tried, and an empty page is there for the text
pub record HasTried (arch : Arch) (events : Events) (marks : List Mark) (t : Tried) : Type 0 where
  pub comes_to : replayed (system_of arch) events marks ≡ record { state = t.verdict.state.state; misfit = t.verdict.misfit }
  pub made : IsStateOf arch events t.verdict.state
  pub monitors : map value_of t.monitors.items ≡ t.verdict.state.state.monitors
  pub held : t.page.held ≡ []

-- the answer of a replay with this first misfit, whose last put was so
abbrev pub replayed_of : Put → Option ℕ → Replayed
replayed_of put.Done None = answer.Done
replayed_of put.Done (Some k) = answer.Misfit
replayed_of put.Failed misfit = answer.WriteFault

-- the text was put, and it takes no memory more
pub record PutsTried {S : Type 0} (written : S → Option (List ℕ)) (faults : S → ℕ) (old new : S) (text : Bytes) (misfit : Option ℕ) (result : Replayed) : Type 0 where
  pub ends : ReplayEnds written faults old new text misfit result
  pub never_falls : faults old ≤ faults new
