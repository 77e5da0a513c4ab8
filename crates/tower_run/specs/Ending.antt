-- How a run ends, with what it has put on a sink.
use Rattle.std.specs.Prelude.{◌≡◌, ℕ, ◌<◌, ◌≤◌, replicate, List, [], ◌++◌, length, cond, Bool, true, false, Option, Some, None}
use Rattle.tower_syntax.specs.declared.event.Choice.{Choice}
use Rattle.tower_syntax.specs.Arch.{Arch, Events}
use Rattle.tower_syntax.specs.declared.event.Events.{Events as EventsValue}
use Rattle.tower_io.specs.declared.answers.Put.{Put}
use Rattle.tower_io.specs.declared.answers.Put.TheVariants as put
use Rattle.tower_io.specs.Faults.{Rose}
use Rattle.tower_io.specs.Sinks.{Adds, AddsPrefix}
use Rattle.task_code.specs.Program.{Program}
use Rattle.task_code.specs.Policy.{priorities}
use Rattle.task_code.specs.Tally.{waits}
use Rattle.task_code.specs.Plan.{plan, Planned, Planning, instructions}
use Rattle.task_machine.specs.State.{start}
use Rattle.tower_report.specs.declared.rule.Rule.{Rule}
use Rattle.tower_report.specs.Bytes.{Bytes}
use Rattle.tower_report.specs.RunText.{policy_of}
use Rattle.tower_report.specs.EndText.{Tally, end_text}
use Rattle.tower_run.specs.declared.run.Ran.{Ran}
use Rattle.tower_run.specs.declared.run.Ran.TheVariants as ran
use Rattle.tower_run.specs.declared.run.Begun.{Begun}
use Rattle.tower_run.specs.declared.going.Job.{Job}
use Rattle.tower_run.specs.declared.going.Going.{Going}
use Rattle.tower_run.specs.Paging.{HasPut, HasFailed}
use Rattle.tower_run.specs.Pieces.{IsFitMonitor}
use Rattle.tower_run.specs.Ceilings.{ceilings_given}
use Rattle.tower_run.specs.Scheduler.{scheduler_of, cores_by}
use Rattle.tower_run.specs.Going.{Course, by, begun, shown, cored, choosing, Tells}

-- does the plan of the run with these choices and at most so many instructions end stopped
abbrev pub run_stops : Arch → Program → Events → List Choice → ℕ → Option Rule → Bool
run_stops arch p events choices limit given = (plan (policy_of given arch p) p events choices limit).stopped

-- A run with this text, which stops or not, ended so. The whole text was put with no fault, or a put failed after a
-- first part of it, or nothing was put.
abbrev pub RunEnds : {S : Type 0} → (S → Option (List ℕ)) → (S → ℕ) → S → S → Bytes → Bool → Ran → Type 0
RunEnds written faults old new text stops ran.Done = (stops ≡ false) × Adds (written old) (written new) text × (faults new ≡ faults old)
RunEnds written faults old new text stops ran.Stopped = (stops ≡ true) × Adds (written old) (written new) text × (faults new ≡ faults old)
RunEnds written faults old new text stops ran.WriteFault = AddsPrefix (written old) (written new) text × Rose (faults old) (faults new)
RunEnds written faults old new text stops ran.NoMemory = new ≡ old

-- ---- the parts of the call

-- a run of this program on this record that has not begun, by the rule that was given
pub record IsBegun (arch : Arch) (p : Program) (events : EventsValue) (given : Option Rule) (b : Begun) : Type 0 where
  pub rule : b.rule ≡ scheduler_of given (priorities p) (ceilings_given given arch)
  pub tasks : b.tasks ≡ length p.tasks
  pub machine : b.run.machine ≡ start p events
  pub held : b.run.page.held ≡ []
  pub busy : length b.run.busy.items ≡ length p.tasks
  pub count : b.run.count ≡ 0
  pub waits : b.run.waits ≡ 0
  pub cores : b.run.cores.items ≡ replicate (cores_by b.rule) 0

-- the lines at the end can be put
pub record CanEnd (j : Job) (r : Going) : Type 0 where
  pub monitors : (m : ℕ) → m < length j.arch.now.monitors → IsFitMonitor j.arch.now r.machine m
  pub sources : length j.arch.now.sources ≡ length r.machine.program.tasks
  pub cores : length r.cores.items ≤ 64

-- the answer of a run whose last put was so
abbrev pub ran_of : Put → Bool → Ran
ran_of put.Done stopped = cond stopped ran.Stopped ran.Done
ran_of put.Failed stopped = ran.WriteFault

-- the number of the waits, where they are counted
abbrev pub waits_in : Course → List Planned → Option ℕ
waits_in c steps = cond c.counting (Some (waits (by c) c.program c.events (begun c) steps)) None

abbrev pub tally_of : Course → List Planned → Tally
tally_of c steps = record { count = instructions steps; waits = waits_in c steps; cores = cored c steps }

-- the text of a run with this plan
abbrev pub whole_text : Course → Planning → Bytes
whole_text c s = shown c s.steps ++ end_text c.arch s.run.machine (tally_of c s.steps) s.stopped

module _ {S : Type 0} (written : S → Option (List ℕ)) (faults : S → ℕ) where
  -- since `first` the run with this plan ended so
  abbrev pub Ended : Course → Planning → S → S → Ran → Type 0
  Ended c s first out ran.Done = (s.stopped ≡ false) × HasPut written faults first out [] (whole_text c s)
  Ended c s first out ran.Stopped = (s.stopped ≡ true) × HasPut written faults first out [] (whole_text c s)
  Ended c s first out ran.WriteFault = HasFailed written faults first out (whole_text c s)
  Ended c s first out ran.NoMemory = ⊥

  -- a run whose plan is at its end, stopped or not, has ended so
  abbrev pub EndsRun : Job → Going → S → S → Bool → Ran → Type 0
  EndsRun j r from to stopped result = (c : Course) (s : Planning) (first : S) → Tells written faults c s stopped first j r from → Ended c s first to result

  -- a run was carried out by these choices
  abbrev pub CarriesOut : Job → Going → S → S → List Choice → Ran → Type 0
  CarriesOut j r from to choices result = (c : Course) (s : Planning) (first : S) → Tells written faults c s false first j r from → Ended c (choosing choices c s) first to result
