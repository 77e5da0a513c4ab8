-- A run that is going on, as the plan has it, with its text.
use Rattle.std.specs.Prelude.{◌≡◌, ℕ, suc, ◌+◌, ◌-◌, ◌≤◌, List, map, length, cond, Bool, true, false, ◌||◌, not, Option, Some, None, IfSome}
use Rattle.std.specs.List.{list_any}
use Rattle.tower_syntax.specs.declared.event.Choice.{Choice}
use Rattle.tower_syntax.specs.declared.event.Choice.TheVariants as choice
use Rattle.tower_syntax.specs.declared.event.Mark.{Mark}
use Rattle.tower_syntax.specs.Arch.{Arch, Events}
use Rattle.tower_syntax.specs.View.{events_of}
use Rattle.tower_io.specs.declared.answers.Put.{Put}
use Rattle.tower_io.specs.declared.answers.Put.TheVariants as put
use Rattle.tower_meaning.specs.Atomic.{Fit}
use Rattle.arch_checks.specs.Offences.{IsAccepted}
use Rattle.lock_reduction.specs.Reduce.{Sound}
use Rattle.task_code.specs.Program.{Program}
use Rattle.task_code.specs.Standing.{IsReady, is_ready, is_finished}
use Rattle.task_code.specs.Run.{Run, steps_from, first_run}
use Rattle.task_code.specs.Policy.{Policy, priorities}
use Rattle.task_code.specs.Plan as plan
use Rattle.task_code.specs.Plan.{Planned, Planning, step_of, instructions, repeated}
use Rattle.task_machine.specs.State.{State, Turned, turn_of, does_next, standing_in, wrote_last}
use Rattle.tower_report.specs.Bytes.{Bytes}
use Rattle.task_code.specs.Tally.{waits, core_counts}
use Rattle.tower_report.specs.RunText.{steps_text}
use Rattle.tower_run.specs.declared.going.Job.{Job}
use Rattle.tower_run.specs.declared.going.Going.{Going}
use Rattle.tower_run.specs.declared.going.Turn.{Turn}
use Rattle.tower_run.specs.declared.going.Turn.TheVariants as turn
use Rattle.tower_run.specs.declared.scheduler.Scheduler.{Scheduler}
use Rattle.tower_run.specs.Scheduler.{priorities_of, monitors_of, policy_by, cores_by}
use Rattle.tower_run.specs.Paging.{HasPut, HasFailed, PutsOver}
use Rattle.tower_run.specs.Pieces.{lines_text}

-- what a run is of, and by which rule it goes; `counting` says whether the waits are counted
pub record Course : Type 0 where
  pub arch : Arch
  pub program : Program
  pub events : Events
  pub limit : ℕ
  pub rule : Scheduler
  pub counting : Bool

abbrev pub course_of : Job → Going → Course
course_of j r = record {
  arch = j.arch.now;
  program = r.machine.program;
  events = events_of r.machine.events;
  limit = j.limit;
  rule = j.rule;
  counting = j.counts_waits;
}

-- ---- the parts of the plan

abbrev pub by : Course → Policy
by c = policy_by c.rule

abbrev pub begun : Course → Option Run
begun c = Some (first_run c.program c.events)

abbrev pub Part : Type 0
Part = Course → Planning → Planning

abbrev pub going_with : ℕ → Option ℕ → Part
going_with k o c s = plan.go_with (by c) c.program c.events c.limit k s o

abbrev pub going : ℕ → Part
going k c s = plan.go (by c) c.program c.events c.limit k s

-- an instruction of task x, as one by a `go` with the number k
abbrev pub going_on : ℕ → ℕ → Part
going_on k x c s = plan.instruct (by c) c.program c.events c.limit k x s s.left

abbrev pub looking : ℕ → ℕ → Part
looking k x c s = plan.look (by c) c.program c.events c.limit (suc s.left) k x s

abbrev pub seeing : ℕ → Part
seeing k c s = plan.see (by c) c.program c.events c.limit k s

abbrev pub entering : Part
entering c s = plan.enter (by c) c.program c.events c.limit s

abbrev pub idling : Part
idling c s = plan.idle (by c) c.program c.events c.limit (suc s.left) s

abbrev pub unchosen : Part
unchosen c s = plan.unchosen (by c) c.program c.events c.limit s

abbrev pub ending : Part
ending c s = plan.to_end (by c) c.program c.events c.limit (plan.turns_left (by c) c.program c.events c.limit s) s

-- one of the repeats of a choice
abbrev pub once : Choice → Part
once (choice.Go k n) c s = going k c s
once (choice.See k n) c s = seeing k c s
once (choice.Ev n) c s = entering c s
once choice.Idle c s = s

abbrev pub repeating : ℕ → Choice → Part
repeating n ch c s = repeated n (once ch c) s

abbrev pub applying : Choice → Part
applying ch c s = plan.apply (by c) c.program c.events c.limit ch s

abbrev pub choosing : List Choice → Part
choosing cs c s = plan.choose (by c) c.program c.events c.limit cs s

-- ---- a plan so far, and its text

-- the text of these steps
abbrev pub shown : Course → List Planned → Bytes
shown c steps = steps_text c.arch c.program c.events 0 (begun c) steps

-- the number of these steps before which the rule names a waiting task, where it is counted
abbrev pub waited : Course → List Planned → ℕ
waited c steps = cond c.counting (waits (by c) c.program c.events (begun c) steps) 0

-- the number of instructions of these steps on each core that the rule tells apart
abbrev pub cored : Course → List Planned → List ℕ
cored c steps = core_counts (cores_by c.rule) c.program c.events steps

-- what stays: the program is sound for the system, which was accepted, and the rule was made for the program
pub record IsJob (j : Job) (c : Course) : Type 0 where
  pub rule : priorities_of j.rule ≡ priorities c.program
  pub monitors : IfSome (monitors_of j.rule) (λ n. n ≡ length c.program.monitors)
  pub cores : cores_by j.rule ≤ 64
  pub tasks : j.tasks ≡ length c.program.tasks
  pub accepted : (bs : List ℕ) × IsAccepted bs c.arch
  pub sound : Sound c.arch c.program
  pub fit : Fit c.arch c.events
  pub limit : c.limit ≤ 1000000000

abbrev pub turn_of_put : Put → Turn
turn_of_put put.Done = turn.Went
turn_of_put put.Failed = turn.Failed

module _ {S : Type 0} (written : S → Option (List ℕ)) (faults : S → ℕ) where
  -- the run has come as far as this plan, which has stopped or not, and since `first` the text of its steps was put
  pub record Tells (c : Course) (s : Planning) (stopped : Bool) (first : S) (j : Job) (r : Going) (out : S) : Type 0 where
    pub course : course_of j r ≡ c
    pub leads : steps_from c.program c.events (begun c) (map step_of s.steps) ≡ Some s.run
    pub machine : s.run.machine ≡ r.machine.machine
    pub stops : s.stopped ≡ stopped
    pub full : stopped ≡ true → s.left ≡ 0
    pub count : instructions s.steps ≡ r.count
    pub left : s.left + r.count ≡ c.limit
    pub waits : waited c s.steps ≡ r.waits
    pub cores : cored c s.steps ≡ r.cores.items
    pub busy : length r.busy.items ≡ length c.program.tasks
    pub puts : HasPut written faults first out r.page.held (shown c s.steps)

  -- from the plan s the run has come to t, with this turn
  abbrev pub Told : Course → (s t : Planning) → S → Job → Going → S → Turn → Type 0
  Told c s t first j r out turn.Went = Tells c t false first j r out
  Told c s t first j r out turn.Passed = Tells c t false first j r out × (t ≡ s)
  Told c s t first j r out turn.Stopped = Tells c t true first j r out
  Told c s t first j r out turn.Failed = HasFailed written faults first out (shown c t.steps)

  -- a call that carries out this part of the plan
  pub record Carries (part : Part) (j : Job) (old : Going) (from : S) (new : Going) (to : S) (result : Turn) : Type 0 where
    pub on : (c : Course) (s : Planning) (first : S) → Tells c s false first j old from → Told c s (part c s) first j new to result

  -- the run is going on, as some plan so far
  pub record IsGoing (j : Job) (r : Going) (out : S) : Type 0 where
    pub course : Course
    pub planned : Planning
    pub first : S
    pub job : IsJob j course
    pub told : Tells course planned false first j r out

  -- ---- what is known of a turn

  -- the lines of the last step were put
  pub record Shows (arch : Arch) (mark : Option Mark) (old : Going) (from : S) (new : Going) (to : S) (result : Turn) : Type 0 where
    pub answer : Put
    pub is : result ≡ turn_of_put answer
    pub same : new ≡ record old { page = new.page }
    pub puts : PutsOver written faults from old.page.held to new.page.held (lines_text arch old.count mark (wrote_last old.machine)) answer

-- a task was ready, unless the turn was passed over
abbrev pub IsReadyTurn : List Bool → Turn → Type 0
IsReadyTurn ready turn.Passed = list_any (λ b. b) ready ≡ false
IsReadyTurn ready _ = list_any (λ b. b) ready ≡ true

-- the run had not ended, unless the turn was passed over
abbrev pub IsLeftTurn : State → Turn → Type 0
IsLeftTurn m turn.Passed = Unit {0}
IsLeftTurn m _ = is_finished m.program (events_of m.events) m.machine ≡ false

-- the named task was ready, and executed an instruction
pub record Stepped (x : ℕ) (old new : Going) : Type 0 where
  pub stands : standing_in old.machine x ≡ IsReady
  pub last : new.machine.last ≡ Some (turn_of x (does_next old.machine x))
  pub count : new.count ≡ old.count + 1

abbrev pub HasStepped : Option ℕ → Going → Going → Turn → Type 0
HasStepped o old new turn.Went = (x : ℕ) × (o ≡ Some x) × Stepped x old new
HasStepped o old new _ = Unit {0}

-- so many turns are left at most
abbrev pub most_turns : ℕ → Going → ℕ
most_turns limit r = (limit - r.count) + (length (events_of r.machine.events).entries - r.machine.machine.place)

-- of these the turn was one
abbrev pub IsOneTurn : ℕ → Going → Going → Turn → Type 0
IsOneTurn limit old new turn.Went = most_turns limit old ≡ most_turns limit new + 1
IsOneTurn limit old new _ = Unit {0}

-- an entry of the record does not stop a run
abbrev pub NeverStops : Turn → Type 0
NeverStops turn.Stopped = ⊥
NeverStops _ = Unit {0}

-- nor is a `see` passed over once it goes on
abbrev pub NeverPasses : Turn → Type 0
NeverPasses turn.Passed = ⊥
NeverPasses _ = Unit {0}

abbrev pub MayStop : Choice → Turn → Type 0
MayStop (choice.Ev n) result = NeverStops result
MayStop _ result = Unit {0}

abbrev pub due_of : Bool → Turn
due_of b = cond b turn.Stopped turn.Passed

abbrev pub task_where : State → Option Turned → Option ℕ
task_where m None = None
task_where m (Some t) = cond (t.visible || not (is_ready (standing_in m t.task))) None (Some t.task)

-- the task of the last step, if a `see` of it goes on: its instruction was not visible, and it is ready
abbrev pub task_left : State → Option ℕ
task_left m = task_where m m.last
