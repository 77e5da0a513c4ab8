-- A run: the machine, and what its steps have shown so far.
use Rattle.std.specs.Prelude.{ℕ, suc, ℤ, List, [], ◌∷◌, ◌++◌, map, Bool, true, false, Option, Some, None, slice_get, slice_index, slice_set}
use Rattle.tower_syntax.specs.declared.event.Mark.{Mark}
use Rattle.tower_syntax.specs.declared.event.Mark.TheVariants as mark
use Rattle.tower_syntax.specs.Arch.{Entry, Events}
use Rattle.task_code.specs.Program.{Program}
use Rattle.task_code.specs.Does.{Does, Stuck, Private, Takes, Unlocks, Writes}
use Rattle.task_code.specs.Machine.{Machine, first_machine, next_does, after, received}
use Rattle.task_code.specs.Standing.{Standing, IsReady, standing}

pub record Run : Type 0 where
  pub machine : Machine
  pub marks : List Mark
  pub written : List (ℕ × List ℤ)  -- what OUT wrote: outputs with their words
  pub ran : Option ℕ  -- the task whose UNLOCK was the last step
  pub since : List ℕ  -- of each task, the instructions since its last TAKE, that one included

pub data Step : Type 0 where
  Turn : (x : ℕ) → Step  -- one instruction of task x
  Event : Step  -- the next entry of the record

-- the mark that an instruction makes
abbrev pub mark_of : ℕ → Does → List Mark
mark_of x (Takes f) = mark.Start x ∷ []
mark_of x (Unlocks h own) = mark.Run x ∷ []
mark_of x (Writes o ws own) = mark.Out x ∷ []
mark_of x _ = []

abbrev pub written_by : Does → List (ℕ × List ℤ)
written_by (Writes o ws own) = (o, ws) ∷ []
written_by _ = []

abbrev pub ran_by : ℕ → Does → Option ℕ
ran_by x (Unlocks h own) = Some x
ran_by x _ = None

-- TAKE, LOCK, UNLOCK and OUT are visible
abbrev pub is_visible : Does → Bool
is_visible Stuck = false
is_visible (Private own) = false
is_visible _ = true

abbrev pub counted : List ℕ → ℕ → Does → List ℕ
counted since x (Takes f) = slice_set since x 1
counted since x _ = slice_set since x (suc (slice_index since x))

abbrev pub turned : Run → ℕ → Does → Run
turned r x d = record {
  machine = after r.machine x d;
  marks = r.marks ++ mark_of x d;
  written = r.written ++ written_by d;
  ran = ran_by x d;
  since = counted r.since x d;
}

abbrev pub if_ready : Standing → Run → Option Run
if_ready IsReady r = Some r
if_ready _ r = None

abbrev pub came : Events → Run → Option Entry → Option Run
came events r None = None
came events r (Some e) = Some (record r { machine = received events r.machine e; marks = r.marks ++ mark.Arrive ∷ []; ran = None })

-- a step of a task is defined where it is ready, and one of the record where it has another entry
abbrev pub step : Program → Events → Run → Step → Option Run
step p events r (Turn x) = if_ready (standing p events r.machine x) (turned r x (next_does p r.machine x))
step p events r Event = came events r (slice_get events.entries r.machine.place)

abbrev pub steps_from : Program → Events → Option Run → List Step → Option Run
steps_from p events o [] = o
steps_from p events None (s ∷ ss) = None
steps_from p events (Some r) (s ∷ ss) = steps_from p events (step p events r s) ss

abbrev pub first_run : Program → Events → Run
first_run p events = record { machine = first_machine p events; marks = []; written = []; ran = None; since = map (λ t. 0) p.tasks }

-- the run after these steps, where each of them is defined
abbrev pub reached : Program → Events → List Step → Option Run
reached p events steps = steps_from p events (Some (first_run p events)) steps
