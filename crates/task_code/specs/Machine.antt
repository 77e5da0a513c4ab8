-- The machine: tasks that take turns, locks, queues, and the place in the event record.
use Rattle.std.specs.Prelude.{ℕ, suc, ℤ, pos, List, [], ◌∷◌, ◌++◌, map, fold, take, drop, length, replicate, cond, Option, Some, None, slice_get, slice_index, slice_index_or, slice_set}
use Rattle.tower_types.specs.Value.{flat}
use Rattle.tower_syntax.specs.declared.arch.SourceKind.{SourceKind}
use Rattle.tower_syntax.specs.declared.arch.SourceKind.TheVariants as kind
use Rattle.tower_syntax.specs.Arch.{Entry, Events}
use Rattle.tower_syntax.specs.Arrival.{ticks, brought, is_full}
use Rattle.task_code.specs.declared.program.Task.{Task}
use Rattle.task_code.specs.Program.{Program}
use Rattle.task_code.specs.Own.{Own, first_own}
use Rattle.task_code.specs.Does.{Does, Stuck, Private, Takes, Locks, Unlocks, Writes, does}

-- a lock is free, with the words of its monitor, or with the task that holds it and has the words
pub data Lock : Type 0 where
  Free : List ℤ → Lock
  HeldBy : (t : ℕ) → Lock

pub record Machine : Type 0 where
  pub tasks : List Own
  pub locks : List Lock
  pub queues : List (List (List ℤ))  -- of each source, the oldest message first
  pub lost : List ℕ  -- of each source, the messages that found its queue full
  pub place : ℕ

abbrev pub first_queue : SourceKind → List (List ℤ)
first_queue kind.Init = (pos 0 ∷ []) ∷ []
first_queue (kind.Period ms) = []
first_queue kind.Signal = []

abbrev pub first_machine : Program → Events → Machine
first_machine p events = record {
  tasks = map first_own p.tasks;
  locks = map (λ n. Free (replicate n (pos 0))) p.monitors;
  queues = map first_queue events.kinds;
  lost = map (λ k. 0) events.kinds;
  place = 0;
}

abbrev pub task_does : Program → Option Task → Option Own → Does
task_does p (Some t) (Some own) = does p t own
task_does p _ _ = Stuck

-- what the next instruction of task x does
abbrev pub next_does : Program → Machine → ℕ → Does
next_does p m x = task_does p (slice_get p.tasks x) (slice_get m.tasks x)

abbrev pub queue : Machine → ℕ → List (List ℤ)
queue m x = slice_index_or m.queues x []

abbrev pub words_of : Option Lock → List ℤ
words_of (Some (Free ws)) = ws
words_of _ = []

abbrev pub moved : Machine → ℕ → Own → Machine
moved m x own = record m { tasks = slice_set m.tasks x own }

-- the machine after a ready task did this
abbrev pub after : Machine → ℕ → Does → Machine
after m x Stuck = m
after m x (Private own) = moved m x own
after m x (Takes f) = record (moved m x (f (slice_index_or (queue m x) 0 []))) { queues = slice_set m.queues x (drop 1 (queue m x)) }
after m x (Locks k f) = record (moved m x (f (words_of (slice_get m.locks k)))) { locks = slice_set m.locks k (HeldBy x) }
after m x (Unlocks h own) = record (moved m x own) { locks = slice_set m.locks h.monitor (Free h.words) }
after m x (Writes o ws own) = moved m x own

-- a message for a source goes to the end of its queue; where the queue is full it is dropped and counted
abbrev pub bring : List (Option ℕ) → Machine → ℕ × List ℤ → Machine
bring depths m b =
    cond (is_full (slice_index_or depths b.0 None) (length (queue m b.0)))
    (record m { lost = slice_set m.lost b.0 (suc (slice_index m.lost b.0)) })
    (record m { queues = slice_set m.queues b.0 (queue m b.0 ++ b.1 ∷ []) })

-- the machine after the entry came that stands at its place of the record
abbrev pub received : Events → Machine → Entry → Machine
received events m e =
    let k = ticks (take (suc m.place) events.entries) in
    fold (bring events.depths) (record m { place = suc m.place }) (map (λ b. (b.0, flat b.1)) (brought events.kinds k e))
