-- How a task stands.
use Rattle.std.specs.Prelude.{ℕ, ℤ, List, [], ◌∷◌, map, Bool, true, false, ◌&&◌, not, nat_le, length, Option, Some, slice_get, slice_index_or}
use Rattle.std.specs.List.{list_all}
use Rattle.tower_syntax.specs.declared.arch.SourceKind.{SourceKind}
use Rattle.tower_syntax.specs.declared.arch.SourceKind.TheVariants as kind
use Rattle.tower_syntax.specs.Arch.{Events}
use Rattle.tower_syntax.specs.Arrival.{is_init}
use Rattle.tower_syntax.specs.Graph.{numbers_before}
use Rattle.task_code.specs.declared.program.Task.{Task}
use Rattle.task_code.specs.Program.{Program}
use Rattle.task_code.specs.Own.{Own}
use Rattle.task_code.specs.Does.{Does, Stuck, Private, Takes, Locks, Unlocks, Writes, at_take}
use Rattle.task_code.specs.Machine.{Lock, Free, Machine, next_does, queue}

pub data Standing : Type 0 where
  IsStuck : Standing
  IsIdle : Standing
  IsWaiting : (m : ℕ) → Standing
  IsReady : Standing

-- at TAKE and with an empty queue
abbrev pub is_clear : Task → Own → List (List ℤ) → Bool
is_clear t own [] = at_take t own
is_clear t own (message ∷ rest) = false

abbrev pub clear_if_init : SourceKind → Task → Own → List (List ℤ) → Bool
clear_if_init kind.Init t own q = is_clear t own q
clear_if_init (kind.Period ms) t own q = true
clear_if_init kind.Signal t own q = true

-- the task of each init source is clear
abbrev pub inits_clear : List SourceKind → List Task → List Own → List (List (List ℤ)) → Bool
inits_clear (k ∷ ks) (t ∷ ts) (own ∷ owns) (q ∷ qs) = clear_if_init k t own q && inits_clear ks ts owns qs
inits_clear _ _ _ _ = true

abbrev pub kind_at : Events → ℕ → SourceKind
kind_at events x = slice_index_or events.kinds x kind.Signal

-- no period or signal starts before all initialisation has ended
abbrev pub held_back : Program → Events → Machine → ℕ → Bool
held_back p events m x = not (is_init (kind_at events x)) && not (inits_clear events.kinds p.tasks m.tasks m.queues)

abbrev pub at_queue : Bool → List (List ℤ) → Standing
at_queue true q = IsIdle
at_queue false [] = IsIdle
at_queue false (message ∷ rest) = IsReady

abbrev pub at_lock : ℕ → Option Lock → Standing
at_lock k (Some (Free ws)) = IsReady
at_lock k _ = IsWaiting k

abbrev pub standing_of : Program → Events → Machine → ℕ → Does → Standing
standing_of p events m x Stuck = IsStuck
standing_of p events m x (Private own) = IsReady
standing_of p events m x (Takes f) = at_queue (held_back p events m x) (queue m x)
standing_of p events m x (Locks k f) = at_lock k (slice_get m.locks k)
standing_of p events m x (Unlocks h own) = IsReady
standing_of p events m x (Writes o ws own) = IsReady

abbrev pub standing : Program → Events → Machine → ℕ → Standing
standing p events m x = standing_of p events m x (next_does p m x)

abbrev pub is_ready : Standing → Bool
is_ready IsReady = true
is_ready _ = false

abbrev pub is_idle : Standing → Bool
is_idle IsIdle = true
is_idle _ = false

-- how each task stands, in their order
abbrev pub standings : Program → Events → Machine → List Standing
standings p events m = map (standing p events m) (numbers_before (length p.tasks) [])

-- the record is at its end and all tasks are idle
abbrev pub is_finished : Program → Events → Machine → Bool
is_finished p events m = nat_le (length events.entries) m.place && list_all is_idle (standings p events m)
