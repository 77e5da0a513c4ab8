-- What comes of a message that is brought to a queue.
use Rattle.std.specs.Prelude.{◌≡◌, ℕ, suc, ◌+◌, ◌<◌, ◌^◌, ℤ, List, [], ◌∷◌, ◌++◌, map, length, cond, Bool, false, Option, None, slice_index_or}
use Rattle.tower_types.specs.Value.{flat}
use Rattle.tower_syntax.specs.declared.arch.SourceKind.{SourceKind}
use Rattle.tower_syntax.specs.declared.arch.SourceKind.TheVariants as kind
use Rattle.tower_syntax.specs.Arrival.{is_full, brought_by_tick}
use Rattle.task_code.specs.Machine.{Machine}
use Rattle.task_machine.specs.Queue.{Queue, waiting, lost}

abbrev pub with_queues : Machine → List Queue → Machine
with_queues m qs = record m { queues = map waiting qs; lost = map lost qs }

abbrev pub depth_at : List (Option ℕ) → ℕ → Option ℕ
depth_at depths x = slice_index_or depths x None

abbrev pub kind_in : List SourceKind → ℕ → SourceKind
kind_in kinds x = slice_index_or kinds x kind.Signal

-- there is room for a message that is not dropped, and for the count of one that is; the queue has numbers or not
pub record CanBring (depth : Option ℕ) (number : Bool) (q : Queue) : Type 0 where
  pub room : is_full depth (length (waiting q)) ≡ false → length (waiting q) < q.room
  pub count : lost q + 1 < 2 ^ 64
  pub kind : q.numbered ≡ number

pub record Brought (depth : Option ℕ) (message : List ℤ) (q r : Queue) : Type 0 where
  pub waits : waiting r ≡ cond (is_full depth (length (waiting q))) (waiting q) (waiting q ++ message ∷ [])
  pub drops : lost r ≡ cond (is_full depth (length (waiting q))) (suc (lost q)) (lost q)
  pub room : r.room ≡ q.room
  pub kind : r.numbered ≡ q.numbered

-- the messages of the k-th tick for the sources from x on
abbrev pub tick_messages : List SourceKind → ℕ → ℕ → List (ℕ × List ℤ)
tick_messages kinds k x = map (λ b. (b.0, flat b.1)) (brought_by_tick k x kinds)
