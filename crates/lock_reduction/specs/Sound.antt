-- What a run and the replay of its marks have in common.
use Rattle.std.specs.Prelude.{◌≡◌, ◌≢◌, ℕ, ◌<◌, ◌≤◌, List, [], ◌∷◌, ◌++◌, length, map, Option, Some, None, ℤ, slice_get, slice_index}
use Rattle.tower_types.specs.Value.{Value, flat}
use Rattle.tower_syntax.specs.declared.arch.Listener.TheVariants as to
use Rattle.tower_syntax.specs.declared.event.Mark.{Mark}
use Rattle.tower_syntax.specs.declared.event.Mark.TheVariants as mark
use Rattle.tower_syntax.specs.Arch.{Events}
use Rattle.tower_meaning.specs.System.{Item}
use Rattle.tower_meaning.specs.Atomic.{Atomic, replay}
use Rattle.task_code.specs.declared.program.Buffer.{Buffer}
use Rattle.task_code.specs.declared.program.Task.{Task}
use Rattle.task_code.specs.Program.{Program}
use Rattle.task_code.specs.Own.{Filled, Own, held_monitor}
use Rattle.task_code.specs.Does.{Locks, does}
use Rattle.task_code.specs.Machine.{Free, HeldBy, queue}
use Rattle.task_code.specs.Standing.{IsStuck, IsIdle, IsReady, standing}
use Rattle.task_code.specs.Run.{Run, Step, reached}
use Rattle.task_alone.specs.Setting.{Setting, Fits}
use Rattle.task_alone.specs.Alone.{FirstIsOf}
use Rattle.task_code.specs.Holds.{HoldLists, buffers_at}

-- no buffer holds more than its bound
abbrev pub IsWithin : List Buffer → List Filled → Type 0
IsWithin table buffers = (b : ℕ) (s : Buffer) (f : Filled) → slice_get table b ≡ Some s → slice_get buffers b ≡ Some f → f.count ≤ s.bound

-- the first pending item of source x is a handler of monitor m
abbrev pub IsDue : Setting → Atomic → ℕ → ℕ → Type 0
IsDue s a x m = (items : List Item) × (slice_get a.pending x ≡ Some items) × FirstIsOf s m items

-- the last mark is that of a handler in task x, and its buffers hold what its effect emitted at that mark
pub record RanLast (s : Setting) (events : Events) (r : Run) (x : ℕ) : Type 0 where
  pub earlier : List Mark
  pub marks_are : r.marks ≡ earlier ++ mark.Run x ∷ []
  pub before : Atomic
  pub replayed : replay s.system events earlier ≡ Some before
  pub h : ℕ
  pub message : Value
  pub rest : List Item
  pub value : Value
  pub own : Own
  pub first : slice_get before.pending x ≡ Some ((to.Handler h, message) ∷ rest)
  pub has_value : slice_get before.monitors (s.system.monitor h) ≡ Some value
  pub has_own : slice_get r.machine.tasks x ≡ Some own
  pub holds : HoldLists (buffers_at own (s.buffers x h)) (s.system.effect h value message).lists

abbrev pub LastHolds : Setting → Events → Run → Option ℕ → Type 0
LastHolds s events r None = Unit {0}
LastHolds s events r (Some x) = RanLast s events r x

-- the clauses of the agreement of a run with the replay of its marks
pub record Agrees (s : Setting) (p : Program) (events : Events) (r : Run) (a : Atomic) : Type 0 where
  pub replayed : replay s.system events r.marks ≡ Some a
  pub outputs : r.written ≡ map (λ o. (o.0, flat o.1)) a.outputs
  pub queues : r.machine.queues ≡ map (map flat) a.queues
  pub lost : r.machine.lost ≡ a.lost
  pub place : r.machine.place ≡ a.place
  -- a monitor that no task holds has the words of the replay's value
  pub monitors : (m : ℕ) (ws : List ℤ) → slice_get r.machine.locks m ≡ Some (Free ws) → slice_get (map flat a.monitors) m ≡ Some ws
  -- a lock is with a task exactly where the task holds that monitor, and it holds no other
  pub holders : (m x : ℕ) → slice_get r.machine.locks m ≡ Some (HeldBy x) → slice_get (map held_monitor r.machine.tasks) x ≡ Some (Some m)
  pub held : (x m : ℕ) → slice_get (map held_monitor r.machine.tasks) x ≡ Some (Some m) → slice_get r.machine.locks m ≡ Some (HeldBy x)
  pub holds_due : (x m : ℕ) → slice_get (map held_monitor r.machine.tasks) x ≡ Some (Some m) → IsDue s a x m
  pub locks_due : (x : ℕ) (t : Task) (own : Own) (m : ℕ) (f : List ℤ → Own) → slice_get p.tasks x ≡ Some t → slice_get r.machine.tasks x ≡ Some own → does p t own ≡ Locks m f → IsDue s a x m
  pub never_stuck : (x : ℕ) → x < length p.tasks → standing p events r.machine x ≢ IsStuck
  pub buffers : (x : ℕ) (t : Task) (own : Own) → slice_get p.tasks x ≡ Some t → slice_get r.machine.tasks x ≡ Some own → IsWithin t.buffers own.buffers
  -- nothing is pending where a task is idle, and where none is ready all are idle
  pub idle : (x : ℕ) → x < length p.tasks → standing p events r.machine x ≡ IsIdle → slice_get a.pending x ≡ Some []
  pub all_idle : ((x : ℕ) → x < length p.tasks → standing p events r.machine x ≢ IsReady) → (x : ℕ) → x < length p.tasks → standing p events r.machine x ≡ IsIdle
  pub last : LastHolds s events r r.ran
  -- plain consequences: a task that holds a lock is ready, and where all are idle no message waits
  pub holder_ready : (x m : ℕ) → slice_get (map held_monitor r.machine.tasks) x ≡ Some (Some m) → standing p events r.machine x ≡ IsReady
  pub none_waits : ((x : ℕ) → x < length p.tasks → standing p events r.machine x ≡ IsIdle) → (x : ℕ) → x < length p.tasks → queue r.machine x ≡ []

-- in every run of a record that fits, the marks replay as the clauses say, and no message costs too much
abbrev pub IsSound : Setting → Program → Type 0
IsSound s p =
    (events : Events) (steps : List Step) (r : Run) → Fits s events → reached p events steps ≡ Some r
    → ((a : Atomic) × Agrees s p events r a) × ((x : ℕ) → x < length p.tasks → slice_index r.since x ≤ s.cost x)
