-- A task that runs alone.
use Rattle.std.specs.Prelude.{◌≡◌, ℕ, zero, suc, ◌≤◌, true, List, [], ◌∷◌, ◌++◌, length, map, take, Option, Some, ℤ, pos, slice_get}
use Rattle.tower_types.specs.Value.{Value, word, flat}
use Rattle.tower_syntax.specs.declared.arch.Listener.TheVariants as to
use Rattle.tower_meaning.specs.System.{Item}
use Rattle.task_code.specs.declared.program.Task.{Task}
use Rattle.task_code.specs.Program.{Program}
use Rattle.task_code.specs.Own.{Held, Own, first_own}
use Rattle.task_code.specs.Holds.{HoldLists, buffers_at}
use Rattle.task_code.specs.Does.{Does, Stuck, Private, Takes, Locks, Unlocks, Writes, does}
use Rattle.task_alone.specs.Setting.{Setting}

-- a state of the task, and beside it what is pending
pub record State : Type 0 where
  pub own : Own
  pub pending : List Item
  pub handed : Value  -- the monitor's value that the last LOCK was handed
  pub since : ℕ  -- the instructions since the last TAKE, that one included

-- the first item is a handler of this monitor
abbrev pub FirstIsOf : Setting → ℕ → List Item → Type 0
FirstIsOf s m [] = ⊥
FirstIsOf s m ((to.Handler h, v) ∷ rest) = s.system.monitor h ≡ m
FirstIsOf s m ((to.Output o, v) ∷ rest) = ⊥

-- of an UNLOCK: the first item is a handler, the words are its effect's, and its buffers hold the lists
abbrev pub UnlockAsks : Setting → ℕ → State → Held → Own → List Item → (State → Type 0) → Type 0
UnlockAsks s x a held own [] Then = ⊥
UnlockAsks s x a held own ((to.Handler h, v) ∷ rest) Then =
    let f = s.system.effect h a.handed v in
    (held.words ≡ flat f.states)
    × HoldLists (buffers_at own (s.buffers x h)) f.lists
    × Then (record a { own = own; pending = s.system.follow h f.lists ++ rest; since = suc a.since })
UnlockAsks s x a held own ((to.Output o, v) ∷ rest) Then = ⊥

-- of an OUT: the first item is this output with these words
abbrev pub WriteAsks : State → ℕ → List ℤ → Own → List Item → (State → Type 0) → Type 0
WriteAsks a o words own [] Then = ⊥
WriteAsks a o words own ((to.Handler h, v) ∷ rest) Then = ⊥
WriteAsks a o words own ((to.Output out, v) ∷ rest) Then =
    (out ≡ o) × (words ≡ flat v) × Then (record a { own = own; pending = rest; since = suc a.since })

-- what is asked of a task that is to do this, and Then of what it comes to, whatever it is handed
abbrev pub Asks : Setting → ℕ → State → Does → (State → Type 0) → Type 0
Asks s x a Stuck Then = ⊥
Asks s x a (Private own) Then = Then (record a { own = own; since = suc a.since })
Asks s x a (Takes f) Then =
    (a.pending ≡ [])
    × ((v : Value) → s.fits_message x v ≡ true → Then (record a { own = f (flat v); pending = s.system.subscribers x v; since = 1 }))
Asks s x a (Locks m f) Then =
    FirstIsOf s m a.pending
    × ((v : Value) → s.fits_monitor m v ≡ true → Then (record a { own = f (flat v); handed = v; since = suc a.since }))
Asks s x a (Unlocks held own) Then = UnlockAsks s x a held own a.pending Then
Asks s x a (Writes o words own) Then = WriteAsks a o words own a.pending Then

-- in n steps nothing that is asked is missing, whatever is handed in, and one message never costs too much
abbrev pub Safe : Setting → Program → Task → ℕ → ℕ → State → Type 0
Safe s p t x zero a = Unit {0}
Safe s p t x (suc n) a = (a.since ≤ s.cost x) × Asks s x a (does p t a.own) (Safe s p t x n)

abbrev pub first_state : Task → State
first_state t = record { own = first_own t; pending = []; handed = word (pos 0); since = 0 }

-- each task is safe alone for any number of steps
abbrev pub RunsAlone : Setting → Program → Type 0
RunsAlone s p = (x : ℕ) (t : Task) → slice_get p.tasks x ≡ Some t → (n : ℕ) → Safe s p t x n (first_state t)
