-- A run of one task alone, given by the values that it is handed: what is asked of each of its states, and what comes.
use Rattle.std.specs.Prelude.{◌≡◌, ℕ, suc, ◌≤◌, List, [], ◌∷◌, ◌++◌, map, cond, Bool, true, false, Option, Some, None, ℤ}
use Rattle.tower_types.specs.Value.{Value, flat}
use Rattle.tower_syntax.specs.declared.arch.Listener.TheVariants as to
use Rattle.tower_meaning.specs.System.{Item}
use Rattle.task_code.specs.declared.program.Task.{Task}
use Rattle.task_code.specs.Program.{Program}
use Rattle.task_code.specs.Own.{Held, Own}
use Rattle.task_code.specs.Holds.{HoldLists, buffers_at}
use Rattle.task_code.specs.Does.{Does, Stuck, Private, Takes, Locks, Unlocks, Writes, does}
use Rattle.task_alone.specs.Setting.{Setting}
use Rattle.task_alone.specs.Alone.{State, FirstIsOf, first_state}

-- ---- what is asked

-- of an UNLOCK: the first item is a handler, the words are its effect's, and its buffers hold exactly the lists
abbrev pub UnlockIsRight : Setting → ℕ → State → Held → Own → List Item → Type 0
UnlockIsRight s x a held own ((to.Handler h, v) ∷ rest) =
    (held.words ≡ flat (s.system.effect h a.handed v).states) × HoldLists (buffers_at own (s.buffers x h)) (s.system.effect h a.handed v).lists
UnlockIsRight s x a held own _ = ⊥

-- of an OUT: the first item is this output, with these words
abbrev pub WriteIsRight : ℕ → List ℤ → List Item → Type 0
WriteIsRight o words ((to.Output out, v) ∷ rest) = (out ≡ o) × (words ≡ flat v)
WriteIsRight o words _ = ⊥

abbrev pub IsRight : Setting → ℕ → State → Does → Type 0
IsRight s x a Stuck = ⊥
IsRight s x a (Private own) = Unit {0}
IsRight s x a (Takes f) = a.pending ≡ []
IsRight s x a (Locks m f) = FirstIsOf s m a.pending
IsRight s x a (Unlocks held own) = UnlockIsRight s x a held own a.pending
IsRight s x a (Writes o words own) = WriteIsRight o words a.pending

-- ---- what comes

abbrev pub if_fits : Bool → State → Option State
if_fits true a = Some a
if_fits false a = None

abbrev pub unlocked : Setting → State → Own → List Item → Option State
unlocked s a own ((to.Handler h, v) ∷ rest) =
    Some (record a { own = own; pending = s.system.follow h (s.system.effect h a.handed v).lists ++ rest; since = suc a.since })
unlocked s a own _ = None

abbrev pub written : State → Own → List Item → Option State
written a own [] = None
written a own (i ∷ rest) = Some (record a { own = own; pending = rest; since = suc a.since })

-- the state after one instruction, with v handed in where it is TAKE or LOCK: it has to fit there
abbrev pub comes : Setting → ℕ → State → Does → Value → Option State
comes s x a Stuck v = None
comes s x a (Private own) v = Some (record a { own = own; since = suc a.since })
comes s x a (Takes f) v = if_fits (s.fits_message x v) (record a { own = f (flat v); pending = s.system.subscribers x v; since = 1 })
comes s x a (Locks m f) v = if_fits (s.fits_monitor m v) (record a { own = f (flat v); handed = v; since = suc a.since })
comes s x a (Unlocks held own) v = unlocked s a own a.pending
comes s x a (Writes o words own) v = written a own a.pending

-- one value for each instruction
abbrev pub lone_run : Setting → Program → Task → ℕ → Option State → List Value → Option State
lone_run s p t x o [] = o
lone_run s p t x None (v ∷ vs) = None
lone_run s p t x (Some a) (v ∷ vs) = lone_run s p t x (comes s x a (does p t a.own) v) vs

-- whatever it is handed, nothing that is asked is ever missing, and no message costs too much
abbrev pub NothingIsMissing : Setting → Program → Task → ℕ → Type 0
NothingIsMissing s p t x =
    (vs : List Value) (a : State) → lone_run s p t x (Some (first_state t)) vs ≡ Some a → (a.since ≤ s.cost x) × IsRight s x a (does p t a.own)
