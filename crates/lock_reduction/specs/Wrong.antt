-- Small systems, each with programs that are wrong in one way, and the event record over which it shows.
use Rattle.std.specs.Prelude.{◌≡◌, ◌≢◌, ℕ, ◌<◌, ℤ, pos, List, [], ◌∷◌, ◌++◌, length, map, Some, None, codes, slice_get, slice_index}
use Rattle.tower_types.specs.declared.scalar.Scalar.TheVariants.{U8, U32}
use Rattle.tower_types.specs.declared.scalar.BinOp.TheVariants as op
use Rattle.tower_types.specs.Ty.{scalar}
use Rattle.tower_types.specs.Value.{word, flat}
use Rattle.tower_syntax.specs.declared.body.Root.TheVariants.{Param, State}
use Rattle.tower_syntax.specs.declared.arch.SourceKind.TheVariants.{Signal}
use Rattle.tower_syntax.specs.declared.arch.On.TheVariants as on
use Rattle.tower_syntax.specs.declared.arch.Listener.TheVariants as to
use Rattle.tower_syntax.specs.Tree.{set, emit}
use Rattle.tower_syntax.specs.Arch.{Arch, signal, Events}
use Rattle.tower_syntax.specs.Examples as of
use Rattle.tower_syntax.specs.Weights.{cost}
use Rattle.tower_meaning.specs.System.{system_of}
use Rattle.tower_meaning.specs.Atomic.{Atomic, Fit, replay}
use Rattle.task_code.specs.declared.program.Buffer.{Buffer}
use Rattle.task_code.specs.declared.program.Task.{Task}
use Rattle.task_code.specs.declared.program.Instr.{Instr}
use Rattle.task_code.specs.declared.program.Instr.TheVariants.{Push, Ld, Ldm, Stm, Bin, Jmp, Take, Lock, Unlock, Out, Bclr, Bput, Badd}
use Rattle.task_code.specs.Program.{Program}
use Rattle.task_code.specs.Own.{Own}
use Rattle.task_code.specs.Does.{Locks, does}
use Rattle.task_code.specs.Machine.{Free}
use Rattle.task_code.specs.Standing.{IsStuck, IsIdle, standing}
use Rattle.task_code.specs.Run.{Run, Step, reached}
use Rattle.task_alone.specs.SettingOf.{setting_of}
use Rattle.lock_reduction.specs.Sound.{IsDue, RanLast}
use Rattle.lock_reduction.specs.Shaped.{Shaped}
use Rattle.lock_reduction.specs.Reduce.{Alone, Sound}

-- ---- what a run of a program can show against it

-- some run of a record that fits shows this
pub record Shows (arch : Arch) (p : Program) (What : Events → Run → Type 0) : Type 0 where
  pub events : Events
  pub steps : List Step
  pub run : Run
  pub fits : Fit arch events
  pub reaches : reached p events steps ≡ Some run
  pub shows : What events run

-- a task is stuck
abbrev pub SticksATask : Arch → Program → Events → Run → Type 0
SticksATask arch p events r = (x : ℕ) × (x < length p.tasks) × (standing p events r.machine x ≡ IsStuck)

-- the marks do not replay
abbrev pub MisfitsTheReplay : Arch → Program → Events → Run → Type 0
MisfitsTheReplay arch p events r = replay (system_of arch) events r.marks ≡ None

-- the marks replay, and other outputs were written
abbrev pub WritesOtherOutputs : Arch → Program → Events → Run → Type 0
WritesOtherOutputs arch p events r = (a : Atomic) × (replay (system_of arch) events r.marks ≡ Some a) × (r.written ≢ map (λ o. (o.0, flat o.1)) a.outputs)

-- the marks replay, and a free monitor has other words
abbrev pub LeavesOtherWords : Arch → Program → Events → Run → Type 0
LeavesOtherWords arch p events r =
    (a : Atomic) × (m : ℕ) × (ws : List ℤ)
    × (replay (system_of arch) events r.marks ≡ Some a) × (slice_get r.machine.locks m ≡ Some (Free ws)) × (slice_get (map flat a.monitors) m ≢ Some ws)

-- a handler has run in a task, and its buffers hold other messages than its effect's
abbrev pub HoldsOtherMessages : Arch → Program → Events → Run → Type 0
HoldsOtherMessages arch p events r = (x : ℕ) × (r.ran ≡ Some x) × (RanLast (setting_of arch) events r x → ⊥)

-- the marks replay, and a task is at the LOCK of a monitor that is not its first item's
abbrev pub LocksAnotherMonitor : Arch → Program → Events → Run → Type 0
LocksAnotherMonitor arch p events r =
    (a : Atomic) × (x : ℕ) × (m : ℕ) × (t : Task) × (own : Own) × (f : (List ℤ → Own))
    × (replay (system_of arch) events r.marks ≡ Some a) × (slice_get p.tasks x ≡ Some t) × (slice_get r.machine.tasks x ≡ Some own)
    × (does p t own ≡ Locks m f) × (IsDue (setting_of arch) a x m → ⊥)

-- the marks replay, and a task is idle that has something pending
abbrev pub IdlesTooSoon : Arch → Program → Events → Run → Type 0
IdlesTooSoon arch p events r =
    (a : Atomic) × (x : ℕ)
    × (replay (system_of arch) events r.marks ≡ Some a) × (x < length p.tasks) × (standing p events r.machine x ≡ IsIdle) × (slice_get a.pending x ≢ Some [])

-- more instructions were executed since a TAKE than the source's cost
abbrev pub CostsTooMuch : Arch → Program → Events → Run → Type 0
CostsTooMuch arch p events r = (x : ℕ) × (x < length p.tasks) × (cost arch x < slice_index r.since x)

-- a program of the system's shape, of which a run shows this: it is not sound, and not right alone either
pub record IsRefuted (arch : Arch) (p : Program) (Breaks : Arch → Program → Events → Run → Type 0) : Type 0 where
  pub shaped : Shaped arch p
  pub breaks : Shows arch p (Breaks arch p)
  pub unsound : Sound arch p → ⊥
  pub not_alone : Alone arch p → ⊥

-- ---- a counter: (tower clock (period beat 10 5) (monitor count (state n u32) (handler tick beat (callback t (set n (+ n (u32 1)))))))

abbrev pub counting : List Instr → Program
counting code = record { monitors = 1 ∷ []; outputs = []; tasks = record { priority = 5; message = 1; room = 1; buffers = []; code = code } ∷ [] }

-- it has no LOCK and no UNLOCK
abbrev pub never_locks : Program
never_locks = counting (Take 0 ∷ Push (pos 0) ∷ Push (pos 0) ∷ Ldm 0 0 1 ∷ Push (pos 1) ∷ Bin op.Add U32 ∷ Stm 0 0 1 ∷ Jmp 0 ∷ [])

-- it reads the monitor's word before its LOCK
abbrev pub reads_before_lock : Program
reads_before_lock = counting (Take 0 ∷ Push (pos 0) ∷ Push (pos 0) ∷ Ldm 0 0 1 ∷ Lock 0 ∷ Push (pos 1) ∷ Bin op.Add U32 ∷ Stm 0 0 1 ∷ Unlock 0 ∷ Jmp 0 ∷ [])

-- it unlocks before it stores
abbrev pub stores_after_unlock : Program
stores_after_unlock = counting (Take 0 ∷ Lock 0 ∷ Push (pos 0) ∷ Push (pos 0) ∷ Ldm 0 0 1 ∷ Push (pos 1) ∷ Bin op.Add U32 ∷ Unlock 0 ∷ Stm 0 0 1 ∷ Jmp 0 ∷ [])

-- it locks a second time for one message
abbrev pub locks_twice : Program
locks_twice =
    counting (Take 0 ∷ Lock 0 ∷ Push (pos 0) ∷ Push (pos 0) ∷ Ldm 0 0 1 ∷ Push (pos 1) ∷ Bin op.Add U32 ∷ Stm 0 0 1 ∷ Unlock 0 ∷ Lock 0 ∷ Unlock 0 ∷ Jmp 0 ∷ [])

-- it adds two
abbrev pub adds_two : Program
adds_two = counting (Take 0 ∷ Lock 0 ∷ Push (pos 0) ∷ Push (pos 0) ∷ Ldm 0 0 1 ∷ Push (pos 2) ∷ Bin op.Add U32 ∷ Stm 0 0 1 ∷ Unlock 0 ∷ Jmp 0 ∷ [])

-- it takes a message, and does nothing with it
abbrev pub drops : Program
drops = counting (Take 0 ∷ Jmp 0 ∷ [])

-- ---- one message for two outputs

-- (tower tell (signal s u8 1) (channel c u8) (output left c) (output right c)
--  (monitor m (handler h s (emitter e c 1) (callback v (emit e v)))))
abbrev pub tell : Arch
tell = record {
  version = 1;
  name = codes "tell";
  records = [];
  record_names = [];
  sources = of.signal (codes "s") (scalar U8) 1 None ∷ [];
  channels = of.channel (codes "c") (scalar U8) ∷ [];
  outputs = of.output (codes "left") 0 ∷ of.output (codes "right") 0 ∷ [];
  monitors = of.monitor (codes "m") [] ∷ [];
  handlers = of.handler (codes "h") 0 (on.Source 0) (of.emitter (codes "e") 0 1 ∷ []) (of.callback (codes "v") [] (emit 0 (of.value_at Param) ∷ [])) ∷ [];
  listeners = to.Output 0 ∷ to.Output 1 ∷ to.Handler 0 ∷ [];
}

-- one signal with the value 5
abbrev pub told : Events
told = record { kinds = Signal ∷ []; depths = None ∷ []; entries = signal 0 (word (pos 5)) ∷ [] }

abbrev pub telling : List Instr → Program
telling code = record {
  monitors = 0 ∷ [];
  outputs = 1 ∷ 1 ∷ [];
  tasks = record { priority = 1; message = 1; room = 1; buffers = record { width = 1; bound = 1 } ∷ []; code = code } ∷ [];
}

-- the message goes into the buffer of the emitter
abbrev pub emitted : List Instr
emitted = Bclr 0 ∷ Push (pos 0) ∷ Ld 0 ∷ Bput 0 ∷ Badd 0 ∷ []

-- it delivers before its UNLOCK
abbrev pub delivers_before_unlock : Program
delivers_before_unlock = telling (Take 0 ∷ Lock 0 ∷ emitted ++ Out 0 0 ∷ Out 1 0 ∷ Unlock 0 ∷ Jmp 0 ∷ [])

-- it delivers to the subscribers in reverse order
abbrev pub delivers_in_reverse : Program
delivers_in_reverse = telling (Take 0 ∷ Lock 0 ∷ emitted ++ Unlock 0 ∷ Out 1 0 ∷ Out 0 0 ∷ Jmp 0 ∷ [])

-- it gives the outputs their message, and does not emit it
abbrev pub emits_past_buffer : Program
emits_past_buffer = telling (Take 0 ∷ Lock 0 ∷ Unlock 0 ∷ Out 0 0 ∷ Out 1 0 ∷ Jmp 0 ∷ [])

-- it tells the second output twice
abbrev pub tells_twice : Program
tells_twice = telling (Take 0 ∷ Lock 0 ∷ emitted ++ Unlock 0 ∷ Out 0 0 ∷ Out 1 0 ∷ Out 1 0 ∷ Jmp 0 ∷ [])

-- ---- a handler that two sources reach

-- (tower pair (signal a u8 1) (signal b u8 2) (channel c u8)
--  (monitor m (state n u8)
--   (handler ha a (emitter e c 1) (callback v (emit e v)))
--   (handler hb b (emitter e c 1) (callback v (emit e v))))
--  (monitor k (state s u8) (handler h c (callback v (set s v)))))
abbrev pub pair : Arch
pair =
    let passes_on = of.callback (codes "v") [] (emit 0 (of.value_at Param) ∷ []) in
    let e = of.emitter (codes "e") 0 1 ∷ [] in
    record {
      version = 1;
      name = codes "pair";
      records = [];
      record_names = [];
      sources = of.signal (codes "a") (scalar U8) 1 None ∷ of.signal (codes "b") (scalar U8) 2 None ∷ [];
      channels = of.channel (codes "c") (scalar U8) ∷ [];
      outputs = [];
      monitors = of.monitor (codes "m") ((codes "n", scalar U8) ∷ []) ∷ of.monitor (codes "k") ((codes "s", scalar U8) ∷ []) ∷ [];
      handlers =
          of.handler (codes "ha") 0 (on.Source 0) e passes_on
          ∷ of.handler (codes "hb") 0 (on.Source 1) e passes_on
          ∷ of.handler (codes "h") 1 (on.Channel 0) [] (of.callback (codes "v") [] (set (of.whole (State 0)) (of.value_at Param) ∷ []))
          ∷ [];
      listeners = to.Handler 0 ∷ to.Handler 1 ∷ to.Handler 2 ∷ [];
    }

-- a message for b
abbrev pub paired : Events
paired = record { kinds = Signal ∷ Signal ∷ []; depths = None ∷ None ∷ []; entries = signal 1 (word (pos 5)) ∷ [] }

-- the task of one source, which locks this monitor for h
abbrev pub passing : ℕ → ℕ → Task
passing priority m = record {
  priority = priority;
  message = 1;
  room = 1;
  buffers = record { width = 1; bound = 1 } ∷ [];
  code = Take 0 ∷ Lock 0 ∷ emitted ++ Unlock 0 ∷ Lock m ∷ Push (pos 0) ∷ Ld 0 ∷ Stm m 0 1 ∷ Unlock m ∷ Jmp 0 ∷ [];
}

-- its two tasks lock different monitors for h
abbrev pub locks_another : Program
locks_another = record { monitors = 1 ∷ 1 ∷ []; outputs = []; tasks = passing 1 1 ∷ passing 2 0 ∷ [] }

-- ---- a message that nobody hears

-- (tower still (signal s u8 1))
abbrev pub still : Arch
still = record {
  version = 1;
  name = codes "still";
  records = [];
  record_names = [];
  sources = of.signal (codes "s") (scalar U8) 1 None ∷ [];
  channels = [];
  outputs = [];
  monitors = [];
  handlers = [];
  listeners = [];
}

-- it takes the message, and then goes on for ever
abbrev pub spins : Program
spins = record { monitors = []; outputs = []; tasks = record { priority = 1; message = 1; room = 1; buffers = []; code = Take 0 ∷ Jmp 1 ∷ [] } ∷ [] }
