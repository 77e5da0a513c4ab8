-- What an action does to the task that executes it.
use Rattle.std.specs.Prelude.{ℕ, suc, ◌+◌, ◌<◌, ◌^◌, ℤ, pos, List, [], ◌∷◌, length, take, drop, IsSomeAnd, ◌≤◌, Bool, false, ◌==◌, Option, Some, None, slice_index_or, slice_set}
use Rattle.std.specs.Option.{option_map}
use Rattle.task_code.specs.declared.program.Task.{Task}
use Rattle.task_code.specs.Program.{Program}
use Rattle.task_code.specs.Own.{Filled, Held, Own, held_monitor}
use Rattle.task_code.specs.Does.{Does, Stuck, Private, Takes, Locks, Unlocks, Writes, on, laid, with_word, with_count, with_words}
use Rattle.task_machine.specs.declared.action.Action.{Action}
use Rattle.task_machine.specs.declared.action.Action.TheVariants as action
use Rattle.task_machine.specs.declared.action.Change.{Change}
use Rattle.task_machine.specs.declared.action.Change.TheVariants.{Pop, Push, Store, StoreHeld, Jump, Call, Return, Fill, Count}

abbrev pub no_buffer : Filled
no_buffer = record { count = 0; slots = [] }

abbrev pub buffer_at : Own → ℕ → Filled
buffer_at own b = slice_index_or own.buffers b no_buffer

abbrev pub with_buffer_at : Own → ℕ → Filled → Own
with_buffer_at own b f = record own { buffers = slice_set own.buffers b f }

abbrev pub popping : ℕ → Own → Own
popping n own = record own { stack = drop n own.stack }

-- a word of the monitor whose lock is held
abbrev pub held_word_at : Option Held → ℕ → ℤ
held_word_at None a = pos 0
held_word_at (Some h) a = slice_index_or h.words a (pos 0)

-- is the lock of this monitor held
abbrev pub holds_lock : Option Held → ℕ → Bool
holds_lock None m = false
holds_lock (Some h) m = h.monitor == m

abbrev pub stored_held : Own → List ℤ → Held → Does
stored_held own rest h = Private (on (record own { stack = rest; held = Some h }))

abbrev pub jumped_to : Own → List ℤ → ℕ → Does
jumped_to own rest to = Private (record own { stack = rest; place = to })

abbrev pub with_held_word : ℕ → ℤ → Held → Held
with_held_word a v h = with_words h (slice_set h.words a v)

-- a task's own part after a change
abbrev pub changed : Change → Own → Own
changed (Pop n) own = on (popping n own)
changed (Push n w) own = on (record own { stack = w ∷ drop n own.stack })
changed (Store n a w) own = on (record (popping n own) { words = slice_set own.words a w })
changed (StoreHeld n a w) own = on (record (popping n own) { held = option_map (with_held_word a w) own.held })
changed (Jump n to) own = record (popping n own) { place = to }
changed (Call to) own = record own { calls = suc own.place ∷ own.calls; place = to }
changed (Return to) own = record own { calls = drop 1 own.calls; place = to }
changed (Fill n b j v) own = on (with_buffer_at (popping n own) b (with_word (buffer_at own b) (buffer_at own b).count j v))
changed (Count b n) own = on (with_buffer_at own b (with_count (buffer_at own b) n))

-- there is room for what a change pushes
abbrev pub HasRoom : Change → Own → Type 0
HasRoom (Push n w) own = length (drop n own.stack) < 64
HasRoom (Call to) own = length own.calls < 256
HasRoom _ own = Unit {0}

-- what a change does, and being stuck where there is none
abbrev pub private_effect : Option Change → Own → Does
private_effect None own = Stuck
private_effect (Some c) own = Private (changed c own)

abbrev pub with_message : ℕ → Own → List ℤ → Own
with_message a own message = on (record own { words = laid a message own.words })

abbrev pub with_lock_of : ℕ → Own → List ℤ → Own
with_lock_of m own ws = on (record own { held = Some (record { monitor = m; words = ws }) })

abbrev pub without_held : Own → Own
without_held own = on (record own { held = None })

abbrev pub unlocks : Option Held → Own → Does
unlocks None own = Stuck
unlocks (Some h) own = Unlocks h (without_held own)

-- what an action does
abbrev pub effect : Action → Own → Does
effect action.Stuck own = Stuck
effect (action.Private c) own = Private (changed c own)
effect (action.Take a) own = Takes (with_message a own)
effect (action.Lock m) own = Locks m (with_lock_of m own)
effect action.Unlock own = unlocks own.held own
effect (action.Out o a n) own = Writes o (take n (drop a own.words)) (on own)

-- a message that is taken lies in the private words, and a monitor that is locked or unlocked and an output that gets
-- words are there
abbrev pub IsWithin : Program → Task → Own → Action → Type 0
IsWithin p t own (action.Private c) = HasRoom c own
IsWithin p t own (action.Take a) = a + t.message ≤ t.room
IsWithin p t own (action.Lock m) = m < length p.monitors
IsWithin p t own action.Unlock = IsSomeAnd (held_monitor own) (λ m. m < length p.monitors)
IsWithin p t own (action.Out o a n) = o < length p.outputs
IsWithin p t own _ = Unit {0}

-- the next place is a number of the machine, or the task is stuck
abbrev pub CanGoOn : Own → Action → Type 0
CanGoOn own action.Stuck = Unit {0}
CanGoOn own _ = own.place + 1 < 2 ^ 64
