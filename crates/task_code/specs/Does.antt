-- What one instruction does to the task that executes it.
use Rattle.std.specs.Prelude.{ℕ, zero, suc, ◌+◌, ℤ, pos, negsuc, Bool, true, false, ◌&&◌, List, [], ◌∷◌, ◌++◌, length, take, drop, Option, Some, None, slice_get, slice_index, slice_index_or, slice_set, nat_lt, ◌==◌}
use Rattle.tower_types.specs.Value.{fits_scalar}
use Rattle.tower_types.specs.Arithmetic.{wrap_to, binary_of, unary_of, applies, applies_one}
use Rattle.task_code.specs.declared.program.Buffer.{Buffer}
use Rattle.task_code.specs.declared.program.Task.{Task}
use Rattle.task_code.specs.declared.program.Instr.{Instr}
use Rattle.task_code.specs.declared.program.Instr.TheVariants.{Push, Drop, Dup, Ld, St, Ldx, Stx, Ldm, Stm, Un, Bin, Cast, Jmp, Jz, Call, Ret, Take, Lock, Unlock, Out, Bclr, Bput, Badd, Bget, Bcnt}
use Rattle.task_code.specs.Program.{Program}
use Rattle.task_code.specs.Own.{Filled, Held, Own}

-- What comes of an instruction. Where a task takes a message or a lock, what it comes to depends on the words that
-- it is handed.
pub data Does : Type 0 where
  Stuck : Does
  Private : Own → Does
  Takes : (List ℤ → Own) → Does
  Locks : (m : ℕ) → (List ℤ → Own) → Does
  Unlocks : Held → Own → Does
  Writes : (o : ℕ) → List ℤ → Own → Does

unfoldable pub need : Bool → Does → Does
need true d = d
need false d = Stuck

-- the topmost word, and those below it
unfoldable pub popped : List ℤ → (ℤ → List ℤ → Does) → Does
popped [] go = Stuck
popped (w ∷ ws) go = go w ws

-- the place to return to, and those below it
unfoldable pub returned : List ℕ → (ℕ → List ℕ → Does) → Does
returned [] go = Stuck
returned (to ∷ calls) go = go to calls

-- a number from 0 to below n
unfoldable pub indexed : ℤ → ℕ → (ℕ → Does) → Does
indexed (pos i) n go = need (nat_lt i n) (go i)
indexed (negsuc i) n go = Stuck

-- no lock may be held
unfoldable pub without_lock : Option Held → Does → Does
without_lock None d = d
without_lock (Some h) d = Stuck

-- the lock of m has to be held
unfoldable pub with_lock : Option Held → ℕ → (Held → Does) → Does
with_lock None m go = Stuck
with_lock (Some h) m go = need (h.monitor == m) (go h)

unfoldable pub with_buffer : Option Buffer → Option Filled → (Buffer → Filled → Does) → Does
with_buffer None f go = Stuck
with_buffer (Some b) None go = Stuck
with_buffer (Some b) (Some f) go = go b f

unfoldable pub at_zero : ℤ → Does → Does → Does
at_zero (pos zero) d e = d
at_zero (pos (suc n)) d e = e
at_zero (negsuc n) d e = e

abbrev pub word_at : List ℤ → ℕ → ℤ
word_at ws a = slice_index_or ws a (pos 0)

-- the words from a on are those of the message
abbrev pub laid : ℕ → List ℤ → List ℤ → List ℤ
laid a message ws = take a ws ++ message ++ drop (a + length message) ws

abbrev pub slot : Filled → ℕ → List ℤ
slot f i = slice_index_or f.slots i []

-- word j of a slot is v
abbrev pub with_word : Filled → ℕ → ℕ → ℤ → Filled
with_word f i j v = record f { slots = slice_set f.slots i (slice_set (slot f i) j v) }

abbrev pub with_count : Filled → ℕ → Filled
with_count f n = record f { count = n }

abbrev pub with_words : Held → List ℤ → Held
with_words h ws = record h { words = ws }

-- the task goes on to the next place
abbrev pub on : Own → Own
on own = record own { place = suc own.place }

abbrev pub to_stack : Own → List ℤ → Does
to_stack own stack = Private (on (record own { stack = stack }))

-- there must be room for one word more
abbrev pub pushed : Own → ℤ → Does
pushed own w = need (nat_lt (length own.stack) 64) (to_stack own (w ∷ own.stack))

abbrev pub to_words : Own → List ℤ → List ℤ → Does
to_words own stack ws = Private (on (record own { stack = stack; words = ws }))

abbrev pub to_buffer : Own → List ℤ → ℕ → Filled → Does
to_buffer own stack b f = Private (on (record own { stack = stack; buffers = slice_set own.buffers b f }))

-- where a word was popped there is room to push one
abbrev pub executes : Program → Task → Own → Instr → Does
executes p t own (Push n) = pushed own n
executes p t own Drop = popped own.stack (λ v rest. to_stack own rest)
executes p t own Dup = popped own.stack (λ v rest. pushed own v)
executes p t own (Ld a) = pushed own (word_at own.words a)
executes p t own (St a) = popped own.stack (λ v rest. to_words own rest (slice_set own.words a v))
executes p t own (Ldx a n) = popped own.stack (λ i rest. indexed i n (λ k. to_stack own (word_at own.words (a + k) ∷ rest)))
executes p t own (Stx a n) =
    popped own.stack (λ v below. popped below (λ i rest. indexed i n (λ k. to_words own rest (slice_set own.words (a + k) v))))
executes p t own (Ldm m a n) =
    popped own.stack (λ i rest. with_lock own.held m (λ h. indexed i n (λ k. to_stack own (word_at h.words (a + k) ∷ rest))))
executes p t own (Stm m a n) =
    popped own.stack (λ v below. popped below (λ i rest. with_lock own.held m (λ h. indexed i n (λ k.
    Private (on (record own { stack = rest; held = Some (with_words h (slice_set h.words (a + k) v)) }))))))
executes p t own (Un op s) =
    popped own.stack (λ a rest. need (applies_one op s && fits_scalar s a) (to_stack own (unary_of op s a ∷ rest)))
executes p t own (Bin op s) =
    popped own.stack (λ b below. popped below (λ a rest. need (applies op s && (fits_scalar s a && fits_scalar s b))
    (to_stack own (binary_of op s a b ∷ rest))))
executes p t own (Cast s) = popped own.stack (λ a rest. to_stack own (wrap_to s a ∷ rest))
executes p t own (Jmp to) = Private (record own { place = to })
executes p t own (Jz to) = popped own.stack (λ a rest. at_zero a (Private (record own { stack = rest; place = to })) (to_stack own rest))
executes p t own (Call to) = need (nat_lt (length own.calls) 256) (Private (record own { calls = suc own.place ∷ own.calls; place = to }))
executes p t own Ret = returned own.calls (λ to calls. Private (record own { calls = calls; place = to }))
executes p t own (Take a) = without_lock own.held (Takes (λ message. on (record own { words = laid a message own.words })))
executes p t own (Lock m) = without_lock own.held (Locks m (λ ws. on (record own { held = Some (record { monitor = m; words = ws }) })))
executes p t own (Unlock m) = with_lock own.held m (λ h. Unlocks h (on (record own { held = None })))
executes p t own (Out o a) = without_lock own.held (Writes o (take (slice_index p.outputs o) (drop a own.words)) (on own))
executes p t own (Bclr b) =
    with_buffer (slice_get t.buffers b) (slice_get own.buffers b) (λ s f. to_buffer own own.stack b (with_count f 0))
executes p t own (Bput b) =
    popped own.stack (λ v below. popped below (λ j rest. with_buffer (slice_get t.buffers b) (slice_get own.buffers b) (λ s f.
    need (nat_lt f.count s.bound) (indexed j s.width (λ k. to_buffer own rest b (with_word f f.count k v))))))
executes p t own (Badd b) =
    with_buffer (slice_get t.buffers b) (slice_get own.buffers b) (λ s f.
    need (nat_lt f.count s.bound) (to_buffer own own.stack b (with_count f (suc f.count))))
executes p t own (Bget b) =
    popped own.stack (λ j below. popped below (λ i rest. with_buffer (slice_get t.buffers b) (slice_get own.buffers b) (λ s f.
    indexed i f.count (λ n. indexed j s.width (λ k. to_stack own (word_at (slot f n) k ∷ rest))))))
executes p t own (Bcnt b) = with_buffer (slice_get t.buffers b) (slice_get own.buffers b) (λ s f. pushed own (pos f.count))

abbrev pub executes_at : Program → Task → Own → Option Instr → Does
executes_at p t own None = Stuck
executes_at p t own (Some i) = executes p t own i

-- what the instruction at a task's place does; past the code the task is stuck
unfoldable pub does : Program → Task → Own → Does
does p t own = executes_at p t own (slice_get t.code own.place)

abbrev pub is_take : Option Instr → Bool
is_take (Some (Take a)) = true
is_take _ = false

-- is the task's next instruction TAKE
abbrev pub at_take : Task → Own → Bool
at_take t own = is_take (slice_get t.code own.place)
