-- What each instruction does, as an equation, and how stretches of private ones follow one another.
use Rattle.std.proofs.Common.{◌≡◌, ℕ, zero, suc, ◌+◌, ◌<◌, ◌≤◌, ℤ, pos, negsuc, true, false, List, ◌∷◌, length, take, drop, slice_index, Some, None, refl, sym, subst, arith, ◌==◌, slice_get, slice_set}
use Rattle.std.proofs.lemmas.Bool.{lt-ltb, eq-eqb}
use Rattle.tower_types.specs.declared.scalar.Scalar.{Scalar}
use Rattle.tower_types.specs.declared.scalar.BinOp.{BinOp}
use Rattle.tower_types.specs.declared.scalar.UnOp.{UnOp}
use Rattle.tower_types.specs.Value.{fits_scalar}
use Rattle.tower_types.specs.Arithmetic.{wrap_to, binary_of, unary_of, applies, applies_one, is_true}
use Rattle.task_code.specs.declared.program.Buffer.{Buffer}
use Rattle.task_code.specs.declared.program.Task.{Task}
use Rattle.task_code.specs.declared.program.Instr.TheVariants.{Push, Drop, Dup, Ld, St, Ldx, Stx, Ldm, Stm, Un, Bin, Cast, Jmp, Jz, Call, Ret, Take, Lock, Unlock, Out, Bclr, Bput, Badd, Bget, Bcnt}
use Rattle.task_code.specs.Program.{Program}
use Rattle.task_code.specs.Own.{Filled, Own}
use Rattle.task_code.specs.Does.{Private, Takes, Locks, Unlocks, Writes, laid, need, popped, returned, indexed, without_lock, with_lock, with_buffer, at_zero, does, word_at, slot, with_word, with_count}
use Rattle.task_code.specs.Leads.{Privately, Leads, at}

module _ (p : Program) (t : Task) where
  joined : (m n : ℕ) (u v w : Own) → Privately p t m u v → Privately p t n v w → (k : ℕ) × (k ≡ m + n) × Privately p t k u w
  joined zero n u v w f g = (n, omega arith, subst (λ o. Privately p t n o w) (sym f) g)
  joined (suc m) n u v w f g =
      let x = joined m n f.0 v w f.2 g in
      (suc x.0, omega (arith, x.1), (f.0, f.1, x.2))

  pub stays : (u : Own) → Leads p t 0 u u
  stays u = record { steps = 0; few = omega arith; privately = refl }

  pub wider : (m n : ℕ) (u v : Own) → Leads p t m u v → m ≤ n → Leads p t n u v
  wider m n u v l h = record { steps = l.steps; few = omega (arith, l.few); privately = l.privately }

  -- one stretch and then another
  pub then_on : (m n : ℕ) (u v w : Own) → Leads p t m u v → Leads p t n v w → Leads p t (m + n) u w
  then_on m n u v w f g =
      let x = joined f.steps g.steps u v w f.privately g.privately in
      record { steps = x.0; few = omega (arith, x.1, f.few, g.few); privately = x.2 }

  pub once : (u v : Own) → does p t u ≡ Private v → Leads p t 1 u v
  once u v e = record { steps = 1; few = omega arith; privately = (v, e, refl) }

same : (m : ℕ) → (m == m) ≡ true
same m = eq-eqb m m refl

-- the instruction at place a, with st below what it pops
module _ (p : Program) (t : Task) (o : Own) (a : ℕ) (st : List ℤ) where
  pub push : (n : ℤ) → slice_get t.code a ≡ Some (Push n) → length st < 64 → does p t (at o a st) ≡ Private (at o (suc a) (n ∷ st))
  unfolding does need
  push n e h = rw e (rw (lt-ltb (length st) 64 h) refl)

  pub drop_top : (v : ℤ) → slice_get t.code a ≡ Some Drop → does p t (at o a (v ∷ st)) ≡ Private (at o (suc a) st)
  unfolding does popped
  drop_top v e = rw e refl

  pub dup : (v : ℤ) → slice_get t.code a ≡ Some Dup → suc (length st) < 64 → does p t (at o a (v ∷ st)) ≡ Private (at o (suc a) (v ∷ v ∷ st))
  unfolding does popped need
  dup v e h = rw e (rw (lt-ltb (suc (length st)) 64 h) refl)

  pub ld : (b : ℕ) → slice_get t.code a ≡ Some (Ld b) → length st < 64 → does p t (at o a st) ≡ Private (at o (suc a) (word_at o.words b ∷ st))
  unfolding does need
  ld b e h = rw e (rw (lt-ltb (length st) 64 h) refl)

  pub store : (b : ℕ) (v : ℤ) → slice_get t.code a ≡ Some (St b) → does p t (at o a (v ∷ st)) ≡ Private (at (record o { words = slice_set o.words b v }) (suc a) st)
  unfolding does popped
  store b v e = rw e refl

  pub ldx : (b n i : ℕ) → slice_get t.code a ≡ Some (Ldx b n) → i < n → does p t (at o a (pos i ∷ st)) ≡ Private (at o (suc a) (word_at o.words (b + i) ∷ st))
  unfolding does popped indexed need
  ldx b n i e lt = rw e (rw (lt-ltb i n lt) refl)

  pub stx : (b n i : ℕ) (v : ℤ) → slice_get t.code a ≡ Some (Stx b n) → i < n → does p t (at o a (v ∷ pos i ∷ st)) ≡ Private (at (record o { words = slice_set o.words (b + i) v }) (suc a) st)
  unfolding does popped indexed need
  stx b n i v e lt = rw e (rw (lt-ltb i n lt) refl)

  pub ldm : (m b n i : ℕ) (ws : List ℤ) → slice_get t.code a ≡ Some (Ldm m b n) → o.held ≡ Some (record { monitor = m; words = ws }) → i < n → does p t (at o a (pos i ∷ st)) ≡ Private (at o (suc a) (word_at ws (b + i) ∷ st))
  unfolding does popped with_lock indexed need
  ldm m b n i ws e held lt = rw e (rw held (rw (same m) (rw (lt-ltb i n lt) refl)))

  pub stm : (m b n i : ℕ) (v : ℤ) (ws : List ℤ) → slice_get t.code a ≡ Some (Stm m b n) → o.held ≡ Some (record { monitor = m; words = ws }) → i < n → does p t (at o a (v ∷ pos i ∷ st)) ≡ Private (at (record o { held = Some (record { monitor = m; words = slice_set ws (b + i) v }) }) (suc a) st)
  unfolding does popped with_lock indexed need
  stm m b n i v ws e held lt = rw e (rw held (rw (same m) (rw (lt-ltb i n lt) refl)))

  pub un : (op : UnOp) (s : Scalar) (x : ℤ) → slice_get t.code a ≡ Some (Un op s) → applies_one op s ≡ true → fits_scalar s x ≡ true → does p t (at o a (x ∷ st)) ≡ Private (at o (suc a) (unary_of op s x ∷ st))
  unfolding does popped need
  un op s x e ok f = rw e (rw ok (rw f refl))

  pub bin : (op : BinOp) (s : Scalar) (x y : ℤ) → slice_get t.code a ≡ Some (Bin op s) → applies op s ≡ true → fits_scalar s x ≡ true → fits_scalar s y ≡ true → does p t (at o a (y ∷ x ∷ st)) ≡ Private (at o (suc a) (binary_of op s x y ∷ st))
  unfolding does popped need
  bin op s x y e ok f g = rw e (rw ok (rw f (rw g refl)))

  pub cast : (s : Scalar) (x : ℤ) → slice_get t.code a ≡ Some (Cast s) → does p t (at o a (x ∷ st)) ≡ Private (at o (suc a) (wrap_to s x ∷ st))
  unfolding does popped
  cast s x e = rw e refl

  pub jmp : (to : ℕ) → slice_get t.code a ≡ Some (Jmp to) → does p t (at o a st) ≡ Private (at o to st)
  unfolding does
  jmp to e = rw e refl

  pub jz_taken : (to : ℕ) (x : ℤ) → slice_get t.code a ≡ Some (Jz to) → is_true x ≡ false → does p t (at o a (x ∷ st)) ≡ Private (at o to st)
  unfolding does popped at_zero
  jz_taken to (pos zero) e f = rw e refl
  jz_taken to (pos (suc n)) e f = cc
  jz_taken to (negsuc n) e f = cc

  pub jz_passed : (to : ℕ) (x : ℤ) → slice_get t.code a ≡ Some (Jz to) → is_true x ≡ true → does p t (at o a (x ∷ st)) ≡ Private (at o (suc a) st)
  unfolding does popped at_zero
  jz_passed to (pos zero) e f = cc
  jz_passed to (pos (suc n)) e f = rw e refl
  jz_passed to (negsuc n) e f = rw e refl

  pub call : (to : ℕ) → slice_get t.code a ≡ Some (Call to) → length o.calls < 256 → does p t (at o a st) ≡ Private (at (record o { calls = suc a ∷ o.calls }) to st)
  unfolding does need
  call to e h = rw e (rw (lt-ltb (length o.calls) 256 h) refl)

  pub ret : (to : ℕ) (rest : List ℕ) → slice_get t.code a ≡ Some Ret → o.calls ≡ to ∷ rest → does p t (at o a st) ≡ Private (at (record o { calls = rest }) to st)
  unfolding does returned
  ret to rest e calls = rw e (rw calls refl)

  -- buffer b, with its entry in the table
  module _ (b : ℕ) (s : Buffer) (f : Filled) (is : slice_get t.buffers b ≡ Some s) (has : slice_get o.buffers b ≡ Some f) where
    pub bclr : slice_get t.code a ≡ Some (Bclr b) → does p t (at o a st) ≡ Private (at (record o { buffers = slice_set o.buffers b (with_count f 0) }) (suc a) st)
    unfolding does with_buffer
    bclr e = rw e (rw is (rw has refl))

    pub bput : (j : ℕ) (v : ℤ) → slice_get t.code a ≡ Some (Bput b) → f.count < s.bound → j < s.width → does p t (at o a (v ∷ pos j ∷ st)) ≡ Private (at (record o { buffers = slice_set o.buffers b (with_word f f.count j v) }) (suc a) st)
    unfolding does popped with_buffer need indexed
    bput j v e lt jl = rw e (rw is (rw has (rw (lt-ltb f.count s.bound lt) (rw (lt-ltb j s.width jl) refl))))

    pub badd : slice_get t.code a ≡ Some (Badd b) → f.count < s.bound → does p t (at o a st) ≡ Private (at (record o { buffers = slice_set o.buffers b (with_count f (suc f.count)) }) (suc a) st)
    unfolding does with_buffer need
    badd e lt = rw e (rw is (rw has (rw (lt-ltb f.count s.bound lt) refl)))

    pub bget : (i j : ℕ) → slice_get t.code a ≡ Some (Bget b) → i < f.count → j < s.width → does p t (at o a (pos j ∷ pos i ∷ st)) ≡ Private (at o (suc a) (word_at (slot f i) j ∷ st))
    unfolding does popped with_buffer indexed need
    bget i j e il jl = rw e (rw is (rw has (rw (lt-ltb i f.count il) (rw (lt-ltb j s.width jl) refl))))

    pub bcnt : slice_get t.code a ≡ Some (Bcnt b) → length st < 64 → does p t (at o a st) ≡ Private (at o (suc a) (pos f.count ∷ st))
    unfolding does with_buffer need
    bcnt e h = rw e (rw is (rw has (rw (lt-ltb (length st) 64 h) refl)))

  -- the visible instructions
  pub takes : (b : ℕ) → slice_get t.code a ≡ Some (Take b) → o.held ≡ None → does p t (at o a st) ≡ Takes (λ ws. at (record o { words = laid b ws o.words }) (suc a) st)
  unfolding does without_lock
  takes b e free = rw e (rw free refl)

  pub locks : (m : ℕ) → slice_get t.code a ≡ Some (Lock m) → o.held ≡ None → does p t (at o a st) ≡ Locks m (λ ws. at (record o { held = Some (record { monitor = m; words = ws }) }) (suc a) st)
  unfolding does without_lock
  locks m e free = rw e (rw free refl)

  pub unlocks : (m : ℕ) (ws : List ℤ) → slice_get t.code a ≡ Some (Unlock m) → o.held ≡ Some (record { monitor = m; words = ws }) → does p t (at o a st) ≡ Unlocks (record { monitor = m; words = ws }) (at (record o { held = None }) (suc a) st)
  unfolding does with_lock need
  unlocks m ws e held = rw e (rw held (rw (same m) refl))

  pub out : (k b : ℕ) → slice_get t.code a ≡ Some (Out k b) → o.held ≡ None → does p t (at o a st) ≡ Writes k (take (slice_index p.outputs k) (drop b o.words)) (at o (suc a) st)
  unfolding does without_lock
  out k b e free = rw e (rw free refl)
