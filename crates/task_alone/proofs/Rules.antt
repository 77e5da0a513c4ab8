-- One rule for each instruction: from what is safe after it, what is safe before it.
use Rattle.std.proofs.Common.{◌≡◌, ℕ, zero, suc, ◌+◌, ◌<◌, ◌≤◌, ℤ, pos, true, false, List, [], ◌∷◌, ◌++◌, length, take, drop, Some, None, refl, sym, subst, arith, slice_get, slice_set, slice_index}
use Rattle.tower_types.specs.declared.scalar.Scalar.{Scalar}
use Rattle.tower_types.specs.declared.scalar.BinOp.{BinOp}
use Rattle.tower_types.specs.declared.scalar.UnOp.{UnOp}
use Rattle.tower_types.specs.Value.{Value, flat, fits_scalar}
use Rattle.tower_types.specs.Arithmetic.{wrap_to, binary_of, unary_of, applies, applies_one, is_true}
use Rattle.tower_syntax.specs.declared.arch.Listener.TheVariants as to
use Rattle.tower_meaning.specs.System.{Item}
use Rattle.task_code.specs.declared.program.Buffer.{Buffer}
use Rattle.task_code.specs.declared.program.Task.{Task}
use Rattle.task_code.specs.declared.program.Instr.TheVariants.{Push, Drop, Dup, Ld, St, Ldx, Stx, Ldm, Stm, Un, Bin, Cast, Jmp, Jz, Call, Ret, Take, Lock, Unlock, Out, Bclr, Bput, Badd, Bget, Bcnt}
use Rattle.task_code.specs.Program.{Program}
use Rattle.task_code.specs.Own.{Filled, Held, Own}
use Rattle.task_code.specs.Does.{Does, Stuck, Private, Takes, Locks, Unlocks, Writes, does, laid, word_at, slot, with_word, with_count}
use Rattle.task_code.specs.Leads.{Privately, Leads, at}
use Rattle.task_code.proofs.Leads as leads
use Rattle.task_alone.specs.Setting.{Setting}
use Rattle.task_alone.specs.Alone.{State, Asks, UnlockAsks, WriteAsks, Safe}
use Rattle.task_code.specs.Holds.{HoldLists, buffers_at}
use Rattle.task_alone.specs.Visits.{SafeAt}

module _ (s : Setting) (x : ℕ) (a : State) (Then Later : State → Type 0) (go : (b : State) → Then b → Later b) where
  unlock_more : (h : Held) (own : Own) (items : List Item) → UnlockAsks s x a h own items Then → UnlockAsks s x a h own items Later
  unlock_more h own [] ask = ask
  unlock_more h own ((to.Output o, v) ∷ rest) ask = ask
  unlock_more h own ((to.Handler n, v) ∷ rest) ask = (ask.0, ask.1, go _ ask.2)

  write_more : (o : ℕ) (ws : List ℤ) (own : Own) (items : List Item) → WriteAsks a o ws own items Then → WriteAsks a o ws own items Later
  write_more o ws own [] ask = ask
  write_more o ws own ((to.Handler n, v) ∷ rest) ask = ask
  write_more o ws own ((to.Output out, v) ∷ rest) ask = (ask.0, ask.1, go _ ask.2)

  asks_more : (d : Does) → Asks s x a d Then → Asks s x a d Later
  asks_more Stuck ask = ask
  asks_more (Private own) ask = go _ ask
  asks_more (Takes f) ask = (ask.0, λ v fits. go _ (ask.1 v fits))
  asks_more (Locks m f) ask = (ask.0, λ v fits. go _ (ask.1 v fits))
  asks_more (Unlocks h own) ask = unlock_more h own a.pending ask
  asks_more (Writes o ws own) ask = write_more o ws own a.pending ask

module _ (s : Setting) (p : Program) (t : Task) (x : ℕ) where
  -- what is safe for one step more is safe
  pub one_fewer : (n : ℕ) (a : State) → Safe s p t x (suc n) a → Safe s p t x n a
  one_fewer zero a h = tt
  one_fewer (suc n) a h = (h.0, asks_more s x a (Safe s p t x (suc n)) (Safe s p t x n) (λ b. one_fewer n b) (does p t a.own) h.1)

  -- one instruction, whatever it does
  pub before : (n : ℕ) (a : State) (d : Does) → does p t a.own ≡ d → a.since ≤ s.cost x → Asks s x a d (Safe s p t x n) → Safe s p t x n a
  before zero a d e le ask = tt
  before (suc n) a d e le ask = (le, subst (λ d. Asks s x a d (Safe s p t x n)) (sym e) (asks_more s x a (Safe s p t x (suc n)) (Safe s p t x n) (λ b. one_fewer n b) d ask))

  -- private instructions
  pub private : (n : ℕ) (own after : Own) (items : List Item) (handed : Value) (since : ℕ) → does p t own ≡ Private after → since ≤ s.cost x → SafeAt s p t x n after items handed (suc since) → SafeAt s p t x n own items handed since
  private n own after items handed since e le h = before n (record { own = own; pending = items; handed = handed; since = since }) (Private after) e le h

  privately : (k n : ℕ) (u v : Own) (items : List Item) (handed : Value) (since : ℕ) → Privately p t k u v → since + k ≤ s.cost x → SafeAt s p t x n v items handed (since + k) → SafeAt s p t x n u items handed since
  privately zero n u v items handed since f le h =
      let z : since + 0 ≡ since = omega arith in
      subst (λ o. SafeAt s p t x n o items handed since) (sym f) (subst (λ k. SafeAt s p t x n v items handed k) z h)
  privately (suc k) n u v items handed since f le h =
      let z : since + suc k ≡ suc since + k = omega arith in
      private n u f.0 items handed since f.1 (omega arith)
      (privately k n f.0 v items handed (suc since) f.2 (omega arith) (subst (λ k. SafeAt s p t x n v items handed k) z h))

  -- a stretch of private instructions
  pub led : (n most : ℕ) (u v : Own) (items : List Item) (handed : Value) (since : ℕ) → Leads p t most u v → since + most ≤ s.cost x → ((since' : ℕ) → since' ≤ since + most → SafeAt s p t x n v items handed since') → SafeAt s p t x n u items handed since
  led n most u v items handed since l le h =
      privately l.steps n u v items handed since l.privately (omega (arith, l.few)) (h (since + l.steps) (omega (arith, l.few)))

  module _ (n : ℕ) (o : Own) (a : ℕ) (st : List ℤ) (handed : Value) (since : ℕ) (le : since ≤ s.cost x) where
    -- the private instructions, whatever is pending
    module _ (items : List Item) where
      pub push : (w : ℤ) → slice_get t.code a ≡ Some (Push w) → length st < 64 → SafeAt s p t x n (at o (suc a) (w ∷ st)) items handed (suc since) → SafeAt s p t x n (at o a st) items handed since
      push w e room h = private n (at o a st) _ items handed since (leads.push p t o a st w e room) le h

      pub drop_top : (v : ℤ) → slice_get t.code a ≡ Some Drop → SafeAt s p t x n (at o (suc a) st) items handed (suc since) → SafeAt s p t x n (at o a (v ∷ st)) items handed since
      drop_top v e h = private n (at o a (v ∷ st)) _ items handed since (leads.drop_top p t o a st v e) le h

      pub dup : (v : ℤ) → slice_get t.code a ≡ Some Dup → suc (length st) < 64 → SafeAt s p t x n (at o (suc a) (v ∷ v ∷ st)) items handed (suc since) → SafeAt s p t x n (at o a (v ∷ st)) items handed since
      dup v e room h = private n (at o a (v ∷ st)) _ items handed since (leads.dup p t o a st v e room) le h

      pub ld : (b : ℕ) → slice_get t.code a ≡ Some (Ld b) → length st < 64 → SafeAt s p t x n (at o (suc a) (word_at o.words b ∷ st)) items handed (suc since) → SafeAt s p t x n (at o a st) items handed since
      ld b e room h = private n (at o a st) _ items handed since (leads.ld p t o a st b e room) le h

      pub store : (b : ℕ) (v : ℤ) → slice_get t.code a ≡ Some (St b) → SafeAt s p t x n (at (record o { words = slice_set o.words b v }) (suc a) st) items handed (suc since) → SafeAt s p t x n (at o a (v ∷ st)) items handed since
      store b v e h = private n (at o a (v ∷ st)) _ items handed since (leads.store p t o a st b v e) le h

      pub ldx : (b m i : ℕ) → slice_get t.code a ≡ Some (Ldx b m) → i < m → SafeAt s p t x n (at o (suc a) (word_at o.words (b + i) ∷ st)) items handed (suc since) → SafeAt s p t x n (at o a (pos i ∷ st)) items handed since
      ldx b m i e lt h = private n (at o a (pos i ∷ st)) _ items handed since (leads.ldx p t o a st b m i e lt) le h

      pub stx : (b m i : ℕ) (v : ℤ) → slice_get t.code a ≡ Some (Stx b m) → i < m → SafeAt s p t x n (at (record o { words = slice_set o.words (b + i) v }) (suc a) st) items handed (suc since) → SafeAt s p t x n (at o a (v ∷ pos i ∷ st)) items handed since
      stx b m i v e lt h = private n (at o a (v ∷ pos i ∷ st)) _ items handed since (leads.stx p t o a st b m i v e lt) le h

      pub ldm : (k b m i : ℕ) (ws : List ℤ) → slice_get t.code a ≡ Some (Ldm k b m) → o.held ≡ Some (record { monitor = k; words = ws }) → i < m → SafeAt s p t x n (at o (suc a) (word_at ws (b + i) ∷ st)) items handed (suc since) → SafeAt s p t x n (at o a (pos i ∷ st)) items handed since
      ldm k b m i ws e held lt h = private n (at o a (pos i ∷ st)) _ items handed since (leads.ldm p t o a st k b m i ws e held lt) le h

      pub stm : (k b m i : ℕ) (v : ℤ) (ws : List ℤ) → slice_get t.code a ≡ Some (Stm k b m) → o.held ≡ Some (record { monitor = k; words = ws }) → i < m → SafeAt s p t x n (at (record o { held = Some (record { monitor = k; words = slice_set ws (b + i) v }) }) (suc a) st) items handed (suc since) → SafeAt s p t x n (at o a (v ∷ pos i ∷ st)) items handed since
      stm k b m i v ws e held lt h = private n (at o a (v ∷ pos i ∷ st)) _ items handed since (leads.stm p t o a st k b m i v ws e held lt) le h

      pub un : (op : UnOp) (sc : Scalar) (v : ℤ) → slice_get t.code a ≡ Some (Un op sc) → applies_one op sc ≡ true → fits_scalar sc v ≡ true → SafeAt s p t x n (at o (suc a) (unary_of op sc v ∷ st)) items handed (suc since) → SafeAt s p t x n (at o a (v ∷ st)) items handed since
      un op sc v e ok f h = private n (at o a (v ∷ st)) _ items handed since (leads.un p t o a st op sc v e ok f) le h

      pub bin : (op : BinOp) (sc : Scalar) (v w : ℤ) → slice_get t.code a ≡ Some (Bin op sc) → applies op sc ≡ true → fits_scalar sc v ≡ true → fits_scalar sc w ≡ true → SafeAt s p t x n (at o (suc a) (binary_of op sc v w ∷ st)) items handed (suc since) → SafeAt s p t x n (at o a (w ∷ v ∷ st)) items handed since
      bin op sc v w e ok f g h = private n (at o a (w ∷ v ∷ st)) _ items handed since (leads.bin p t o a st op sc v w e ok f g) le h

      pub cast : (sc : Scalar) (v : ℤ) → slice_get t.code a ≡ Some (Cast sc) → SafeAt s p t x n (at o (suc a) (wrap_to sc v ∷ st)) items handed (suc since) → SafeAt s p t x n (at o a (v ∷ st)) items handed since
      cast sc v e h = private n (at o a (v ∷ st)) _ items handed since (leads.cast p t o a st sc v e) le h

      pub jmp : (b : ℕ) → slice_get t.code a ≡ Some (Jmp b) → SafeAt s p t x n (at o b st) items handed (suc since) → SafeAt s p t x n (at o a st) items handed since
      jmp b e h = private n (at o a st) _ items handed since (leads.jmp p t o a st b e) le h

      pub jz_taken : (b : ℕ) (v : ℤ) → slice_get t.code a ≡ Some (Jz b) → is_true v ≡ false → SafeAt s p t x n (at o b st) items handed (suc since) → SafeAt s p t x n (at o a (v ∷ st)) items handed since
      jz_taken b v e f h = private n (at o a (v ∷ st)) _ items handed since (leads.jz_taken p t o a st b v e f) le h

      pub jz_passed : (b : ℕ) (v : ℤ) → slice_get t.code a ≡ Some (Jz b) → is_true v ≡ true → SafeAt s p t x n (at o (suc a) st) items handed (suc since) → SafeAt s p t x n (at o a (v ∷ st)) items handed since
      jz_passed b v e f h = private n (at o a (v ∷ st)) _ items handed since (leads.jz_passed p t o a st b v e f) le h

      pub call : (b : ℕ) → slice_get t.code a ≡ Some (Call b) → length o.calls < 256 → SafeAt s p t x n (at (record o { calls = suc a ∷ o.calls }) b st) items handed (suc since) → SafeAt s p t x n (at o a st) items handed since
      call b e room h = private n (at o a st) _ items handed since (leads.call p t o a st b e room) le h

      pub ret : (b : ℕ) (rest : List ℕ) → slice_get t.code a ≡ Some Ret → o.calls ≡ b ∷ rest → SafeAt s p t x n (at (record o { calls = rest }) b st) items handed (suc since) → SafeAt s p t x n (at o a st) items handed since
      ret b rest e calls h = private n (at o a st) _ items handed since (leads.ret p t o a st b rest e calls) le h

      -- buffer b, with its entry in the table
      module _ (b : ℕ) (u : Buffer) (f : Filled) (is : slice_get t.buffers b ≡ Some u) (has : slice_get o.buffers b ≡ Some f) where
        pub bclr : slice_get t.code a ≡ Some (Bclr b) → SafeAt s p t x n (at (record o { buffers = slice_set o.buffers b (with_count f 0) }) (suc a) st) items handed (suc since) → SafeAt s p t x n (at o a st) items handed since
        bclr e h = private n (at o a st) _ items handed since (leads.bclr p t o a st b u f is has e) le h

        pub bput : (j : ℕ) (v : ℤ) → slice_get t.code a ≡ Some (Bput b) → f.count < u.bound → j < u.width → SafeAt s p t x n (at (record o { buffers = slice_set o.buffers b (with_word f f.count j v) }) (suc a) st) items handed (suc since) → SafeAt s p t x n (at o a (v ∷ pos j ∷ st)) items handed since
        bput j v e lt jl h = private n (at o a (v ∷ pos j ∷ st)) _ items handed since (leads.bput p t o a st b u f is has j v e lt jl) le h

        pub badd : slice_get t.code a ≡ Some (Badd b) → f.count < u.bound → SafeAt s p t x n (at (record o { buffers = slice_set o.buffers b (with_count f (suc f.count)) }) (suc a) st) items handed (suc since) → SafeAt s p t x n (at o a st) items handed since
        badd e lt h = private n (at o a st) _ items handed since (leads.badd p t o a st b u f is has e lt) le h

        pub bget : (i j : ℕ) → slice_get t.code a ≡ Some (Bget b) → i < f.count → j < u.width → SafeAt s p t x n (at o (suc a) (word_at (slot f i) j ∷ st)) items handed (suc since) → SafeAt s p t x n (at o a (pos j ∷ pos i ∷ st)) items handed since
        bget i j e il jl h = private n (at o a (pos j ∷ pos i ∷ st)) _ items handed since (leads.bget p t o a st b u f is has i j e il jl) le h

        pub bcnt : slice_get t.code a ≡ Some (Bcnt b) → length st < 64 → SafeAt s p t x n (at o (suc a) (pos f.count ∷ st)) items handed (suc since) → SafeAt s p t x n (at o a st) items handed since
        bcnt e room h = private n (at o a st) _ items handed since (leads.bcnt p t o a st b u f is has e room) le h

    -- TAKE begins with nothing pending, whatever message comes
    pub takes : (b : ℕ) → slice_get t.code a ≡ Some (Take b) → o.held ≡ None → ((v : Value) → s.fits_message x v ≡ true → SafeAt s p t x n (at (record o { words = laid b (flat v) o.words }) (suc a) st) (s.system.subscribers x v) handed 1) → SafeAt s p t x n (at o a st) [] handed since
    takes b e free h = before n (record { own = at o a st; pending = []; handed = handed; since = since }) (Takes (λ ws. at (record o { words = laid b ws o.words }) (suc a) st)) (leads.takes p t o a st b e free) le (refl, h)

    -- LOCK for the first item's handler, whatever value the monitor has
    pub locks : (m h : ℕ) (v : Value) (rest : List Item) → slice_get t.code a ≡ Some (Lock m) → o.held ≡ None → s.system.monitor h ≡ m → ((w : Value) → s.fits_monitor m w ≡ true → SafeAt s p t x n (at (record o { held = Some (record { monitor = m; words = flat w }) }) (suc a) st) ((to.Handler h, v) ∷ rest) w (suc since)) → SafeAt s p t x n (at o a st) ((to.Handler h, v) ∷ rest) handed since
    locks m h v rest e free is go = before n (record { own = at o a st; pending = (to.Handler h, v) ∷ rest; handed = handed; since = since }) (Locks m (λ ws. at (record o { held = Some (record { monitor = m; words = ws }) }) (suc a) st)) (leads.locks p t o a st m e free) le (is, go)

    -- UNLOCK with the words and the lists of the handler's effect
    pub unlocks : (m h : ℕ) (v : Value) (rest : List Item) → slice_get t.code a ≡ Some (Unlock m) → o.held ≡ Some (record { monitor = m; words = flat (s.system.effect h handed v).states }) → HoldLists (buffers_at o (s.buffers x h)) (s.system.effect h handed v).lists → SafeAt s p t x n (at (record o { held = None }) (suc a) st) (s.system.follow h (s.system.effect h handed v).lists ++ rest) handed (suc since) → SafeAt s p t x n (at o a st) ((to.Handler h, v) ∷ rest) handed since
    unlocks m h v rest e held lists go = before n (record { own = at o a st; pending = (to.Handler h, v) ∷ rest; handed = handed; since = since }) (Unlocks (record { monitor = m; words = flat (s.system.effect h handed v).states }) (at (record o { held = None }) (suc a) st)) (leads.unlocks p t o a st m (flat (s.system.effect h handed v).states) e held) le (refl, lists, go)

    -- OUT of the first item's message
    pub out : (k b : ℕ) (v : Value) (rest : List Item) → slice_get t.code a ≡ Some (Out k b) → o.held ≡ None → take (slice_index p.outputs k) (drop b o.words) ≡ flat v → SafeAt s p t x n (at o (suc a) st) rest handed (suc since) → SafeAt s p t x n (at o a st) ((to.Output k, v) ∷ rest) handed since
    out k b v rest e free words go = before n (record { own = at o a st; pending = (to.Output k, v) ∷ rest; handed = handed; since = since }) (Writes k (take (slice_index p.outputs k) (drop b o.words)) (at o (suc a) st)) (leads.out p t o a st k b e free) le (refl, words, go)
