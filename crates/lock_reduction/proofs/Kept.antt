-- What every instruction keeps: the lock that its task holds, and the bounds of its buffers.
use Rattle.std.proofs.Common.{◌≡◌, ◌∙◌, ℕ, zero, suc, ◌≤◌, ℤ, pos, negsuc, Bool, true, false, List, [], ◌∷◌, map, Option, Some, None, refl, sym, ap, subst, arith, slice_get, slice_set, option_map, ltb-true}
use Rattle.std.proofs.lemmas.Option.{same_Some}
use Rattle.task_code.specs.declared.program.Buffer.{Buffer}
use Rattle.task_code.specs.declared.program.Task.{Task}
use Rattle.task_code.specs.declared.program.Instr.{Instr}
use Rattle.task_code.specs.declared.program.Instr.TheVariants.{Push, Drop, Dup, Ld, St, Ldx, Stx, Ldm, Stm, Un, Bin, Cast, Jmp, Jz, Call, Ret, Take, Lock, Unlock, Out, Bclr, Bput, Badd, Bget, Bcnt}
use Rattle.task_code.specs.Program.{Program}
use Rattle.task_code.specs.Own.{Filled, Held, Own, held_monitor, empty_buffer}
use Rattle.task_code.specs.Does.{Does, Stuck, Private, Takes, Locks, Unlocks, Writes, need, popped, returned, indexed, without_lock, with_lock, with_buffer, at_zero, executes, executes_at, does, is_take, at_take}
use Rattle.lock_reduction.specs.Sound.{IsWithin}
use Rattle.task_alone.proofs.Lists.{after_set}

-- `take` is whether the instruction is TAKE
pub data Keeps (table : List Buffer) (own : Own) (take : Bool) : Does → Type 0 where
  stuck : Keeps table own take Stuck
  private : {after : Own} → held_monitor after ≡ held_monitor own → IsWithin table after.buffers → Keeps table own take (Private after)
  takes : {f : List ℤ → Own} → take ≡ true → own.held ≡ None → ((ws : List ℤ) → (f ws).held ≡ None) → ((ws : List ℤ) → IsWithin table (f ws).buffers) → Keeps table own take (Takes f)
  locks : {m : ℕ} {f : List ℤ → Own} → own.held ≡ None → ((ws : List ℤ) → held_monitor (f ws) ≡ Some m) → ((ws : List ℤ) → IsWithin table (f ws).buffers) → Keeps table own take (Locks m f)
  unlocks : {h : Held} {after : Own} → own.held ≡ Some h → after.held ≡ None → IsWithin table after.buffers → Keeps table own take (Unlocks h after)
  writes : {o : ℕ} {ws : List ℤ} {after : Own} → own.held ≡ None → after.held ≡ None → IsWithin table after.buffers → Keeps table own take (Writes o ws after)

module _ (table : List Buffer) (own : Own) (take : Bool) where
  need_keeps : (b : Bool) (d : Does) → (b ≡ true → Keeps table own take d) → Keeps table own take (need b d)
  unfolding need
  need_keeps true d k = k refl
  need_keeps false d k = stuck

  popped_keeps : (ws : List ℤ) (go : ℤ → List ℤ → Does) → ((w : ℤ) (rest : List ℤ) → Keeps table own take (go w rest)) → Keeps table own take (popped ws go)
  unfolding popped
  popped_keeps [] go k = stuck
  popped_keeps (w ∷ ws) go k = k w ws

  returned_keeps : (calls : List ℕ) (go : ℕ → List ℕ → Does) → ((to : ℕ) (rest : List ℕ) → Keeps table own take (go to rest)) → Keeps table own take (returned calls go)
  unfolding returned
  returned_keeps [] go k = stuck
  returned_keeps (to ∷ calls) go k = k to calls

  indexed_keeps : (i : ℤ) (n : ℕ) (go : ℕ → Does) → ((k : ℕ) → Keeps table own take (go k)) → Keeps table own take (indexed i n go)
  unfolding indexed
  indexed_keeps (pos i) n go k = need_keeps _ (go i) (λ e. k i)
  indexed_keeps (negsuc i) n go k = stuck

  without_keeps : (o : Option Held) (d : Does) → own.held ≡ o → (own.held ≡ None → Keeps table own take d) → Keeps table own take (without_lock o d)
  unfolding without_lock
  without_keeps None d e k = k e
  without_keeps (Some h) d e k = stuck

  with_keeps : (o : Option Held) (m : ℕ) (go : Held → Does) → own.held ≡ o → ((h : Held) → own.held ≡ Some h → Keeps table own take (go h)) → Keeps table own take (with_lock o m go)
  unfolding with_lock
  with_keeps None m go e k = stuck
  with_keeps (Some h) m go e k = need_keeps _ (go h) (λ b. k h e)

  buffer_keeps : (s : Option Buffer) (f : Option Filled) (go : Buffer → Filled → Does) → ((u : Buffer) (c : Filled) → s ≡ Some u → f ≡ Some c → Keeps table own take (go u c)) → Keeps table own take (with_buffer s f go)
  unfolding with_buffer
  buffer_keeps None f go k = stuck
  buffer_keeps (Some u) None go k = stuck
  buffer_keeps (Some u) (Some c) go k = k u c refl refl

  zero_keeps : (n : ℤ) (d e : Does) → Keeps table own take d → Keeps table own take e → Keeps table own take (at_zero n d e)
  unfolding at_zero
  zero_keeps (pos zero) d e k l = k
  zero_keeps (pos (suc n)) d e k l = l
  zero_keeps (negsuc n) d e k l = l

-- one buffer is written
written : (table : List Buffer) (fs : List Filled) (b : ℕ) (s : Buffer) (f : Filled) → IsWithin table fs → slice_get table b ≡ Some s → f.count ≤ s.bound → IsWithin table (slice_set fs b f)
written table fs b s f w is le k u g has now =
    after_set (λ k g. (u : Buffer) → slice_get table k ≡ Some u → g.count ≤ u.bound) fs b f (λ j g e u h. w j u g h e)
    (λ u h. subst (λ v. f.count ≤ v.bound) (same_Some s u (sym is ∙ h)) le) k g now u has

module _ (p : Program) (t : Task) (own : Own) (w : IsWithin t.buffers own.buffers) where
  abbrev kept : Bool → Does → Type 0
  kept b d = Keeps t.buffers own b d

  executes_keeps : (i : Instr) → kept (is_take (Some i)) (executes p t own i)
  executes_keeps (Push n) = need_keeps _ _ _ _ _ (λ e. private refl w)
  executes_keeps Drop = popped_keeps _ _ _ own.stack _ (λ v rest. private refl w)
  executes_keeps Dup = popped_keeps _ _ _ own.stack _ (λ v rest. need_keeps _ _ _ _ _ (λ e. private refl w))
  executes_keeps (Ld a) = need_keeps _ _ _ _ _ (λ e. private refl w)
  executes_keeps (St a) = popped_keeps _ _ _ own.stack _ (λ v rest. private refl w)
  executes_keeps (Ldx a n) = popped_keeps _ _ _ own.stack _ (λ i rest. indexed_keeps _ _ _ i n _ (λ k. private refl w))
  executes_keeps (Stx a n) = popped_keeps _ _ _ own.stack _ (λ v below. popped_keeps _ _ _ below _ (λ i rest. indexed_keeps _ _ _ i n _ (λ k. private refl w)))
  executes_keeps (Ldm m a n) = popped_keeps _ _ _ own.stack _ (λ i rest. with_keeps _ _ _ own.held m _ refl (λ h e. indexed_keeps _ _ _ i n _ (λ k. private refl w)))
  executes_keeps (Stm m a n) =
      popped_keeps _ _ _ own.stack _ (λ v below. popped_keeps _ _ _ below _ (λ i rest. with_keeps _ _ _ own.held m _ refl (λ h e.
      indexed_keeps _ _ _ i n _ (λ k. private (sym (ap (option_map (λ h. h.monitor)) e)) w))))
  executes_keeps (Un op s) = popped_keeps _ _ _ own.stack _ (λ a rest. need_keeps _ _ _ _ _ (λ e. private refl w))
  executes_keeps (Bin op s) = popped_keeps _ _ _ own.stack _ (λ b below. popped_keeps _ _ _ below _ (λ a rest. need_keeps _ _ _ _ _ (λ e. private refl w)))
  executes_keeps (Cast s) = popped_keeps _ _ _ own.stack _ (λ a rest. private refl w)
  executes_keeps (Jmp to) = private refl w
  executes_keeps (Jz to) = popped_keeps _ _ _ own.stack _ (λ a rest. zero_keeps _ _ _ a _ _ (private refl w) (private refl w))
  executes_keeps (Call to) = need_keeps _ _ _ _ _ (λ e. private refl w)
  executes_keeps Ret = returned_keeps _ _ _ own.calls _ (λ to calls. private refl w)
  executes_keeps (Take a) = without_keeps _ _ _ own.held _ refl (λ e. takes refl e (λ ws. e) (λ ws. w))
  executes_keeps (Lock m) = without_keeps _ _ _ own.held _ refl (λ e. locks e (λ ws. refl) (λ ws. w))
  executes_keeps (Unlock m) = with_keeps _ _ _ own.held m _ refl (λ h e. unlocks e refl w)
  executes_keeps (Out o a) = without_keeps _ _ _ own.held _ refl (λ e. writes e e w)
  executes_keeps (Bclr b) = buffer_keeps _ _ _ _ _ _ (λ s f e g. private refl (written t.buffers own.buffers b s _ w e (omega arith)))
  executes_keeps (Bput b) =
      popped_keeps _ _ _ own.stack _ (λ v below. popped_keeps _ _ _ below _ (λ j rest. buffer_keeps _ _ _ _ _ _ (λ s f e g. need_keeps _ _ _ _ _ (λ h.
      indexed_keeps _ _ _ j s.width _ (λ k. private refl (written t.buffers own.buffers b s _ w e (w b s f e g)))))))
  executes_keeps (Badd b) =
      buffer_keeps _ _ _ _ _ _ (λ s f e g. need_keeps _ _ _ _ _ (λ h. private refl (written t.buffers own.buffers b s _ w e (ltb-true f.count s.bound h))))
  executes_keeps (Bget b) =
      popped_keeps _ _ _ own.stack _ (λ j below. popped_keeps _ _ _ below _ (λ i rest. buffer_keeps _ _ _ _ _ _ (λ s f e g.
      indexed_keeps _ _ _ i f.count _ (λ n. indexed_keeps _ _ _ j s.width _ (λ k. private refl w)))))
  executes_keeps (Bcnt b) = buffer_keeps _ _ _ _ _ _ (λ s f e g. need_keeps _ _ _ _ _ (λ h. private refl w))

  at_keeps : (i : Option Instr) → kept (is_take i) (executes_at p t own i)
  at_keeps None = stuck
  at_keeps (Some i) = executes_keeps i

  pub does_keeps : kept (at_take t own) (does p t own)
  unfolding does
  does_keeps = at_keeps (slice_get t.code own.place)

-- what is known at each kind of instruction
module _ {table : List Buffer} {own : Own} {take : Bool} where
  pub at_private : {after : Own} → Keeps table own take (Private after) → (held_monitor after ≡ held_monitor own) × IsWithin table after.buffers
  at_private (private e w) = (e, w)

  pub at_takes : {f : List ℤ → Own} → Keeps table own take (Takes f) → (take ≡ true) × (own.held ≡ None) × ((ws : List ℤ) → (f ws).held ≡ None) × ((ws : List ℤ) → IsWithin table (f ws).buffers)
  at_takes (takes b e g w) = (b, e, g, w)

  pub at_locks : {m : ℕ} {f : List ℤ → Own} → Keeps table own take (Locks m f) → (own.held ≡ None) × ((ws : List ℤ) → held_monitor (f ws) ≡ Some m) × ((ws : List ℤ) → IsWithin table (f ws).buffers)
  at_locks (locks e g w) = (e, g, w)

  pub at_unlocks : {h : Held} {after : Own} → Keeps table own take (Unlocks h after) → (own.held ≡ Some h) × (after.held ≡ None) × IsWithin table after.buffers
  at_unlocks (unlocks e g w) = (e, g, w)

  pub at_writes : {o : ℕ} {ws : List ℤ} {after : Own} → Keeps table own take (Writes o ws after) → (own.held ≡ None) × (after.held ≡ None) × IsWithin table after.buffers
  at_writes (writes e g w) = (e, g, w)

-- a task at TAKE that is not stuck takes
pub data TakesOrSticks : Does → Type 0 where
  sticks : TakesOrSticks Stuck
  takes_then : (f : List ℤ → Own) → TakesOrSticks (Takes f)

without_takes : (o : Option Held) (f : List ℤ → Own) → TakesOrSticks (without_lock o (Takes f))
unfolding without_lock
without_takes None f = takes_then f
without_takes (Some h) f = sticks

at_takes_or : (p : Program) (t : Task) (own : Own) (i : Option Instr) → is_take i ≡ true → TakesOrSticks (executes_at p t own i)
at_takes_or p t own (Some (Take a)) e = without_takes own.held _
at_takes_or p t own None e = cc
at_takes_or p t own (Some _) e = cc

pub take_or_stuck : (p : Program) (t : Task) (own : Own) → at_take t own ≡ true → TakesOrSticks (does p t own)
unfolding does
take_or_stuck p t own e = at_takes_or p t own (slice_get t.code own.place) e

pub empty_within : (table : List Buffer) → IsWithin table (map empty_buffer table)
empty_within [] b s f e g = cc
empty_within (u ∷ table) zero s f e g = subst (λ d. d.count ≤ s.bound) (same_Some _ f g) (omega arith)
empty_within (u ∷ table) (suc b) s f e g = empty_within table b s f e g
