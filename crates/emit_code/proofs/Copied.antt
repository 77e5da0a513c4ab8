-- The copy of one message from a buffer.
use Rattle.std.proofs.Common.{◌≡◌, ◌∙◌, ◌≢◌, ℕ, zero, suc, ◌+◌, ◌*◌, ◌<◌, ◌≤◌, ◌⊎◌, inl, inr, ℤ, pos, List, [], ◌∷◌, length, Some, refl, sym, subst, arith, slice_get, slice_set, length-set}
use Rattle.std.proofs.lemmas.Option.{get_or_from_slice_get}
use Rattle.task_code.specs.declared.program.Buffer.{Buffer}
use Rattle.task_code.specs.declared.program.Task.{Task}
use Rattle.task_code.specs.Program.{Program}
use Rattle.task_code.specs.Own.{Filled, Own}
use Rattle.task_code.specs.Does.{Private, does, word_at, slot}
use Rattle.task_code.specs.Leads.{Leads, at}
use Rattle.task_code.proofs.Leads as leads
use Rattle.task_code.specs.Piece.{end, Stands}
use Rattle.task_code.proofs.Lists.{set_same, set_other}
use Rattle.emit_code.specs.Delivery.{words_got}

-- n words of message m, from its word j on, are copied to the words from a + j on
pub record Got (p : Program) (t : Task) (i b a m : ℕ) (f : Filled) (j n place : ℕ) (o : Own) : Type 0 where
  pub words : List ℤ
  pub leads : Leads p t (4 * n) (at o place []) (at (record o { words = words }) (end place (words_got i b a j n)) [])
  pub size : length words ≡ length o.words
  pub same : (c : ℕ) → (a + j ≤ c → c < a + (j + n) → ⊥) → slice_get words c ≡ slice_get o.words c
  pub copied : (k : ℕ) → k < n → slice_get words (a + (j + k)) ≡ Some (word_at (slot f m) (j + k))

module _ (p : Program) (t : Task) (i b a m : ℕ) (s : Buffer) (f : Filled) (is : slice_get t.buffers b ≡ Some s) (below : m < f.count) where
  -- four instructions for each word
  one_word : (o : Own) (j place : ℕ) → slice_get o.buffers b ≡ Some f → slice_get o.words i ≡ Some (pos m) → j < s.width → Stands t.code place (words_got i b a j 1) → Leads p t 4 (at o place []) (at (record o { words = slice_set o.words (a + j) (word_at (slot f m) j) }) (suc (suc (suc (suc place)))) [])
  one_word o j place has counter wide h =
      let w : ℤ = word_at (slot f m) j in
      let read : word_at o.words i ≡ pos m = get_or_from_slice_get o.words i (pos m) (pos 0) counter in
      let o1 : Own = at o (suc place) (pos m ∷ []) in
      let o2 : Own = at o (suc (suc place)) (pos j ∷ pos m ∷ []) in
      let o3 : Own = at o (suc (suc (suc place))) (w ∷ []) in
      let o4 : Own = at (record o { words = slice_set o.words (a + j) w }) (suc (suc (suc (suc place)))) [] in
      leads.then_on p t 1 3 (at o place []) o1 o4 (leads.once p t (at o place []) o1 (subst (λ z. does p t (at o place []) ≡ Private (at o (suc place) (z ∷ []))) read (leads.ld p t o place [] i h.0 (omega arith))))
      (leads.then_on p t 1 2 o1 o2 o4 (leads.once p t o1 o2 (leads.push p t o (suc place) (pos m ∷ []) (pos j) h.1.0 (omega arith)))
      (leads.then_on p t 1 1 o2 o3 o4 (leads.once p t o2 o3 (leads.bget p t o (suc (suc place)) [] b s f is has m j h.1.1.0 below wide))
      (leads.once p t o3 o4 (leads.store p t o (suc (suc (suc place))) [] (a + j) w h.1.1.1.0))))

  pub got : (n j place : ℕ) (o : Own) → slice_get o.buffers b ≡ Some f → slice_get o.words i ≡ Some (pos m) → j + n ≤ s.width → a + (j + n) ≤ length o.words → (i < a) ⊎ (a + (j + n) ≤ i) → Stands t.code place (words_got i b a j n) → Got p t i b a m f j n place o
  got zero j place o has counter wide room apart h = record {
    words = o.words;
    leads = leads.wider p t 0 (4 * 0) (at o place []) (at o place []) (leads.stays p t (at o place [])) (omega arith);
    size = refl;
    same = λ c out. refl;
    copied = λ k lt. absurd (omega arith);
  }
  got (suc n) j place o has counter wide room apart h =
      let w : ℤ = word_at (slot f m) j in
      let o' : Own = record o { words = slice_set o.words (a + j) w } in
      let ne : a + j ≢ i = not_counter n j apart in
      let counter' : slice_get o'.words i ≡ Some (pos m) = set_other o.words (a + j) i w ne ∙ counter in
      let len : length o'.words ≡ length o.words = length-set o.words (a + j) w in
      let rest : Got p t i b a m f (suc j) n (suc (suc (suc (suc place)))) o' = got n (suc j) (suc (suc (suc (suc place)))) o' has counter' (omega arith) (omega (arith, len)) (moved n j apart) h.1.1.1.1 in
      record {
        words = rest.words;
        leads = leads.wider p t (4 + 4 * n) (4 * suc n) (at o place []) (at (record o { words = rest.words }) (end place (words_got i b a j (suc n))) [])
            (leads.then_on p t 4 (4 * n) (at o place []) (at o' (suc (suc (suc (suc place)))) []) (at (record o { words = rest.words }) (end place (words_got i b a j (suc n))) [])
            (one_word o j place has counter (omega arith) (h.0, (h.1.0, (h.1.1.0, (h.1.1.1.0, tt))))) rest.leads)
            (omega arith);
        size = rest.size ∙ len;
        same = λ c out. rest.same c (λ l r. out (omega arith) (omega arith)) ∙ set_other o.words (a + j) c w (λ e. out (omega arith) (omega arith));
        copied = each n j rest.words o'.words (λ k lt. rest.copied k lt) (rest.same (a + j) (λ l r. omega arith)) (set_same o.words (a + j) w (omega arith));
      }
    where
      not_counter : (n j : ℕ) → (i < a) ⊎ (a + (j + suc n) ≤ i) → a + j ≢ i
      not_counter n j (inl l) e = omega arith
      not_counter n j (inr r) e = omega arith

      moved : (n j : ℕ) → (i < a) ⊎ (a + (j + suc n) ≤ i) → (i < a) ⊎ (a + (suc j + n) ≤ i)
      moved n j (inl l) = inl l
      moved n j (inr r) = inr (omega arith)

      each : (n j : ℕ) (after before : List ℤ) → ((k : ℕ) → k < n → slice_get after (a + (suc j + k)) ≡ Some (word_at (slot f m) (suc j + k))) → slice_get after (a + j) ≡ slice_get before (a + j) → slice_get before (a + j) ≡ Some (word_at (slot f m) j) → (k : ℕ) → k < suc n → slice_get after (a + (j + k)) ≡ Some (word_at (slot f m) (j + k))
      each n j after before rest same first zero lt =
          let z : j + 0 ≡ j = omega arith in
          subst (λ k. slice_get after (a + k) ≡ Some (word_at (slot f m) k)) (sym z) (same ∙ first)
      each n j after before rest same first (suc k) lt =
          let z : suc j + k ≡ j + suc k = omega arith in
          subst (λ k. slice_get after (a + k) ≡ Some (word_at (slot f m) k)) z (rest k (omega arith))
