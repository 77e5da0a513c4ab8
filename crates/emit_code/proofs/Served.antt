-- One message goes to its subscribers.
use Rattle.std.proofs.Common.{◌≡◌, ◌∙◌, ℕ, zero, suc, ◌+◌, ◌*◌, ◌<◌, ◌≤◌, ◌⊎◌, inl, inr, ℤ, pos, true, List, [], ◌∷◌, length, map, take, drop, Some, refl, sym, ap, subst, arith, slice_get, slice_index}
use Rattle.std.proofs.lemmas.Option.{same_Some, none-some, get_or_from_slice_get, slice_get_within}
use Rattle.tower_types.specs.Value.{Value, flat}
use Rattle.tower_syntax.specs.declared.arch.Listener.{Listener}
use Rattle.tower_syntax.specs.declared.arch.Listener.TheVariants as to
use Rattle.tower_syntax.specs.Arch.{Arch}
use Rattle.tower_syntax.specs.Weights.{move, subscribers_weight}
use Rattle.tower_meaning.specs.Fits.{fits_item}
use Rattle.task_code.specs.declared.program.Buffer.{Buffer}
use Rattle.task_code.specs.declared.program.Task.{Task}
use Rattle.task_code.specs.declared.program.Instr.TheVariants.{Call}
use Rattle.task_code.specs.Program.{Program}
use Rattle.task_code.specs.Own.{Filled, Own}
use Rattle.task_code.specs.Does.{word_at, slot, on}
use Rattle.task_code.specs.Leads.{Leads, at}
use Rattle.task_code.proofs.Leads as leads
use Rattle.task_code.specs.Piece.{end, Stands, joined}
use Rattle.emit_code.specs.Delivery.{Entry, words_got, item_code}
use Rattle.task_alone.specs.Visits.{Visits}
use Rattle.task_alone.specs.SettingOf.{setting_of}
use Rattle.task_alone.proofs.Visits.{weaker, leading, then_on, sending}
use Rattle.channel_graph.proofs.Members.{In}
use Rattle.task_code.specs.Formed.{HoldWords, ChangesOnly}
use Rattle.emit_code.proofs.Going.{Counts, Target, Ready, Around}
use Rattle.emit_code.specs.Entries.{frame_in, place_in, Entered, Carries}
use Rattle.emit_code.proofs.Copied.{Got, got}
use Rattle.task_code.proofs.Formed.{at_is, formed_like}

pub get_drop : (a k : ℕ) (ws : List ℤ) → slice_get (drop a ws) k ≡ slice_get ws (a + k)
get_drop zero k ws = let z : 0 + k ≡ k = omega arith in subst (λ j. slice_get ws k ≡ slice_get ws j) (sym z) refl
get_drop (suc a) k [] = refl
get_drop (suc a) k (w ∷ ws) = let z : suc a + k ≡ suc (a + k) = omega arith in subst (λ j. slice_get (drop a ws) k ≡ slice_get (w ∷ ws) j) (sym z) (get_drop a k ws)

taken_is : (ws vs : List ℤ) → ((k : ℕ) (v : ℤ) → slice_get vs k ≡ Some v → slice_get ws k ≡ Some v) → take (length vs) ws ≡ vs
taken_is ws [] h = refl
taken_is [] (v ∷ vs) h = absurd (none-some v (h 0 v refl))
taken_is (w ∷ ws) (v ∷ vs) h = ap (λ z. z ∷ take (length vs) ws) (same_Some w v (h 0 v refl)) ∙ ap (λ l. v ∷ l) (taken_is ws vs (λ k z e. h (suc k) z e))

-- what stands from a on, as OUT takes it
pub held_is : (words : List ℤ) (a : ℕ) (vs : List ℤ) → HoldWords words a vs → take (length vs) (drop a words) ≡ vs
held_is words a vs h = taken_is (drop a words) vs (λ k v e. get_drop a k words ∙ h k v e)

pub changed_on : (May MayB Touch TouchB : ℕ → Type 0) (u o o' : Own) → ((c : ℕ) → Touch c → May c) → ((c : ℕ) → TouchB c → MayB c) → ChangesOnly May MayB u o → ChangesOnly Touch TouchB o o' → ChangesOnly May MayB u o'
changed_on May MayB Touch TouchB u o o' inside inside_b f g = record {
  words = λ a n. g.words a (λ h. n (inside a h)) ∙ f.words a n;
  buffers = λ b n. g.buffers b (λ h. n (inside_b b h)) ∙ f.buffers b n;
}

abbrev pub item_weight : (ℕ → ℕ) → ℕ → Listener → ℕ
item_weight cost width (to.Output o) = move width
item_weight cost width (to.Handler k) = move width + cost k

module _ (arch : Arch) (p : Program) (t : Task) (x : ℕ) (entries : List Entry) (cost : ℕ → ℕ) (n : ℕ) (Touch TouchB May MayB : ℕ → Type 0) (u : Own) (i b : ℕ) (s : Buffer) (scratch width : ℕ) (around : Around t n Touch TouchB May MayB u i b s width) (f : Filled) (has : slice_get u.buffers b ≡ Some f) where
  abbrev counts : ℕ → ℕ → Own → Type 0
  counts m place o = Counts t May MayB u i m place o

  -- message m of the buffer is v
  pub record IsMessage (m : ℕ) (v : Value) : Type 0 where
    pub below : m < f.count
    pub is_slot : slot f m ≡ flat v
    pub long : length (flat v) ≡ width

  record Brought (m : ℕ) (v : Value) (a place : ℕ) (o : Own) : Type 0 where
    own : Own
    leads : Leads p t (4 * width) o own
    counts : Counts t May MayB u i m (end place (words_got i b a 0 width)) own
    holds : HoldWords own.words a (flat v)

  brought : (m : ℕ) (v : Value) → IsMessage m v → (a place : ℕ) → Target t May i width a → Stands t.code place (words_got i b a 0 width) → (o : Own) → counts m place o → Brought m v a place o
  brought m v is_message a place target stands o c =
      let kept : slice_get o.buffers b ≡ Some f = c.going.changed.buffers b around.buffer ∙ has in
      let size : length o.words ≡ t.room = c.going.formed.room in
      let there : Got p t i b a m f 0 width place o = got p t i b a m s f around.is is_message.below width 0 place o kept c.counter (omega (arith, around.wide)) (omega (arith, size, target.room)) (apart a target) stands in
      let o' : Own = at (record o { words = there.words }) (end place (words_got i b a 0 width)) [] in
      record {
        own = o';
        leads = subst (λ z. Leads p t (4 * width) z o') (sym (at_is o place c.going.is_at c.going.stack)) there.leads;
        counts = record {
          going = record {
            is_at = refl;
            calls = c.going.calls;
            stack = refl;
            free = c.going.free;
            formed = formed_like t o o' c.going.formed there.size refl;
            changed = record {
              words = λ d not_may. there.same d (λ l r. not_may (target.may d (omega (arith, l)) (omega (arith, r)))) ∙ c.going.changed.words d not_may;
              buffers = c.going.changed.buffers;
            };
          };
          counter = there.same i (λ l r. away a target.apart l r) ∙ c.counter;
        };
        holds = λ k w e. held there.words a (λ j lt. there.copied j lt) k w e;
      }
    where
      apart : (a : ℕ) → Target t May i width a → (i < a) ⊎ (a + (0 + width) ≤ i)
      apart a target = elim target.apart [
        | inl l ↦ inl l
        | inr r ↦ inr (omega (arith, r))
      ]

      away : (a : ℕ) → (i < a) ⊎ (a + width ≤ i) → a + 0 ≤ i → i < a + (0 + width) → ⊥
      away a (inl l) h k = omega arith
      away a (inr r) h k = omega arith

      held : (words : List ℤ) (a : ℕ) → ((j : ℕ) → j < width → slice_get words (a + (0 + j)) ≡ Some (word_at (slot f m) (0 + j))) → (k : ℕ) (w : ℤ) → slice_get (flat v) k ≡ Some w → slice_get words (a + k) ≡ Some w
      held words a copied k w e =
          let z : 0 + k ≡ k = omega arith in
          let lt : k < length (flat v) = slice_get_within (flat v) k w e in
          let word : word_at (slot f m) k ≡ w = ap (λ l. word_at l k) is_message.is_slot ∙ get_or_from_slice_get (flat v) k w (pos 0) e in
          let at_k : slice_get words (a + k) ≡ Some (word_at (slot f m) k) = subst (λ j. slice_get words (a + j) ≡ Some (word_at (slot f m) j)) z (copied k (omega (arith, lt, is_message.long))) in
          at_k ∙ ap Some word

  -- to an output
  out_item : (m : ℕ) (v : Value) → IsMessage m v → (k place : ℕ) → slice_index p.outputs k ≡ width → Target t May i width scratch → Stands t.code place (item_code entries i b scratch width (to.Output k)) → Visits (setting_of arch) p t x (counts m place) ((to.Output k, v) ∷ []) (move width) (counts m (end place (item_code entries i b scratch width (to.Output k))))
  out_item m v is_message k place is_width target stands =
      let after : ℕ = end place (words_got i b scratch 0 width) in
      let Bring : Own → Type 0 = λ o. counts m after o × HoldWords o.words scratch (flat v) in
      weaker (setting_of arch) p t x (counts m place) (counts m place) ((to.Output k, v) ∷ []) (4 * width + 1) (move width) (counts m (suc after)) (counts m (suc after)) (λ o c. c) (λ o c. c) (omega arith)
      (then_on (setting_of arch) p t x (counts m place) [] (4 * width) Bring ((to.Output k, v) ∷ []) 1 (counts m (suc after))
      (leading (setting_of arch) p t x (counts m place) (4 * width) Bring (λ o c. let r = brought m v is_message scratch place target stands.0 o c in (r.own, r.leads, (r.counts, r.holds))))
      (sending (setting_of arch) p t x Bring k v (counts m (suc after)) (λ o c. (
        record {
          address = scratch;
          this = ap (slice_get t.code) c.0.going.is_at ∙ stands.1;
          free = c.0.going.free;
          words = ap (λ d. take d (drop scratch o.words)) (is_width ∙ sym is_message.long) ∙ held_is o.words scratch (flat v) c.1;
        },
        record {
          going = record { is_at = ap suc c.0.going.is_at; calls = c.0.going.calls; stack = c.0.going.stack; free = c.0.going.free; formed = formed_like t o (on o) c.0.going.formed refl refl; changed = record { words = c.0.going.changed.words; buffers = c.0.going.changed.buffers } };
          counter = c.0.counter;
        },
      ))))

  record Calling (m k : ℕ) (v : Value) (after : ℕ) (o : Own) : Type 0 where
    entered : Entered t entries k v o
    calls : o.calls ≡ suc after ∷ u.calls
    changed : ChangesOnly May MayB u o
    counter : slice_get o.words i ≡ Some (pos m)

  called : (m k : ℕ) (v : Value) (after : ℕ) (o : Own) → counts m after o → HoldWords o.words (frame_in entries k).param (flat v) → slice_get t.code after ≡ Some (Call (place_in entries k)) → (o' : Own) × Leads p t 1 o o' × Calling m k v after o'
  called m k v after o c holds this =
      let o' : Own = record o { calls = suc o.place ∷ o.calls; place = place_in entries k } in
      let few : length o.calls ≡ length u.calls = ap length c.going.calls in (
        o',
        leads.once p t o o' (leads.call p t o o.place o.stack (place_in entries k) (ap (slice_get t.code) c.going.is_at ∙ this) (omega (arith, few, around.calls, around.room))),
        record {
          entered = record { caller = suc o.place; earlier = o.calls; calls = refl; is_at = refl; stack = c.going.stack; free = c.going.free; formed = formed_like t o o' c.going.formed refl refl; message = holds };
          calls = ap (λ a. suc a ∷ o.calls) c.going.is_at ∙ ap (λ l. suc after ∷ l) c.going.calls;
          changed = record { words = c.going.changed.words; buffers = c.going.changed.buffers };
          counter = c.counter;
        },
      )

  -- to a handler
  call_item : (m : ℕ) (v : Value) → IsMessage m v → (k place : ℕ) → fits_item arch (to.Handler k, v) ≡ true → Carries arch p t x entries n Touch TouchB (cost k) k → Target t May i width (frame_in entries k).param → Stands t.code place (item_code entries i b scratch width (to.Handler k)) → Visits (setting_of arch) p t x (counts m place) ((to.Handler k, v) ∷ []) (move width + cost k) (counts m (end place (item_code entries i b scratch width (to.Handler k))))
  call_item m v is_message k place fits carries target stands =
      let a : ℕ = (frame_in entries k).param in
      let after : ℕ = end place (words_got i b a 0 width) in
      weaker (setting_of arch) p t x (counts m place) (counts m place) ((to.Handler k, v) ∷ []) (4 * width + 1 + cost k) (move width + cost k) (counts m (suc after)) (counts m (suc after)) (λ o c. c) (λ o c. c) (omega arith)
      (then_on (setting_of arch) p t x (counts m place) [] (4 * width + 1) (Calling m k v after) ((to.Handler k, v) ∷ []) (cost k) (counts m (suc after))
      (leading (setting_of arch) p t x (counts m place) (4 * width + 1) (Calling m k v after) (λ o c.
      let r = brought m v is_message a place target stands.0 o c in
      let d = called m k v after r.own r.counts r.holds stands.1 in
      (d.0, leads.then_on p t (4 * width) 1 o r.own d.0 r.leads d.1, d.2)))
      (λ steps o rest handed since c room go.
      let few : length o.calls ≡ suc (length u.calls) = ap length c.calls in
      carries v fits o c.entered (omega (arith, few, around.calls)) steps o rest handed since refl room
      (λ o' handed' since' r le.
      let back = r.back (suc after) u.calls c.calls in
      go o' handed' since' (record {
        going = record {
          is_at = back.0;
          calls = back.1;
          stack = r.stack;
          free = r.free;
          formed = r.formed;
          changed = changed_on May MayB Touch TouchB u o o' around.inside around.inside_buffers c.changed r.changed;
        };
        counter = r.changed.words i around.counter ∙ c.counter;
      }) le)))

  pub item : (m : ℕ) (v : Value) → IsMessage m v → (l : Listener) (place : ℕ) → fits_item arch (l, v) ≡ true → Ready arch p t x entries cost n Touch TouchB May i scratch width l → Stands t.code place (item_code entries i b scratch width l) → Visits (setting_of arch) p t x (counts m place) ((l, v) ∷ []) (item_weight cost width l) (counts m (end place (item_code entries i b scratch width l)))
  item m v is_message (to.Output k) place fits ready stands = out_item m v is_message k place ready.0 ready.1 stands
  item m v is_message (to.Handler k) place fits ready stands = call_item m v is_message k place fits ready.0 ready.1 stands

  weight_on : (l : Listener) (ls : List Listener) → item_weight cost width l + subscribers_weight cost width ls ≡ subscribers_weight cost width (l ∷ ls)
  weight_on (to.Output k) ls = refl
  weight_on (to.Handler k) ls = refl

  -- to each subscriber
  pub message : (m : ℕ) (v : Value) → IsMessage m v → (ls : List Listener) (place : ℕ) → ((l : Listener) → In l ls → fits_item arch (l, v) ≡ true) → ((l : Listener) → In l ls → Ready arch p t x entries cost n Touch TouchB May i scratch width l) → Stands t.code place (joined (map (item_code entries i b scratch width) ls))
      → Visits (setting_of arch) p t x (counts m place) (map (λ l. (l, v)) ls) (subscribers_weight cost width ls) (counts m (end place (joined (map (item_code entries i b scratch width) ls))))
  message m v is_message [] place fits ready stands =
      leading (setting_of arch) p t x (counts m place) 0 (counts m place) (λ o c. (o, leads.stays p t o, c))
  message m v is_message (l ∷ ls) place fits ready stands =
      let mid : ℕ = end place (item_code entries i b scratch width l) in
      subst (λ w. Visits (setting_of arch) p t x (counts m place) ((l, v) ∷ map (λ l. (l, v)) ls) w (counts m (end mid (joined (map (item_code entries i b scratch width) ls))))) (weight_on l ls)
      (then_on (setting_of arch) p t x (counts m place) ((l, v) ∷ []) (item_weight cost width l) (counts m mid) (map (λ l. (l, v)) ls) (subscribers_weight cost width ls) (counts m (end mid (joined (map (item_code entries i b scratch width) ls))))
      (item m v is_message l place (fits l (inl refl)) (ready l (inl refl)) stands.0)
      (message m v is_message ls mid (λ k h. fits k (inr h)) (λ k h. ready k (inr h)) stands.1))
