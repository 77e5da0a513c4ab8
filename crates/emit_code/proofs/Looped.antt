-- Each message of a buffer goes to its subscribers.
use Rattle.std.proofs.Common.{◌≡◌, ◌∙◌, ℕ, zero, suc, ◌+◌, ◌*◌, ◌^◌, ◌<◌, ◌≤◌, pos, Bool, true, false, int_lt, List, [], ◌∷◌, length, map, take, flat_map, Some, refl, sym, ap, subst, arith, slice_get, slice_set, length-set}
use Rattle.std.proofs.Math.Nat.{mod-eq_of_lt, mul-le-mul_right}
use Rattle.std.proofs.lemmas.Bool.{lt-ltb, le-leb, le-ltb}
use Rattle.std.proofs.lemmas.List.{append-nil}
use Rattle.std.proofs.lemmas.Option.{same_Some, none-some, get_or_from_slice_get, slice_get_within}
use Rattle.tower_types.specs.declared.scalar.Scalar.TheVariants.{U64}
use Rattle.tower_types.specs.declared.scalar.BinOp.TheVariants.{Add, Less}
use Rattle.tower_types.specs.Value.{Value, flat, fits_scalar}
use Rattle.tower_types.specs.Arithmetic.{binary_of, is_true, truth}
use Rattle.tower_syntax.specs.declared.arch.Listener.{Listener}
use Rattle.tower_syntax.specs.Arch.{Arch}
use Rattle.tower_syntax.specs.Weights.{subscribers_weight}
use Rattle.tower_meaning.specs.System.{Item}
use Rattle.tower_meaning.specs.Fits.{fits_item}
use Rattle.task_code.specs.declared.program.Buffer.{Buffer}
use Rattle.task_code.specs.declared.program.Task.{Task}
use Rattle.task_code.specs.declared.program.Instr.TheVariants.{Push, Ld, St, Bin, Jmp, Jz, Bcnt}
use Rattle.task_code.specs.Program.{Program}
use Rattle.task_code.specs.Own.{Filled, Own}
use Rattle.task_code.specs.Does.{Private, does, word_at}
use Rattle.task_code.specs.Leads.{Leads, at}
use Rattle.task_code.proofs.Leads as leads
use Rattle.task_code.specs.Piece.{Piece, end, Stands, joined}
use Rattle.emit_code.specs.Delivery.{Entry, item_code, emitter_code}
use Rattle.task_alone.specs.Visits.{Visits}
use Rattle.task_alone.specs.SettingOf.{setting_of}
use Rattle.task_alone.proofs.Visits.{weaker, leading, then_on, each}
use Rattle.channel_graph.proofs.Members.{In}
use Rattle.emit_code.proofs.Listed.{get_mapped, in_left, in_right, in_map}
use Rattle.task_code.specs.Formed.{IsFormedBuffer}
use Rattle.emit_code.specs.Entries.{Going}
use Rattle.emit_code.proofs.Going.{Counts, Ready, Around}
use Rattle.task_code.proofs.Lists.{set_same, set_other}
use Rattle.task_code.proofs.Formed.{at_is, formed_like}
use Rattle.emit_code.proofs.Served.{IsMessage, message}

-- ---- numbers of messages

pub u64_fits : (k : ℕ) → k < 2 ^ 64 → fits_scalar U64 (pos k) ≡ true
u64_fits k h = let z : 0 ≤ k = omega arith in rw (le-leb 0 k z) (lt-ltb k (2 ^ 64) h)

pub u64_add : (j k : ℕ) → j + k < 2 ^ 64 → binary_of Add U64 (pos j) (pos k) ≡ pos (j + k)
u64_add j k h = ap pos (mod-eq_of_lt h)

is_true_truth : (b : Bool) → is_true (truth b) ≡ b
is_true_truth true = refl
is_true_truth false = refl

less_is : (i n : ℕ) → i < n → is_true (binary_of Less U64 (pos i) (pos n)) ≡ true
less_is i n h = is_true_truth (int_lt (pos i) (pos n)) ∙ lt-ltb i n h

less_not : (i n : ℕ) → n ≤ i → is_true (binary_of Less U64 (pos i) (pos n)) ≡ false
less_not i n h = is_true_truth (int_lt (pos i) (pos n)) ∙ le-ltb i n h

-- ---- lists

get_taken : {X : Type 0} (n : ℕ) (xs : List X) (k : ℕ) (y : X) → slice_get (take n xs) k ≡ Some y → slice_get xs k ≡ Some y
get_taken zero xs k y e = absurd (none-some y e)
get_taken (suc n) [] k y e = absurd (none-some y e)
get_taken (suc n) (x ∷ xs) zero y e = e
get_taken (suc n) (x ∷ xs) (suc k) y e = get_taken n xs k y e

in_flat : (ls : List Listener) (vs : List Value) (m : ℕ) (v : Value) (l : Listener) → slice_get vs m ≡ Some v → In l ls → In {X = Item} (l, v) (flat_map (λ w. map (λ k. (k, w)) ls) vs)
in_flat ls [] m v l e h = absurd (none-some v e)
in_flat ls (w ∷ vs) zero v l e h =
    in_left {X = Item} (l, v) (map (λ k. (k, w)) ls) (flat_map (λ w. map (λ k. (k, w)) ls) vs) (subst (λ z. In {X = Item} (l, v) (map (λ k. (k, z)) ls)) (sym (same_Some w v e)) (in_map {Y = Item} (λ k. (k, v)) l ls h))
in_flat ls (w ∷ vs) (suc m) v l e h = in_right {X = Item} (l, v) (map (λ k. (k, w)) ls) (flat_map (λ w. map (λ k. (k, w)) ls) vs) (in_flat ls vs m v l e h)

-- ---- the loop

module _ (arch : Arch) (p : Program) (t : Task) (x : ℕ) (entries : List Entry) (cost : ℕ → ℕ) (n : ℕ) (Touch TouchB May MayB : ℕ → Type 0) (u : Own) (i b : ℕ) (s : Buffer) (scratch width : ℕ) (around : Around t n Touch TouchB May MayB u i b s width) (f : Filled) (has : slice_get u.buffers b ≡ Some f) (formed : IsFormedBuffer s f) (may : May i) (room : i < t.room) (few : s.bound + 1 < 2 ^ 64) where
  abbrev going : ℕ → Own → Type 0
  going place o = Going t May MayB u place o

  abbrev counts : ℕ → ℕ → Own → Type 0
  counts m place o = Counts t May MayB u i m place o

  -- a number goes to the counter
  counted : (m : ℕ) (o : Own) (place place' : ℕ) → going place o → counts m place' (at (record o { words = slice_set o.words i (pos m) }) place' [])
  counted m o place place' c =
      let o' : Own = at (record o { words = slice_set o.words i (pos m) }) place' [] in
      let size : length o.words ≡ t.room = c.formed.room in
      record {
        going = record {
          is_at = refl;
          calls = c.calls;
          stack = refl;
          free = c.free;
          formed = formed_like t o o' c.formed (length-set o.words i (pos m)) refl;
          changed = record {
            words = λ d not_may. set_other o.words i d (pos m) (λ e. not_may (subst May e may)) ∙ c.changed.words d not_may;
            buffers = c.changed.buffers;
          };
        };
        counter = set_same o.words i (pos m) (omega (arith, size, room));
      }

  begins : (place : ℕ) → slice_get t.code place ≡ Some (Push (pos 0)) → slice_get t.code (suc place) ≡ Some (St i) → (o : Own) → going place o → (o' : Own) × Leads p t 2 o o' × counts 0 (suc (suc place)) o'
  begins place push st o c =
      let o0 : Own = at o place [] in
      let o1 : Own = at o (suc place) (pos 0 ∷ []) in
      let o2 : Own = at (record o { words = slice_set o.words i (pos 0) }) (suc (suc place)) [] in (
        o2,
        subst (λ z. Leads p t 2 z o2) (sym (at_is o place c.is_at c.stack))
            (leads.then_on p t 1 1 o0 o1 o2 (leads.once p t o0 o1 (leads.push p t o place [] (pos 0) push (omega arith)))
            (leads.once p t o1 o2 (leads.store p t o (suc place) [] i (pos 0) st))),
        counted 0 o place (suc (suc place)) c,
      )

  -- the test of a turn
  tested : (m place out : ℕ) → m < 2 ^ 64 → slice_get t.code place ≡ Some (Ld i) → slice_get t.code (suc place) ≡ Some (Bcnt b) → slice_get t.code (suc (suc place)) ≡ Some (Bin Less U64) → (o : Own) → counts m place o
      → Leads p t 3 o (at o (suc (suc (suc place))) (binary_of Less U64 (pos m) (pos f.count) ∷ []))
  tested m place out small ld bcnt less o c =
      let read : word_at o.words i ≡ pos m = get_or_from_slice_get o.words i (pos m) (pos 0) c.counter in
      let kept : slice_get o.buffers b ≡ Some f = c.going.changed.buffers b around.buffer ∙ has in
      let o0 : Own = at o place [] in
      let o1 : Own = at o (suc place) (pos m ∷ []) in
      let o2 : Own = at o (suc (suc place)) (pos f.count ∷ pos m ∷ []) in
      let o3 : Own = at o (suc (suc (suc place))) (binary_of Less U64 (pos m) (pos f.count) ∷ []) in
      let bound : f.count ≤ s.bound = formed.few in
      subst (λ z. Leads p t 3 z o3) (sym (at_is o place c.going.is_at c.going.stack))
      (leads.then_on p t 1 2 o0 o1 o3 (leads.once p t o0 o1 (subst (λ z. does p t (at o place []) ≡ Private (at o (suc place) (z ∷ []))) read (leads.ld p t o place [] i ld (omega arith))))
      (leads.then_on p t 1 1 o1 o2 o3 (leads.once p t o1 o2 (leads.bcnt p t o (suc place) (pos m ∷ []) b s f around.is kept bcnt (omega arith)))
      (leads.once p t o2 o3 (leads.bin p t o (suc (suc place)) [] Less U64 (pos m) (pos f.count) less refl (u64_fits m small) (u64_fits f.count (omega (arith, few, bound)))))))

  moved : (m place place' : ℕ) (o : Own) → counts m place o → counts m place' (at o place' [])
  moved m place place' o c = record {
    going = record {
      is_at = refl;
      calls = c.going.calls;
      stack = refl;
      free = c.going.free;
      formed = formed_like t o (at o place' []) c.going.formed refl refl;
      changed = record { words = c.going.changed.words; buffers = c.going.changed.buffers };
    };
    counter = c.counter;
  }

  -- one more turn, or the way out
  enters : (m place out : ℕ) → m < f.count → slice_get t.code place ≡ Some (Ld i) → slice_get t.code (suc place) ≡ Some (Bcnt b) → slice_get t.code (suc (suc place)) ≡ Some (Bin Less U64) → slice_get t.code (suc (suc (suc place))) ≡ Some (Jz out) → (o : Own) → counts m place o → (o' : Own) × Leads p t 4 o o' × counts m (suc (suc (suc (suc place)))) o'
  enters m place out lt ld bcnt less jz o c =
      let bound : f.count ≤ s.bound = formed.few in
      let o3 : Own = at o (suc (suc (suc place))) (binary_of Less U64 (pos m) (pos f.count) ∷ []) in
      let o4 : Own = at o (suc (suc (suc (suc place)))) [] in (
        o4,
        leads.then_on p t 3 1 o o3 o4 (tested m place out (omega (arith, few, bound)) ld bcnt less o c)
            (leads.once p t o3 o4 (leads.jz_passed p t o (suc (suc (suc place))) [] out (binary_of Less U64 (pos m) (pos f.count)) jz (less_is m f.count lt))),
        moved m place (suc (suc (suc (suc place)))) o c,
      )

  leaves : (place out : ℕ) → slice_get t.code place ≡ Some (Ld i) → slice_get t.code (suc place) ≡ Some (Bcnt b) → slice_get t.code (suc (suc place)) ≡ Some (Bin Less U64) → slice_get t.code (suc (suc (suc place))) ≡ Some (Jz out) → (o : Own) → counts f.count place o → (o' : Own) × Leads p t 4 o o' × going out o'
  leaves place out ld bcnt less jz o c =
      let bound : f.count ≤ s.bound = formed.few in
      let o3 : Own = at o (suc (suc (suc place))) (binary_of Less U64 (pos f.count) (pos f.count) ∷ []) in
      let o4 : Own = at o out [] in (
        o4,
        leads.then_on p t 3 1 o o3 o4 (tested f.count place out (omega (arith, few, bound)) ld bcnt less o c)
            (leads.once p t o3 o4 (leads.jz_taken p t o (suc (suc (suc place))) [] out (binary_of Less U64 (pos f.count) (pos f.count)) jz (less_not f.count f.count (omega arith)))),
        (moved f.count place out o c).going,
      )

  -- the counter grows, and the next turn begins
  turns : (m place turn : ℕ) → m < f.count → slice_get t.code place ≡ Some (Ld i) → slice_get t.code (suc place) ≡ Some (Push (pos 1)) → slice_get t.code (suc (suc place)) ≡ Some (Bin Add U64) → slice_get t.code (suc (suc (suc place))) ≡ Some (St i) → slice_get t.code (suc (suc (suc (suc place)))) ≡ Some (Jmp turn) → (o : Own) → counts m place o → (o' : Own) × Leads p t 5 o o' × counts (suc m) turn o'
  turns m place turn lt ld push add st jmp o c =
      let bound : f.count ≤ s.bound = formed.few in
      let read : word_at o.words i ≡ pos m = get_or_from_slice_get o.words i (pos m) (pos 0) c.counter in
      let sum : binary_of Add U64 (pos m) (pos 1) ≡ pos (suc m) = u64_add m 1 (omega (arith, few, bound)) ∙ ap pos (one_more m) in
      let o0 : Own = at o place [] in
      let o1 : Own = at o (suc place) (pos m ∷ []) in
      let o2 : Own = at o (suc (suc place)) (pos 1 ∷ pos m ∷ []) in
      let o3 : Own = at o (suc (suc (suc place))) (pos (suc m) ∷ []) in
      let o' : Own = record o { words = slice_set o.words i (pos (suc m)) } in
      let o4 : Own = at o' (suc (suc (suc (suc place)))) [] in
      let o5 : Own = at o' turn [] in (
        o5,
        subst (λ z. Leads p t 5 z o5) (sym (at_is o place c.going.is_at c.going.stack))
            (leads.then_on p t 1 4 o0 o1 o5 (leads.once p t o0 o1 (subst (λ z. does p t (at o place []) ≡ Private (at o (suc place) (z ∷ []))) read (leads.ld p t o place [] i ld (omega arith))))
            (leads.then_on p t 1 3 o1 o2 o5 (leads.once p t o1 o2 (leads.push p t o (suc place) (pos m ∷ []) (pos 1) push (omega arith)))
            (leads.then_on p t 1 2 o2 o3 o5 (leads.once p t o2 o3 (subst (λ z. does p t o2 ≡ Private (at o (suc (suc (suc place))) (z ∷ []))) sum (leads.bin p t o (suc (suc place)) [] Add U64 (pos m) (pos 1) add refl (u64_fits m (omega (arith, few, bound))) (u64_fits 1 (omega arith)))))
            (leads.then_on p t 1 1 o3 o4 o5 (leads.once p t o3 o4 (leads.store p t o (suc (suc (suc place))) [] i (pos (suc m)) st))
            (leads.once p t o4 o5 (leads.jmp p t o' (suc (suc (suc (suc place)))) [] turn jmp)))))),
        counted (suc m) o place turn c.going,
      )
    where
      one_more : (m : ℕ) → m + 1 ≡ suc m
      one_more m = omega arith

  -- the messages of the buffer
  module _ (ls : List Listener) (vs : List Value) (count : f.count ≡ length vs) (slots : take f.count f.slots ≡ map flat vs) (fits : (q : Item) → In q (flat_map (λ v. map (λ l. (l, v)) ls) vs) → fits_item arch q ≡ true) (ready : (l : Listener) → In l ls → Ready arch p t x entries cost n Touch TouchB May i scratch width l) where
    is_message : (m : ℕ) (v : Value) → slice_get vs m ≡ Some v → IsMessage arch p t x entries cost n Touch TouchB May MayB u i b s scratch width around f has m v
    is_message m v e =
        let there : slice_get f.slots m ≡ Some (flat v) = get_taken f.count f.slots m (flat v) (ap (λ l. slice_get l m) slots ∙ get_mapped flat vs m v e) in
        let below : m < length vs = slice_get_within vs m v e in
        record {
          below = omega (arith, count, below);
          is_slot = get_or_from_slice_get f.slots m (flat v) [] there;
          long = formed.wide m (flat v) there ∙ around.wide;
        }

    abbrev weight : ℕ
    weight = subscribers_weight cost width ls

    abbrev served : Piece
    served = joined (map (item_code entries i b scratch width) ls)

    turn_visits : (place out : ℕ) → slice_get t.code place ≡ Some (Ld i) → slice_get t.code (suc place) ≡ Some (Bcnt b) → slice_get t.code (suc (suc place)) ≡ Some (Bin Less U64) → slice_get t.code (suc (suc (suc place))) ≡ Some (Jz out) → Stands t.code (suc (suc (suc (suc place)))) served
        → slice_get t.code (end (suc (suc (suc (suc place)))) served) ≡ Some (Ld i) → slice_get t.code (suc (end (suc (suc (suc (suc place)))) served)) ≡ Some (Push (pos 1)) → slice_get t.code (suc (suc (end (suc (suc (suc (suc place)))) served))) ≡ Some (Bin Add U64) → slice_get t.code (suc (suc (suc (end (suc (suc (suc (suc place)))) served)))) ≡ Some (St i) → slice_get t.code (suc (suc (suc (suc (end (suc (suc (suc (suc place)))) served))))) ≡ Some (Jmp place)
        → (m : ℕ) (v : Value) → slice_get vs m ≡ Some v → Visits (setting_of arch) p t x (counts m place) (map (λ l. (l, v)) ls) (32 + weight) (counts (suc m) place)
    turn_visits place out ld bcnt less jz stands ld' push add st jmp m v e =
        let inside : ℕ = suc (suc (suc (suc place))) in
        let past : ℕ = end inside served in
        let is : IsMessage arch p t x entries cost n Touch TouchB May MayB u i b s scratch width around f has m v = is_message m v e in
        let items : List Item = map (λ l. (l, v)) ls in
        weaker (setting_of arch) p t x (counts m place) (counts m place) items (4 + (weight + 5)) (32 + weight) (counts (suc m) place) (counts (suc m) place) (λ o c. c) (λ o c. c) (omega arith)
        (then_on (setting_of arch) p t x (counts m place) [] 4 (counts m inside) items (weight + 5) (counts (suc m) place)
        (leading (setting_of arch) p t x (counts m place) 4 (counts m inside) (λ o c. enters m place out is.below ld bcnt less jz o c))
        (subst (λ q. Visits (setting_of arch) p t x (counts m inside) q (weight + 5) (counts (suc m) place)) (append-nil items)
        (then_on (setting_of arch) p t x (counts m inside) items weight (counts m past) [] 5 (counts (suc m) place)
        (message arch p t x entries cost n Touch TouchB May MayB u i b s scratch width around f has m v is ls inside (λ l h. fits (l, v) (in_flat ls vs m v l e h)) ready stands)
        (leading (setting_of arch) p t x (counts m past) 5 (counts (suc m) place) (λ o c. turns m past place is.below ld' push add st jmp o c)))))

    pub loops : (from : ℕ) → Stands t.code from (emitter_code entries from i b scratch width ls) → Visits (setting_of arch) p t x (going from) (flat_map (λ v. map (λ l. (l, v)) ls) vs) (32 + s.bound * (32 + weight)) (going (end from (emitter_code entries from i b scratch width ls)))
    loops from h =
        let turn : ℕ = suc (suc from) in
        let inside : ℕ = suc (suc (suc (suc turn))) in
        let past : ℕ = end inside served in
        let out : ℕ = suc (suc (suc (suc (suc past)))) in
        let turn_is : from + 2 ≡ turn = omega arith in
        let inside_is : from + 2 + 4 ≡ inside = omega arith in
        let five : past + 5 ≡ out = omega arith in
        let out_is : end (from + 2 + 4) served + 5 ≡ out = ap (λ a. end a served + 5) inside_is ∙ five in
        let jz : slice_get t.code (suc (suc (suc turn))) ≡ Some (Jz out) = h.1.1.1.1.1.0 ∙ ap (λ a. Some (Jz a)) out_is in
        let jmp : slice_get t.code (suc (suc (suc (suc past)))) ≡ Some (Jmp turn) = h.1.1.1.1.1.1.1.1.1.1.1 ∙ ap (λ a. Some (Jmp a)) turn_is in
        let items : List Item = flat_map (λ v. map (λ l. (l, v)) ls) vs in
        let bound : f.count ≤ s.bound = formed.few in
        let many : length vs * (32 + weight) ≤ s.bound * (32 + weight) = mul-le-mul_right {m = length vs} {n = s.bound} (32 + weight) (omega (arith, count, bound)) in
        weaker (setting_of arch) p t x (going from) (going from) items (2 + (length vs * (32 + weight) + 4)) (32 + s.bound * (32 + weight)) (going out) (going out) (λ o c. c) (λ o c. c) (omega (arith, many))
        (then_on (setting_of arch) p t x (going from) [] 2 (counts 0 turn) items (length vs * (32 + weight) + 4) (going out)
        (leading (setting_of arch) p t x (going from) 2 (counts 0 turn) (λ o c. begins from h.0 h.1.0 o c))
        (subst (λ q. Visits (setting_of arch) p t x (counts 0 turn) q (length vs * (32 + weight) + 4) (going out)) (append-nil items)
        (then_on (setting_of arch) p t x (counts 0 turn) items (length vs * (32 + weight)) (counts (length vs) turn) [] 4 (going out)
        (each (setting_of arch) p t x vs (λ v. map (λ l. (l, v)) ls) (32 + weight) (λ m. counts m turn)
        (λ m v e. turn_visits turn out h.1.1.0 h.1.1.1.0 h.1.1.1.1.0 jz h.1.1.1.1.1.1.0 h.1.1.1.1.1.1.1.0 h.1.1.1.1.1.1.1.1.0 h.1.1.1.1.1.1.1.1.1.0 h.1.1.1.1.1.1.1.1.1.1.0 jmp m v e))
        (leading (setting_of arch) p t x (counts (length vs) turn) 4 (going out) (λ o c. leaves turn out h.1.1.0 h.1.1.1.0 h.1.1.1.1.0 jz o (subst (λ k. counts k turn o) (sym count) c))))))
