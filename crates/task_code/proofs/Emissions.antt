-- The code of an emission puts the words into the buffer as its next message, and changes nothing else.
use Rattle.std.proofs.Common.{◌≡◌, ◌∙◌, ℕ, zero, suc, ◌+◌, ◌-◌, ◌*◌, ◌<◌, ◌≤◌, ℤ, pos, List, [], ◌∷◌, ◌++◌, length, take, drop, Some, refl, sym, ap, subst, arith, append_assoc, slice_get, slice_set, get_or-set_same, length-set}
use Rattle.std.proofs.lemmas.List.{length-append, length-take-le, length-drop}
use Rattle.std.proofs.lemmas.Option.{slice_get-get_or, slice_get_within}
use Rattle.task_code.specs.declared.program.Buffer.{Buffer}
use Rattle.task_code.specs.declared.program.Task.{Task}
use Rattle.task_code.specs.Program.{Program}
use Rattle.task_code.specs.Own.{Filled, Own}
use Rattle.task_code.specs.Does.{Private, does, word_at, slot, with_word, with_count}
use Rattle.task_code.specs.Leads.{Leads, at}
use Rattle.task_code.specs.Formed.{IsFormedBuffer}
use Rattle.task_code.specs.Piece.{end, Stands}
use Rattle.task_code.specs.Emission.{words_put, emission}
use Rattle.task_code.specs.Emitting.{with_message, EmissionEmits, EmissionIsShort}
use Rattle.task_code.proofs.Leads as leads
use Rattle.task_code.proofs.Lists.{set_same, set_twice, set_as_was}
use Rattle.task_code.proofs.Pieces.{size, size_is}

-- words are written one after another, from place j on
abbrev written : List ℤ → ℕ → List ℤ → List ℤ
written ws j [] = ws
written ws j (x ∷ xs) = written (slice_set ws j x) (suc j) xs

set_behind : (cs bs : List ℤ) (b x : ℤ) → slice_set (cs ++ b ∷ bs) (length cs) x ≡ (cs ++ x ∷ []) ++ bs
set_behind [] bs b x = refl
set_behind (c ∷ cs) bs b x = ap (λ l. c ∷ l) (set_behind cs bs b x)

written_all : (xs cs bs : List ℤ) → length bs ≡ length xs → written (cs ++ bs) (length cs) xs ≡ cs ++ xs
written_all [] cs [] e = refl
written_all [] cs (b ∷ bs) e = absurd (omega (arith, e))
written_all (x ∷ xs) cs [] e = absurd (omega (arith, e))
written_all (x ∷ xs) cs (b ∷ bs) e =
    let more : length (cs ++ x ∷ []) ≡ suc (length cs) = more_by_one cs x in
    ap (λ l. written l (suc (length cs)) xs) (set_behind cs bs b x)
    ∙ subst (λ n. written ((cs ++ x ∷ []) ++ bs) n xs ≡ (cs ++ x ∷ []) ++ xs) more (written_all xs (cs ++ x ∷ []) bs (omega (arith, e)))
    ∙ append_assoc cs (x ∷ []) xs
  where
    more_by_one : (cs : List ℤ) (x : ℤ) → length (cs ++ x ∷ []) ≡ suc (length cs)
    more_by_one cs x = let q = length-append cs (x ∷ []) in omega (arith, q)

-- the words of a list are those from an address on
get_from : (ws : List ℤ) (a n i : ℕ) → i < n → a + n ≤ length ws → word_at ws (a + i) ≡ word_at (take n (drop a ws)) i
get_from ws zero n i lt le = let z : 0 + i ≡ i = omega arith in ap (word_at ws) z ∙ first ws n i lt
  where
    first : (ws : List ℤ) (n i : ℕ) → i < n → word_at ws i ≡ word_at (take n ws) i
    first ws zero i lt = absurd (omega arith)
    first [] (suc n) i lt = refl
    first (w ∷ ws) (suc n) zero lt = refl
    first (w ∷ ws) (suc n) (suc i) lt = first ws n i (omega arith)
get_from [] (suc a) n i lt le = absurd (omega (arith, le, lt))
get_from (w ∷ ws) (suc a) n i lt le = let z : suc a + i ≡ suc (a + i) = omega arith in ap (word_at (w ∷ ws)) z ∙ get_from ws a n i lt (omega (arith, le))

module _ (p : Program) (t : Task) (scratch b : ℕ) (s : Buffer) (is : slice_get t.buffers b ≡ Some s) where
  -- the slot behind the last message has these words
  abbrev with_slot : Filled → List ℤ → Filled
  with_slot f ws = record f { slots = slice_set f.slots f.count ws }

  abbrev with_buffer : Own → Filled → Own
  with_buffer o f = record o { buffers = slice_set o.buffers b f }

  same_slot : (o : Own) (f : Filled) → slice_get o.buffers b ≡ Some f → f.count < length f.slots → with_buffer o (with_slot f (slot f f.count)) ≡ o
  same_slot o f has lt =
      let slots : slice_set f.slots f.count (slot f f.count) ≡ f.slots = set_as_was f.slots f.count (slot f f.count) (slice_get-get_or f.slots f.count [] lt) in
      ap (λ l. with_buffer o (record f { slots = l })) slots ∙ ap (λ bs. record o { buffers = bs }) (set_as_was o.buffers b f has)

  -- three instructions for each word
  puts : (xs : List ℤ) (o : Own) (f : Filled) (j a : ℕ) (st : List ℤ) → slice_get o.buffers b ≡ Some f → b < length o.buffers → f.count < s.bound → f.count < length f.slots → j + length xs ≤ s.width
      → ((i : ℕ) → i < length xs → word_at o.words (scratch + (j + i)) ≡ word_at xs i) → length st + 2 ≤ 64 → Stands t.code a (words_put scratch b j (length xs))
      → Leads p t (3 * length xs) (at o a st) (at (with_buffer o (with_slot f (written (slot f f.count) j xs))) (end a (words_put scratch b j (length xs))) st)
  puts [] o f j a st has lb lc ls lw rd len h =
      let z : 3 * 0 ≡ 0 = omega arith in
      subst (λ u. Leads p t (3 * 0) (at o a st) (at u a st)) (sym (same_slot o f has ls)) (subst (λ n. Leads p t n (at o a st) (at o a st)) (sym z) (leads.stays p t (at o a st)))
  puts (x ∷ xs) o f j a st has lb lc ls lw rd len h =
      let f1 : Filled = with_word f f.count j x in
      let o' : Own = with_buffer o f1 in
      let z : scratch + (j + 0) ≡ scratch + j = omega arith in
      let here : word_at o.words (scratch + j) ≡ x = ap (word_at o.words) (sym z) ∙ rd 0 (omega arith) in
      let o0 : Own = at o a st in
      let o1 : Own = at o (suc a) (pos j ∷ st) in
      let o2 : Own = at o (suc (suc a)) (x ∷ pos j ∷ st) in
      let o3 : Own = at o' (suc (suc (suc a))) st in
      let slot1 : slot f1 f.count ≡ slice_set (slot f f.count) j x = get_or-set_same f.slots f.count (slice_set (slot f f.count) j x) [] ls in
      let long1 : length f1.slots ≡ length f.slots = length-set f.slots f.count (slice_set (slot f f.count) j x) in
      let longer : length o'.buffers ≡ length o.buffers = length-set o.buffers b f1 in
      let rest = puts xs o' f1 (suc j) (suc (suc (suc a))) st (set_same o.buffers b f1 lb) (omega (arith, longer, lb)) lc (omega (arith, long1, ls)) (omega arith)
      (λ i lt. let e : scratch + (j + suc i) ≡ scratch + (suc j + i) = omega arith in subst (λ k. word_at o.words k ≡ word_at xs i) e (rd (suc i) (omega arith))) len h.1.1.1 in
      let last : Own = at (with_buffer o' (with_slot f1 (written (slot f1 f.count) (suc j) xs))) (end a (words_put scratch b j (suc (length xs)))) st in
      let slots : with_slot f1 (written (slot f1 f.count) (suc j) xs) ≡ with_slot f (written (slot f f.count) j (x ∷ xs)) =
      ap (λ l. with_slot f1 (written l (suc j) xs)) slot1 ∙ ap (λ l. record f { slots = l }) (set_twice f.slots f.count (slice_set (slot f f.count) j x) (written (slice_set (slot f f.count) j x) (suc j) xs)) in
      let buffers : with_buffer o' (with_slot f1 (written (slot f1 f.count) (suc j) xs)) ≡ with_buffer o (with_slot f (written (slot f f.count) j (x ∷ xs))) =
      ap (λ bs. record o { buffers = bs }) (set_twice o.buffers b f1 (with_slot f1 (written (slot f1 f.count) (suc j) xs))) ∙ ap (with_buffer o) slots in
      subst (λ u. Leads p t (3 * suc (length xs)) o0 (at u (end a (words_put scratch b j (suc (length xs)))) st)) buffers
      (leads.wider p t (1 + (1 + (1 + 3 * length xs))) (3 * suc (length xs)) o0 last
      (leads.then_on p t 1 (1 + (1 + 3 * length xs)) o0 o1 last (leads.once p t o0 o1 (leads.push p t o a st (pos j) h.0 (omega (arith, len))))
      (leads.then_on p t 1 (1 + 3 * length xs) o1 o2 last (leads.once p t o1 o2 (subst (λ v. does p t o1 ≡ Private (at o (suc (suc a)) (v ∷ pos j ∷ st))) here (leads.ld p t o (suc a) (pos j ∷ st) (scratch + j) h.1.0 (omega (arith, len)))))
      (leads.then_on p t 1 (3 * length xs) o2 o3 last (leads.once p t o2 o3 (leads.bput p t o (suc (suc a)) st b s f is has j x h.1.1.0 lc (omega arith))) rest)))
      (omega arith))

  -- a message that stands from scratch on becomes the next one of the buffer
  pub emission_leads : (xs : List ℤ) (o : Own) (f : Filled) → slice_get o.buffers b ≡ Some f → IsFormedBuffer s f → f.count < s.bound → s.width ≡ length xs → ((i : ℕ) → i < length xs → word_at o.words (scratch + i) ≡ word_at xs i)
      → length o.stack + 2 ≤ 64 → Stands t.code o.place (emission scratch b (length xs))
      → Leads p t (3 * length xs + 1) o (record o { place = end o.place (emission scratch b (length xs)); buffers = slice_set o.buffers b (with_message f xs) })
  emission_leads xs o f has formed below wide same stack h =
      let slots : length f.slots ≡ s.bound = formed.slots in
      let there : b < length o.buffers = slice_get_within o.buffers b f has in
      let old : length (slot f f.count) ≡ s.width = formed.wide f.count (slot f f.count) (slice_get-get_or f.slots f.count [] (omega (arith, slots, below))) in
      let put = puts xs o f 0 o.place o.stack has there below (omega (arith, slots, below)) (omega (arith, wide))
      (λ i lt. let z : 0 + i ≡ i = omega arith in ap (λ k. word_at o.words (scratch + k)) z ∙ same i lt) stack h.0 in
      let whole : written (slot f f.count) 0 xs ≡ xs = written_all xs [] (slot f f.count) (omega (arith, old, wide)) in
      let f' : Filled = with_slot f xs in
      let o' : Own = with_buffer o f' in
      let mid : ℕ = end o.place (words_put scratch b 0 (length xs)) in
      let moved : Leads p t (3 * length xs) o (at o' mid o.stack) = subst (λ ws. Leads p t (3 * length xs) o (at (with_buffer o (with_slot f ws)) mid o.stack)) whole put in
      let counted : Own = at (record o' { buffers = slice_set o'.buffers b (with_count f' (suc f'.count)) }) (suc mid) o.stack in
      let once : Leads p t 1 (at o' mid o.stack) counted = leads.once p t (at o' mid o.stack) counted (leads.badd p t o' mid o.stack b s f' is (set_same o.buffers b f' there) h.1 below) in
      subst (λ bs. Leads p t (3 * length xs + 1) o (record o { place = suc mid; buffers = bs })) (set_twice o.buffers b f' (with_message f xs))
      (leads.then_on p t (3 * length xs) 1 o (at o' mid o.stack) counted moved once)

pub emits : EmissionEmits
emits p t scratch buffer width s f o is wide has formed below room stack h =
    let message : List ℤ = take width (drop scratch o.words) in
    let dropped : length (drop scratch o.words) ≡ length o.words - scratch = length-drop scratch o.words in
    let long : length message ≡ width = length-take-le width (drop scratch o.words) (omega (arith, dropped, room)) in
    subst (λ n. Leads p t (3 * n + 1) o (record o { place = end o.place (emission scratch buffer n); buffers = slice_set o.buffers buffer (with_message f message) })) long
    (emission_leads p t scratch buffer s is message o f has formed below (omega (arith, long, wide)) (λ i lt. get_from o.words scratch width i (omega (arith, long, lt)) room) (omega (arith, stack))
    (subst (λ n. Stands t.code o.place (emission scratch buffer n)) (sym long) h))

put_size : (n a buffer j : ℕ) → size (words_put a buffer j n) ≡ 3 * n
put_size zero a buffer j = refl
put_size (suc n) a buffer j = let q = put_size n a buffer (suc j) in omega (arith, q)

pub emission_size : (a buffer width : ℕ) → size (emission a buffer width) ≡ 3 * width + 1
emission_size a buffer width = let q = put_size width a buffer 0 in omega (arith, q)

pub is_short : EmissionIsShort
is_short a buffer width = size_is (emission a buffer width) ∙ emission_size a buffer width
