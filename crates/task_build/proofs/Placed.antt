-- Where the code of each entry stands.
use Rattle.std.proofs.Common.{◌≡◌, ◌∙◌, ◌≢◌, ℕ, zero, suc, ◌+◌, ◌⊎◌, inl, inr, Bool, true, false, ◌==◌, List, [], ◌∷◌, ◌++◌, length, map, Some, refl, sym, ap, subst, arith, slice_get, slice_index_or}
use Rattle.std.proofs.lemmas.Bool.{cases_eq, eq-eqb, ne_eqb, false≢true}
use Rattle.std.proofs.lemmas.List.{length-append}
use Rattle.std.proofs.lemmas.Option.{none-some}
use Rattle.tower_syntax.specs.declared.arch.On.TheVariants as on
use Rattle.tower_syntax.specs.declared.arch.Listener.{Listener}
use Rattle.tower_syntax.specs.declared.arch.Listener.TheVariants as to
use Rattle.tower_syntax.specs.Arch.{Arch, Emitter}
use Rattle.tower_syntax.specs.Graph.{handler, subs}
use Rattle.tower_syntax.specs.Weights.{emitter_words}
use Rattle.task_code.specs.declared.program.Instr.{Instr}
use Rattle.task_code.specs.Piece.{Piece, nil, ins, ◌▸◌, end, listed, Stands, joined}
use Rattle.task_code.specs.declared.frame.Frame.{Frame}
use Rattle.stmt_code.specs.FrameOf.{frame_of}
use Rattle.task_build.specs.CodeOf.{frames_from, handler_code, passed, call_code, head_code, entries_from, handlers_code, unplaced}
use Rattle.emit_code.specs.Delivery.{Entry, entry_of, words_got, item_code, emitter_code, delivery_code}
use Rattle.stmt_code.specs.Section.{section_code}
use Rattle.channel_graph.proofs.Members.{In}
use Rattle.emit_code.specs.Entries.{frame_in, place_in}

pub pick_first : {A : Type 0} (b : Bool) (x y : A) → b ≡ true → (elim b [ true ↦ x | false ↦ y ]) ≡ x
pick_first true x y e = refl
pick_first false x y e = absurd (false≢true e)

pub pick_second : {A : Type 0} (b : Bool) (x y : A) → b ≡ false → (elim b [ true ↦ x | false ↦ y ]) ≡ y
pick_second true x y e = absurd (false≢true (sym e))
pick_second false x y e = refl

-- ---- a piece stands where it is listed

pub get_before : {X : Type 0} (xs ys : List X) (k : ℕ) (w : X) → slice_get xs k ≡ Some w → slice_get (xs ++ ys) k ≡ Some w
get_before [] ys k w e = absurd (none-some w e)
get_before (x ∷ xs) ys zero w e = e
get_before (x ∷ xs) ys (suc k) w e = get_before xs ys k w e

pub get_behind : {X : Type 0} (xs ys : List X) (k : ℕ) → slice_get (xs ++ ys) (length xs + k) ≡ slice_get ys k
get_behind [] ys k = let z : 0 + k ≡ k = omega arith in ap (slice_get ys) z
get_behind (x ∷ xs) ys k = let z : suc (length xs) + k ≡ suc (length xs + k) = omega arith in ap (slice_get (x ∷ (xs ++ ys))) z ∙ get_behind xs ys k

end_is : (q : Piece) (a : ℕ) → end a q ≡ a + length (listed q)
end_is nil a = omega arith
end_is (ins i) a = omega arith
end_is (x ▸ y) a =
    let one : end a x ≡ a + length (listed x) = end_is x a in
    let two : end (end a x) y ≡ end a x + length (listed y) = end_is y (end a x) in
    let all : length (listed x ++ listed y) ≡ length (listed x) + length (listed y) = length-append (listed x) (listed y) in
    omega (arith, one, two, all)

stands_of : (code : List Instr) (q : Piece) (a : ℕ) → ((k : ℕ) (i : Instr) → slice_get (listed q) k ≡ Some i → slice_get code (a + k) ≡ Some i) → Stands code a q
stands_of code nil a h = tt
stands_of code (ins i) a h = let z : a + 0 ≡ a = omega arith in subst (λ k. slice_get code k ≡ Some i) z (h 0 i refl)
stands_of code (x ▸ y) a h =
    let one : end a x ≡ a + length (listed x) = end_is x a in (
      stands_of code x a (λ k i e. h k i (get_before (listed x) (listed y) k i e)),
      stands_of code y (end a x) (λ k i e. subst (λ b. slice_get code b ≡ Some i) (places a (length (listed x)) k (end a x) one) (h (length (listed x) + k) i (get_behind (listed x) (listed y) k ∙ e))),
    )
  where
    places : (a n k b : ℕ) → b ≡ a + n → a + (n + k) ≡ b + k
    places a n k b e = omega (arith, e)

pub all_stands : (q : Piece) → Stands (listed q) 0 q
all_stands q = stands_of (listed q) q 0 (λ k i e. subst (λ b. slice_get (listed q) b ≡ Some i) (from_zero k) e)
  where
    from_zero : (k : ℕ) → k ≡ 0 + k
    from_zero k = omega arith

-- ---- no length depends on the places of the entries

pub entry_here : (e : Entry) (es : List Entry) (k : ℕ) → e.number ≡ k → entry_of (e ∷ es) k ≡ e
entry_here e es k h = pick_first (e.number == k) e (entry_of es k) (eq-eqb e.number k h)

pub entry_there : (e : Entry) (es : List Entry) (k : ℕ) → e.number ≢ k → entry_of (e ∷ es) k ≡ entry_of es k
entry_there e es k h = pick_second (e.number == k) e (entry_of es k) (ne_eqb e.number k h)

abbrev pub Alike : List Entry → List Entry → Type 0
Alike es fs = (k : ℕ) → frame_in es k ≡ frame_in fs k

pub placed_alike : (arch : Arch) (known : List Entry) (from : ℕ) (hs : List ℕ) (fs : List Frame) → Alike (unplaced hs fs) (entries_from arch known from hs fs)
placed_alike arch known from [] fs k = refl
placed_alike arch known from (h ∷ hs) [] k = refl
placed_alike arch known from (h ∷ hs) (f ∷ fs) k =
    let e : Entry = record { number = h; frame = f; place = 0 } in
    let d : Entry = record { number = h; frame = f; place = from } in
    let es : List Entry = unplaced hs fs in
    let ds : List Entry = entries_from arch known (end from (handler_code arch known h f from)) hs fs in
    elim (cases_eq h k) [
      | inl same ↦ ap (λ z. z.frame) (entry_here e es k same) ∙ sym (ap (λ z. z.frame) (entry_here d ds k same))
      | inr differ ↦ ap (λ z. z.frame) (entry_there e es k differ) ∙ placed_alike arch known (end from (handler_code arch known h f from)) hs fs k ∙ sym (ap (λ z. z.frame) (entry_there d ds k differ))
    ]

joined_end : (g h : Listener → Piece) → ((l : Listener) (a : ℕ) → end a (g l) ≡ end a (h l)) → (ls : List Listener) (a : ℕ) → end a (joined (map g ls)) ≡ end a (joined (map h ls))
joined_end g h e [] a = refl
joined_end g h e (l ∷ ls) a = ap (λ z. end z (joined (map g ls))) (e l a) ∙ joined_end g h e ls (end a (h l))

module _ (arch : Arch) (es fs : List Entry) (alike : Alike es fs) where
  item_end : (i b scratch width : ℕ) (l : Listener) (a : ℕ) → end a (item_code es i b scratch width l) ≡ end a (item_code fs i b scratch width l)
  item_end i b scratch width (to.Output o) a = refl
  item_end i b scratch width (to.Handler k) a = ap (λ f. suc (end a (words_got i b f.param 0 width))) (alike k)

  emitter_end : (from i b scratch width : ℕ) (ls : List Listener) → end from (emitter_code es from i b scratch width ls) ≡ end from (emitter_code fs from i b scratch width ls)
  emitter_end from i b scratch width ls =
      ap (λ a. suc (suc (suc (suc (suc a))))) (joined_end (item_code es i b scratch width) (item_code fs i b scratch width) (item_end i b scratch width) ls (suc (suc (suc (suc (suc (suc from)))))))

  delivery_end : (f : Frame) (ems : List Emitter) (k from : ℕ) → end from (delivery_code arch es f from k ems) ≡ end from (delivery_code arch fs f from k ems)
  delivery_end f [] k from = refl
  delivery_end f (e ∷ ems) k from =
      let width : ℕ = emitter_words arch e in
      let ls : List Listener = subs arch (on.Channel e.channel) in
      let s : ℕ = slice_index_or f.scratch k 0 in
      delivery_end f ems (suc k) (end from (emitter_code es from (f.temps + 2) (f.first_buffer + k) s width ls))
      ∙ ap (λ z. end z (delivery_code arch fs f z (suc k) ems)) (emitter_end from (f.temps + 2) (f.first_buffer + k) s width ls)

  pub handler_end : (h : ℕ) (f : Frame) (from : ℕ) → end from (handler_code arch es h f from) ≡ end from (handler_code arch fs h f from)
  handler_end h f from = ap suc (delivery_end f (handler arch h).emitters 0 (end from (section_code arch (handler arch h) f from)))

  call_end : (taken width : ℕ) (l : Listener) (a : ℕ) → end a (call_code es taken width l) ≡ end a (call_code fs taken width l)
  call_end taken width (to.Output o) a = refl
  call_end taken width (to.Handler k) a = ap (λ f. suc (end a (passed taken f.param width))) (alike k)

  pub head_end : (s taken width : ℕ) → end 0 (head_code arch es s taken width) ≡ end 0 (head_code arch fs s taken width)
  head_end s taken width = ap suc (joined_end (call_code es taken width) (call_code fs taken width) (call_end taken width) (subs arch (on.Source s)) 1)

-- ---- each entry's code stands at its place

module _ (arch : Arch) (code : List Instr) (known es : List Entry) (alike : Alike known es) where
  abbrev laid_out : ℕ → ℕ → ℕ → List ℕ → List Entry
  laid_out base buffer from hs = entries_from arch known from hs (frames_from arch base buffer hs)

  pub entry_stands : (hs : List ℕ) (base buffer from : ℕ) → Stands code from (handlers_code arch es (laid_out base buffer from hs)) → (k : ℕ) → In k hs → Stands code (place_in (laid_out base buffer from hs) k) (handler_code arch es k (frame_in (laid_out base buffer from hs) k) (place_in (laid_out base buffer from hs) k))
  entry_stands [] base buffer from stands k h = absurd h
  entry_stands (h ∷ hs) base buffer from stands k k_in =
      let f : Frame = frame_of arch h base buffer in
      let mid : ℕ = end from (handler_code arch known h f from) in
      let d : Entry = record { number = h; frame = f; place = from } in
      let ds : List Entry = laid_out f.end (buffer + length (handler arch h).emitters) mid hs in
      elim (cases_eq h k) [
        | inl same ↦
            subst (λ z. Stands code z.place (handler_code arch es k z.frame z.place)) (sym (entry_here d ds k same)) (subst (λ g. Stands code from (handler_code arch es g f from)) same stands.0)
        | inr differ ↦
            let rest : Stands code mid (handlers_code arch es ds) = subst (λ a. Stands code a (handlers_code arch es ds)) (sym (handler_end arch known es alike h f from)) stands.1 in
            subst (λ z. Stands code z.place (handler_code arch es k z.frame z.place)) (sym (entry_there d ds k differ))
            (entry_stands hs f.end (buffer + length (handler arch h).emitters) mid rest k (elsewhere hs k_in differ))
      ]
    where
      elsewhere : (hs : List ℕ) → (k ≡ h) ⊎ In k hs → h ≢ k → In k hs
      elsewhere hs (inl e) differ = absurd (differ (sym e))
      elsewhere hs (inr m) differ = m
