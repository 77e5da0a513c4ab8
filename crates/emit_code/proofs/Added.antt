-- Code that is added piece by piece.
use Rattle.std.proofs.Common.{◌≡◌, ◌∙◌, ℕ, zero, suc, ◌+◌, ◌*◌, ◌<◌, List, [], ◌∷◌, ◌++◌, length, map, take, get_or, slice_index_or, pos, arith, ap, sym, append_assoc, append-nil}
use Rattle.std.proofs.lemmas.List.{length-append, length-take, take_more}
use Rattle.tower_syntax.specs.declared.arch.On.TheVariants as on
use Rattle.tower_syntax.specs.declared.arch.Listener.{Listener}
use Rattle.tower_syntax.specs.declared.arch.Listener.TheVariants as to
use Rattle.tower_syntax.specs.Arch.{Arch, Emitter}
use Rattle.tower_syntax.specs.Graph.{subs}
use Rattle.tower_syntax.specs.Weights.{emitter_words}
use Rattle.tower_types.specs.declared.scalar.Scalar.TheVariants.{U64}
use Rattle.tower_types.specs.declared.scalar.BinOp.TheVariants.{Add, Less}
use Rattle.task_code.specs.declared.program.Instr.{Instr}
use Rattle.task_code.specs.declared.program.Instr.TheVariants.{Ld, Push, Bget, St, Bcnt, Bin, Jz, Jmp}
use Rattle.task_code.specs.declared.frame.Frame.{Frame}
use Rattle.task_code.specs.Piece.{Piece, nil, ins, ◌▸◌, end, listed, joined}
use Rattle.task_code.specs.Grows.{Keeps}
use Rattle.emit_code.specs.Delivery.{Entry, entry_of, words_got, item_code, emitter_code, delivery_code}
use Rattle.emit_code.specs.declared.delivery.Outgoing.{Outgoing}
use Rattle.emit_code.specs.Outgoing.{outgoing_of}

pub keeps_then : (a b c : List Instr) → Keeps a b → Keeps b c → Keeps a c
keeps_then a b c one two start e = two start (one start e)

-- one part behind another
pub added_more : (old one two x y : List Instr) → one ≡ old ++ x → two ≡ one ++ y → two ≡ old ++ (x ++ y)
added_more old one two x y e f = f ∙ ap (λ c. c ++ y) e ∙ append_assoc old x y

-- the place behind a piece
pub end_is : (q : Piece) (a : ℕ) → end a q ≡ a + length (listed q)
end_is nil a = omega arith
end_is (ins i) a = omega arith
end_is (x ▸ y) a =
    let one : end a x ≡ a + length (listed x) = end_is x a in
    let two : end (end a x) y ≡ end a x + length (listed y) = end_is y (end a x) in
    let all : length (listed x ++ listed y) ≡ length (listed x) + length (listed y) = length-append (listed x) (listed y) in
    omega (arith, one, two, all)

-- ---- the words of a message

abbrev pub word_got : ℕ → ℕ → ℕ → ℕ → List Instr
word_got i b a j = Ld i ∷ Push (pos j) ∷ Bget b ∷ St (a + j) ∷ []

words_got-suc : (i b a j n : ℕ) → listed (words_got i b a j (suc n)) ≡ listed (words_got i b a j n) ++ word_got i b a (j + n)
words_got-suc i b a j zero = let same : j ≡ j + 0 = omega arith in ap (word_got i b a) same
words_got-suc i b a j (suc n) =
    let same : suc j + n ≡ j + suc n = omega arith in
    ap (λ xs. word_got i b a j ++ xs) (words_got-suc i b a (suc j) n ∙ ap (λ k. listed (words_got i b a (suc j) n) ++ word_got i b a k) same)

-- four instructions, one behind the other
pub four_more : (old one two three new : List Instr) (a b c d : Instr) → one ≡ old ++ a ∷ [] → two ≡ one ++ b ∷ [] → three ≡ two ++ c ∷ [] → new ≡ three ++ d ∷ [] → new ≡ old ++ (a ∷ b ∷ c ∷ d ∷ [])
four_more old one two three new a b c d e f g h =
    added_more old three new (a ∷ b ∷ c ∷ []) (d ∷ []) (added_more old two three (a ∷ b ∷ []) (c ∷ []) (added_more old one two (a ∷ []) (b ∷ []) e f) g) h

-- one word more
pub words_got-more : (i b a n : ℕ) (old one new instrs : List Instr) → one ≡ old ++ listed (words_got i b a 0 n) → new ≡ one ++ instrs → instrs ≡ word_got i b a n → new ≡ old ++ listed (words_got i b a 0 (n + 1))
words_got-more i b a n old one new instrs before grown is =
    let next : suc n ≡ n + 1 = omega arith in
    let here : 0 + n ≡ n = omega arith in
    added_more old one new (listed (words_got i b a 0 n)) (word_got i b a n) before (grown ∙ ap (λ xs. one ++ xs) is)
    ∙ ap (λ xs. old ++ xs) (ap (λ k. listed (words_got i b a 0 n) ++ word_got i b a k) (sym here) ∙ sym (words_got-suc i b a 0 n) ∙ ap (λ k. listed (words_got i b a 0 k)) next)

-- ---- the subscribers of a message

joined-push : (f : Listener → Piece) (ls : List Listener) (l : Listener) → listed (joined (map f (ls ++ l ∷ []))) ≡ listed (joined (map f ls)) ++ listed (f l)
joined-push f [] l = append-nil (listed (f l))
joined-push f (x ∷ xs) l = ap (λ ys. listed (f x) ++ ys) (joined-push f xs l) ∙ sym (append_assoc (listed (f x)) (listed (joined (map f xs))) (listed (f l)))

-- one subscriber more
pub joined-more : (f : Listener → Piece) (ls : List Listener) (i : ℕ) (d : Listener) (old one new : List Instr) → i < length ls → one ≡ old ++ listed (joined (map f (take i ls))) → new ≡ one ++ listed (f (get_or ls i d)) → new ≡ old ++ listed (joined (map f (take (i + 1) ls)))
joined-more f ls i d old one new within before grown =
    added_more old one new (listed (joined (map f (take i ls)))) (listed (f (get_or ls i d))) before grown
    ∙ ap (λ xs. old ++ xs) (sym (joined-push f (take i ls) (get_or ls i d)) ∙ ap (λ ks. listed (joined (map f ks))) (sym (take_more ls i d within)))

-- ---- how long an emitter's loop is

words_got-end : (i b a j n p : ℕ) → end p (words_got i b a j n) ≡ p + 4 * n
words_got-end i b a j zero p = omega arith
words_got-end i b a j (suc n) p = omega (arith, words_got-end i b a (suc j) n (suc (suc (suc (suc p)))))

module _ (es : List Entry) (i b s w : ℕ) where
  item-end : (l : Listener) (p : ℕ) → end p (item_code es i b s w l) ≡ p + (4 * w + 1)
  item-end (to.Output o) p = omega (arith, words_got-end i b s 0 w p)
  item-end (to.Handler k) p = omega (arith, words_got-end i b (entry_of es k).frame.param 0 w p)

  items-end : (ls : List Listener) (p : ℕ) → end p (joined (map (item_code es i b s w) ls)) ≡ p + length ls * (4 * w + 1)
  items-end [] p = omega arith
  items-end (l ∷ ls) p = omega (arith, item-end l p, items-end ls (end p (item_code es i b s w l)))

  -- the place behind the loop
  pub exit_is : (from n : ℕ) (ls : List Listener) → n ≡ from + 11 + length ls * (4 * w + 1) → n ≡ end (from + 2 + 4) (joined (map (item_code es i b s w) ls)) + 5
  exit_is from n ls e = omega (arith, e, items-end ls (from + 2 + 4))

  -- the loop from its parts
  pub emitter_added : (from turn out : ℕ) (ls : List Listener) (old one two three head tail : List Instr) → turn ≡ from + 2 → out ≡ from + 11 + length ls * (4 * w + 1)
      → one ≡ old ++ head → two ≡ one ++ listed (joined (map (item_code es i b s w) ls)) → three ≡ two ++ tail
      → head ≡ Push (pos 0) ∷ St i ∷ Ld i ∷ Bcnt b ∷ Bin Less U64 ∷ Jz out ∷ []
      → tail ≡ Ld i ∷ Push (pos 1) ∷ Bin Add U64 ∷ St i ∷ Jmp turn ∷ []
      → three ≡ old ++ listed (emitter_code es from i b s w ls)
  emitter_added from turn out ls old one two three head tail at_turn at_out e1 e2 e3 is_head is_tail =
      let each : List Instr = listed (joined (map (item_code es i b s w) ls)) in
      let all : three ≡ old ++ ((head ++ each) ++ tail) = added_more old two three (head ++ each) tail (added_more old one two head each e1 e2) e3 in
      let there : out ≡ end (from + 2 + 4) (joined (map (item_code es i b s w) ls)) + 5 = exit_is from out ls at_out in
      all ∙ ap (λ xs. old ++ xs) (
      append_assoc head each tail
      ∙ (λ t. is_head t ++ (each ++ is_tail t))
      ∙ (λ t. (Push (pos 0) ∷ St i ∷ Ld i ∷ Bcnt b ∷ Bin Less U64 ∷ Jz (there t) ∷ []) ++ (each ++ (Ld i ∷ Push (pos 1) ∷ Bin Add U64 ∷ St i ∷ Jmp (at_turn t) ∷ [])))
      )

-- ---- the emitters of a handler

module _ (arch : Arch) (es : List Entry) (f : Frame) where
  abbrev pub emitter_piece : ℕ → ℕ → Emitter → Piece
  emitter_piece from k e = emitter_code es from (f.temps + 2) (f.first_buffer + k) (slice_index_or f.scratch k 0) (emitter_words arch e) (subs arch (on.Channel e.channel))

  delivery-push : (from k : ℕ) (ems : List Emitter) (e : Emitter) → listed (delivery_code arch es f from k (ems ++ e ∷ [])) ≡ listed (delivery_code arch es f from k ems) ++ listed (emitter_piece (end from (delivery_code arch es f from k ems)) (k + length ems) e)
  delivery-push from k [] e =
      let same : k ≡ k + 0 = omega arith in
      append-nil (listed (emitter_piece from k e)) ∙ ap (λ j. listed (emitter_piece from j e)) same
  delivery-push from k (x ∷ xs) e =
      let first : Piece = emitter_piece from k x in
      let rest : Piece = delivery_code arch es f (end from first) (suc k) xs in
      let next : suc k + length xs ≡ k + suc (length xs) = omega arith in
      ap (λ ys. listed first ++ ys) (delivery-push (end from first) (suc k) xs e ∙ ap (λ j. listed rest ++ listed (emitter_piece (end (end from first) rest) j e)) next)
      ∙ sym (append_assoc (listed first) (listed rest) (listed (emitter_piece (end (end from first) rest) (k + suc (length xs)) e)))

  -- one emitter more
  pub delivery-more : (ems : List Emitter) (k : ℕ) (d : Emitter) (old one new : List Instr) → k < length ems
      → one ≡ old ++ listed (delivery_code arch es f (length old) 0 (take k ems))
      → new ≡ one ++ listed (emitter_piece (length one) k (get_or ems k d))
      → new ≡ old ++ listed (delivery_code arch es f (length old) 0 (take (k + 1) ems))
  delivery-more ems k d old one new within before grown =
      let done : Piece = delivery_code arch es f (length old) 0 (take k ems) in
      let here : length one ≡ end (length old) done = ap length before ∙ length-append old (listed done) ∙ sym (end_is done (length old)) in
      let count : 0 + length (take k ems) ≡ k = few ems k within in
      added_more old one new (listed done) (listed (emitter_piece (length one) k (get_or ems k d))) before grown
      ∙ ap (λ xs. old ++ xs) (
      ap (λ p. listed done ++ listed (emitter_piece p k (get_or ems k d))) here
      ∙ ap (λ j. listed done ++ listed (emitter_piece (end (length old) done) j (get_or ems k d))) (sym count)
      ∙ sym (delivery-push (length old) 0 (take k ems) (get_or ems k d))
      ∙ ap (λ ys. listed (delivery_code arch es f (length old) 0 ys)) (sym (take_more ems k d within))
      )
    where
      few : (xs : List Emitter) (k : ℕ) → k < length xs → 0 + length (take k xs) ≡ k
      few xs k h = omega (arith, length-take k xs, h)

  -- an emitter's loop, as its parts are at hand
  pub piece_is : (from k : ℕ) (e : Emitter) (g : Frame) (out : Outgoing) (ls : List Listener) → out ≡ outgoing_of arch g k e → g ≡ f → ls ≡ subs arch (on.Channel e.channel)
      → listed (emitter_code es from out.counter out.buffer out.scratch out.width ls) ≡ listed (emitter_piece from k e)
  piece_is from k e g out ls is same heard =
      let all : out ≡ outgoing_of arch f k e = is ∙ ap (λ z. outgoing_of arch z k e) same in
      λ t. listed (emitter_code es from (all t).counter (all t).buffer (all t).scratch (all t).width (heard t))
