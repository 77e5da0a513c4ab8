-- Lists and code that grow by one part after another.
use Rattle.std.proofs.Common.{◌≡◌, ◌∙◌, ℕ, zero, suc, ◌+◌, ◌<◌, ◌≤◌, List, [], ◌∷◌, ◌++◌, length, map, take, drop, get_or, Some, sym, ap, arith, append_assoc, append-nil, slice_get}
use Rattle.std.proofs.lemmas.List.{length-append, map-append, take_more, drop_all}
use Rattle.std.proofs.lemmas.Option.{get_or_from_slice_get}
use Rattle.tower_syntax.specs.Arch.{Arch}
use Rattle.tower_syntax.specs.Graph.{handler}
use Rattle.task_code.specs.declared.program.Instr.{Instr}
use Rattle.task_code.specs.declared.program.Instr.TheVariants.{Ld, St, Ret}
use Rattle.task_code.specs.declared.program.Buffer.{Buffer}
use Rattle.task_code.specs.declared.frame.Frame.{Frame}
use Rattle.task_code.specs.Piece.{Piece, end, listed}
use Rattle.stmt_code.specs.Section.{section_code}
use Rattle.emit_code.specs.Delivery.{Entry, entry_of, delivery_code}
use Rattle.emit_code.proofs.Added.{added_more, end_is}
use Rattle.task_build.specs.CodeOf.{words_passed, handler_code, handlers_code, buffers_of, all_buffers}
use Rattle.task_build.specs.Tables.{placed_from, head_of, placed_behind, code_behind}
use Rattle.task_build.proofs.Tabled.{drop_next}

-- one element more of a list behind a function
pub mapped_more : {X Y : Type 0} (f : X → Y) (xs : List X) (k : ℕ) (x : X) (base old new : List Y) (y : Y) → k < length xs → get_or xs k x ≡ x → old ≡ base ++ map f (take k xs) → new ≡ old ++ y ∷ [] → y ≡ f x → new ≡ base ++ map f (take (k + 1) xs)
mapped_more f xs k x base old new y within read before grown is =
    grown ∙ (λ t. before t ++ is t ∷ []) ∙ append_assoc base (map f (take k xs)) (f x ∷ [])
    ∙ ap (λ ys. base ++ ys) (
    ap (λ z. map f (take k xs) ++ f z ∷ []) (sym read)
    ∙ sym (map-append f (take k xs) (get_or xs k x ∷ []))
    ∙ ap (map f) (sym (take_more xs k x within))
    )

pub got : {X : Type 0} (xs : List X) (k : ℕ) (x : X) → slice_get xs k ≡ Some x → get_or xs k x ≡ x
got xs k x e = get_or_from_slice_get xs k x x e

-- the buffers of one handler more
buffers-push : (arch : Arch) (hs : List ℕ) (h : ℕ) → all_buffers arch (hs ++ h ∷ []) ≡ all_buffers arch hs ++ buffers_of arch (handler arch h).emitters
buffers-push arch [] h = append-nil (buffers_of arch (handler arch h).emitters)
buffers-push arch (x ∷ xs) h =
    let first : List Buffer = buffers_of arch (handler arch x).emitters in
    ap (λ bs. first ++ bs) (buffers-push arch xs h) ∙ sym (append_assoc first (all_buffers arch xs) (buffers_of arch (handler arch h).emitters))

pub buffers_more : (arch : Arch) (hs : List ℕ) (k h : ℕ) (old new : List Buffer) → k < length hs → h ≡ get_or hs k 0 → old ≡ all_buffers arch (take k hs) → new ≡ old ++ buffers_of arch (handler arch h).emitters → new ≡ all_buffers arch (take (k + 1) hs)
buffers_more arch hs k h old new within read before grown =
    grown ∙ ap (λ bs. bs ++ buffers_of arch (handler arch h).emitters) before ∙ sym (buffers-push arch (take k hs) h)
    ∙ ap (λ j. all_buffers arch (take k hs ++ j ∷ [])) read ∙ ap (all_buffers arch) (sym (take_more hs k 0 within))

-- ---- the head

words_passed-push : (a b n : ℕ) → listed (words_passed a b (suc n)) ≡ listed (words_passed a b n) ++ (Ld (a + n) ∷ St (b + n) ∷ [])
words_passed-push a b zero =
    let one : a ≡ a + 0 = omega arith in
    let two : b ≡ b + 0 = omega arith in
    λ t. Ld (one t) ∷ St (two t) ∷ []
words_passed-push a b (suc n) =
    let one : suc a + n ≡ a + suc n = omega arith in
    let two : suc b + n ≡ b + suc n = omega arith in
    ap (λ xs. Ld a ∷ St b ∷ xs) (words_passed-push (suc a) (suc b) n ∙ (λ t. listed (words_passed (suc a) (suc b) n) ++ (Ld (one t) ∷ St (two t) ∷ [])))

pub words_passed-more : (a b n x y : ℕ) (old one two new : List Instr) → one ≡ old ++ listed (words_passed a b n) → two ≡ one ++ Ld x ∷ [] → new ≡ two ++ St y ∷ [] → x ≡ a + n → y ≡ b + n → new ≡ old ++ listed (words_passed a b (n + 1))
words_passed-more a b n x y old one two new before first second is_x is_y =
    let next : suc n ≡ n + 1 = omega arith in
    added_more old one new (listed (words_passed a b n)) (Ld x ∷ St y ∷ []) before (added_more one two new (Ld x ∷ []) (St y ∷ []) first second)
    ∙ ap (λ xs. old ++ xs) ((λ t. listed (words_passed a b n) ++ (Ld (is_x t) ∷ St (is_y t) ∷ [])) ∙ sym (words_passed-push a b n) ∙ ap (λ k. listed (words_passed a b k)) next)

-- ---- the handlers

pub handler_added : (arch : Arch) (es : List Entry) (h : ℕ) (f g : Frame) (old one two new : List Instr) → g ≡ f → one ≡ old ++ listed (section_code arch (handler arch h) g (length old)) → two ≡ one ++ listed (delivery_code arch es f (length one) 0 (handler arch h).emitters) → new ≡ two ++ Ret ∷ [] → new ≡ old ++ listed (handler_code arch es h f (length old))
handler_added arch es h f g old one two new same e1 e2 e3 =
    let first : Piece = section_code arch (handler arch h) f (length old) in
    let is : one ≡ old ++ listed first = e1 ∙ ap (λ z. old ++ listed (section_code arch (handler arch h) z (length old))) same in
    let there : length one ≡ end (length old) first = ap length is ∙ length-append old (listed first) ∙ sym (end_is first (length old)) in
    let second : List Instr = listed (delivery_code arch es f (end (length old) first) 0 (handler arch h).emitters) in
    added_more old one new (listed first) (second ++ Ret ∷ []) is
    (added_more one two new second (Ret ∷ []) (e2 ∙ ap (λ p. one ++ listed (delivery_code arch es f p 0 (handler arch h).emitters)) there) e3)

-- what stands, with the handlers still to come, is the whole; and so are their places
pub record Placing (arch : Arch) (es : List Entry) (hs : List ℕ) (k : ℕ) (code : List Instr) (places : List ℕ) (whole : List Instr) (all : List ℕ) : Type 0 where
  pub written : code ++ listed (handlers_code arch es (placed_from arch es (length code) (drop k hs))) ≡ whole
  pub placed : places ++ map (λ e. e.place) (placed_from arch es (length code) (drop k hs)) ≡ all

pub placing_begun : (arch : Arch) (es : List Entry) (s : ℕ) (hs : List ℕ) (none code : List Instr) (places : List ℕ) → none ≡ [] → places ≡ [] → code ≡ none ++ listed (head_of arch es s) → Placing arch es hs 0 code places (listed (code_behind arch es s hs)) (map (λ e. e.place) (placed_behind arch es s hs))
placing_begun arch es s hs none code places empty nowhere begun =
    let head : Piece = head_of arch es s in
    let is : code ≡ listed head = begun ∙ ap (λ xs. xs ++ listed head) empty in
    let there : length code ≡ end 0 head = ap length is ∙ sym (end_is head 0 ∙ from_zero (length (listed head))) in
    record {
      written = λ t. is t ++ listed (handlers_code arch es (placed_from arch es (there t) hs));
      placed = λ t. nowhere t ++ map (λ e. e.place) (placed_from arch es (there t) hs);
    }
  where
    from_zero : (n : ℕ) → 0 + n ≡ n
    from_zero n = omega arith

pub placing_next : (arch : Arch) (es : List Entry) (hs : List ℕ) (k h place : ℕ) (code new whole : List Instr) (places more all : List ℕ) → k < length hs → h ≡ get_or hs k 0 → place ≡ length code → more ≡ places ++ place ∷ []
    → new ≡ code ++ listed (handler_code arch es h (entry_of es h).frame (length code)) → Placing arch es hs k code places whole all → Placing arch es hs (k + 1) new more whole all
placing_next arch es hs k h place code new whole places more all within read here listed_more added so =
    let f : Frame = (entry_of es h).frame in
    let q : Piece = handler_code arch es h f (length code) in
    let rest : List ℕ = drop (k + 1) hs in
    let cut : drop k hs ≡ h ∷ rest = drop_next hs k 0 within ∙ ap (λ j. j ∷ rest) (sym read) in
    let there : length new ≡ end (length code) q = ap length added ∙ length-append code (listed q) ∙ sym (end_is q (length code)) in
    record {
      written =
          (λ t. added t ++ listed (handlers_code arch es (placed_from arch es (there t) rest)))
          ∙ append_assoc code (listed q) (listed (handlers_code arch es (placed_from arch es (end (length code) q) rest)))
          ∙ ap (λ ks. code ++ listed (handlers_code arch es (placed_from arch es (length code) ks))) (sym cut)
          ∙ so.written;
      placed =
          (λ t. listed_more t ++ map (λ e. e.place) (placed_from arch es (there t) rest))
          ∙ append_assoc places (place ∷ []) (map (λ e. e.place) (placed_from arch es (end (length code) q) rest))
          ∙ ap (λ a. places ++ (a ∷ map (λ e. e.place) (placed_from arch es (end (length code) q) rest))) here
          ∙ ap (λ ks. places ++ map (λ e. e.place) (placed_from arch es (length code) ks)) (sym cut)
          ∙ so.placed;
    }

pub all_written : (arch : Arch) (es : List Entry) (hs : List ℕ) (k : ℕ) (code whole : List Instr) (places all : List ℕ) → length hs ≤ k → Placing arch es hs k code places whole all → code ≡ whole
all_written arch es hs k code whole places all past so =
    sym (append-nil code) ∙ ap (λ ks. code ++ listed (handlers_code arch es (placed_from arch es (length code) ks))) (sym (drop_all k hs past)) ∙ so.written

pub all_placed : (arch : Arch) (es : List Entry) (hs : List ℕ) (k : ℕ) (code whole : List Instr) (places all : List ℕ) → length hs ≤ k → Placing arch es hs k code places whole all → places ≡ all
all_placed arch es hs k code whole places all past so =
    sym (append-nil places) ∙ ap (λ ks. places ++ map (λ e. e.place) (placed_from arch es (length code) ks)) (sym (drop_all k hs past)) ∙ so.placed
