-- The code of a loop, whose test is written once its end is known.
use Rattle.std.proofs.Common.{◌≡◌, ◌∙◌, ℕ, suc, ◌+◌, ◌-◌, List, [], ◌∷◌, ◌++◌, length, slice_set, pos, arith, refl, ap, sym, append_assoc}
use Rattle.std.proofs.lemmas.List.{length-append}
use Rattle.std.proofs.Math.Seq.{set-append_seam}
use Rattle.tower_types.specs.declared.scalar.Scalar.TheVariants.{U64}
use Rattle.tower_types.specs.declared.scalar.BinOp.TheVariants.{Add, Less}
use Rattle.task_code.specs.declared.program.Instr.{Instr}
use Rattle.task_code.specs.declared.program.Instr.TheVariants.{Push, Ld, St, Bin, Jmp, Jz}
use Rattle.task_code.specs.Piece.{Piece, ins, ◌▸◌, end, listed}
use Rattle.task_code.proofs.Joined.{place_behind}
use Rattle.stmt_code.specs.Turns.{loop_head, loop_end}

-- n turns of a body, counted in the word at a
abbrev pub turns : ℕ → ℕ → (ℕ → Piece) → ℕ → Piece
turns a n b from =
    let turn = from + 2 in
    let inner = b (turn + 4) in
    let out = end (turn + 4) inner + 5 in
    ins (Push (pos 0)) ▸ ins (St a)
    ▸ ins (Ld a) ▸ ins (Push (pos n)) ▸ ins (Bin Less U64) ▸ ins (Jz out)
    ▸ inner ▸ ins (Ld a) ▸ ins (Push (pos 1)) ▸ ins (Bin Add U64) ▸ ins (St a) ▸ ins (Jmp turn)

pub turns_made : (a n : ℕ) (b : ℕ → Piece) (old c1 c2 c3 new : List Instr) (i : Instr) (test turn : ℕ)
    → c1 ≡ old ++ (loop_head a n ++ i ∷ [])
    → test ≡ length old + 5
    → turn ≡ test - 3
    → c2 ≡ c1 ++ listed (b (length c1))
    → c3 ≡ c2 ++ loop_end a turn
    → new ≡ slice_set c3 test (Jz (length c3))
    → new ≡ old ++ listed (turns a n b (length old))
turns_made a n b old c1 c2 c3 new i test turn h1 at back h2 h3 h4 =
    let from = length old in
    let front = old ++ loop_head a n in
    let lb = listed (b (length c1)) in
    let x = Jz (length c3) in
    let head : c1 ≡ front ++ i ∷ [] = h1 ∙ sym (append_assoc old (loop_head a n) (i ∷ [])) in
    let third : c3 ≡ front ++ i ∷ (lb ++ loop_end a turn) =
    h3 ∙ ap (λ c. c ++ loop_end a turn) (h2 ∙ ap (λ c. c ++ lb) head) ∙ append_assoc (front ++ i ∷ []) lb (loop_end a turn)
    ∙ append_assoc front (i ∷ []) (lb ++ loop_end a turn) in
    let front_long : length front ≡ from + 5 = length-append old (loop_head a n) in
    let test_at : test ≡ length front = omega (arith, at, front_long) in
    let made : new ≡ front ++ x ∷ (lb ++ loop_end a turn) =
    h4 ∙ ap (λ c. slice_set c test x) third ∙ ap (λ m. slice_set (front ++ i ∷ (lb ++ loop_end a turn)) m x) test_at
    ∙ set-append_seam front i (lb ++ loop_end a turn) x in
    let c1_long : length c1 ≡ (from + 2) + 4 = ap length head ∙ length-append front (i ∷ []) ∙ omega (arith, front_long) in
    let c2_long : length c2 ≡ end (length c1) (b (length c1)) = place_behind c1 c2 (b (length c1)) h2 in
    let c3_long : length c3 ≡ end (length c1) (b (length c1)) + 5 = ap length h3 ∙ length-append c2 (loop_end a turn) ∙ ap (λ m. m + 5) c2_long in
    let turn_at : turn ≡ from + 2 = omega (arith, back, at) in
    let whole : ℕ → ℕ → ℕ → List Instr = λ k out m. old ++ (loop_head a n ++ Jz out ∷ (listed (b k) ++ loop_end a m)) in
    made ∙ append_assoc old (loop_head a n) (x ∷ (lb ++ loop_end a turn))
    ∙ ap (λ out. whole (length c1) out turn) c3_long
    ∙ ap (λ m. whole (length c1) (end (length c1) (b (length c1)) + 5) m) turn_at
    ∙ ap (λ k. whole k (end k (b k) + 5) (from + 2)) c1_long
