-- Code that grows.
use Rattle.std.proofs.Common.{◌≡◌, ◌∙◌, ℕ, zero, suc, ◌+◌, ◌*◌, List, [], ◌∷◌, ◌++◌, length, take, arith, refl, ap, sym, append_assoc}
use Rattle.std.proofs.lemmas.List.{append-nil, length-append}
use Rattle.std.proofs.Math.Seq.{take-append_seam}
use Rattle.task_code.specs.declared.program.Instr.{Instr}
use Rattle.task_code.specs.declared.program.Instr.TheVariants.{Badd}
use Rattle.task_code.specs.Piece.{listed}
use Rattle.task_code.specs.Emission.{words_put, emission}
use Rattle.task_code.specs.Grows.{Extends, Keeps}

-- what is appended changes nothing in front of it
pub keeps_more : (before after more : List Instr) → after ≡ before ++ more → Keeps before after
keeps_more before after more h start e = record { rest = e.rest ++ more; whole = h ∙ ap (λ c. c ++ more) e.whole ∙ append_assoc start e.rest more }

-- what stood before comes back once the rest is taken away
pub taken_back : (before after : List Instr) → Keeps before after → take (length before) after ≡ before
taken_back before after keeps =
    let e = keeps before (record { rest = []; whole = sym (append-nil before) }) in
    ap (take (length before)) e.whole ∙ take-append_seam before e.rest

length-words_put : (a b j n : ℕ) → length (listed (words_put a b j n)) ≡ 3 * n
length-words_put a b j zero = refl
length-words_put a b j (suc n) = omega (arith, length-words_put a b (suc j) n)

-- three instructions a word, and one
pub length-emission : (scratch buffer width : ℕ) → length (listed (emission scratch buffer width)) ≡ 3 * width + 1
length-emission scratch buffer width =
    length-append (listed (words_put scratch buffer 0 width)) (Badd buffer ∷ []) ∙ ap (λ n. n + 1) (length-words_put scratch buffer 0 width)
