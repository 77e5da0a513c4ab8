-- The code of a section, put together.
use Rattle.std.proofs.Common.{◌≡◌, ◌∙◌, ℕ, zero, suc, ◌+◌, ◌<◌, List, [], ◌∷◌, ◌++◌, length, map, drop, get_or, add-one, refl, ap, sym}
use Rattle.std.proofs.Math.Seq.{drop-cons, drop-length}
use Rattle.std.proofs.lemmas.List.{append-nil}
use Rattle.tower_syntax.specs.Arch.{Arch, Handler, Body}
use Rattle.tower_syntax.specs.View.{body_of, all_stmts_of}
use Rattle.tower_syntax.specs.declared.body.Body.{Body as BodyValue}
use Rattle.task_code.specs.declared.program.Instr.{Instr}
use Rattle.task_code.specs.declared.program.Instr.TheVariants.{Lock, Unlock}
use Rattle.task_code.specs.declared.frame.Frame.{Frame}
use Rattle.task_code.specs.Piece.{ins, ◌▸◌, end, listed}
use Rattle.task_code.proofs.Joined.{then}
use Rattle.stmt_code.specs.Layout.{layout_of}
use Rattle.stmt_code.specs.Body.{stmts_code}
use Rattle.stmt_code.specs.Section.{cleared, bodies_code, section_code}

-- a callback, and then the rest
pub bodies_next : (arch : Arch) (h : Handler) (f : Frame) (xs : List BodyValue) (i : ℕ) (y : BodyValue) (old new : List Instr) → i < length xs → y ≡ get_or xs i y
    → new ≡ old ++ listed (stmts_code (layout_of arch h f i (body_of y)) (length old) (all_stmts_of y.stmts))
    → new ++ listed (bodies_code arch h f (i + 1) (length new) (map body_of (drop (i + 1) xs))) ≡ old ++ listed (bodies_code arch h f i (length old) (map body_of (drop i xs)))
bodies_next arch h f xs i y old new within read made =
    let rest = map body_of (drop (suc i) xs) in
    let list : map body_of (drop i xs) ≡ body_of y ∷ rest = ap (map body_of) (drop-cons xs i y within) ∙ ap (λ z. body_of z ∷ rest) (sym read) in
    ap (λ j. new ++ listed (bodies_code arch h f j (length new) (map body_of (drop j xs)))) (add-one i)
    ∙ then old new (new ++ listed (bodies_code arch h f (suc i) (length new) rest)) (stmts_code (layout_of arch h f i (body_of y)) (length old) (all_stmts_of y.stmts)) (λ n. bodies_code arch h f (suc i) n rest) made refl
    ∙ ap (λ bs. old ++ listed (bodies_code arch h f i (length old) bs)) (sym list)

-- behind the last callback nothing is to come
pub bodies_end : (arch : Arch) (h : Handler) (f : Frame) (code whole : List Instr) (xs : List BodyValue) (i : ℕ) → i ≡ length xs → code ++ listed (bodies_code arch h f i (length code) (map body_of (drop i xs))) ≡ whole → code ≡ whole
bodies_end arch h f code whole xs i end h' =
    sym (append-nil code) ∙ ap (λ ys. code ++ listed (bodies_code arch h f i (length code) (map body_of ys))) (sym (ap (λ j. drop j xs) end ∙ drop-length xs)) ∙ h'

pub section_made : (arch : Arch) (h : Handler) (f : Frame) (old c1 c2 c3 new : List Instr) (n : ℕ)
    → n ≡ length h.emitters
    → c1 ≡ old ++ Lock h.monitor ∷ []
    → c2 ≡ c1 ++ listed (cleared f.first_buffer n)
    → c3 ≡ c2 ++ listed (bodies_code arch h f 0 (length c2) h.callbacks)
    → new ≡ c3 ++ Unlock h.monitor ∷ []
    → new ≡ old ++ listed (section_code arch h f (length old))
section_made arch h f old c1 c2 c3 new n many h1 h2 h3 h4 =
    let all = cleared f.first_buffer (length h.emitters) in
    let clear : c2 ≡ c1 ++ listed all = h2 ∙ ap (λ m. c1 ++ listed (cleared f.first_buffer m)) many in
    let first : c2 ≡ old ++ listed (ins (Lock h.monitor) ▸ all) = then old c1 c2 (ins (Lock h.monitor)) (λ m. all) h1 clear in
    then old c2 new (ins (Lock h.monitor) ▸ all) (λ m. bodies_code arch h f 0 m h.callbacks ▸ ins (Unlock h.monitor)) first
    (then c2 c3 new (bodies_code arch h f 0 (length c2) h.callbacks) (λ m. ins (Unlock h.monitor)) h3 h4)
