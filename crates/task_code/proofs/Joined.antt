-- Pieces that are put together, and jumps whose targets are written later.
use Rattle.std.proofs.Common.{◌≡◌, ◌∙◌, ℕ, zero, suc, ◌+◌, List, [], ◌∷◌, ◌++◌, length, slice_set, arith, refl, ap, sym, append_assoc}
use Rattle.std.proofs.lemmas.List.{length-append}
use Rattle.std.proofs.Math.Seq.{set-append_seam}
use Rattle.task_code.specs.declared.program.Instr.{Instr}
use Rattle.task_code.specs.declared.program.Instr.TheVariants.{Jmp, Jz}
use Rattle.task_code.specs.Piece.{Piece, nil, ins, ◌▸◌, end, listed}

-- a piece ends behind its last instruction
pub end-listed : (a : ℕ) (x : Piece) → end a x ≡ a + length (listed x)
end-listed a nil = omega arith
end-listed a (ins i) = omega arith
end-listed a (x ▸ y) =
    omega (arith, end-listed (end a x) y, end-listed a x, length-append (listed x) (listed y))

-- the place behind what was appended
pub place_behind : (old new : List Instr) (x : Piece) → new ≡ old ++ listed x → length new ≡ end (length old) x
place_behind old new x h = ap length h ∙ length-append old (listed x) ∙ sym (end-listed (length old) x)

-- one piece, and then another at the place behind it
pub then : (old mid new : List Instr) (x : Piece) (y : ℕ → Piece) → mid ≡ old ++ listed x → new ≡ mid ++ listed (y (length mid)) → new ≡ old ++ listed (x ▸ y (end (length old) x))
then old mid new x y h k =
    k ∙ ap (λ n. mid ++ listed (y n)) (place_behind old mid x h) ∙ ap (λ c. c ++ listed (y (end (length old) x))) h
    ∙ append_assoc old (listed x) (listed (y (end (length old) x)))

-- a test, and then one of two pieces
abbrev pub choice : (ℕ → Piece) → (ℕ → Piece) → (ℕ → Piece) → ℕ → Piece
choice t a b from =
    let test = t from in
    let first = a (suc (end from test)) in
    let other = suc (end (suc (end from test)) first) in
    let second = b other in
    test ▸ ins (Jz other) ▸ first ▸ ins (Jmp (end other second)) ▸ second

-- two instructions that are written anew
set_two : (c a b : List Instr) (i j x y : Instr) → slice_set (slice_set (c ++ i ∷ (a ++ j ∷ b)) (length c) x) (length (c ++ x ∷ a)) y ≡ c ++ x ∷ (a ++ y ∷ b)
set_two c a b i j x y =
    ap (λ d. slice_set d (length (c ++ x ∷ a)) y) (set-append_seam c i (a ++ j ∷ b) x ∙ sym (append_assoc c (x ∷ a) (j ∷ b)))
    ∙ set-append_seam (c ++ x ∷ a) j b y ∙ append_assoc c (x ∷ a) (y ∷ b)

-- both jumps hold their places until the targets are known
pub choice_made : (t a b : ℕ → Piece) (old c1 c2 c3 c4 c5 new : List Instr) (i j : Instr) (test jump : ℕ)
    → c1 ≡ old ++ listed (t (length old))
    → test ≡ length c1 → c2 ≡ c1 ++ i ∷ []
    → c3 ≡ c2 ++ listed (a (length c2))
    → jump ≡ length c3 → c4 ≡ c3 ++ j ∷ []
    → c5 ≡ c4 ++ listed (b (length c4))
    → new ≡ slice_set (slice_set c5 test (Jz (jump + 1))) jump (Jmp (length c5))
    → new ≡ old ++ listed (choice t a b (length old))
choice_made t a b old c1 c2 c3 c4 c5 new i j test jump h1 ht h2 h3 hj h4 h5 h6 =
    let from = length old in
    let lt = listed (t from) in
    let la = listed (a (length c2)) in
    let lb = listed (b (length c4)) in
    let x = Jz (jump + 1) in
    let y = Jmp (length c5) in
    let e1 : length c1 ≡ end from (t from) = place_behind old c1 (t from) h1 in
    let e2 : length c2 ≡ suc (end from (t from)) = ap length h2 ∙ length-append c1 (i ∷ []) ∙ omega (arith, e1) in
    let e3 : length c3 ≡ end (length c2) (a (length c2)) = place_behind c2 c3 (a (length c2)) h3 in
    let e4 : length c4 ≡ suc (length c3) = ap length h4 ∙ length-append c3 (j ∷ []) ∙ omega arith in
    let other : length c4 ≡ suc (end (suc (end from (t from))) (a (suc (end from (t from))))) = e4 ∙ ap suc e3 ∙ ap (λ n. suc (end n (a n))) e2 in
    let behind : length c5 ≡ end (length c4) (b (length c4)) = place_behind c4 c5 (b (length c4)) h5 in
    let third : c3 ≡ c1 ++ i ∷ la = h3 ∙ ap (λ c. c ++ la) h2 ∙ append_assoc c1 (i ∷ []) la in
    let fifth : c5 ≡ c1 ++ i ∷ (la ++ j ∷ lb) = h5 ∙ ap (λ c. c ++ lb) (h4 ∙ ap (λ c. c ++ j ∷ []) third) ∙ append_assoc (c1 ++ i ∷ la) (j ∷ []) lb ∙ append_assoc c1 (i ∷ la) (j ∷ lb) in
    let at : jump ≡ length (c1 ++ x ∷ la) = hj ∙ ap length third ∙ length-append c1 (i ∷ la) ∙ sym (length-append c1 (x ∷ la)) in
    let made : new ≡ c1 ++ x ∷ (la ++ y ∷ lb) =
    h6 ∙ ap (λ c. slice_set (slice_set c test x) jump y) fifth ∙ ap (λ n. slice_set (slice_set (c1 ++ i ∷ (la ++ j ∷ lb)) n x) jump y) ht
    ∙ ap (λ n. slice_set (slice_set (c1 ++ i ∷ (la ++ j ∷ lb)) (length c1) x) n y) at ∙ set_two c1 la lb i j x y in
    let from_old : new ≡ old ++ (lt ++ x ∷ (la ++ y ∷ lb)) = made ∙ ap (λ c. c ++ x ∷ (la ++ y ∷ lb)) h1 ∙ append_assoc old lt (x ∷ (la ++ y ∷ lb)) in
    let target : jump + 1 ≡ length c4 = omega (arith, hj, e4) in
    let whole : ℕ → ℕ → ℕ → ℕ → List Instr = λ n m k o. old ++ (lt ++ Jz m ∷ (listed (a n) ++ Jmp k ∷ listed (b o))) in
    from_old
    ∙ ap (λ n. whole n (jump + 1) (length c5) (length c4)) e2
    ∙ ap (λ m. whole (suc (end from (t from))) m (length c5) (length c4)) target
    ∙ ap (λ k. whole (suc (end from (t from))) (length c4) k (length c4)) behind
    ∙ ap (λ o. whole (suc (end from (t from))) o (end o (b o)) o) other
