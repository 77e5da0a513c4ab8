-- How many instructions a piece has, and where it ends.
use Rattle.std.proofs.Common.{◌≡◌, ℕ, ◌+◌, ◌++◌, length, refl, arith, length-append}
use Rattle.task_code.specs.Piece.{Piece, nil, ins, ◌▸◌, end, listed}

abbrev pub size : Piece → ℕ
size nil = 0
size (ins i) = 1
size (x ▸ y) = size x + size y

pub size_is : (q : Piece) → length (listed q) ≡ size q
size_is nil = refl
size_is (ins i) = refl
size_is (x ▸ y) = omega (arith, length-append (listed x) (listed y), size_is x, size_is y)

pub end_is : (q : Piece) (a : ℕ) → end a q ≡ a + length (listed q)
end_is nil a = omega arith
end_is (ins i) a = omega arith
end_is (x ▸ y) a =
    let one : end a x ≡ a + length (listed x) = end_is x a in
    let two : end (end a x) y ≡ end a x + length (listed y) = end_is y (end a x) in
    let all : length (listed x ++ listed y) ≡ length (listed x) + length (listed y) = length-append (listed x) (listed y) in
    omega (arith, one, two, all)
