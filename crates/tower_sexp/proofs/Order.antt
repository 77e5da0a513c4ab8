-- The marks of a text stand in the order of their offsets.
use Rattle.std.proofs.Common.{ℕ, ◌+◌, ◌≤◌, List, [], ◌∷◌, ◌++◌, Bool, true, false, cond, eqb, arith}
use Rattle.tower_sexp.specs.declared.byte.Class.{Class}
use Rattle.tower_sexp.specs.declared.byte.Class.TheVariants as class
use Rattle.tower_sexp.specs.declared.token.Token.TheVariants as token
use Rattle.tower_sexp.specs.Marks.{Mark, good, stray, marks, marked, joined, alone, class_in, is_comment}

-- where a mark begins
abbrev pub place : Mark → ℕ
place (good (token.Left at)) = at
place (good (token.Right at)) = at
place (good (token.Atom at text)) = at
place (stray at) = at

-- each mark begins behind the place where the one before it begins, and none before `from`
abbrev pub Ascends : ℕ → List Mark → Type 0
Ascends from [] = Unit {0}
Ascends from (m ∷ ms) = (from ≤ place m) × Ascends (place m + 1) ms

pub ascends_from : (a b : ℕ) (ms : List Mark) → a ≤ b → Ascends b ms → Ascends a ms
ascends_from a b [] h t = tt
ascends_from a b (m ∷ ms) h t = (omega (arith, t.0), t.1)

same_place : (at : ℕ) → at ≤ at
same_place at = omega arith

joined_atom : (at b next : ℕ) (text : List ℕ) (ms : List Mark) (e : Bool) → at + 1 ≤ next → Ascends (next + 1) ms → Ascends at (cond e (good (token.Atom at (b ∷ text)) ∷ ms) (alone at b ∷ good (token.Atom next text) ∷ ms))
joined_atom at b next text ms true h t = (same_place at, ascends_from (at + 1) (next + 1) ms (omega arith) t)
joined_atom at b next text ms false h t = (same_place at, (h, t))

joined_ascends : (at b : ℕ) (ms : List Mark) → Ascends (at + 1) ms → Ascends at (joined at b ms)
joined_ascends at b [] t = (same_place at, tt)
joined_ascends at b (good (token.Left x) ∷ ms) t = (same_place at, t)
joined_ascends at b (good (token.Right x) ∷ ms) t = (same_place at, t)
joined_ascends at b (good (token.Atom next text) ∷ ms) t = joined_atom at b next text ms (eqb next (at + 1)) t.0 t.1
joined_ascends at b (stray x ∷ ms) t = (same_place at, t)

marked_ascends : (k : Class) (at b : ℕ) (ms : List Mark) → Ascends (at + 1) ms → Ascends at (marked k at b ms)
marked_ascends class.Left at b ms t = (same_place at, t)
marked_ascends class.Right at b ms t = (same_place at, t)
marked_ascends class.Stray at b ms t = (same_place at, t)
marked_ascends class.Atom at b ms t = joined_ascends at b ms t
marked_ascends class.Blank at b ms t = ascends_from at (at + 1) ms (omega arith) t
marked_ascends class.Comment at b ms t = ascends_from at (at + 1) ms (omega arith) t

pub marks_ascend : (comment : Bool) (at : ℕ) (bs : List ℕ) → Ascends at (marks comment at bs)
marks_ascend comment at [] = tt
marks_ascend comment at (b ∷ bs) = marked_ascends (class_in comment b) at b _ (marks_ascend (is_comment (class_in comment b)) (at + 1) bs)

-- what stands behind a mark stands behind its place
pub ascends_behind : (from : ℕ) (before : List Mark) (m : Mark) (behind : List Mark) → Ascends from (before ++ m ∷ behind) → (from ≤ place m) × Ascends (place m + 1) behind
ascends_behind from [] m behind t = t
ascends_behind from (x ∷ before) m behind t = let h = ascends_behind (place x + 1) before m behind t.1 in (omega (arith, t.0, h.0), h.1)
