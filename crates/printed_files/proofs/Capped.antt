-- A printed line is no longer than its number of atoms allows.
use Rattle.std.proofs.Common.{◌≡◌, ℕ, suc, ◌+◌, ◌<◌, ◌≤◌, ◌^◌, ℤ, pos, negsuc, List, [], ◌∷◌, ◌++◌, map, length, All, Option, Some, None, Bool, true, false, codes, decimal, refl, sym, ap, subst, ◌∙◌, arith}
use Rattle.std.proofs.lemmas.Int.{ints}
use Rattle.std.proofs.lemmas.List.{length-append}
use Rattle.std.proofs.lemmas.Fmt.{length-decimal-le}
use Rattle.std.specs.Fmt.{signed_decimal}
use Rattle.std.proofs.lemmas.List.Elements.{All-head, All-tail}
use Rattle.tower_types.specs.declared.scalar.Scalar.{Scalar}
use Rattle.tower_types.specs.declared.scalar.Scalar.TheVariants as scalar
use Rattle.tower_types.specs.declared.scalar.BinOp.{BinOp}
use Rattle.tower_types.specs.declared.scalar.BinOp.TheVariants as op
use Rattle.tower_types.specs.declared.scalar.UnOp.{UnOp}
use Rattle.tower_types.specs.declared.scalar.UnOp.TheVariants as unary
use Rattle.tower_syntax.specs.RawTree.{Id, RawType, word, rec, array, RawPlace, root, get, index, RawExpr, truth, read, lit, un, bin, choose, cast, RawStmt, bind, local, set, copy, branch, loop, emit, RawStmts, no_stmts, stmt, RawField, RawHpart, emitter, callback, RawPart, state, handler, RawItem, fields, init, period, signal, channel, output, monitor}
use Rattle.tower_syntax.specs.Form.{Form, atom, list, Forms, no_forms, form, forms, text, line, each_spaced}
use Rattle.tower_syntax.specs.Words.{IsLiteral, scalar_word, binary_word, unary_word, truth_word, tower_word}
use Rattle.tower_syntax.specs.Printed.{size_forms, scalar_form, type_form, place_form, expr_form, stmt_form, stmt_forms, field_form, hpart_form, part_form, depth_forms, item_form, raw_form}
use Rattle.tower_syntax.specs.Printable.{IsPrintableScalar, IsPrintableType, IsPrintableLiteral, IsPrintablePlace, IsPrintableExpr, IsPrintableStmt, ArePrintableStmts, IsPrintableField, IsPrintableHpart, IsPrintablePart, IsPrintableDepth, IsPrintableItem}
use Rattle.printed_files.specs.Capped.{cap, cap_line, cap_spaced, LinesAreCapped}

-- each atom has at most 64 bytes
abbrev mutual
  IsShort : Form → Type 0
  IsShort (atom w) = length w ≤ 64
  IsShort (list fs) = AreShort fs

  AreShort : Forms → Type 0
  AreShort no_forms = Unit {0}
  AreShort (form f fs) = IsShort f × AreShort fs

mutual
  text_capped : (f : Form) → IsShort f → length (text f) ≤ cap f
  text_capped (atom w) h = h
  text_capped (list fs) h =
      let l = line_capped fs h in
      omega (arith, l, length-append (codes "(" ++ line fs) (codes ")"), length-append (codes "(") (line fs))

  line_capped : (fs : Forms) → AreShort fs → length (line fs) ≤ cap_line fs
  line_capped no_forms h = omega arith
  line_capped (form f fs) h =
      let a = text_capped f h.0 in let b = spaced_capped fs h.1 in omega (arith, a, b, length-append (text f) (each_spaced fs))

  spaced_capped : (fs : Forms) → AreShort fs → length (each_spaced fs) ≤ cap_spaced fs
  spaced_capped no_forms h = omega arith
  spaced_capped (form f fs) h =
      let a = text_capped f h.0 in let b = spaced_capped fs h.1 in
      omega (arith, a, b, length-append (codes " " ++ text f) (each_spaced fs), length-append (codes " ") (text f))

number : (n : ℕ) → n < 2 ^ 64 → length (decimal n) ≤ 64
number n l = let h = length-decimal-le 20 n (omega arith) (omega (arith, l)) l in omega (arith, h)

literal : (z : ℤ) → IsLiteral z → length (signed_decimal z) ≤ 64
literal (pos n) h = let b = h.1 in number n (omega (arith, ints, b))
literal (negsuc n) h = let a = h.0 in let l = length-decimal-le 20 (suc n) (omega arith) (omega (arith, ints, a)) (omega (arith, ints, a)) in omega (arith, l)

scalar_short : (s : Scalar) → length (scalar_word s) ≤ 64
scalar_short scalar.Bool = omega arith
scalar_short scalar.U8 = omega arith
scalar_short scalar.U16 = omega arith
scalar_short scalar.U32 = omega arith
scalar_short scalar.U64 = omega arith
scalar_short scalar.I8 = omega arith
scalar_short scalar.I16 = omega arith
scalar_short scalar.I32 = omega arith
scalar_short scalar.I64 = omega arith
scalar_short (scalar.Ix n) = omega arith

binary_short : (o : BinOp) → length (binary_word o) ≤ 64
binary_short op.Add = omega arith
binary_short op.Sub = omega arith
binary_short op.Mul = omega arith
binary_short op.Div = omega arith
binary_short op.Rem = omega arith
binary_short op.And = omega arith
binary_short op.Or = omega arith
binary_short op.Xor = omega arith
binary_short op.Eq = omega arith
binary_short op.Less = omega arith
binary_short op.LessEq = omega arith
binary_short op.Both = omega arith
binary_short op.Either = omega arith

unary_short : (o : UnOp) → length (unary_word o) ≤ 64
unary_short unary.Not = omega arith
unary_short unary.Neg = omega arith

truth_short : (b : Bool) → length (truth_word b) ≤ 64
truth_short true = omega arith
truth_short false = omega arith

short_append : (fs gs : List Form) → AreShort (forms fs) → AreShort (forms gs) → AreShort (forms (fs ++ gs))
short_append [] gs h k = k
short_append (f ∷ fs) gs h k = (h.0, short_append fs gs h.1 k)

scalar_shorts : (s : Scalar) → IsPrintableScalar s → IsShort (scalar_form s)
scalar_shorts (scalar.Ix n) h = let b = h.1 in (omega arith, (number n (omega (arith, b)), tt))
scalar_shorts scalar.Bool h = scalar_short scalar.Bool
scalar_shorts scalar.U8 h = scalar_short scalar.U8
scalar_shorts scalar.U16 h = scalar_short scalar.U16
scalar_shorts scalar.U32 h = scalar_short scalar.U32
scalar_shorts scalar.U64 h = scalar_short scalar.U64
scalar_shorts scalar.I8 h = scalar_short scalar.I8
scalar_shorts scalar.I16 h = scalar_short scalar.I16
scalar_shorts scalar.I32 h = scalar_short scalar.I32
scalar_shorts scalar.I64 h = scalar_short scalar.I64

literal_shorts : (s : Scalar) (z : ℤ) → IsPrintableLiteral s z → AreShort (forms (size_forms s ++ atom (signed_decimal z) ∷ []))
literal_shorts (scalar.Ix n) z h = let b = h.0.1 in (number n (omega (arith, b)), (literal z h.1, tt))
literal_shorts scalar.Bool z h = absurd h
literal_shorts scalar.U8 z h = (literal z h.1, tt)
literal_shorts scalar.U16 z h = (literal z h.1, tt)
literal_shorts scalar.U32 z h = (literal z h.1, tt)
literal_shorts scalar.U64 z h = (literal z h.1, tt)
literal_shorts scalar.I8 z h = (literal z h.1, tt)
literal_shorts scalar.I16 z h = (literal z h.1, tt)
literal_shorts scalar.I32 z h = (literal z h.1, tt)
literal_shorts scalar.I64 z h = (literal z h.1, tt)

types : (t : RawType Id) → IsPrintableType t → IsShort (type_form t)
types (word at s) h = scalar_shorts s h
types (rec u) h = h.1
types (array at n t) h = let b = h.0.1 in (omega arith, (number n (omega (arith, b)), (types t h.1, tt)))

mutual
  places : (p : RawPlace Id) → IsPrintablePlace p → IsShort (place_form p)
  places (root u) h = h.1
  places (get at p f) h = (omega arith, (places p h.0, (h.1.1, tt)))
  places (index at p e) h = (omega arith, (places p h.0, (exprs e h.1, tt)))

  exprs : (e : RawExpr Id) → IsPrintableExpr e → IsShort (expr_form e)
  exprs (truth at b) h = truth_short b
  exprs (read p) h = places p h
  exprs (lit at s z) h = (scalar_short s, literal_shorts s z h)
  exprs (un at o a) h = (unary_short o, (exprs a h, tt))
  exprs (bin at o a b) h = (binary_short o, (exprs a h.0, (exprs b h.1, tt)))
  exprs (choose at c a b) h = (omega arith, (exprs c h.0, (exprs a h.1, (exprs b h.2, tt))))
  exprs (cast at t a) h = (omega arith, (types t h.0, (exprs a h.1, tt)))

mutual
  stmt_shorts : (s : RawStmt Id) → IsPrintableStmt s → IsShort (stmt_form s)
  stmt_shorts (bind at i e) h = (omega arith, (h.0.1, (exprs e h.1, tt)))
  stmt_shorts (local at i t) h = (omega arith, (h.0.1, (types t h.1, tt)))
  stmt_shorts (set at p e) h = (omega arith, (places p h.0, (exprs e h.1, tt)))
  stmt_shorts (copy at p q) h = (omega arith, (places p h.0, (places q h.1, tt)))
  stmt_shorts (branch at e then_at ss else_at ts) h = (omega arith, (exprs e h.0, ((omega arith, all_shorts ss h.1), ((omega arith, all_shorts ts h.2), tt))))
  stmt_shorts (loop at i n body) h = let b = h.1.1 in (omega arith, (h.0.1, (number n (omega (arith, b)), all_shorts body h.2)))
  stmt_shorts (emit at u e) h = (omega arith, (h.0.1, (exprs e h.1, tt)))

  all_shorts : (ss : RawStmts Id) → ArePrintableStmts ss → AreShort (forms (stmt_forms ss))
  all_shorts no_stmts h = tt
  all_shorts (stmt s ss) h = (stmt_shorts s h.0, all_shorts ss h.1)

each_short : {X : Type 0} (P : X → Type 0) (f : X → Form) → ((x : X) → P x → IsShort (f x)) → (xs : List X) → All P xs → AreShort (forms (map f xs))
each_short P f h [] k = tt
each_short P f h (x ∷ xs) k = (h x (All-head P x xs k), each_short P f h xs (All-tail P x xs k))

field_shorts : (f : RawField Id) → IsPrintableField f → IsShort (field_form f)
field_shorts f h = (omega arith, (h.0.1, (types f.ty h.1, tt)))

hparts : (p : RawHpart Id) → IsPrintableHpart p → IsShort (hpart_form p)
hparts (emitter at i c n) h = let b = h.2.1 in (omega arith, (h.0.1, (h.1.1, (number n (omega (arith, b)), tt))))
hparts (callback at i ss) h = (omega arith, (h.0.1, all_shorts ss h.1))

parts : (p : RawPart Id) → IsPrintablePart p → IsShort (part_form p)
parts (state at i t) h = (omega arith, (h.0.1, (types t h.1, tt)))
parts (handler at i on hs) h = (omega arith, (h.0.1, (h.1.1, each_short IsPrintableHpart hpart_form hparts hs h.2)))

depths : (version : ℕ) (d : Option ℕ) → IsPrintableDepth version d → AreShort (forms (depth_forms d))
depths version None h = tt
depths version (Some n) h = let b = h.1.1 in (number n (omega (arith, b)), tt)

items : (version : ℕ) (x : RawItem Id) → IsPrintableItem version x → IsShort (item_form x)
items version (fields at i fs) h = (omega arith, (h.0.1, each_short IsPrintableField field_form field_shorts fs h.2))
items version (init at i p) h = let b = h.1.1 in (omega arith, (h.0.1, (number p (omega (arith, b)), tt)))
items version (period at i ms p d) h = let a = h.1.1 in let b = h.2.1 in (omega arith, (h.0.1, (number ms (omega (arith, a)), (number p (omega (arith, b)), depths version d h.3))))
items version (signal at i t p d) h = let b = h.2.1 in (omega arith, (h.0.1, (types t h.1, (number p (omega (arith, b)), depths version d h.3))))
items version (channel at i t) h = (omega arith, (h.0.1, (types t h.1, tt)))
items version (output at i c) h = (omega arith, (h.0.1, (h.1.1, tt)))
items version (monitor at i ps) h = (omega arith, (h.0.1, each_short IsPrintablePart part_form parts ps h.1))

tower_short : (version : ℕ) (b : Bool) → (Rattle.std.proofs.Common.nat_eq version 2) ≡ b → length (tower_word version) ≤ 64
tower_short version true e = rw e (omega arith)
tower_short version false e = rw e (omega arith)

pub lines_are_capped : LinesAreCapped
lines_are_capped r h = text_capped (raw_form r) (tower_short r.version _ refl, (h.name.1, each_short (IsPrintableItem r.version) item_form (items r.version) r.items h.items))
