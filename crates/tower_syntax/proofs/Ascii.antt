-- A printable file is printed in ASCII.
use Rattle.std.proofs.Common.{◌≡◌, ◌<◌, ◌≤◌, ℕ, ℤ, pos, negsuc, suc, Bool, true, false, not, ◌&&◌, ◌||◌, ◌==◌, if◌then◌else◌, List, [], ◌∷◌, ◌++◌, map, All, codes, decimal, Option, Some, None, refl, arith, nat_lt}
use Rattle.std.specs.Fmt.{signed_decimal}
use Rattle.std.specs.Str.{IsAscii}
use Rattle.std.proofs.lemmas.Str.{IsAscii-append}
use Rattle.std.proofs.lemmas.Str.Ascii.{IsAscii-nil, IsAscii-cons}
use Rattle.std.proofs.lemmas.Fmt.{IsAscii-decimal_wide}
use Rattle.std.proofs.lemmas.Bool.Decides.{nat_tests}
use Rattle.std.proofs.lemmas.Int.{ints}
use Rattle.tower_types.specs.declared.scalar.Scalar.{Scalar}
use Rattle.tower_types.specs.declared.scalar.Scalar.TheVariants as scalar
use Rattle.tower_types.specs.declared.scalar.BinOp.{BinOp}
use Rattle.tower_types.specs.declared.scalar.BinOp.TheVariants as op
use Rattle.tower_types.specs.declared.scalar.UnOp.{UnOp}
use Rattle.tower_types.specs.declared.scalar.UnOp.TheVariants as un
use Rattle.tower_syntax.specs.RawTree.{Id, RawType, word, rec, array, RawPlace, root, get, index, RawExpr, truth, read, lit, un, bin, choose, cast, RawStmt, bind, local, set, copy, branch, loop, emit, RawStmts, no_stmts, stmt, RawField, RawHpart, emitter, callback, RawPart, state, handler, RawItem, fields, init, period, signal, channel, output, monitor, Raw}
use Rattle.tower_syntax.specs.Spelling.{is_lower, is_digit, is_underscore, goes_on, begins_with_letter}
use Rattle.tower_syntax.specs.Words.{IsName, IsLiteral, scalar_word, binary_word, unary_word, truth_word}
use Rattle.tower_syntax.specs.Form.{Form, Forms, atom, list, no_forms, form, forms, text, line, each_spaced}
use Rattle.tower_syntax.specs.Printed.{scalar_form, size_forms, type_form, place_form, expr_form, stmt_form, stmt_forms, field_form, hpart_form, part_form, depth_forms, item_form, raw_form}
use Rattle.tower_syntax.specs.Printable.{IsPrintableScalar, IsPrintableType, IsPrintableLiteral, IsPrintablePlace, IsPrintableExpr, IsPrintableStmt, ArePrintableStmts, IsPrintableField, IsPrintableHpart, IsPrintablePart, IsPrintableDepth, IsPrintableItem, IsPrintable}

-- the same by recursion, which a word in the text of the program computes to true
abbrev low : List ℕ → Bool
low [] = true
low (b ∷ bs) = nat_lt b 128 && low bs

IsAscii-low : (bs : List ℕ) → low bs ≡ true → IsAscii bs
IsAscii-low [] h = IsAscii-nil
IsAscii-low (b ∷ bs) h = IsAscii-cons b bs (grind (arith, nat_tests)) (IsAscii-low bs (grind (arith, nat_tests)))

name_byte : (behind : Bool) (b : ℕ) → (is_lower b || is_digit b || (is_underscore b && not behind)) ≡ true → b < 128
name_byte behind b h = grind (arith, nat_tests)

IsAscii-goes_on : (behind : Bool) (bs : List ℕ) → goes_on behind bs ≡ true → IsAscii bs
IsAscii-goes_on behind [] h = IsAscii-nil
IsAscii-goes_on behind (b ∷ bs) h = IsAscii-cons b bs (name_byte behind b (grind (arith, nat_tests))) (IsAscii-goes_on (is_underscore b) bs (grind (arith, nat_tests)))

IsAscii-begins_with_letter : (bs : List ℕ) → begins_with_letter bs ≡ true → IsAscii bs
IsAscii-begins_with_letter [] h = IsAscii-nil
IsAscii-begins_with_letter (b ∷ bs) h = IsAscii-cons b bs (grind (arith, nat_tests)) (IsAscii-goes_on false bs (grind (arith, nat_tests)))

IsAscii-name : (w : List ℕ) → IsName w → IsAscii w
IsAscii-name w h = IsAscii-begins_with_letter w (grind (arith, nat_tests, h.0))

IsAscii-number : (n : ℕ) → n ≤ 1000000 → IsAscii (decimal n)
IsAscii-number n h = IsAscii-decimal_wide n (omega arith)

IsAscii-literal : (n : ℤ) → IsLiteral n → IsAscii (signed_decimal n)
IsAscii-literal (pos n) h = IsAscii-decimal_wide n (omega (arith, ints, h.1))
IsAscii-literal (negsuc n) h = IsAscii-cons 45 (decimal (suc n)) (omega arith) (IsAscii-decimal_wide (suc n) (omega (arith, ints, h.0)))

-- each atom of a form is ASCII
abbrev mutual
  IsLow : Form → Type 0
  IsLow (atom w) = IsAscii w
  IsLow (list fs) = AreLow fs

  AreLow : Forms → Type 0
  AreLow no_forms = Unit {0}
  AreLow (form f fs) = IsLow f × AreLow fs

mutual
  IsAscii-text : (f : Form) → IsLow f → IsAscii (text f)
  IsAscii-text (atom w) h = h
  IsAscii-text (list fs) h = IsAscii-append (codes "(" ++ line fs) (codes ")") (IsAscii-append (codes "(") (line fs) (IsAscii-low (codes "(") refl) (IsAscii-line fs h)) (IsAscii-low (codes ")") refl)

  IsAscii-line : (fs : Forms) → AreLow fs → IsAscii (line fs)
  IsAscii-line no_forms h = IsAscii-nil
  IsAscii-line (form f fs) h = IsAscii-append (text f) (each_spaced fs) (IsAscii-text f h.0) (IsAscii-each_spaced fs h.1)

  IsAscii-each_spaced : (fs : Forms) → AreLow fs → IsAscii (each_spaced fs)
  IsAscii-each_spaced no_forms h = IsAscii-nil
  IsAscii-each_spaced (form f fs) h = IsAscii-append (codes " " ++ text f) (each_spaced fs) (IsAscii-cons 32 (text f) (omega arith) (IsAscii-text f h.0)) (IsAscii-each_spaced fs h.1)

-- the words of the table
scalar_low : (s : Scalar) → IsAscii (scalar_word s)
scalar_low scalar.Bool = IsAscii-low (codes "bool") refl
scalar_low scalar.U8 = IsAscii-low (codes "u8") refl
scalar_low scalar.U16 = IsAscii-low (codes "u16") refl
scalar_low scalar.U32 = IsAscii-low (codes "u32") refl
scalar_low scalar.U64 = IsAscii-low (codes "u64") refl
scalar_low scalar.I8 = IsAscii-low (codes "i8") refl
scalar_low scalar.I16 = IsAscii-low (codes "i16") refl
scalar_low scalar.I32 = IsAscii-low (codes "i32") refl
scalar_low scalar.I64 = IsAscii-low (codes "i64") refl
scalar_low (scalar.Ix n) = IsAscii-low (codes "ix") refl

binary_low : (o : BinOp) → IsAscii (binary_word o)
binary_low op.Add = IsAscii-low (codes "+") refl
binary_low op.Sub = IsAscii-low (codes "-") refl
binary_low op.Mul = IsAscii-low (codes "*") refl
binary_low op.Div = IsAscii-low (codes "/") refl
binary_low op.Rem = IsAscii-low (codes "%") refl
binary_low op.And = IsAscii-low (codes "&") refl
binary_low op.Or = IsAscii-low (codes "|") refl
binary_low op.Xor = IsAscii-low (codes "^") refl
binary_low op.Eq = IsAscii-low (codes "=") refl
binary_low op.Less = IsAscii-low (codes "<") refl
binary_low op.LessEq = IsAscii-low (codes "<=") refl
binary_low op.Both = IsAscii-low (codes "and") refl
binary_low op.Either = IsAscii-low (codes "or") refl

unary_low : (o : UnOp) → IsAscii (unary_word o)
unary_low un.Not = IsAscii-low (codes "not") refl
unary_low un.Neg = IsAscii-low (codes "neg") refl

truth_low : (b : Bool) → IsAscii (truth_word b)
truth_low true = IsAscii-low (codes "true") refl
truth_low false = IsAscii-low (codes "false") refl

head_low : (two : Bool) → IsAscii (if two then codes "tower2" else codes "tower")
head_low true = IsAscii-low (codes "tower2") refl
head_low false = IsAscii-low (codes "tower") refl

-- lists of forms, one behind another and one for each element of a list
AreLow-append : (fs gs : List Form) → AreLow (forms fs) → AreLow (forms gs) → AreLow (forms (fs ++ gs))
AreLow-append [] gs h k = k
AreLow-append (f ∷ fs) gs h k = (h.0, AreLow-append fs gs h.1 k)

AreLow-map : {X : Type 0} (P : X → Type 0) (f : X → Form) → ((x : X) → P x → IsLow (f x)) → (xs : List X) → All P xs → AreLow (forms (map f xs))
AreLow-map P f each [] h = tt
AreLow-map P f each (x ∷ xs) h = (each x (h 0 x (omega arith)), AreLow-map P f each xs (λ k d within. h (suc k) d (omega arith)))

-- the trees
scalar_form-low : (s : Scalar) → IsPrintableScalar s → IsLow (scalar_form s)
scalar_form-low scalar.Bool h = scalar_low scalar.Bool
scalar_form-low scalar.U8 h = scalar_low scalar.U8
scalar_form-low scalar.U16 h = scalar_low scalar.U16
scalar_form-low scalar.U32 h = scalar_low scalar.U32
scalar_form-low scalar.U64 h = scalar_low scalar.U64
scalar_form-low scalar.I8 h = scalar_low scalar.I8
scalar_form-low scalar.I16 h = scalar_low scalar.I16
scalar_form-low scalar.I32 h = scalar_low scalar.I32
scalar_form-low scalar.I64 h = scalar_low scalar.I64
scalar_form-low (scalar.Ix n) h = (scalar_low (scalar.Ix n), (IsAscii-number n (omega (arith, h.1)), tt))

size_forms-low : (s : Scalar) → IsPrintableScalar s → AreLow (forms (size_forms s))
size_forms-low (scalar.Ix n) h = (IsAscii-number n (omega (arith, h.1)), tt)
size_forms-low _ h = tt

type_form-low : (t : RawType Id) → IsPrintableType t → IsLow (type_form t)
type_form-low (word at s) h = scalar_form-low s h
type_form-low (rec i) h = IsAscii-name i.name h
type_form-low (array at n t) h = (IsAscii-low (codes "array") refl, (IsAscii-number n (omega (arith, h.0.1)), (type_form-low t h.1, tt)))

literal-low : (s : Scalar) (n : ℤ) → IsPrintableLiteral s n → IsPrintableScalar s × IsLiteral n
literal-low scalar.Bool n h = absurd h
literal-low scalar.U8 n h = h
literal-low scalar.U16 n h = h
literal-low scalar.U32 n h = h
literal-low scalar.U64 n h = h
literal-low scalar.I8 n h = h
literal-low scalar.I16 n h = h
literal-low scalar.I32 n h = h
literal-low scalar.I64 n h = h
literal-low (scalar.Ix k) n h = h

mutual
  place_form-low : (p : RawPlace Id) → IsPrintablePlace p → IsLow (place_form p)
  place_form-low (root i) h = IsAscii-name i.name h
  place_form-low (get at p f) h = (IsAscii-low (codes "get") refl, (place_form-low p h.0, (IsAscii-name f.name h.1, tt)))
  place_form-low (index at p e) h = (IsAscii-low (codes "at") refl, (place_form-low p h.0, (expr_form-low e h.1, tt)))

  expr_form-low : (e : RawExpr Id) → IsPrintableExpr e → IsLow (expr_form e)
  expr_form-low (truth at b) h = truth_low b
  expr_form-low (read p) h = place_form-low p h
  expr_form-low (lit at s n) h =
      let k = literal-low s n h in
      (scalar_low s, AreLow-append (size_forms s) (atom (signed_decimal n) ∷ []) (size_forms-low s k.0) (IsAscii-literal n k.1, tt))
  expr_form-low (un at o a) h = (unary_low o, (expr_form-low a h, tt))
  expr_form-low (bin at o a b) h = (binary_low o, (expr_form-low a h.0, (expr_form-low b h.1, tt)))
  expr_form-low (choose at c a b) h = (IsAscii-low (codes "cond") refl, (expr_form-low c h.0, (expr_form-low a h.1, (expr_form-low b h.2, tt))))
  expr_form-low (cast at t a) h = (IsAscii-low (codes "cast") refl, (type_form-low t h.0, (expr_form-low a h.1, tt)))

mutual
  stmt_form-low : (s : RawStmt Id) → IsPrintableStmt s → IsLow (stmt_form s)
  stmt_form-low (bind at i e) h = (IsAscii-low (codes "let") refl, (IsAscii-name i.name h.0, (expr_form-low e h.1, tt)))
  stmt_form-low (local at i t) h = (IsAscii-low (codes "local") refl, (IsAscii-name i.name h.0, (type_form-low t h.1, tt)))
  stmt_form-low (set at p e) h = (IsAscii-low (codes "set") refl, (place_form-low p h.0, (expr_form-low e h.1, tt)))
  stmt_form-low (copy at p q) h = (IsAscii-low (codes "copy") refl, (place_form-low p h.0, (place_form-low q h.1, tt)))
  stmt_form-low (branch at e then_at ss else_at ts) h = (IsAscii-low (codes "if") refl, (expr_form-low e h.0, ((IsAscii-low (codes "then") refl, stmt_forms-low ss h.1), ((IsAscii-low (codes "else") refl, stmt_forms-low ts h.2), tt))))
  stmt_form-low (loop at i n body) h = (IsAscii-low (codes "for") refl, (IsAscii-name i.name h.0, (IsAscii-number n (omega (arith, h.1.1)), stmt_forms-low body h.2)))
  stmt_form-low (emit at i e) h = (IsAscii-low (codes "emit") refl, (IsAscii-name i.name h.0, (expr_form-low e h.1, tt)))

  stmt_forms-low : (ss : RawStmts Id) → ArePrintableStmts ss → AreLow (forms (stmt_forms ss))
  stmt_forms-low no_stmts h = tt
  stmt_forms-low (stmt s ss) h = (stmt_form-low s h.0, stmt_forms-low ss h.1)

field_form-low : (f : RawField Id) → IsPrintableField f → IsLow (field_form f)
field_form-low f h = (IsAscii-low (codes "field") refl, (IsAscii-name f.name.name h.0, (type_form-low f.ty h.1, tt)))

hpart_form-low : (p : RawHpart Id) → IsPrintableHpart p → IsLow (hpart_form p)
hpart_form-low (emitter at i c n) h = (IsAscii-low (codes "emitter") refl, (IsAscii-name i.name h.0, (IsAscii-name c.name h.1, (IsAscii-number n (omega (arith, h.2.1)), tt))))
hpart_form-low (callback at i ss) h = (IsAscii-low (codes "callback") refl, (IsAscii-name i.name h.0, stmt_forms-low ss h.1))

part_form-low : (p : RawPart Id) → IsPrintablePart p → IsLow (part_form p)
part_form-low (state at i t) h = (IsAscii-low (codes "state") refl, (IsAscii-name i.name h.0, (type_form-low t h.1, tt)))
part_form-low (handler at i on hs) h = (IsAscii-low (codes "handler") refl, (IsAscii-name i.name h.0, (IsAscii-name on.name h.1, AreLow-map IsPrintableHpart hpart_form hpart_form-low hs h.2)))

depth_forms-low : (version : ℕ) (d : Option ℕ) → IsPrintableDepth version d → AreLow (forms (depth_forms d))
depth_forms-low version None h = tt
depth_forms-low version (Some n) h = (IsAscii-number n (omega (arith, h.1.1)), tt)

item_form-low : (version : ℕ) (i : RawItem Id) → IsPrintableItem version i → IsLow (item_form i)
item_form-low version (fields at i fs) h = (IsAscii-low (codes "record") refl, (IsAscii-name i.name h.0, AreLow-map IsPrintableField field_form field_form-low fs h.2))
item_form-low version (init at i p) h = (IsAscii-low (codes "init") refl, (IsAscii-name i.name h.0, (IsAscii-number p (omega (arith, h.1.1)), tt)))
item_form-low version (period at i ms p d) h = (IsAscii-low (codes "period") refl, (IsAscii-name i.name h.0, (IsAscii-number ms (omega (arith, h.1.1)), (IsAscii-number p (omega (arith, h.2.1)), depth_forms-low version d h.3))))
item_form-low version (signal at i t p d) h = (IsAscii-low (codes "signal") refl, (IsAscii-name i.name h.0, (type_form-low t h.1, (IsAscii-number p (omega (arith, h.2.1)), depth_forms-low version d h.3))))
item_form-low version (channel at i t) h = (IsAscii-low (codes "channel") refl, (IsAscii-name i.name h.0, (type_form-low t h.1, tt)))
item_form-low version (output at i c) h = (IsAscii-low (codes "output") refl, (IsAscii-name i.name h.0, (IsAscii-name c.name h.1, tt)))
item_form-low version (monitor at i ps) h = (IsAscii-low (codes "monitor") refl, (IsAscii-name i.name h.0, AreLow-map IsPrintablePart part_form part_form-low ps h.1))

pub IsAscii-printed : (r : Raw Id) → IsPrintable r → IsAscii (text (raw_form r))
IsAscii-printed r h =
    IsAscii-text (raw_form r)
    (head_low (r.version == 2), (IsAscii-name r.name.name h.name, AreLow-map (IsPrintableItem r.version) item_form (item_form-low r.version) r.items h.items))
