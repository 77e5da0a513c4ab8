-- Printed atoms, types, places and expressions read back.
use Rattle.std.proofs.Common.{◌≡◌, ℕ, ℤ, List, [], ◌∷◌, Some, refl, ap, decimal}
use Rattle.std.specs.Prelude.{codes}
use Rattle.tower_types.specs.declared.scalar.Scalar.{Scalar}
use Rattle.tower_types.specs.declared.scalar.Scalar.TheVariants as scalar
use Rattle.tower_types.specs.declared.scalar.BinOp.{BinOp}
use Rattle.tower_types.specs.declared.scalar.BinOp.TheVariants as op
use Rattle.tower_types.specs.declared.scalar.UnOp.{UnOp}
use Rattle.tower_types.specs.declared.scalar.UnOp.TheVariants as un_op
use Rattle.tower_sexp.specs.Trees.{atom as leaf}
use Rattle.tower_syntax.specs.RawTree.{Id, RawType, word, rec, array, RawPlace, root, get, index, RawExpr, truth, read, lit, un, bin, choose, cast}
use Rattle.tower_syntax.specs.Words.{IsName, IsWithin, IsLiteral, scalar_word, binary_word, unary_word, truth_word}
use Rattle.tower_syntax.specs.Form.{atom}
use Rattle.tower_syntax.specs.Form.{row as row_form}
use Rattle.tower_syntax.specs.Printed.{name_form, number_form, signed_form, scalar_form, type_form, place_form, expr_form}
use Rattle.tower_syntax.specs.Printable.{IsPrintableScalar, IsPrintableType, IsPrintableLiteral, IsPrintablePlace, IsPrintableExpr}
use Rattle.tower_reader.specs.declared.table.Place.{Place}
use Rattle.tower_reader.specs.declared.table.Place.TheVariants as place
use Rattle.tower_reader.specs.declared.table.Atoms.TheVariants as atoms
use Rattle.tower_reader.specs.declared.table.Row.TheVariants as row
use Rattle.tower_reader.specs.declared.table.PartRow.TheVariants as part
use Rattle.tower_reader.specs.declared.table.ExprRow.TheVariants as expr
use Rattle.tower_reader.specs.Table.{atoms_at, row_of}
use Rattle.tower_reader.specs.Words.{scalar_named}
use Rattle.tower_reader.specs.Part.{Part, a_name, a_number, a_literal, a_type, a_place, an_expr, as_name, as_number, as_literal, as_type, as_place, as_expr}
use Rattle.tower_reader.specs.Spelled.{fitting, id_at, Reads, names, names_place, names_record, names_value, says_scalar, says_truth, counts, counts_literal}
use Rattle.tower_reader.specs.Alike.{bare_id, bare_type, bare_place, bare_expr}
use Rattle.tower_reader.proofs.RowsBack.{Backs, one, two, three}

-- What is asked of the part that a form is read as.

abbrev pub IsId : Id → Part → Type 0
IsId i q = bare_id (as_name q) ≡ bare_id i

abbrev pub IsType : RawType Id → Part → Type 0
IsType t q = bare_type (as_type q) ≡ bare_type t

abbrev pub IsPlace : RawPlace Id → Part → Type 0
IsPlace p q = (bare_place (as_place q) ≡ bare_place p) × (bare_expr (as_expr q) ≡ read (bare_place p))

abbrev pub IsExpr : RawExpr Id → Part → Type 0
IsExpr e q = bare_expr (as_expr q) ≡ bare_expr e

-- Atoms.

pub name_backs : (p : Place) → atoms_at p ≡ atoms.Name → (i : Id) → IsName i.name → Backs p (name_form i) (IsId i)
name_backs p e i h = λ n. record { part = a_name (id_at n i.name); reads = names p n i.name e h; alike = refl }

pub number_backs : (p : Place) (low high : ℕ) → atoms_at p ≡ atoms.Number low high → (m : ℕ) → IsWithin low high m → Backs p (number_form m) (λ q. q ≡ a_number m)
number_backs p low high e m h = λ n. record { part = a_number m; reads = counts p n (decimal m) low high m e h refl; alike = refl }

literal_backs : (z : ℤ) → IsLiteral z → Backs place.Literal (signed_form z) (λ q. q ≡ a_literal z)
literal_backs z h = λ n. record { part = a_literal z; reads = counts_literal place.Literal n _ z refl h refl; alike = refl }

-- Types.

word_backs : (at : ℕ) (s : Scalar) (w : List ℕ) → scalar_named w ≡ Some s → Backs place.Type (atom w) (IsType (word at s))
word_backs at s w e = λ n. record { part = a_type (word n s); reads = says_scalar place.Type n w s refl e; alike = refl }

scalar_backs : (at : ℕ) (s : Scalar) → IsPrintableScalar s → Backs place.Type (scalar_form s) (IsType (word at s))
scalar_backs at scalar.Bool h = word_backs at scalar.Bool _ refl
scalar_backs at scalar.U8 h = word_backs at scalar.U8 _ refl
scalar_backs at scalar.U16 h = word_backs at scalar.U16 _ refl
scalar_backs at scalar.U32 h = word_backs at scalar.U32 _ refl
scalar_backs at scalar.U64 h = word_backs at scalar.U64 _ refl
scalar_backs at scalar.I8 h = word_backs at scalar.I8 _ refl
scalar_backs at scalar.I16 h = word_backs at scalar.I16 _ refl
scalar_backs at scalar.I32 h = word_backs at scalar.I32 _ refl
scalar_backs at scalar.I64 h = word_backs at scalar.I64 _ refl
scalar_backs at (scalar.Ix m) h =
    one place.Type (row.Part part.Ix) (codes "ix") refl (number_backs place.Size 1 65536 refl m h)
    (λ n a e. ap (λ q. word 0 (scalar.Ix (as_number q))) e)

pub type_backs : (t : RawType Id) → IsPrintableType t → Backs place.Type (type_form t) (IsType t)
type_backs (word at s) h = scalar_backs at s h
type_backs (rec i) h = λ n. record { part = a_type (rec (id_at n i.name)); reads = names_record place.Type n i.name refl h; alike = refl }
type_backs (array at m t) h =
    two place.Type (row.Part part.Array) (codes "array") refl (number_backs place.Length 1 4096 refl m h.0) (type_backs t h.1)
    (λ n a b e k i. array 0 (as_number (e i)) (k i))

-- Places and expressions.

-- a place where places are read
pub record TakesPlaces (p : Place) : Type 0 where
  names : (n : ℕ) (w : List ℕ) → IsName w → Reads p (leaf n w) (a_place (root (id_at n w)))
  gets : fitting 2 (row_of p (codes "get")) ≡ Some (row.Expr expr.Get)
  ats : fitting 2 (row_of p (codes "at")) ≡ Some (row.Expr expr.At)

pub place_takes : TakesPlaces place.Place
place_takes = record { names = λ n w h. names_place place.Place n w refl h; gets = refl; ats = refl }

expr_takes : TakesPlaces place.Expr
expr_takes = record { names = λ n w h. names_value place.Expr n w refl h; gets = refl; ats = refl }

unary_row : (o : UnOp) → fitting 1 (row_of place.Expr (unary_word o)) ≡ Some (row.Expr (expr.Un o))
unary_row un_op.Not = refl
unary_row un_op.Neg = refl

binary_row : (o : BinOp) → fitting 2 (row_of place.Expr (binary_word o)) ≡ Some (row.Expr (expr.Bin o))
binary_row op.Add = refl
binary_row op.Sub = refl
binary_row op.Mul = refl
binary_row op.Div = refl
binary_row op.Rem = refl
binary_row op.And = refl
binary_row op.Or = refl
binary_row op.Xor = refl
binary_row op.Eq = refl
binary_row op.Less = refl
binary_row op.LessEq = refl
binary_row op.Both = refl
binary_row op.Either = refl

-- a literal with no more than its scalar's word
plain_backs : (at : ℕ) (s : Scalar) (z : ℤ) → fitting 1 (row_of place.Expr (scalar_word s)) ≡ Some (row.Expr (expr.Lit s)) → IsLiteral z → Backs place.Expr (row_form (scalar_word s) (signed_form z ∷ [])) (IsExpr (lit at s z))
plain_backs at s z e h = one place.Expr (row.Expr (expr.Lit s)) (scalar_word s) e (literal_backs z h) (λ n a k. ap (λ q. lit 0 s (as_literal q)) k)

lit_backs : (at : ℕ) (s : Scalar) (z : ℤ) → IsPrintableLiteral s z → Backs place.Expr (expr_form (lit at s z)) (IsExpr (lit at s z))
lit_backs at scalar.Bool z h = absurd h
lit_backs at scalar.U8 z h = plain_backs at scalar.U8 z refl h.1
lit_backs at scalar.U16 z h = plain_backs at scalar.U16 z refl h.1
lit_backs at scalar.U32 z h = plain_backs at scalar.U32 z refl h.1
lit_backs at scalar.U64 z h = plain_backs at scalar.U64 z refl h.1
lit_backs at scalar.I8 z h = plain_backs at scalar.I8 z refl h.1
lit_backs at scalar.I16 z h = plain_backs at scalar.I16 z refl h.1
lit_backs at scalar.I32 z h = plain_backs at scalar.I32 z refl h.1
lit_backs at scalar.I64 z h = plain_backs at scalar.I64 z refl h.1
lit_backs at (scalar.Ix m) z h =
    two place.Expr (row.Expr expr.LitIx) (codes "ix") refl (number_backs place.Size 1 65536 refl m h.0) (literal_backs z h.1)
    (λ n a b e k i. lit 0 (scalar.Ix (as_number (e i))) (as_literal (k i)))

mutual
  pub place_backs : (q : RawPlace Id) → IsPrintablePlace q → (p : Place) → TakesPlaces p → Backs p (place_form q) (IsPlace q)
  place_backs (root i) h p t = λ n. record { part = a_place (root (id_at n i.name)); reads = t.names n i.name h; alike = (refl, refl) }
  place_backs (get at q f) h p t =
      two p (row.Expr expr.Get) (codes "get") t.gets (place_backs q h.0 place.Place place_takes) (name_backs place.Use refl f h.1)
      (λ n a b k l. (λ i. get 0 (k.0 i) (l i), λ i. read (get 0 (k.0 i) (l i))))
  place_backs (index at q e) h p t =
      two p (row.Expr expr.At) (codes "at") t.ats (place_backs q h.0 place.Place place_takes) (expr_backs e h.1)
      (λ n a b k l. (λ i. index 0 (k.0 i) (l i), λ i. read (index 0 (k.0 i) (l i))))

  pub expr_backs : (e : RawExpr Id) → IsPrintableExpr e → Backs place.Expr (expr_form e) (IsExpr e)
  expr_backs (truth at b) h = λ n. record { part = an_expr (truth n b); reads = says_truth place.Expr n (truth_word b) b refl refl; alike = refl }
  expr_backs (read p) h = λ n. let a = place_backs p h place.Expr expr_takes n in record { part = a.part; reads = a.reads; alike = a.alike.1 }
  expr_backs (lit at s z) h = lit_backs at s z h
  expr_backs (un at o a) h = one place.Expr (row.Expr (expr.Un o)) (unary_word o) (unary_row o) (expr_backs a h) (λ n x k i. un 0 o (k i))
  expr_backs (bin at o a b) h = two place.Expr (row.Expr (expr.Bin o)) (binary_word o) (binary_row o) (expr_backs a h.0) (expr_backs b h.1) (λ n x y k l i. bin 0 o (k i) (l i))
  expr_backs (choose at c a b) h = three place.Expr (row.Expr expr.Cond) (codes "cond") refl (expr_backs c h.0) (expr_backs a h.1) (expr_backs b h.2) (λ n x y z k l m i. choose 0 (k i) (l i) (m i))
  expr_backs (cast at t a) h = two place.Expr (row.Expr expr.Cast) (codes "cast") refl (type_backs t h.0) (expr_backs a h.1) (λ n x y k l i. cast 0 (k i) (l i))
