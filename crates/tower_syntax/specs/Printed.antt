-- The forms that a raw tree is written as, one line for each row of the table of forms.
use Rattle.std.specs.Prelude.{ℕ, ℤ, List, [], ◌∷◌, ◌++◌, map, codes, decimal, Option, Some, None}
use Rattle.std.specs.Fmt.{signed_decimal}
use Rattle.tower_types.specs.declared.scalar.Scalar.{Scalar}
use Rattle.tower_types.specs.declared.scalar.Scalar.TheVariants as scalar
use Rattle.tower_syntax.specs.RawTree.{Id, RawType, word, rec, array, RawPlace, root, get, index, RawExpr, truth, read, lit, un, bin, choose, cast, RawStmt, bind, local, set, copy, branch, loop, emit, RawStmts, no_stmts, stmt, RawField, RawHpart, emitter, callback, RawPart, state, handler, RawItem, fields, init, period, signal, channel, output, monitor, Raw}
use Rattle.tower_syntax.specs.Words.{tower_word, scalar_word, binary_word, unary_word, truth_word}
use Rattle.tower_syntax.specs.Form.{Form, atom, row}

abbrev pub name_form : Id → Form
name_form i = atom i.name

abbrev pub number_form : ℕ → Form
number_form n = atom (decimal n)

abbrev pub signed_form : ℤ → Form
signed_form n = atom (signed_decimal n)

-- the number in `(ix n)`, which the other scalars have not
abbrev pub size_forms : Scalar → List Form
size_forms (scalar.Ix n) = number_form n ∷ []
size_forms _ = []

abbrev pub scalar_form : Scalar → Form
scalar_form (scalar.Ix n) = row (codes "ix") (number_form n ∷ [])
scalar_form s = atom (scalar_word s)

abbrev pub type_form : RawType Id → Form
type_form (word at s) = scalar_form s
type_form (rec i) = name_form i
type_form (array at n t) = row (codes "array") (number_form n ∷ type_form t ∷ [])

abbrev mutual
  pub place_form : RawPlace Id → Form
  place_form (root i) = name_form i
  place_form (get at p f) = row (codes "get") (place_form p ∷ name_form f ∷ [])
  place_form (index at p e) = row (codes "at") (place_form p ∷ expr_form e ∷ [])

  pub expr_form : RawExpr Id → Form
  expr_form (truth at b) = atom (truth_word b)
  expr_form (read p) = place_form p
  expr_form (lit at s n) = row (scalar_word s) (size_forms s ++ signed_form n ∷ [])
  expr_form (un at op a) = row (unary_word op) (expr_form a ∷ [])
  expr_form (bin at op a b) = row (binary_word op) (expr_form a ∷ expr_form b ∷ [])
  expr_form (choose at c a b) = row (codes "cond") (expr_form c ∷ expr_form a ∷ expr_form b ∷ [])
  expr_form (cast at t a) = row (codes "cast") (type_form t ∷ expr_form a ∷ [])

abbrev mutual
  pub stmt_form : RawStmt Id → Form
  stmt_form (bind at i e) = row (codes "let") (name_form i ∷ expr_form e ∷ [])
  stmt_form (local at i t) = row (codes "local") (name_form i ∷ type_form t ∷ [])
  stmt_form (set at p e) = row (codes "set") (place_form p ∷ expr_form e ∷ [])
  stmt_form (copy at p q) = row (codes "copy") (place_form p ∷ place_form q ∷ [])
  stmt_form (branch at e then_at ss else_at ts) = row (codes "if") (expr_form e ∷ row (codes "then") (stmt_forms ss) ∷ row (codes "else") (stmt_forms ts) ∷ [])
  stmt_form (loop at i n body) = row (codes "for") (name_form i ∷ number_form n ∷ stmt_forms body)
  stmt_form (emit at i e) = row (codes "emit") (name_form i ∷ expr_form e ∷ [])

  pub stmt_forms : RawStmts Id → List Form
  stmt_forms no_stmts = []
  stmt_forms (stmt s ss) = stmt_form s ∷ stmt_forms ss

abbrev pub field_form : RawField Id → Form
field_form f = row (codes "field") (name_form f.name ∷ type_form f.ty ∷ [])

abbrev pub hpart_form : RawHpart Id → Form
hpart_form (emitter at i c n) = row (codes "emitter") (name_form i ∷ name_form c ∷ number_form n ∷ [])
hpart_form (callback at i ss) = row (codes "callback") (name_form i ∷ stmt_forms ss)

abbrev pub part_form : RawPart Id → Form
part_form (state at i t) = row (codes "state") (name_form i ∷ type_form t ∷ [])
part_form (handler at i on hs) = row (codes "handler") (name_form i ∷ name_form on ∷ map hpart_form hs)

-- of version 2 alone
abbrev pub depth_forms : Option ℕ → List Form
depth_forms None = []
depth_forms (Some n) = number_form n ∷ []

abbrev pub item_form : RawItem Id → Form
item_form (fields at i fs) = row (codes "record") (name_form i ∷ map field_form fs)
item_form (init at i p) = row (codes "init") (name_form i ∷ number_form p ∷ [])
item_form (period at i ms p d) = row (codes "period") (name_form i ∷ number_form ms ∷ number_form p ∷ depth_forms d)
item_form (signal at i t p d) = row (codes "signal") (name_form i ∷ type_form t ∷ number_form p ∷ depth_forms d)
item_form (channel at i t) = row (codes "channel") (name_form i ∷ type_form t ∷ [])
item_form (output at i c) = row (codes "output") (name_form i ∷ name_form c ∷ [])
item_form (monitor at i ps) = row (codes "monitor") (name_form i ∷ map part_form ps)

-- the file
abbrev pub raw_form : Raw Id → Form
raw_form r = row (tower_word r.version) (name_form r.name ∷ map item_form r.items)
