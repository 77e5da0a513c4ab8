-- The table of forms. Each row is one line of `rule` and stands in `rows` at its place; each place with atoms is one line of `atoms_at`.
use Rattle.std.specs.Prelude.{ℕ, List, [], ◌∷◌, Bool, true, false, ◌&&◌, ◌||◌, nat_le, codes, length, slice_index_or, Option, Some, None, bytes_eq, find, map}
use Rattle.tower_types.specs.declared.scalar.Scalar.TheVariants as scalar
use Rattle.tower_types.specs.declared.scalar.BinOp.TheVariants as op
use Rattle.tower_types.specs.declared.scalar.UnOp.TheVariants as un
use Rattle.tower_syntax.specs.Words.{scalar_word, binary_word, unary_word, tower_word}
use Rattle.tower_reader.specs.declared.table.Place.{Place}
use Rattle.tower_reader.specs.declared.table.Place.TheVariants as place
use Rattle.tower_reader.specs.declared.table.Atoms.{Atoms}
use Rattle.tower_reader.specs.declared.table.Atoms.TheVariants as atoms
use Rattle.tower_reader.specs.declared.table.Row.{Row}
use Rattle.tower_reader.specs.declared.table.Row.TheVariants as row
use Rattle.tower_reader.specs.declared.table.ItemRow.TheVariants as item
use Rattle.tower_reader.specs.declared.table.PartRow.TheVariants as part
use Rattle.tower_reader.specs.declared.table.StmtRow.TheVariants as stmt
use Rattle.tower_reader.specs.declared.table.ExprRow.TheVariants as expr
use Rattle.tower_reader.specs.declared.table.RowRule.{RowRule as RuleValue}

-- A head, the places of the children behind it, and where there may be more of these, their place.
pub record RowRule : Type 0 where
  pub word : List ℕ
  pub places : List Place
  pub more : Option Place

abbrev pub rule_of : RuleValue → RowRule
rule_of r = record { word = r.word.now; places = r.places.now; more = r.more }

-- a row with exactly these children
abbrev pub form : List ℕ → List Place → RowRule
form w ps = record { word = w; places = ps; more = None }

-- a row with at least these children, and any number of more
abbrev pub many : List ℕ → List Place → Place → RowRule
many w ps p = record { word = w; places = ps; more = Some p }

abbrev pub rule : Row → RowRule
rule row.File = many [] (place.Tower ∷ []) place.Nowhere
rule row.Tower = many (tower_word 1) (place.Name ∷ []) place.Item
rule row.Tower2 = many (tower_word 2) (place.Name ∷ []) place.Item2
rule (row.Item item.Record) = many (codes "record") (place.Name ∷ place.Field ∷ []) place.Field
rule (row.Item item.Init) = form (codes "init") (place.Name ∷ place.Priority ∷ [])
rule (row.Item item.Period) = form (codes "period") (place.Name ∷ place.Period ∷ place.Priority ∷ [])
rule (row.Item item.Period2) = form (codes "period") (place.Name ∷ place.Period ∷ place.Priority ∷ place.Depth ∷ [])
rule (row.Item item.Signal) = form (codes "signal") (place.Name ∷ place.Type ∷ place.Priority ∷ [])
rule (row.Item item.Signal2) = form (codes "signal") (place.Name ∷ place.Type ∷ place.Priority ∷ place.Depth ∷ [])
rule (row.Item item.Channel) = form (codes "channel") (place.Name ∷ place.Type ∷ [])
rule (row.Item item.Output) = form (codes "output") (place.Name ∷ place.Use ∷ [])
rule (row.Item item.Monitor) = many (codes "monitor") (place.Name ∷ []) place.Part
rule (row.Part part.Field) = form (codes "field") (place.Name ∷ place.Type ∷ [])
rule (row.Part part.State) = form (codes "state") (place.Name ∷ place.Type ∷ [])
rule (row.Part part.Handler) = many (codes "handler") (place.Name ∷ place.Use ∷ []) place.Hpart
rule (row.Part part.Emitter) = form (codes "emitter") (place.Name ∷ place.Use ∷ place.Bound ∷ [])
rule (row.Part part.Callback) = many (codes "callback") (place.Name ∷ []) place.Stmt
rule (row.Part part.Ix) = form (codes "ix") (place.Size ∷ [])
rule (row.Part part.Array) = form (codes "array") (place.Length ∷ place.Type ∷ [])
rule (row.Stmt stmt.Let) = form (codes "let") (place.Name ∷ place.Expr ∷ [])
rule (row.Stmt stmt.Local) = form (codes "local") (place.Name ∷ place.Type ∷ [])
rule (row.Stmt stmt.Set) = form (codes "set") (place.Place ∷ place.Expr ∷ [])
rule (row.Stmt stmt.Copy) = form (codes "copy") (place.Place ∷ place.Place ∷ [])
rule (row.Stmt stmt.If) = form (codes "if") (place.Expr ∷ place.Then ∷ place.Else ∷ [])
rule (row.Stmt stmt.Then) = many (codes "then") [] place.Stmt
rule (row.Stmt stmt.Else) = many (codes "else") [] place.Stmt
rule (row.Stmt stmt.For) = many (codes "for") (place.Name ∷ place.Times ∷ []) place.Stmt
rule (row.Stmt stmt.Emit) = form (codes "emit") (place.Use ∷ place.Expr ∷ [])
rule (row.Expr expr.Get) = form (codes "get") (place.Place ∷ place.Use ∷ [])
rule (row.Expr expr.At) = form (codes "at") (place.Place ∷ place.Expr ∷ [])
rule (row.Expr (expr.Lit s)) = form (scalar_word s) (place.Literal ∷ [])
rule (row.Expr expr.LitIx) = form (codes "ix") (place.Size ∷ place.Literal ∷ [])
rule (row.Expr (expr.Bin o)) = form (binary_word o) (place.Expr ∷ place.Expr ∷ [])
rule (row.Expr (expr.Un o)) = form (unary_word o) (place.Expr ∷ [])
rule (row.Expr expr.Cond) = form (codes "cond") (place.Expr ∷ place.Expr ∷ place.Expr ∷ [])
rule (row.Expr expr.Cast) = form (codes "cast") (place.Type ∷ place.Expr ∷ [])

abbrev pub rows : Place → List Row
rows place.Tower = row.Tower ∷ row.Tower2 ∷ []
rows place.Item = map row.Item (item.Record ∷ item.Init ∷ item.Period ∷ item.Signal ∷ item.Channel ∷ item.Output ∷ item.Monitor ∷ [])
rows place.Item2 = map row.Item (item.Record ∷ item.Init ∷ item.Period2 ∷ item.Signal2 ∷ item.Channel ∷ item.Output ∷ item.Monitor ∷ [])
rows place.Field = row.Part part.Field ∷ []
rows place.Part = row.Part part.State ∷ row.Part part.Handler ∷ []
rows place.Hpart = row.Part part.Emitter ∷ row.Part part.Callback ∷ []
rows place.Type = row.Part part.Ix ∷ row.Part part.Array ∷ []
rows place.Stmt = map row.Stmt (stmt.Let ∷ stmt.Local ∷ stmt.Set ∷ stmt.Copy ∷ stmt.If ∷ stmt.For ∷ stmt.Emit ∷ [])
rows place.Then = row.Stmt stmt.Then ∷ []
rows place.Else = row.Stmt stmt.Else ∷ []
rows place.Place = row.Expr expr.Get ∷ row.Expr expr.At ∷ []
rows place.Expr = map row.Expr (
    expr.Get ∷ expr.At ∷
    expr.Lit scalar.U8 ∷ expr.Lit scalar.U16 ∷ expr.Lit scalar.U32 ∷ expr.Lit scalar.U64 ∷
    expr.Lit scalar.I8 ∷ expr.Lit scalar.I16 ∷ expr.Lit scalar.I32 ∷ expr.Lit scalar.I64 ∷ expr.LitIx ∷
    expr.Bin op.Add ∷ expr.Bin op.Sub ∷ expr.Bin op.Mul ∷ expr.Bin op.Div ∷ expr.Bin op.Rem ∷
    expr.Bin op.And ∷ expr.Bin op.Or ∷ expr.Bin op.Xor ∷
    expr.Bin op.Eq ∷ expr.Bin op.Less ∷ expr.Bin op.LessEq ∷ expr.Bin op.Both ∷ expr.Bin op.Either ∷
    expr.Un un.Not ∷ expr.Un un.Neg ∷ expr.Cond ∷ expr.Cast ∷ [])
rows _ = []

-- the atoms of a place
abbrev pub atoms_at : Place → Atoms
atoms_at place.Name = atoms.Name
atoms_at place.Use = atoms.Name
atoms_at place.Place = atoms.Place
atoms_at place.Type = atoms.Type
atoms_at place.Expr = atoms.Expr
atoms_at place.Priority = atoms.Number 0 255
atoms_at place.Period = atoms.Number 1 1000000
atoms_at place.Depth = atoms.Number 1 64
atoms_at place.Bound = atoms.Number 0 65536
atoms_at place.Size = atoms.Number 1 65536
atoms_at place.Times = atoms.Number 1 65536
atoms_at place.Length = atoms.Number 1 4096
atoms_at place.Literal = atoms.Literal
atoms_at _ = atoms.None

abbrev pub head : Row → List ℕ
head r = (rule r).word

-- the row of a place with this head
abbrev pub row_of : Place → List ℕ → Option Row
row_of p w = find (λ r. bytes_eq (head r) w) (rows p)

abbrev pub or_nowhere : Option Place → Place
or_nowhere None = place.Nowhere
or_nowhere (Some p) = p

-- the place of a row's child, the head not counted
abbrev pub place_at : Row → ℕ → Place
place_at r i = slice_index_or (rule r).places i (or_nowhere (rule r).more)

abbrev pub has_more : Option Place → Bool
has_more None = false
has_more (Some p) = true

-- whether a row may have so many children, the head not counted
abbrev pub count_fits : Row → ℕ → Bool
count_fits r n = nat_le (length (rule r).places) n && (nat_le n (length (rule r).places) || has_more (rule r).more)
