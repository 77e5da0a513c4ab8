-- Trees are alike exactly where they are printed as the same line.
use Rattle.std.proofs.Common.{◌≡◌, ℕ, ◌≤◌, length, List, [], ◌∷◌, Ok, map, refl, ap, ◌∙◌, sym, subst}
use Rattle.std.specs.Prelude.{codes}
use Rattle.tower_syntax.specs.RawTree.{Id, RawType, word, rec, array, RawPlace, root, get, index, RawExpr, truth, read, lit, un, bin, choose, cast, RawStmt, bind, local, set, copy, branch, loop, emit, RawStmts, no_stmts, stmt, RawField, RawHpart, emitter, callback, RawPart, state, handler, RawItem, fields, init, period, signal, channel, output, monitor, Raw}
use Rattle.tower_syntax.specs.Form.{Form, text, row}
use Rattle.tower_syntax.specs.Words.{unary_word, binary_word, tower_word}
use Rattle.tower_syntax.specs.Printed.{name_form, number_form, type_form, place_form, expr_form, stmt_form, stmt_forms, field_form, hpart_form, part_form, depth_forms, item_form, raw_form}
use Rattle.tower_reader.specs.Alike.{bare_type, bare_place, bare_expr, bare_stmt, bare_stmts, bare_field, bare_hpart, bare_part, bare_item, bare}
use Rattle.tower_reader.specs.Laws.{AlikePrintSame, SamePrintAlike}
use Rattle.tower_reader.specs.Spelled.{Spells, byte_limit}
use Rattle.tower_reader.proofs.Verdicts.{spells_verdict}
use Rattle.tower_reader.proofs.ReadsBack.{reads_back}

type_same : (t : RawType Id) → type_form (bare_type t) ≡ type_form t
type_same (word at s) = refl
type_same (rec i) = refl
type_same (array at n t) = ap (λ f. row (codes "array") (number_form n ∷ f ∷ [])) (type_same t)

mutual
  place_same : (p : RawPlace Id) → place_form (bare_place p) ≡ place_form p
  place_same (root i) = refl
  place_same (get at p f) = ap (λ g. row (codes "get") (g ∷ name_form f ∷ [])) (place_same p)
  place_same (index at p e) = λ i. row (codes "at") (place_same p i ∷ expr_same e i ∷ [])

  expr_same : (e : RawExpr Id) → expr_form (bare_expr e) ≡ expr_form e
  expr_same (truth at b) = refl
  expr_same (read p) = place_same p
  expr_same (lit at s n) = refl
  expr_same (un at o a) = ap (λ f. row (unary_word o) (f ∷ [])) (expr_same a)
  expr_same (bin at o a b) = λ i. row (binary_word o) (expr_same a i ∷ expr_same b i ∷ [])
  expr_same (choose at c a b) = λ i. row (codes "cond") (expr_same c i ∷ expr_same a i ∷ expr_same b i ∷ [])
  expr_same (cast at t a) = λ i. row (codes "cast") (type_same t i ∷ expr_same a i ∷ [])

mutual
  stmt_same : (s : RawStmt Id) → stmt_form (bare_stmt s) ≡ stmt_form s
  stmt_same (bind at i e) = ap (λ f. row (codes "let") (name_form i ∷ f ∷ [])) (expr_same e)
  stmt_same (local at i t) = ap (λ f. row (codes "local") (name_form i ∷ f ∷ [])) (type_same t)
  stmt_same (set at p e) = λ i. row (codes "set") (place_same p i ∷ expr_same e i ∷ [])
  stmt_same (copy at p q) = λ i. row (codes "copy") (place_same p i ∷ place_same q i ∷ [])
  stmt_same (branch at e then_at ss else_at ts) = λ i. row (codes "if") (expr_same e i ∷ row (codes "then") (stmts_same ss i) ∷ row (codes "else") (stmts_same ts i) ∷ [])
  stmt_same (loop at i n body) = ap (λ fs. row (codes "for") (name_form i ∷ number_form n ∷ fs)) (stmts_same body)
  stmt_same (emit at i e) = ap (λ f. row (codes "emit") (name_form i ∷ f ∷ [])) (expr_same e)

  stmts_same : (ss : RawStmts Id) → stmt_forms (bare_stmts ss) ≡ stmt_forms ss
  stmts_same no_stmts = refl
  stmts_same (stmt s ss) = λ i. stmt_same s i ∷ stmts_same ss i

all_same : {X : Type 0} (f : X → Form) (g : X → X) → ((x : X) → f (g x) ≡ f x) → (xs : List X) → map f (map g xs) ≡ map f xs
all_same f g each [] = refl
all_same f g each (x ∷ xs) = λ i. each x i ∷ all_same f g each xs i

field_same : (f : RawField Id) → field_form (bare_field f) ≡ field_form f
field_same f = ap (λ g. row (codes "field") (name_form f.name ∷ g ∷ [])) (type_same f.ty)

hpart_same : (h : RawHpart Id) → hpart_form (bare_hpart h) ≡ hpart_form h
hpart_same (emitter at i c n) = refl
hpart_same (callback at i ss) = ap (λ fs. row (codes "callback") (name_form i ∷ fs)) (stmts_same ss)

part_same : (p : RawPart Id) → part_form (bare_part p) ≡ part_form p
part_same (state at i t) = ap (λ f. row (codes "state") (name_form i ∷ f ∷ [])) (type_same t)
part_same (handler at i on hs) = ap (λ fs. row (codes "handler") (name_form i ∷ name_form on ∷ fs)) (all_same hpart_form bare_hpart hpart_same hs)

item_same : (x : RawItem Id) → item_form (bare_item x) ≡ item_form x
item_same (fields at i fs) = ap (λ gs. row (codes "record") (name_form i ∷ gs)) (all_same field_form bare_field field_same fs)
item_same (init at i p) = refl
item_same (period at i ms p d) = refl
item_same (signal at i t p d) = ap (λ f. row (codes "signal") (name_form i ∷ f ∷ number_form p ∷ depth_forms d)) (type_same t)
item_same (channel at i t) = ap (λ f. row (codes "channel") (name_form i ∷ f ∷ [])) (type_same t)
item_same (output at i c) = refl
item_same (monitor at i ps) = ap (λ fs. row (codes "monitor") (name_form i ∷ fs)) (all_same part_form bare_part part_same ps)

-- a tree is printed as its bare tree is
bare_same : (r : Raw Id) → raw_form (bare r) ≡ raw_form r
bare_same r = ap (λ fs. row (tower_word r.version) (name_form r.name ∷ fs)) (all_same item_form bare_item item_same r.items)

pub alike_print_same : AlikePrintSame
alike_print_same r s h = ap text (sym (bare_same r) ∙ ap raw_form h ∙ bare_same s)

one_reading : (bs : List ℕ) (r s : Raw Id) → Spells bs r → Spells bs s → r ≡ s
one_reading bs r s h k = let e : Ok r ≡ Ok s = sym (spells_verdict bs r h) ∙ spells_verdict bs s k in cc

pub same_print_alike : SamePrintAlike
same_print_alike r s h k l e =
    let x = reads_back r h l in
    let y = reads_back s k (subst (λ bs. length bs ≤ byte_limit) e l) in
    let q : x.0 ≡ y.0 = one_reading (text (raw_form s)) x.0 y.0 (subst (λ bs. Spells bs x.0) e x.1) y.1 in
    x.2 ∙ ap bare q ∙ sym y.2
