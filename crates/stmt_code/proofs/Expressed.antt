-- The code of expressions, put together.
use Rattle.std.proofs.Common.{◌≡◌, ◌∙◌, ℕ, ◌+◌, List, [], ◌∷◌, ◌++◌, length, slice_set, refl, ap, sym, subst}
use Rattle.tower_types.specs.declared.scalar.Scalar.{Scalar}
use Rattle.tower_types.specs.declared.scalar.BinOp.{BinOp}
use Rattle.tower_syntax.specs.Tree.{Expr, bin, choose, cast}
use Rattle.tower_syntax.specs.View.{expr_of}
use Rattle.tower_syntax.specs.declared.body.Expr.{Expr as ExprValue}
use Rattle.tower_syntax.specs.declared.body.Expr.TheVariants as expr
use Rattle.tower_syntax.proofs.Views.{expr_of-Bin, expr_of-Cond, expr_of-Cast}
use Rattle.task_code.specs.declared.program.Instr.{Instr}
use Rattle.task_code.specs.declared.program.Instr.TheVariants.{Bin, Cast, Jz, Jmp}
use Rattle.task_code.specs.Piece.{Piece, ins, ◌▸◌, listed}
use Rattle.task_code.proofs.Joined.{then, choice, choice_made}
use Rattle.stmt_code.specs.Layout.{Layout}
use Rattle.stmt_code.specs.Body.{expr_code}

-- the code of an expression was appended
abbrev pub Made : Layout → List Instr → List Instr → ExprValue → Type 0
Made w old new e = new ≡ old ++ listed (expr_code w (length old) (expr_of e))

pub bin_made : (w : Layout) (old c1 c2 new : List Instr) (e a b a' b' : ExprValue) (op : BinOp) (t : Scalar) → e ≡ expr.Bin op t a b → a' ≡ a → b' ≡ b → Made w old c1 a' → Made w c1 c2 b' → new ≡ c2 ++ Bin op t ∷ [] → Made w old new e
bin_made w old c1 c2 new e a b a' b' op t is first second h1 h2 h3 =
    let tree : expr_of e ≡ bin op t (expr_of a') (expr_of b') = ap expr_of is ∙ expr_of-Bin op t a b ∙ ap (λ x. bin op t (expr_of x) (expr_of b)) (sym first) ∙ ap (λ x. bin op t (expr_of a') (expr_of x)) (sym second) in
    let P : Expr → Type 0 = λ x. new ≡ old ++ listed (expr_code w (length old) x) in
    subst P (sym tree)
    (then old c1 new (expr_code w (length old) (expr_of a')) (λ n. expr_code w n (expr_of b') ▸ ins (Bin op t)) h1
    (then c1 c2 new (expr_code w (length c1) (expr_of b')) (λ n. ins (Bin op t)) h2 h3))

pub cast_made : (w : Layout) (old c1 new : List Instr) (e a a' : ExprValue) (t : Scalar) → e ≡ expr.Cast t a → a' ≡ a → Made w old c1 a' → new ≡ c1 ++ Cast t ∷ [] → Made w old new e
cast_made w old c1 new e a a' t is first h1 h2 =
    let tree : expr_of e ≡ cast t (expr_of a') = ap expr_of is ∙ expr_of-Cast t a ∙ ap (λ x. cast t (expr_of x)) (sym first) in
    let P : Expr → Type 0 = λ x. new ≡ old ++ listed (expr_code w (length old) x) in
    subst P (sym tree) (then old c1 new (expr_code w (length old) (expr_of a')) (λ n. ins (Cast t)) h1 h2)

pub cond_made : (w : Layout) (old c1 c2 c3 c4 c5 new : List Instr) (i j : Instr) (test jump : ℕ) (e c a b c' a' b' : ExprValue)
    → e ≡ expr.Cond c a b → c' ≡ c → a' ≡ a → b' ≡ b
    → Made w old c1 c'
    → test ≡ length c1 → c2 ≡ c1 ++ i ∷ []
    → Made w c2 c3 a'
    → jump ≡ length c3 → c4 ≡ c3 ++ j ∷ []
    → Made w c4 c5 b'
    → new ≡ slice_set (slice_set c5 test (Jz (jump + 1))) jump (Jmp (length c5))
    → Made w old new e
cond_made w old c1 c2 c3 c4 c5 new i j test jump e c a b c' a' b' is first second third h1 ht h2 h3 hj h4 h5 h6 =
    let tree : expr_of e ≡ choose (expr_of c') (expr_of a') (expr_of b') =
    ap expr_of is ∙ expr_of-Cond c a b ∙ ap (λ x. choose (expr_of x) (expr_of a) (expr_of b)) (sym first)
    ∙ ap (λ x. choose (expr_of c') (expr_of x) (expr_of b)) (sym second) ∙ ap (λ x. choose (expr_of c') (expr_of a') (expr_of x)) (sym third) in
    let P : Expr → Type 0 = λ x. new ≡ old ++ listed (expr_code w (length old) x) in
    subst P (sym tree)
    (choice_made (λ n. expr_code w n (expr_of c')) (λ n. expr_code w n (expr_of a')) (λ n. expr_code w n (expr_of b')) old c1 c2 c3 c4 c5 new i j test jump h1 ht h2 h3 hj h4 h5 h6)
