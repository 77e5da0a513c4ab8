-- The statements of a list that grows, weighed.
use Rattle.std.proofs.Common.{◌≡◌, ℕ, ◌+◌, ◌<◌, List, [], ◌∷◌, ◌++◌, length, get_or, take, arith, ap, ◌∙◌}
use Rattle.std.proofs.lemmas.List.{take_more}
use Rattle.tower_syntax.specs.declared.body.Stmt.{Stmt as StmtValue}
use Rattle.tower_syntax.specs.View.{stmt_of, all_stmts_of}
use Rattle.tower_syntax.specs.Weights.{Counting, Scope, stmt_weight, stmts_weight}

stmts_weight-push : (c : Counting) (scope : Scope) (xs : List StmtValue) (y : StmtValue) → stmts_weight c scope (all_stmts_of (xs ++ y ∷ [])) ≡ stmts_weight c scope (all_stmts_of xs) + stmt_weight c scope (stmt_of y)
stmts_weight-push c scope [] y = omega arith
stmts_weight-push c scope (x ∷ xs) y = omega (arith, stmts_weight-push c scope xs y)

pub stmts_weight-more : (c : Counting) (scope : Scope) (xs : List StmtValue) (i : ℕ) (d : StmtValue) → i < length xs → stmts_weight c scope (all_stmts_of (take (i + 1) xs)) ≡ stmts_weight c scope (all_stmts_of (take i xs)) + stmt_weight c scope (stmt_of (get_or xs i d))
stmts_weight-more c scope xs i d h = ap (λ ys. stmts_weight c scope (all_stmts_of ys)) (take_more xs i d h) ∙ stmts_weight-push c scope (take i xs) (get_or xs i d)
