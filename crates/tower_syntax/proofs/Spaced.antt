-- The text of a list of forms that grows at its end.
use Rattle.std.proofs.Common.{◌≡◌, ◌<◌, ℕ, ◌+◌, List, [], ◌∷◌, ◌++◌, length, map, take, get_or, ap, ◌∙◌, append_assoc, arith}
use Rattle.std.proofs.lemmas.List.{take_more, append-nil}
use Rattle.tower_syntax.specs.Form.{Form, spaced, all_spaced}
use Rattle.tower_syntax.specs.RawView.{raw_stmt_of, all_raw_stmts_of}
use Rattle.tower_syntax.specs.Printed.{stmt_form, stmt_forms}
use Rattle.tower_syntax.specs.declared.raw.RawStmt.{RawStmt as StmtValue}

-- of values, each with its tree, and that with its form
pub all_spaced-push : {X Y : Type 0} (tree : X → Y) (f : Y → Form) (xs : List X) (x : X) → all_spaced (map f (map tree (xs ++ x ∷ []))) ≡ all_spaced (map f (map tree xs)) ++ spaced (f (tree x))
all_spaced-push tree f [] x = append-nil (spaced (f (tree x)))
all_spaced-push tree f (y ∷ ys) x = grind (arith, append_assoc, all_spaced-push tree f ys x)

pub all_spaced-more : {X Y : Type 0} (tree : X → Y) (f : Y → Form) (xs : List X) (i : ℕ) (d : X) → i < length xs → all_spaced (map f (map tree (take (i + 1) xs))) ≡ all_spaced (map f (map tree (take i xs))) ++ spaced (f (tree (get_or xs i d)))
all_spaced-more tree f xs i d h = ap (λ ys. all_spaced (map f (map tree ys))) (take_more xs i d h) ∙ all_spaced-push tree f (take i xs) (get_or xs i d)

pub stmts_spaced-push : (ss : List StmtValue) (s : StmtValue) → all_spaced (stmt_forms (all_raw_stmts_of (ss ++ s ∷ []))) ≡ all_spaced (stmt_forms (all_raw_stmts_of ss)) ++ spaced (stmt_form (raw_stmt_of s))
stmts_spaced-push [] s = append-nil (spaced (stmt_form (raw_stmt_of s)))
stmts_spaced-push (r ∷ rs) s = grind (arith, append_assoc, stmts_spaced-push rs s)

pub stmts_spaced-more : (ss : List StmtValue) (i : ℕ) (d : StmtValue) → i < length ss → all_spaced (stmt_forms (all_raw_stmts_of (take (i + 1) ss))) ≡ all_spaced (stmt_forms (all_raw_stmts_of (take i ss))) ++ spaced (stmt_form (raw_stmt_of (get_or ss i d)))
stmts_spaced-more ss i d h = ap (λ ys. all_spaced (stmt_forms (all_raw_stmts_of ys))) (take_more ss i d h) ∙ stmts_spaced-push (take i ss) (get_or ss i d)
