-- The messages of a list of statements, or of callbacks, that grows.
use Rattle.std.proofs.Common.{◌≡◌, ℕ, ◌+◌, ◌<◌, map, sum, length, get_or, take, List, [], ◌∷◌, ◌++◌, arith, ap, ◌∙◌}
use Rattle.std.proofs.lemmas.List.{take_more}
use Rattle.std.proofs.lemmas.List.Sums.{sum_by-cons}
use Rattle.tower_syntax.specs.declared.body.Stmt.{Stmt as StmtValue}
use Rattle.tower_syntax.specs.declared.body.Body.{Body as BodyValue}
use Rattle.tower_syntax.specs.View.{stmt_of, all_stmts_of, body_of}
use Rattle.tower_syntax.specs.Weights.{most_of_stmt, most_of_stmts}

-- a sum over the views of a list that grows
sum_of_all-push : {X Y : Type 0} (f : Y → ℕ) (view : X → Y) (xs : List X) (y : X) → sum (map f (map view (xs ++ y ∷ []))) ≡ sum (map f (map view xs)) + f (view y)
sum_of_all-push f view [] y = omega arith
sum_of_all-push f view (x ∷ xs) y = omega (arith, sum_by-cons (λ n. n) (f (view x)) (map f (map view (xs ++ y ∷ []))), sum_by-cons (λ n. n) (f (view x)) (map f (map view xs)), sum_of_all-push f view xs y)

pub sum_of_all-more : {X Y : Type 0} (f : Y → ℕ) (view : X → Y) (xs : List X) (i : ℕ) (d : X) → i < length xs → sum (map f (map view (take (i + 1) xs))) ≡ sum (map f (map view (take i xs))) + f (view (get_or xs i d))
sum_of_all-more f view xs i d h = ap (λ ys. sum (map f (map view ys))) (take_more xs i d h) ∙ sum_of_all-push f view (take i xs) (get_or xs i d)

most_of_stmts-push : (k : ℕ) (xs : List StmtValue) (y : StmtValue) → most_of_stmts k (all_stmts_of (xs ++ y ∷ [])) ≡ most_of_stmts k (all_stmts_of xs) + most_of_stmt k (stmt_of y)
most_of_stmts-push k [] y = omega arith
most_of_stmts-push k (x ∷ xs) y = omega (arith, most_of_stmts-push k xs y)

pub most_of_stmts-more : (k : ℕ) (xs : List StmtValue) (i : ℕ) (d : StmtValue) → i < length xs → most_of_stmts k (all_stmts_of (take (i + 1) xs)) ≡ most_of_stmts k (all_stmts_of (take i xs)) + most_of_stmt k (stmt_of (get_or xs i d))
most_of_stmts-more k xs i d h = ap (λ ys. most_of_stmts k (all_stmts_of ys)) (take_more xs i d h) ∙ most_of_stmts-push k (take i xs) (get_or xs i d)

-- what all of these callbacks emit on an emitter
abbrev pub most_of_bodies : ℕ → List BodyValue → ℕ
most_of_bodies k bs = sum (map (λ b. most_of_stmts k b.stmts) (map body_of bs))

pub most_of_bodies-more : (k : ℕ) (bs : List BodyValue) (i : ℕ) (d : BodyValue) → i < length bs → most_of_bodies k (take (i + 1) bs) ≡ most_of_bodies k (take i bs) + most_of_stmts k (all_stmts_of (get_or bs i d).stmts)
most_of_bodies-more k bs i d h = sum_of_all-more (λ b. most_of_stmts k b.stmts) body_of bs i d h
