-- The code of a body does what the body does.
use Rattle.std.proofs.Common.{◌≡◌, ℕ, ◌+◌, ◌<◌, ◌≤◌, ℤ, pos, List, length, refl, arith, Some, slice_get, slice_index_or}
use Rattle.tower_types.specs.Ty.{words}
use Rattle.tower_types.specs.Value.{Value, word, zero_of}
use Rattle.tower_syntax.specs.Tree.{place, Stmt, bind, local, set, copy, branch, loop, emit, Stmts, no_stmts, stmt}
use Rattle.tower_syntax.specs.Weights.{shape_at, executed, stmt_weight, stmts_weight, most_of_stmt, most_of_stmts}
use Rattle.tower_syntax.specs.Typed.{Names, read_only, with_name, names_after, IsTypedStmt, AreTypedStmts}
use Rattle.tower_meaning.specs.Body.{Execution, after_stmt, after_stmts}
use Rattle.task_code.specs.Own.{Own}
use Rattle.task_code.specs.Piece.{end, Stands}
use Rattle.stmt_code.specs.Layout.{Layout}
use Rattle.stmt_code.specs.Body.{stmt_code, stmts_code}
use Rattle.stmt_code.proofs.Needs.{room_one, room_of}
use Rattle.stmt_code.proofs.Flats.{Fits}
use Rattle.stmt_code.proofs.OneStep.{Context, stay}
use Rattle.stmt_code.proofs.Ready.{Laid, Ready, kept_same}
use Rattle.stmt_code.proofs.Keeps.{after_all}
use Rattle.stmt_code.proofs.Ran.{list_at, Fill, Ran, ran_on, plain}
use Rattle.stmt_code.proofs.StmtsRun.{bind_runs, local_runs, set_runs, branch_runs, loop_runs}
use Rattle.stmt_code.proofs.CopiesRun.{copy_runs}
use Rattle.stmt_code.proofs.EmitsRun.{emit_runs}

-- what is known of a task and a callback before any run
pub record Plan (w : Layout) (lo hi : ℕ) (r : Context) (zeros : List Value) : Type 0 where
  pub laid : Laid w lo hi
  pub zero_is : (b : ℕ) → b < length w.scope.binders → slice_index_or zeros b (word (pos 0)) ≡ zero_of (shape_at w.scope.binders b)
  pub zero_fits : (b : ℕ) → b < length w.scope.binders → Fits (shape_at w.scope.binders b) (zero_of (shape_at w.scope.binders b))
  pub tables : (k : ℕ) → k < length w.scope.emitters → slice_get r.task.buffers (w.first_buffer + k) ≡ Some (record { width = words (shape_at w.scope.emitters k); bound = r.bound k })

module _ (w : Layout) (lo hi : ℕ) (r : Context) (zeros : List Value) (pl : Plan w lo hi r zeros) where
  mutual
    pub stmt_runs : (s : Stmt) (sc : Names) → IsTypedStmt w.scope sc s → (x : Execution) (o : Own) (a : ℕ) (st : List ℤ) → Ready w hi sc x.env o → Fill w r x.lists o.buffers → ((k : ℕ) → k < length w.scope.emitters → length (list_at x.lists k) + most_of_stmt k s ≤ r.bound k) → Stands r.task.code a (stmt_code w a s) → length st + room_one s ≤ 64
        → Ran w lo hi r o (stmt_weight executed w.scope s) a (end a (stmt_code w a s)) st (names_after s sc) x.lists (after_stmt zeros s x) (λ k. most_of_stmt k s)
    stmt_runs (bind b e) sc f x o a st rd fl fit p len = bind_runs w lo hi pl.laid r zeros pl.zero_is pl.zero_fits b e sc x o a st f rd fl p len
    stmt_runs (local b) sc f x o a st rd fl fit p len = local_runs w lo hi pl.laid r zeros pl.zero_is pl.zero_fits b sc x o a st f rd fl p len
    stmt_runs (set (place q ss) e) sc f x o a st rd fl fit p len = set_runs w lo hi pl.laid r zeros pl.zero_is pl.zero_fits q ss e sc x o a st f rd fl p len
    stmt_runs (copy (place q ss) (place y ts)) sc f x o a st rd fl fit p len = copy_runs w lo hi pl.laid r zeros q y ss ts sc x o a st f rd fl p len
    stmt_runs (branch e m n) sc f x o a st rd fl fit p len =
        branch_runs w lo hi pl.laid r zeros pl.zero_is pl.zero_fits e m n sc (λ y o a st rd fl fit p len. stmts_runs m sc f.1 y o a st rd fl fit p len) (λ y o a st rd fl fit p len. stmts_runs n sc f.2 y o a st rd fl fit p len) x o a st f rd fl fit p len
    stmt_runs (loop b n ss) sc f x o a st rd fl fit p len =
        loop_runs w lo hi pl.laid r zeros pl.zero_is pl.zero_fits b n ss sc f.0 f.1 f.3 f.4 (λ y o a st rd fl fit p len. stmts_runs ss (with_name b read_only sc) f.4 y o a st rd fl fit p len) x o a st rd fl fit p len
    stmt_runs (emit k e) sc f x o a st rd fl fit p len = emit_runs w lo hi pl.laid r pl.tables k e sc x o a st f rd fl (fit k f.0) p len

    pub stmts_runs : (ss : Stmts) (sc : Names) → AreTypedStmts w.scope sc ss → (x : Execution) (o : Own) (a : ℕ) (st : List ℤ) → Ready w hi sc x.env o → Fill w r x.lists o.buffers → ((k : ℕ) → k < length w.scope.emitters → length (list_at x.lists k) + most_of_stmts k ss ≤ r.bound k) → Stands r.task.code a (stmts_code w a ss) → length st + room_of ss ≤ 64
        → Ran w lo hi r o (stmts_weight executed w.scope ss) a (end a (stmts_code w a ss)) st (after_all sc ss) x.lists (after_stmts zeros ss x) (λ k. most_of_stmts k ss)
    stmts_runs no_stmts sc f x o a st rd fl fit p len = plain w lo hi r o o 0 a a st sc x x.env (λ k. 0) fl (stay r _) rd (kept_same lo hi o) refl
    stmts_runs (stmt s ss) sc f x o a st rd fl fit p len =
        let first = stmt_runs s sc f.0 x o a st rd fl (λ k lt. let h = fit k lt in omega (arith, h)) p.0 (omega arith) in
        let rest = stmts_runs ss (names_after s sc) f.1 (after_stmt zeros s x) first.own _ st first.ready first.fill (λ k lt. let h = fit k lt in omega (arith, h, first.grown k)) p.1 (omega arith) in
        ran_on w lo hi r o (stmt_weight executed w.scope s) (stmts_weight executed w.scope ss) a _ _ st (names_after s sc) _ x.lists _ _ _ _ first rest
