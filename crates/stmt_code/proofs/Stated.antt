-- The code of statements, put together.
use Rattle.std.proofs.Common.{◌≡◌, ◌∙◌, ℕ, suc, ◌+◌, ◌-◌, ◌<◌, List, [], ◌∷◌, ◌++◌, length, map, drop, get_or, slice_set, add-one, refl, ap, sym, subst}
use Rattle.std.proofs.Math.Seq.{drop-cons, drop-length}
use Rattle.std.proofs.lemmas.List.{append-nil}
use Rattle.tower_types.specs.Ty.{words}
use Rattle.tower_syntax.specs.Tree.{Expr, Place, Stmt, Stmts, branch, loop}
use Rattle.tower_syntax.specs.View.{expr_of, stmt_of, all_stmts_of}
use Rattle.tower_syntax.specs.Weights.{place_shape}
use Rattle.tower_syntax.specs.declared.body.Expr.{Expr as ExprValue}
use Rattle.tower_syntax.specs.declared.body.Stmt.{Stmt as StmtValue}
use Rattle.tower_syntax.specs.declared.body.Stmt.TheVariants as stmt
use Rattle.tower_syntax.proofs.Views.{stmt_of-Branch, stmt_of-Loop}
use Rattle.task_code.specs.declared.program.Instr.{Instr}
use Rattle.task_code.specs.declared.program.Instr.TheVariants.{Jz, Jmp}
use Rattle.task_code.specs.Piece.{Piece, ◌▸◌, end, listed}
use Rattle.task_code.proofs.Joined.{then, choice_made}
use Rattle.stmt_code.specs.Layout.{Layout, binder_at}
use Rattle.stmt_code.specs.Body.{expr_code, stmt_code, stmts_code, index_code, before_value, behind_value, kept, moved, words_copied, set_code, copy_code}
use Rattle.stmt_code.specs.Seen.{base_of, moved_of}
use Rattle.stmt_code.specs.Turns.{loop_head, loop_end}
use Rattle.stmt_code.specs.declared.moved.Moved.{Moved as MovedValue}
use Rattle.stmt_code.proofs.Turned.{turns_made}

-- the code of statements was appended
abbrev pub AllMade : Layout → List Instr → List Instr → List StmtValue → Type 0
AllMade w old new ss = new ≡ old ++ listed (stmts_code w (length old) (all_stmts_of ss))

pub branch_made : (w : Layout) (old c1 c2 c3 c4 c5 new : List Instr) (i j : Instr) (test jump : ℕ) (s : StmtValue) (e : ExprValue) (xs ys xs' ys' : List StmtValue)
    → s ≡ stmt.Branch e xs ys → xs' ≡ xs → ys' ≡ ys
    → c1 ≡ old ++ listed (expr_code w (length old) (expr_of e))
    → test ≡ length c1 → c2 ≡ c1 ++ i ∷ []
    → AllMade w c2 c3 xs'
    → jump ≡ length c3 → c4 ≡ c3 ++ j ∷ []
    → AllMade w c4 c5 ys'
    → new ≡ slice_set (slice_set c5 test (Jz (jump + 1))) jump (Jmp (length c5))
    → new ≡ old ++ listed (stmt_code w (length old) (stmt_of s))
branch_made w old c1 c2 c3 c4 c5 new i j test jump s e xs ys xs' ys' is first second h1 ht h2 h3 hj h4 h5 h6 =
    let tree : stmt_of s ≡ branch (expr_of e) (all_stmts_of xs') (all_stmts_of ys') =
    ap stmt_of is ∙ stmt_of-Branch e xs ys ∙ ap (λ zs. branch (expr_of e) (all_stmts_of zs) (all_stmts_of ys)) (sym first)
    ∙ ap (λ zs. branch (expr_of e) (all_stmts_of xs') (all_stmts_of zs)) (sym second) in
    let P : Stmt → Type 0 = λ x. new ≡ old ++ listed (stmt_code w (length old) x) in
    subst P (sym tree)
    (choice_made (λ n. expr_code w n (expr_of e)) (λ n. stmts_code w n (all_stmts_of xs')) (λ n. stmts_code w n (all_stmts_of ys')) old c1 c2 c3 c4 c5 new i j test jump h1 ht h2 h3 hj h4 h5 h6)

pub loop_made : (w : Layout) (old c1 c2 c3 new : List Instr) (i : Instr) (test turn address : ℕ) (s : StmtValue) (b n : ℕ) (xs xs' : List StmtValue)
    → s ≡ stmt.Loop b n xs → xs' ≡ xs → address ≡ binder_at w b
    → c1 ≡ old ++ (loop_head address n ++ i ∷ [])
    → test ≡ length old + 5 → turn ≡ test - 3
    → AllMade w c1 c2 xs'
    → c3 ≡ c2 ++ loop_end address turn
    → new ≡ slice_set c3 test (Jz (length c3))
    → new ≡ old ++ listed (stmt_code w (length old) (stmt_of s))
loop_made w old c1 c2 c3 new i test turn address s b n xs xs' is same named h1 at back h2 h3 h4 =
    let tree : stmt_of s ≡ loop b n (all_stmts_of xs') = ap stmt_of is ∙ stmt_of-Loop b n xs ∙ ap (λ zs. loop b n (all_stmts_of zs)) (sym same) in
    let P : Stmt → Type 0 = λ x. new ≡ old ++ listed (stmt_code w (length old) x) in
    let head : c1 ≡ old ++ (loop_head (binder_at w b) n ++ i ∷ []) = h1 ∙ ap (λ a. old ++ (loop_head a n ++ i ∷ [])) named in
    let tail : c3 ≡ c2 ++ loop_end (binder_at w b) turn = h3 ∙ ap (λ a. c2 ++ loop_end a turn) named in
    subst P (sym tree) (turns_made (binder_at w b) n (λ m. stmts_code w m (all_stmts_of xs')) old c1 c2 c3 new i test turn head at back h2 tail h4)

-- a statement, and then the rest
pub stmts_next : (w : Layout) (xs : List StmtValue) (i : ℕ) (y : StmtValue) (old new : List Instr) → i < length xs → y ≡ get_or xs i y → new ≡ old ++ listed (stmt_code w (length old) (stmt_of y))
    → new ++ listed (stmts_code w (length new) (all_stmts_of (drop (i + 1) xs))) ≡ old ++ listed (stmts_code w (length old) (all_stmts_of (drop i xs)))
stmts_next w xs i y old new within read made =
    let rest = all_stmts_of (drop (i + 1) xs) in
    let list : all_stmts_of (drop i xs) ≡ Stmts.stmt (stmt_of y) rest =
    ap all_stmts_of (drop-cons xs i y within) ∙ ap (λ z. Stmts.stmt (stmt_of z) (all_stmts_of (drop (suc i) xs))) (sym read)
    ∙ ap (λ j. Stmts.stmt (stmt_of y) (all_stmts_of (drop j xs))) (sym (add-one i)) in
    then old new (new ++ listed (stmts_code w (length new) rest)) (stmt_code w (length old) (stmt_of y)) (λ n. stmts_code w n rest) made refl
    ∙ ap (λ ss. old ++ listed (stmts_code w (length old) ss)) (sym list)

-- behind the last statement nothing is to come
pub stmts_end : (w : Layout) (code whole : List Instr) (xs : List StmtValue) (i : ℕ) → i ≡ length xs → code ++ listed (stmts_code w (length code) (all_stmts_of (drop i xs))) ≡ whole → code ≡ whole
stmts_end w code whole xs i end h =
    sym (append-nil code) ∙ ap (λ ys. code ++ listed (stmts_code w (length code) (all_stmts_of ys))) (sym (ap (λ j. drop j xs) end ∙ drop-length xs)) ∙ h

pub set_made : (w : Layout) (old c1 c2 c3 new : List Instr) (p : Place) (e : Expr) (m : MovedValue)
    → moved_of m ≡ moved w p 0
    → c1 ≡ old ++ listed (index_code w (length old) p)
    → c2 ≡ c1 ++ listed (before_value m.moving (base_of m.base))
    → c3 ≡ c2 ++ listed (expr_code w (length c2) e)
    → new ≡ c3 ++ listed (behind_value m.moving (base_of m.base) m.span)
    → new ≡ old ++ listed (set_code w (length old) p e)
set_made w old c1 c2 c3 new p e m is h1 h2 h3 h4 =
    let q = moved w p 0 in
    let before : c2 ≡ c1 ++ listed (before_value q.moving q.base) = h2 ∙ ap (λ x. c1 ++ listed (before_value x.moving x.base)) is in
    let behind : new ≡ c3 ++ listed (behind_value q.moving q.base q.span) = h4 ∙ ap (λ x. c3 ++ listed (behind_value x.moving x.base x.span)) is in
    let first : c2 ≡ old ++ listed (index_code w (length old) p ▸ before_value q.moving q.base) = then old c1 c2 (index_code w (length old) p) (λ n. before_value q.moving q.base) h1 before in
    then old c2 new (index_code w (length old) p ▸ before_value q.moving q.base) (λ n. expr_code w n e ▸ behind_value q.moving q.base q.span) first
    (then c2 c3 new (expr_code w (length c2) e) (λ n. behind_value q.moving q.base q.span) h3 behind)

pub copy_made : (w : Layout) (old c1 c2 c3 c4 new : List Instr) (p q : Place) (to source : MovedValue) (temps second width : ℕ)
    → temps ≡ w.temps → second ≡ suc w.temps
    → moved_of to ≡ moved w p temps → moved_of source ≡ moved w q second
    → width ≡ words (place_shape w.scope p)
    → c1 ≡ old ++ listed (index_code w (length old) p)
    → c2 ≡ c1 ++ listed (kept to.moving to.index)
    → c3 ≡ c2 ++ listed (index_code w (length c2) q)
    → c4 ≡ c3 ++ listed (kept source.moving source.index)
    → new ≡ c4 ++ listed (words_copied (moved_of to) (moved_of source) 0 width)
    → new ≡ old ++ listed (copy_code w (length old) p q)
copy_made w old c1 c2 c3 c4 new p q to source temps second width one two is_to is_source wide h1 h2 h3 h4 h5 =
    let t = moved w p w.temps in
    let s = moved w q (suc w.temps) in
    let to_is : moved_of to ≡ t = is_to ∙ ap (moved w p) one in
    let source_is : moved_of source ≡ s = is_source ∙ ap (moved w q) two in
    let keeps_to : c2 ≡ c1 ++ listed (kept t.moving t.index) = h2 ∙ ap (λ x. c1 ++ listed (kept x.moving x.index)) to_is in
    let keeps_source : c4 ≡ c3 ++ listed (kept s.moving s.index) = h4 ∙ ap (λ x. c3 ++ listed (kept x.moving x.index)) source_is in
    let all = words (place_shape w.scope p) in
    let copied : new ≡ c4 ++ listed (words_copied t s 0 all) =
    h5 ∙ ap (λ x. c4 ++ listed (words_copied x (moved_of source) 0 width)) to_is ∙ ap (λ x. c4 ++ listed (words_copied t x 0 width)) source_is
    ∙ ap (λ n. c4 ++ listed (words_copied t s 0 n)) wide in
    let first = index_code w (length old) p ▸ kept t.moving t.index in
    let one_made : c2 ≡ old ++ listed first = then old c1 c2 (index_code w (length old) p) (λ n. kept t.moving t.index) h1 keeps_to in
    let two_made : c4 ≡ c2 ++ listed (index_code w (length c2) q ▸ kept s.moving s.index) = then c2 c3 c4 (index_code w (length c2) q) (λ n. kept s.moving s.index) h3 keeps_source in
    then old c2 new first (λ n. (index_code w n q ▸ kept s.moving s.index) ▸ words_copied t s 0 all) one_made
    (then c2 c4 new (index_code w (length c2) q ▸ kept s.moving s.index) (λ n. words_copied t s 0 all) two_made copied)
