-- The code of statements does what they mean: names, stores, branches and loops.
use Rattle.std.proofs.Common.{◌≡◌, ℕ, zero, suc, ◌+◌, ◌-◌, ◌*◌, ◌<◌, ◌≤◌, ℤ, pos, List, [], ◌∷◌, length, refl, ap, sym, ◌∙◌, subst, arith, Bool, true, false, slice_set, slice_index_or, replicate, get_or-set_same}
use Rattle.std.specs.Prelude.{max}
use Rattle.tower_types.specs.declared.scalar.Scalar.TheVariants as scalar
use Rattle.tower_types.specs.declared.scalar.BinOp.TheVariants as op
use Rattle.tower_types.specs.Ty.{one, words}
use Rattle.tower_types.specs.Value.{Value, word, flat, num, zero_of}
use Rattle.tower_types.specs.Arithmetic.{is_true, binary_of}
use Rattle.tower_syntax.specs.declared.body.Root.{Root}
use Rattle.tower_syntax.specs.declared.body.Root.TheVariants as root
use Rattle.tower_syntax.specs.Tree.{Expr, place, Steps, bind, local, set, branch, loop, Stmts}
use Rattle.tower_syntax.specs.Weights.{root_shape, shape_at, executed, expr_weight, steps_weight, stmt_weight, stmts_weight, most_of_stmts}
use Rattle.tower_syntax.specs.Typed.{Names, read_only, writable, IsInScope, with_name, IsFresh, IsTypedStmt, AreTypedStmts}
use Rattle.tower_meaning.specs.Body.{Environment, Execution, expr_value, in_turn, after_stmt, after_stmts}
use Rattle.tower_meaning.proofs.Fitting.{index_fits}
use Rattle.task_code.specs.declared.program.Instr.TheVariants.{Push, Ld, St, Bin, Jmp, Jz}
use Rattle.task_code.specs.Own.{Own}
use Rattle.task_code.specs.Does.{word_at}
use Rattle.task_code.specs.Piece.{Piece, ins, ◌▸◌, end, Stands}
use Rattle.stmt_code.specs.Layout.{Layout, binder_at, root_base, fixed_offset, moves, Base, private, monitor, plus}
use Rattle.stmt_code.specs.Body.{expr_code, stmt_code, stmts_code}
use Rattle.stmt_code.proofs.Named.{named, bound, with_env}
use Rattle.stmt_code.proofs.Needs.{need, need_steps, room_of}
use Rattle.stmt_code.proofs.Flats.{Fits, flat_length}
use Rattle.stmt_code.proofs.WordSums.{u64_fits, u64_add, less_is, less_not}
use Rattle.stmt_code.proofs.Fitted.{word_is, expr_fits}
use Rattle.stmt_code.proofs.OneStep.{Context, Leads, at, stay, wider, on, push, ld, store, bin as bin_leads, jmp, jz_taken, jz_passed}
use Rattle.stmt_code.proofs.ExprsRun.{drift, restack}
use Rattle.stmt_code.proofs.ReadsRun.{expr_leads}
use Rattle.stmt_code.proofs.Stored.{Wrote, wrote_one, wrote_self}
use Rattle.stmt_code.proofs.Ready.{Laid, Ready, Kept, kept_same, known, bound_ready, free_ready, less_ready, wrote_kept}
use Rattle.stmt_code.proofs.PlacesRun.{WroteAt, HasRoom, slot_top, first_leads, last_leads, place_leads, still, place_within, holder, has_room, stored_ready}
use Rattle.stmt_code.proofs.Keeps.{after_all, all_grows, name_grows, with_other, with_this, keeps}
use Rattle.stmt_code.proofs.Ran.{list_at, Fill, others_same, Ran, plain, ran_within, either, fewer_names, ran_through}
use Rattle.stmt_code.proofs.ZerosRun.{zero_flat, zeroed_leads}

slot_length : (g : Bool) (b : Base) (d : ℕ) (st : List ℤ) → length (slot_top g b d st) ≤ length st + 1
slot_length true b d st = omega arith
slot_length false (private a) d st = omega arith
slot_length false (monitor m a) d st = omega arith

-- i in_turn have been made, and j are to come
abbrev more : ℕ → ℕ → (ℕ → Execution → Execution) → Execution → Execution
more zero i f y = y
more (suc j) i f y = more j (suc i) f (f i y)

more_turns : (j i : ℕ) (f : ℕ → Execution → Execution) (x : Execution) → more j i f (in_turn i f x) ≡ in_turn (i + j) f x
more_turns zero i f x = let e : i ≡ i + 0 = omega arith in ap (λ n. in_turn n f x) e
more_turns (suc j) i f x = let e : suc i + j ≡ i + suc j = omega arith in more_turns j (suc i) f x ∙ ap (λ n. in_turn n f x) e

ix_fits : (i n : ℕ) → i < n → Fits (one (scalar.Ix n)) (word (pos i))
ix_fits i n h = index_fits n i h

bound_same : (b : ℕ) (u : Value) (env : Environment) → b < length env.binders → named (root.Binder b) (bound b u env) ≡ u
bound_same b u env lt = get_or-set_same env.binders b u (word (pos 0)) lt

module _ (w : Layout) (lo hi : ℕ) (laid : Laid w lo hi) (r : Context) (zeros : List Value)
    (zero_is : (b : ℕ) → b < length w.scope.binders → slice_index_or zeros b (word (pos 0)) ≡ zero_of (shape_at w.scope.binders b))
    (zero_fits : (b : ℕ) → b < length w.scope.binders → Fits (shape_at w.scope.binders b) (zero_of (shape_at w.scope.binders b)))
  where
    abbrev pub Does : (n a z : ℕ) → List ℤ → Names → Own → Execution → Execution → (ℕ → ℕ) → Type 0
    Does n a z st sc o x y g = Ran w lo hi r o n a z st sc x.lists y g

    abbrev pub Within : Execution → (ℕ → ℕ) → Type 0
    Within x g = (k : ℕ) → k < length w.scope.emitters → length (list_at x.lists k) + g k ≤ r.bound k

    frame_kept : (o : Own) (b : ℕ) (xs ws : List ℤ) → b < length w.scope.binders → length xs ≤ words (shape_at w.scope.binders b) → Wrote o.words (binder_at w b) xs ws → Kept lo hi o (record o { words = ws })
    frame_kept o b xs ws lt le wr = wrote_kept w lo hi laid o (binder_at w b) xs ws wr (omega (arith, laid.low, laid.behind_param b lt)) (omega (arith, laid.before_temps b lt, laid.high))

    pub bind_runs : (b : ℕ) (e : Expr) (sc : Names) (x : Execution) (o : Own) (a : ℕ) (st : List ℤ) → IsTypedStmt w.scope sc (bind b e) → Ready w hi sc x.env o → Fill w r x.lists o.buffers → Stands r.task.code a (stmt_code w a (bind b e)) → length st + need e ≤ 64
        → Does (expr_weight e + 4) a (end a (stmt_code w a (bind b e))) st (with_name b read_only sc) o x (after_stmt zeros (bind b e) x) (λ k. 0)
    bind_runs b e sc x o a st f rd fl p len =
        let u = expr_value x.env e in
        let t = f.1.0 in
        let fu = expr_fits w sc x.env rd.fit e t f.1.2 in
        let is = word_is t u fu in
        let lt = f.0.0 in
        let len1 : words (shape_at w.scope.binders b) ≡ 1 = ap words f.1.1 in
        let there : binder_at w b < length o.words = omega (arith, len1, laid.before_temps b lt, laid.high, rd.room) in
        let ws = slice_set o.words (binder_at w b) (num u) in
        let wr = subst (λ v. Wrote o.words (binder_at w b) (flat v) ws) (sym is) (wrote_one o.words (binder_at w b) (num u) there) in
        let lu : length (flat u) ≡ 1 = ap (λ v. length (flat v)) is in
        let v = subst (λ s. Fits s u) (sym f.1.1) fu in
        plain w lo hi r o (record o { words = ws }) _ a _ st (with_name b read_only sc) x _ (λ k. 0) fl
        (wider r (expr_weight e + 1) _ _ _ (on r (expr_weight e) 1 _ _ _ (expr_leads w sc x.env r o (known w lo hi laid sc x.env o rd) e t f.1.2 a st p.0 len) (store r o _ st (binder_at w b) (num u) p.1)) (omega arith))
        (bound_ready w lo hi laid sc (with_name b read_only sc) x.env o b u ws rd lt v wr (λ c h ne. with_other b read_only sc c h ne))
        (frame_kept o b (flat u) ws lt (omega (arith, lu, len1)) wr) refl

    pub local_runs : (b : ℕ) (sc : Names) (x : Execution) (o : Own) (a : ℕ) (st : List ℤ) → IsTypedStmt w.scope sc (local b) → Ready w hi sc x.env o → Fill w r x.lists o.buffers → Stands r.task.code a (stmt_code w a (local b)) → length st + 1 ≤ 64
        → Does (8 + 24 * words (shape_at w.scope.binders b)) a (end a (stmt_code w a (local b))) st (with_name b writable sc) o x (after_stmt zeros (local b) x) (λ k. 0)
    local_runs b sc x o a st f rd fl p len =
        let lt = f.0 in
        let s = shape_at w.scope.binders b in
        let z = zeroed_leads r (words s) o a (binder_at w b) st p len (omega (arith, laid.before_temps b lt, laid.high, rd.room)) in
        let u = slice_index_or zeros b (word (pos 0)) in
        let flat_u : flat u ≡ replicate (words s) (pos 0) = ap flat (zero_is b lt) ∙ zero_flat s in
        let wr = subst (λ l. Wrote o.words (binder_at w b) l z.to) (sym flat_u) z.wrote in
        let fu = subst (λ v. Fits s v) (sym (zero_is b lt)) (zero_fits b lt) in
        plain w lo hi r o (record o { words = z.to }) _ a _ st (with_name b writable sc) x _ (λ k. 0) fl
        (wider r (2 * words s) _ _ _ z.leads (omega arith))
        (bound_ready w lo hi laid sc (with_name b writable sc) x.env o b u z.to rd lt fu wr (λ c h ne. with_other b writable sc c h ne))
        (frame_kept o b (flat u) z.to lt (omega (arith, flat_length s u fu)) wr) refl

    pub set_runs : (q : Root) (ss : Steps) (e : Expr) (sc : Names) (x : Execution) (o : Own) (a : ℕ) (st : List ℤ) → IsTypedStmt w.scope sc (set (place q ss) e) → Ready w hi sc x.env o → Fill w r x.lists o.buffers → Stands r.task.code a (stmt_code w a (set (place q ss) e)) → length st + (max (need_steps false ss) (need e) + 1) ≤ 64
        → Does (stmt_weight executed w.scope (set (place q ss) e)) a (end a (stmt_code w a (set (place q ss) e))) st sc o x (after_stmt zeros (set (place q ss) e) x) (λ k. 0)
    set_runs q ss e sc x o a st f rd fl p len =
        let t = f.1.0 in
        let h = f.1.1 in
        let u = expr_value x.env e in
        let s = root_shape w.scope q in
        let g = moves ss in
        let b = plus (root_base w q) (fixed_offset s ss) in
        let d = drift x.env s ss in
        let hw = flat x.env.states in
        let fu = expr_fits w sc x.env rd.fit e t f.1.2 in
        let is = word_is t u fu in
        let zero_d = still w lo hi laid sc x.env r o rd q ss in
        let in_root = place_within w lo hi laid sc x.env r o rd q ss (one t) h in
        let e0 : d + 0 ≡ d = omega arith in
        let index = place_leads w lo hi laid sc x.env r o rd q ss (one t) h a st p.0.0 (omega arith) in
        let first = first_leads r o g b d _ st p.0.1 (omega arith) in
        let value = expr_leads w sc x.env r o (known w lo hi laid sc x.env o rd) e t f.1.2 _ (slot_top g b d st) p.1.0 (omega (arith, slot_length g b d st)) in
        let there = subst (λ j. HasRoom b j hw o) e0 (has_room w lo hi laid sc x.env r o rd q ss (one t) h f.0 0 (omega arith)) in
        let last = last_leads r o g b d (words s - fixed_offset s ss) _ st (num u) hw zero_d (omega (arith, in_root)) (holder w lo hi laid sc x.env r o rd q (fixed_offset s ss)) there p.1.1 in
        let wrote = subst (λ v. WroteAt o hw b d (flat v) last.own) (sym is) last.wrote in
        let done = stored_ready w lo hi laid sc x.env r o rd q ss (one t) h f.0 u fu last.own wrote in
        plain w lo hi r o last.own _ a _ st sc x _ (λ k. 0) fl
        (wider r (steps_weight ss + (1 + (expr_weight e + 1))) _ _ _
        (on r (steps_weight ss) (1 + (expr_weight e + 1)) _ _ _ index (on r 1 (expr_weight e + 1) _ _ _ first (on r (expr_weight e) 1 _ _ _ value last.leads))) (omega arith))
        done.ready done.kept done.buffers

    abbrev pub Body : Stmts → Names → Type 0
    Body ss sc = (y : Execution) (o : Own) (a : ℕ) (st : List ℤ) → Ready w hi sc y.env o → Fill w r y.lists o.buffers → Within y (λ k. most_of_stmts k ss) → Stands r.task.code a (stmts_code w a ss) → length st + room_of ss ≤ 64
        → Does (stmts_weight executed w.scope ss) a (end a (stmts_code w a ss)) st (after_all sc ss) o y (after_stmts zeros ss y) (λ k. most_of_stmts k ss)

    pub branch_runs : (e : Expr) (m n : Stmts) (sc : Names) → Body m sc → Body n sc → (x : Execution) (o : Own) (a : ℕ) (st : List ℤ) → IsTypedStmt w.scope sc (branch e m n) → Ready w hi sc x.env o → Fill w r x.lists o.buffers → Within x (λ k. max (most_of_stmts k m) (most_of_stmts k n)) → Stands r.task.code a (stmt_code w a (branch e m n)) → length st + max (need e) (max (room_of m) (room_of n)) ≤ 64
        → Does (stmt_weight executed w.scope (branch e m n)) a (end a (stmt_code w a (branch e m n))) st sc o x (after_stmt zeros (branch e m n) x) (λ k. max (most_of_stmts k m) (most_of_stmts k n))
    branch_runs e m n sc run_m run_n x o a st f rd fl fit p len =
        let v = num (expr_value x.env e) in
        let test = expr_leads w sc x.env r o (known w lo hi laid sc x.env o rd) e scalar.Bool f.0 a st p.0 (omega arith) in
        let b = end a (expr_code w a e) in
        let mid = end (suc b) (stmts_code w (suc b) m) in
        either w lo hi r o (stmt_weight executed w.scope (branch e m n)) a _ st sc x.lists (after_stmts zeros m x) (after_stmts zeros n x) (λ k. max (most_of_stmts k m) (most_of_stmts k n)) (is_true v)
        (λ t.
        let all_ran = run_m x o (suc b) st rd fl (λ k lt. let h = fit k lt in omega (arith, h)) p.1.1.0 (omega arith) in
        let ran = fewer_names w lo hi r laid o _ _ _ st (after_all sc m) sc x.lists _ _ all_ran (λ c h. all_grows m sc c h) in
        ran_within w lo hi r o (expr_weight e + 1) (stmts_weight executed w.scope m) 1 a mid _ (suc b) st sc x.lists (after_stmts zeros m x) (λ k. most_of_stmts k m) _
        (on r (expr_weight e) 1 _ _ _ test (jz_passed r o b st (suc mid) v p.1.0 t))
        ran (jmp r ran.own mid st _ p.1.1.1.0) (λ k. omega arith) _ (omega arith))
        (λ t.
        let all_ran = run_n x o (suc mid) st rd fl (λ k lt. let h = fit k lt in omega (arith, h)) p.1.1.1.1 (omega arith) in
        let ran = fewer_names w lo hi r laid o _ _ _ st (after_all sc n) sc x.lists _ _ all_ran (λ c h. all_grows n sc c h) in
        ran_within w lo hi r o (expr_weight e + 1) (stmts_weight executed w.scope n) 0 a _ _ (suc mid) st sc x.lists (after_stmts zeros n x) (λ k. most_of_stmts k n) _
        (on r (expr_weight e) 1 _ _ _ test (jz_taken r o b st (suc mid) v p.1.0 t))
        ran (stay r _) (λ k. omega arith) _ (omega arith))

    -- ---- for

    module _ (b n : ℕ) (ss : Stmts) (sc : Names) (fresh : IsFresh w.scope sc b) (ix : shape_at w.scope.binders b ≡ one (scalar.Ix n)) (few : n ≤ 65536) (fine : AreTypedStmts w.scope (with_name b read_only sc) ss) (body : Body ss (with_name b read_only sc)) where
      abbrev turn : ℕ → Execution → Execution
      turn i s = after_stmts zeros ss (with_env s (bound b (word (pos i)) s.env))

      abbrev first_place : ℕ → ℕ
      first_place again = suc (suc (suc (suc again)))

      abbrev behind : ℕ → ℕ
      behind again = end (first_place again) (stmts_code w (first_place again) ss)

      abbrev Turning : ℕ → Type 0
      Turning again = Stands r.task.code again
          (ins (Ld (binder_at w b)) ▸ ins (Push (pos n)) ▸ ins (Bin op.Less scalar.U64) ▸ ins (Jz (suc (suc (suc (suc (suc (behind again))))))) ▸
          stmts_code w (first_place again) ss ▸ ins (Ld (binder_at w b)) ▸ ins (Push (pos 1)) ▸ ins (Bin op.Add scalar.U64) ▸ ins (St (binder_at w b)) ▸ ins (Jmp again))

      abbrev loop_with : (turn first out : ℕ) → Piece
      loop_with turn first out =
          ins (Push (pos 0)) ▸ ins (St (binder_at w b))
          ▸ ins (Ld (binder_at w b)) ▸ ins (Push (pos n)) ▸ ins (Bin op.Less scalar.U64) ▸ ins (Jz out)
          ▸ stmts_code w first ss ▸ ins (Ld (binder_at w b)) ▸ ins (Push (pos 1)) ▸ ins (Bin op.Add scalar.U64) ▸ ins (St (binder_at w b)) ▸ ins (Jmp turn)

      abbrev loop_at : ℕ → Piece
      loop_at a = loop_with (suc (suc a)) (first_place (suc (suc a))) (suc (suc (suc (suc (suc (behind (suc (suc a))))))))

      -- the targets of a loop, without sums
      loop_is : (a : ℕ) → stmt_code w a (loop b n ss) ≡ loop_at a
      loop_is a =
          let e1 : a + 2 ≡ suc (suc a) = omega arith in
          let e2 : a + 2 + 4 ≡ first_place (suc (suc a)) = omega arith in
          let e3 : behind (suc (suc a)) + 5 ≡ suc (suc (suc (suc (suc (behind (suc (suc a))))))) = omega arith in
          ap (λ z. loop_with z (a + 2 + 4) (end (a + 2 + 4) (stmts_code w (a + 2 + 4) ss) + 5)) e1
          ∙ ap (λ z. loop_with (suc (suc a)) z (end z (stmts_code w z ss) + 5)) e2
          ∙ ap (λ z. loop_with (suc (suc a)) (first_place (suc (suc a))) z) e3

      one_word : words (shape_at w.scope.binders b) ≡ 1
      one_word = ap words ix

      -- the counter, and the test
      test : (o : Own) (i again : ℕ) (st : List ℤ) → i ≤ n → word_at o.words (binder_at w b) ≡ pos i → Turning again → length st + 2 ≤ 64 → Leads r 3 (at o again st) (at o (suc (suc (suc again))) (binary_of op.Less scalar.U64 (pos i) (pos n) ∷ st))
      test o i again st le at_b p len =
          on r 1 2 _ _ _ (restack r o 1 _ (suc again) (word_at o.words (binder_at w b) ∷ st) (pos i ∷ st) (ap (λ v. v ∷ st) at_b) (ld r o again st (binder_at w b) p.0 (omega arith)))
          (on r 1 1 _ _ _ (push r o (suc again) (pos i ∷ st) (pos n) p.1.0 (omega arith))
          (bin_leads r o (suc (suc again)) st op.Less scalar.U64 (pos i) (pos n) p.1.1.0 refl (u64_fits i (omega (arith, few))) (u64_fits n (omega (arith, few)))))

      -- the counter grows, and back
      ahead : (o : Own) (i again : ℕ) (st : List ℤ) → i ≤ n → word_at o.words (binder_at w b) ≡ pos i → Turning again → length st + 2 ≤ 64 → Leads r 5 (at o (behind again) st) (at (record o { words = slice_set o.words (binder_at w b) (pos (i + 1)) }) again st)
      ahead o i again st le at_b p len =
          let q = p.1.1.1.1.1 in
          let c = behind again in
          let u : Own = record o { words = slice_set o.words (binder_at w b) (pos (i + 1)) } in
          on r 1 4 _ _ _ (restack r o 1 _ (suc c) (word_at o.words (binder_at w b) ∷ st) (pos i ∷ st) (ap (λ v. v ∷ st) at_b) (ld r o c st (binder_at w b) q.0 (omega arith)))
          (on r 1 3 _ _ _ (push r o (suc c) (pos i ∷ st) (pos 1) q.1.0 (omega arith))
          (on r 1 2 _ _ _ (restack r o 1 _ (suc (suc (suc c))) (binary_of op.Add scalar.U64 (pos i) (pos 1) ∷ st) (pos (i + 1) ∷ st) (ap (λ v. v ∷ st) (u64_add i 1 (omega (arith, few))))
          (bin_leads r o (suc (suc c)) st op.Add scalar.U64 (pos i) (pos 1) q.1.1.0 refl (u64_fits i (omega (arith, few))) (u64_fits 1 (omega arith))))
          (on r 1 1 _ _ _ (store r o (suc (suc (suc c))) st (binder_at w b) (pos (i + 1)) q.1.1.1.0)
          (jmp r u (suc (suc (suc (suc c)))) st again q.1.1.1.1))))

      turns_run : (j i : ℕ) (y : Execution) (o : Own) (again : ℕ) (st : List ℤ) → i + j ≡ n → word_at o.words (binder_at w b) ≡ pos i → Ready w hi sc y.env o → Fill w r y.lists o.buffers → Within y (λ k. j * most_of_stmts k ss) → Turning again → length st + max 2 (room_of ss) ≤ 64
          → Does (4 + j * (stmts_weight executed w.scope ss + 16)) again (suc (suc (suc (suc (suc (behind again)))))) st sc o y (more j i turn y) (λ k. j * most_of_stmts k ss)
      turns_run zero i y o again st e at_b rd fl fit p len =
          let i_n : i ≡ n = omega (arith, e) in
          let t = test o i again st (omega (arith, e)) at_b p (omega arith) in
          let done : is_true (binary_of op.Less scalar.U64 (pos i) (pos n)) ≡ false = ap (λ m. is_true (binary_of op.Less scalar.U64 (pos m) (pos n))) i_n ∙ less_not n in
          plain w lo hi r o o _ again _ st sc y y.env _ fl (wider r 4 _ _ _ (on r 3 1 _ _ _ t (jz_taken r o (suc (suc (suc again))) st _ _ p.1.1.1.0 done)) (omega arith)) rd (kept_same lo hi o) refl
      turns_run (suc j) i y o again st e at_b rd fl fit p len =
          let lt = fresh.0 in
          let here : word_at o.words (binder_at w b) ≡ pos i = at_b in
          let y1 : Execution = with_env y (bound b (word (pos i)) y.env) in
          let fits_i : Fits (shape_at w.scope.binders b) (word (pos i)) = subst (λ s. Fits s (word (pos i))) (sym ix) (ix_fits i n (omega (arith, e))) in
          let rd1 : Ready w hi (with_name b read_only sc) y1.env o = bound_ready w lo hi laid sc (with_name b read_only sc) y.env o b (word (pos i)) o.words rd lt fits_i (wrote_self o.words (binder_at w b) (pos i) at_b) (λ c h ne. with_other b read_only sc c h ne) in
          let t = test o i again st (omega (arith, e)) at_b p (omega arith) in
          let goes = less_is i n (omega (arith, e)) in
          let ran = body y1 o (first_place again) st rd1 fl (λ k l. let h = fit k l in omega (arith, h)) p.1.1.1.1.0 (omega arith) in
          let y2 : Execution = after_stmts zeros ss y1 in
          let b_is : named (root.Binder b) y2.env ≡ word (pos i) =
          keeps w.scope zeros b ss (with_name b read_only sc) y1 fine (with_this b sc) ∙ bound_same b (word (pos i)) y.env (omega (arith, rd.fit.binders.count, lt)) in
          let holds = ran.ready.shows.binders b lt (all_grows ss (with_name b read_only sc) b (subst IsInScope (sym (with_this b sc)) tt)) in
          let len_b : length (flat (named (root.Binder b) y2.env)) ≡ 1 = ap (λ v. length (flat v)) b_is in
          let zero_there : binder_at w b + 0 ≡ binder_at w b = omega arith in
          let at_b2 : word_at ran.own.words (binder_at w b) ≡ pos i = ap (word_at ran.own.words) (sym zero_there) ∙ holds 0 (omega (arith, len_b)) ∙ ap (λ v. word_at (flat v) 0) b_is in
          let step = ahead ran.own i again st (omega (arith, e)) at_b2 p (omega arith) in
          let ws = slice_set ran.own.words (binder_at w b) (pos (i + 1)) in
          let there : binder_at w b < length ran.own.words = omega (arith, one_word, laid.before_temps b lt, laid.high, ran.ready.room) in
          let wr = wrote_one ran.own.words (binder_at w b) (pos (i + 1)) there in
          let fewer = less_ready w lo hi laid (after_all (with_name b read_only sc) ss) sc y2.env ran.own ran.ready (λ c h. all_grows ss (with_name b read_only sc) c (name_grows b sc c h)) in
          let rd2 = free_ready w lo hi laid sc y2.env ran.own b (pos (i + 1) ∷ []) ws fewer lt fresh.1 (omega (arith, one_word)) wr in
          let u : Own = record ran.own { words = ws } in
          let at_b3 : word_at ws (binder_at w b) ≡ pos (suc i) =
          let s : i + 1 ≡ suc i = omega arith in get_or-set_same ran.own.words (binder_at w b) (pos (i + 1)) (pos 0) there ∙ ap pos s in
          let rest = turns_run j (suc i) y2 u again st (omega (arith, e)) at_b3 rd2 ran.fill (λ k l. let h = fit k l in omega (arith, h, ran.grown k)) p len in
          let both = ran_through w lo hi r o _ 5 _ _ _ again _ st _ sc y.lists y2 _ _ _ ran u step (frame_kept ran.own b (pos (i + 1) ∷ []) ws lt (omega (arith, one_word)) wr) refl rest in
          ran_within w lo hi r o 4 (stmts_weight executed w.scope ss + (5 + (4 + j * (stmts_weight executed w.scope ss + 16)))) 0 again _ _ _ st sc y.lists _ _ _ (on r 3 1 _ _ _ t (jz_passed r o (suc (suc (suc again))) st _ _ p.1.1.1.0 goes)) both (stay r _) (λ k. omega arith) _ (omega arith)

      at_loop : (x : Execution) (o : Own) (a : ℕ) (st : List ℤ) → Ready w hi sc x.env o → Fill w r x.lists o.buffers → Within x (λ k. n * most_of_stmts k ss) → Stands r.task.code a (loop_at a) → length st + max 2 (room_of ss) ≤ 64
          → Does (stmt_weight executed w.scope (loop b n ss)) a (end a (loop_at a)) st sc o x (after_stmt zeros (loop b n ss) x) (λ k. n * most_of_stmts k ss)
      at_loop x o a st rd fl fit p len =
          let lt = fresh.0 in
          let there : binder_at w b < length o.words = omega (arith, one_word, laid.before_temps b lt, laid.high, rd.room) in
          let ws = slice_set o.words (binder_at w b) (pos 0) in
          let wr = wrote_one o.words (binder_at w b) (pos 0) there in
          let u : Own = record o { words = ws } in
          let rd0 = free_ready w lo hi laid sc x.env o b (pos 0 ∷ []) ws rd lt fresh.1 (omega (arith, one_word)) wr in
          let start : Ran w lo hi r o 2 a (suc (suc a)) st sc x.lists x (λ k. 0) = record {
            own = u;
            leads = on r 1 1 _ _ _ (push r o a st (pos 0) p.0 (omega arith)) (store r o (suc a) st (binder_at w b) (pos 0) p.1.0);
            ready = rd0;
            kept = frame_kept o b (pos 0 ∷ []) ws lt (omega (arith, one_word)) wr;
            fill = fl;
            others = others_same w o.buffers;
            grown = λ k. omega arith;
          } in
          let all_turns = turns_run n 0 x u (suc (suc a)) st (omega arith) (get_or-set_same o.words (binder_at w b) (pos 0) (pos 0) there) rd0 fl fit p.1.1 len in
          let e : more n 0 turn x ≡ in_turn n turn x = let z : 0 + n ≡ n = omega arith in more_turns n 0 turn x ∙ ap (λ m. in_turn m turn x) z in
          let ran = ran_within w lo hi r o 0 (2 + (0 + (4 + n * (stmts_weight executed w.scope ss + 16)))) 0 a _ _ _ st sc x.lists _ _ _ (stay r _)
          (ran_through w lo hi r o 2 0 _ a _ _ _ st sc sc x.lists x _ _ _ start u (stay r _) (kept_same lo hi u) refl all_turns) (stay r _) (λ k. omega arith) (stmt_weight executed w.scope (loop b n ss)) (omega arith) in
          subst (λ y. Does (stmt_weight executed w.scope (loop b n ss)) a (end a (loop_at a)) st sc o x y (λ k. n * most_of_stmts k ss)) e ran

      pub loop_runs : (x : Execution) (o : Own) (a : ℕ) (st : List ℤ) → Ready w hi sc x.env o → Fill w r x.lists o.buffers → Within x (λ k. n * most_of_stmts k ss) → Stands r.task.code a (stmt_code w a (loop b n ss)) → length st + max 2 (room_of ss) ≤ 64
          → Does (stmt_weight executed w.scope (loop b n ss)) a (end a (stmt_code w a (loop b n ss))) st sc o x (after_stmt zeros (loop b n ss) x) (λ k. n * most_of_stmts k ss)
      loop_runs x o a st rd fl fit p len =
          subst (λ q. Stands r.task.code a q → Does (stmt_weight executed w.scope (loop b n ss)) a (end a q) st sc o x (after_stmt zeros (loop b n ss) x) (λ k. n * most_of_stmts k ss)) (sym (loop_is a)) (λ q. at_loop x o a st rd fl fit q len) p
