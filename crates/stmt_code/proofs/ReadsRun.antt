-- The code of an expression leaves its value on the stack, within its weight.
use Rattle.std.proofs.Common.{◌≡◌, ℕ, zero, suc, ◌+◌, ◌-◌, ◌*◌, ◌^◌, ◌<◌, ◌≤◌, ℤ, pos, List, [], ◌∷◌, length, Option, Some, None, refl, ap, sym, ◌∙◌, subst, arith, Bool, true, false, ◌||◌, cond}
use Rattle.std.proofs.Math.Nat.{mul-le-mul_right}
use Rattle.tower_types.specs.declared.scalar.Scalar.{Scalar}
use Rattle.tower_types.specs.declared.scalar.Scalar.TheVariants as scalar
use Rattle.tower_types.specs.Ty.{Shape, one, many, all, Shapes, no_shapes, shape, shapes_of, words}
use Rattle.tower_types.specs.Value.{Value, num, flat, part}
use Rattle.tower_types.specs.Arithmetic.{is_true}
use Rattle.tower_syntax.specs.declared.body.Root.{Root}
use Rattle.tower_syntax.specs.declared.body.Root.TheVariants as root
use Rattle.tower_syntax.specs.Tree.{Expr, lit, read, un, bin, choose, cast, Place, place, Steps, no_steps, field, at as at_index}
use Rattle.tower_syntax.specs.Weights.{root_shape, nth_shape, shape_at, expr_weight, place_weight, steps_weight}
use Rattle.tower_syntax.specs.Typed.{Names, HasRoot, HasScalar, HasShape, IsProper, AreProper, Leads as Path}
use Rattle.tower_meaning.specs.Body.{Environment, expr_value, place_value, path_of, part_at, with_part_at}
use Rattle.tower_meaning.proofs.Fitting.{count_of_list}
use Rattle.task_code.specs.Own.{Own}
use Rattle.task_code.specs.Does.{word_at}
use Rattle.task_code.specs.Piece.{end, Stands}
use Rattle.stmt_code.specs.Layout.{Layout, root_base, words_before, given_index, fixed_offset, is_moving, moves, plus}
use Rattle.stmt_code.specs.Body.{expr_code, read_code, steps_code}
use Rattle.stmt_code.proofs.Named.{named}
use Rattle.stmt_code.proofs.Needs.{need, need_place, need_steps, one_if}
use Rattle.stmt_code.proofs.Flats.{flat_length, fields_of_list, total, cut}
use Rattle.stmt_code.proofs.Fitted.{word_is, num_fits, index_is, expr_fits, place_fits, path_along, root_fits}
use Rattle.stmt_code.proofs.OneStep.{Context, Leads, at, stay, wider, on, push, un as un_leads, bin as bin_leads, cast as cast_leads, jmp, jz_taken, jz_passed}
use Rattle.stmt_code.proofs.ExprsRun.{word_cut, cut_within, unless_given, index_in, drift, fixed_and_drift, still_zero, not_moved, nth_within, top, Reads, Known, plus_reads, restack, index_leads, word_leads}

or_false : (g : Bool) → (g || false) ≡ g
or_false true = refl
or_false false = refl

or_moved : (g h m : Bool) → ((g || h) || m) ≡ (h || (g || m))
or_moved true true m = refl
or_moved true false m = refl
or_moved false true m = refl
or_moved false false m = refl

nth_proper : (us : Shapes) (k : ℕ) → AreProper us → IsProper (nth_shape us k)
nth_proper no_shapes k p = tt
nth_proper (shape s ss) zero p = p.0
nth_proper (shape s ss) (suc k) p = nth_proper ss k p.1

need_some : (e : Expr) → 0 < need e
need_some (lit s n) = omega arith
need_some (read (place r ss)) = omega arith
need_some (un op s a) = need_some a
need_some (bin op s a b) = omega arith
need_some (choose c a b) = omega (arith, need_some c)
need_some (cast s a) = need_some a

top_length : (started : Bool) (m : ℕ) (st : List ℤ) → length (top started m st) ≤ length st + one_if started
top_length true m st = omega arith
top_length false m st = omega arith

unless_le : (g : Option ℕ) (n : ℕ) → unless_given g n ≤ n
unless_le None n = omega arith
unless_le (Some k) n = omega arith

module _ (w : Layout) (sc : Names) (env : Environment) (r : Context) (o : Own) (k : Known w sc env o) where
  -- the words of a root's value
  pub root_reads : (x : Root) → HasRoot w.scope sc x → (d : ℕ) → d < words (root_shape w.scope x) → Reads o (root_base w x) d (word_at (flat (named x env)) d)
  root_reads root.Param h d lt = let l = flat_length w.scope.message env.message k.fit.message in k.shows.message d (omega (arith, l))
  root_reads (root.Binder b) h d lt =
      let l = flat_length (root_shape w.scope (root.Binder b)) (named (root.Binder b) env) (root_fits w sc env k.fit (root.Binder b) h) in
      k.shows.binders b h.0 h.1 d (omega (arith, l))
  root_reads (root.State n) h d lt =
      let c = cut (n ∷ []) (all (shapes_of w.scope.states)) env.states k.fit.states (omega (arith, count_of_list w.scope.states), tt) in
      let len = flat_length (shape_at w.scope.states n) (part n env.states) (root_fits w sc env k.fit (root.State n) h) in
      let f = fields_of_list w.scope.states n in
      let e : total (all (shapes_of w.scope.states)) (n ∷ []) + d ≡ words_before w.scope.states n + d = omega (arith, f) in
      let at_cut = word_cut (flat env.states) (flat (part n env.states)) (λ u. flat (with_part_at (n ∷ []) u env.states)) (total (all (shapes_of w.scope.states)) (n ∷ [])) d c (omega (arith, len)) in
      (flat env.states, k.shows.held, subst (λ j. word_at (flat env.states) j ≡ word_at (flat (part n env.states)) d) e at_cut)

  -- a scalar part's word
  pub scalar_word : (x : Root) (ss : Steps) (t : Scalar) → HasShape w.scope sc (place x ss) (one t)
      → (fixed_offset (root_shape w.scope x) ss + drift env (root_shape w.scope x) ss < words (root_shape w.scope x))
      × (word_at (flat (named x env)) (fixed_offset (root_shape w.scope x) ss + drift env (root_shape w.scope x) ss) ≡ num (place_value env (place x ss)))
  scalar_word x ss t h =
      let s = root_shape w.scope x in
      let v = named x env in
      let path = path_of env ss in
      let c = cut path s v (root_fits w sc env k.fit x h.0) (path_along w sc env k.fit ss s (one t) h.1) in
      let fits = place_fits w sc env k.fit (place x ss) (one t) h in
      let is = word_is t (part_at path v) fits in
      let len : length (flat (part_at path v)) ≡ 1 = ap (λ u. length (flat u)) is in
      let sum = fixed_and_drift w sc env ss s (one t) h.1 in
      let e : total s path + 0 ≡ fixed_offset s ss + drift env s ss = omega (arith, sum) in
      let here = word_cut (flat v) (flat (part_at path v)) (λ u. flat (with_part_at path u v)) (total s path) 0 c (omega (arith, len)) in
      let first : word_at (flat (part_at path v)) 0 ≡ num (part_at path v) = ap (λ u. word_at (flat u) 0) is in (
        omega (arith, sum, len, cut_within (flat v) (flat (part_at path v)) (λ u. flat (with_part_at path u v)) (total s path) c, flat_length s v (root_fits w sc env k.fit x h.0)),
        subst (λ j. word_at (flat v) j ≡ word_at (flat (part_at path v)) 0) e here ∙ first,
      )

  choose_leads : (b : Bool) (n : ℕ) (a z : ℕ) (x y : Value) (st : List ℤ) (t : Own) → (b ≡ true → Leads r n t (at o z (num x ∷ st))) → (b ≡ false → Leads r n t (at o z (num y ∷ st))) → Leads r n t (at o z (num (cond b x y) ∷ st))
  choose_leads true n a z x y st t f g = f refl
  choose_leads false n a z x y st t f g = g refl

  mutual
    pub expr_leads : (e : Expr) (t : Scalar) → HasScalar w.scope sc e t → (a : ℕ) (st : List ℤ) → Stands r.task.code a (expr_code w a e) → length st + need e ≤ 64
        → Leads r (expr_weight e) (at o a st) (at o (end a (expr_code w a e)) (num (expr_value env e) ∷ st))
    expr_leads (lit s n) t h a st p len = wider r 1 2 _ _ (push r o a st n p (omega arith)) (omega arith)
    expr_leads (read q) t h a st p len = read_leads q t h a st p len
    expr_leads (un op s x) t h a st p len =
        wider r (expr_weight x + 1) (expr_weight x + 2) _ _
        (on r (expr_weight x) 1 _ _ _ (expr_leads x s h.2 a st p.0 len)
        (un_leads r o _ st op s (num (expr_value env x)) p.1 h.0 (num_fits s _ (expr_fits w sc env k.fit x s h.2)))) (omega arith)
    expr_leads (bin op s x y) t h a st p len =
        wider r (expr_weight x + (expr_weight y + 1)) (expr_weight x + expr_weight y + 2) _ _
        (on r (expr_weight x) (expr_weight y + 1) _ _ _ (expr_leads x s h.2 a st p.0 (omega arith))
        (on r (expr_weight y) 1 _ _ _ (expr_leads y s h.3 _ (num (expr_value env x) ∷ st) p.1.0 (omega arith))
        (bin_leads r o _ st op s (num (expr_value env x)) (num (expr_value env y)) p.1.1 h.0 (num_fits s _ (expr_fits w sc env k.fit x s h.2)) (num_fits s _ (expr_fits w sc env k.fit y s h.3))))) (omega arith)
    expr_leads (choose c x y) t h a st p len =
        let v = num (expr_value env c) in
        let test = expr_leads c scalar.Bool h.0 a st p.0 (omega arith) in
        let b = end a (expr_code w a c) in
        let mid = end (suc b) (expr_code w (suc b) x) in
        choose_leads (is_true v) (expr_weight c + expr_weight x + expr_weight y + 4) a _ (expr_value env x) (expr_value env y) st (at o a st)
        (λ yes. wider r (expr_weight c + (1 + (expr_weight x + 1))) _ _ _
        (on r (expr_weight c) (1 + (expr_weight x + 1)) _ _ _ test
        (on r 1 (expr_weight x + 1) _ _ _ (jz_passed r o b st (suc mid) v p.1.0 yes)
        (on r (expr_weight x) 1 _ _ _ (expr_leads x t h.1 (suc b) st p.1.1.0 (omega arith))
        (jmp r o mid (num (expr_value env x) ∷ st) _ p.1.1.1.0)))) (omega arith))
        (λ no'. wider r (expr_weight c + (1 + expr_weight y)) _ _ _
        (on r (expr_weight c) (1 + expr_weight y) _ _ _ test
        (on r 1 (expr_weight y) _ _ _ (jz_taken r o b st (suc mid) v p.1.0 no')
        (expr_leads y t h.2 (suc mid) st p.1.1.1.1 (omega arith)))) (omega arith))
    expr_leads (cast s x) t h a st p len =
        wider r (expr_weight x + 1) (expr_weight x + 2) _ _
        (on r (expr_weight x) 1 _ _ _ (expr_leads x h.3.0 h.3.2 a st p.0 len)
        (cast_leads r o _ st s (num (expr_value env x)) p.1)) (omega arith)

    pub read_leads : (q : Place) (t : Scalar) → HasShape w.scope sc q (one t) → (a : ℕ) (st : List ℤ) → Stands r.task.code a (read_code w a q) → length st + need_place q ≤ 64
        → Leads r (place_weight q + 4) (at o a st) (at o (end a (read_code w a q)) (num (place_value env q) ∷ st))
    read_leads (place x ss) t h a st p len =
        let s = root_shape w.scope x in
        let found = scalar_word x ss t h in
        let d = drift env s ss in
        let e : 0 + d ≡ d = omega arith in
        let small = k.sized.small x in
        let inside = found.0 in
        wider r (steps_weight ss + 2) _ _ _
        (on r (steps_weight ss) 2 _ _ _
        (restack r o (steps_weight ss) _ _ _ (top (moves ss) d st) (ap (λ n. top (moves ss) n st) e)
        (steps_leads ss false s (one t) 0 h.1 (k.sized.proper x) a st (λ z. refl) p.0 (omega arith) (omega (arith, small))))
        (word_leads r o (moves ss) (plus (root_base w x) (fixed_offset s ss)) d (words s - fixed_offset s ss) _ st (num (place_value env (place x ss)))
        (λ z. not_moved env ss s z)
        (omega (arith, inside))
        (plus_reads o (root_base w x) (fixed_offset s ss) d _ (subst (λ v. Reads o (root_base w x) (fixed_offset s ss + d) v) found.1 (root_reads x h.0 (fixed_offset s ss + d) found.0)))
        p.1 (omega arith)))
        (omega arith)

    pub steps_leads : (ss : Steps) (started : Bool) (s t : Shape) (m : ℕ) → Path w.scope sc s ss t → IsProper s → (a : ℕ) (st : List ℤ) → (started ≡ false → m ≡ 0) → Stands r.task.code a (steps_code w a started s ss) → length st + need_steps started ss ≤ 64 → m + words s < 2 ^ 64
        → Leads r (steps_weight ss) (at o a (top started m st)) (at o (end a (steps_code w a started s ss)) (top (started || moves ss) (m + drift env s ss) st))
    steps_leads no_steps started s t m h proper a st z p len lim =
        restack r o 0 _ a (top started m st) (top (started || false) (m + 0) st) (let e : m ≡ m + 0 = omega arith in ap (λ n. top started n st) e ∙ ap (λ g. top g (m + 0) st) (sym (or_false started))) (stay r _)
    steps_leads (field j ss) started (one s) t m h proper a st z p len lim = absurd h
    steps_leads (field j ss) started (many n s) t m h proper a st z p len lim = absurd h
    steps_leads (field j ss) started (all us) t m h proper a st z p len lim =
        let inside = nth_within us j h.0 in
        wider r (steps_weight ss) _ _ _ (steps_leads ss started (nth_shape us j) t m h.1 (nth_proper us j proper) a st z p len (omega (arith, inside, lim))) (omega arith)
    steps_leads (at_index e ss) started (one s) t m h proper a st z p len lim = absurd h
    steps_leads (at_index e ss) started (all us) t m h proper a st z p len lim = absurd h
    steps_leads (at_index e ss) started (many n s) t m h proper a st z p len lim =
        let g = given_index e in
        let i = index_in env e in
        let is = index_is n (expr_value env e) (expr_fits w sc env k.fit e (scalar.Ix n) h.0) in
        let is_below = is.1 in
        let few = proper.1 in
        let some = need_some e in
        let tops = top_length started m st in
        let below : suc i * words s ≤ n * words s = mul-le-mul_right (words s) is.1 in
        let fine : i * words s + words s ≤ n * words s = omega (arith, below) in
        let first = index_leads r o g started (expr_code w a e) m i (words s) (expr_weight e) a st z p.0
        (λ st'. restack r o (expr_weight e) _ _ (num (expr_value env e) ∷ top started m st) (pos i ∷ top started m st) (ap (λ v. v ∷ top started m st) is.0) (expr_leads e (scalar.Ix n) h.0 a (top started m st) st' (omega (arith, tops))))
        (omega (arith, is_below, few)) (omega (arith, fine, lim)) (omega (arith, fine, lim)) (omega (arith, some)) in
        let less = unless_le g (i * words s) in
        let rest = steps_leads ss (is_moving g || started) s t (m + unless_given g (i * words s)) h.1 proper.2 _ st (still_zero g started m (i * words s) z) p.1 (omega arith) (omega (arith, less, fine, lim)) in
        let ends : m + unless_given g (i * words s) + drift env s ss ≡ m + drift env (many n s) (at_index e ss) = omega arith in
        wider r (expr_weight e + 3 + steps_weight ss) _ _ _
        (restack r o _ _ _ _ _ (ap (λ x. top ((is_moving g || started) || moves ss) x st) ends ∙ ap (λ x. top x (m + drift env (many n s) (at_index e ss)) st) (or_moved (is_moving g) started (moves ss)))
        (on r (expr_weight e + 3) (steps_weight ss) _ _ _ first rest)) (omega arith)
