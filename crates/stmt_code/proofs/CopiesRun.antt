-- Copying a place to a place.
use Rattle.std.proofs.Common.{◌≡◌, ◌≢◌, ℕ, suc, ◌+◌, ◌-◌, ◌*◌, ◌<◌, ◌≤◌, ℤ, pos, List, [], ◌∷◌, length, refl, ap, sym, ◌∙◌, subst, arith, Bool, true, false, slice_set, ◌⊎◌, inl, inr, get_or-set_same, get_or-set_other}
use Rattle.std.specs.Prelude.{max}
use Rattle.std.proofs.lemmas.Bool.{cases_eq}
use Rattle.tower_types.specs.Ty.{Shape, one, many, all, shapes_of, words}
use Rattle.tower_types.specs.Value.{Value, flat}
use Rattle.tower_syntax.specs.declared.body.Root.{Root}
use Rattle.tower_syntax.specs.declared.body.Root.TheVariants as root
use Rattle.tower_syntax.specs.Tree.{place, Steps, no_steps, field, at as at_index, copy}
use Rattle.tower_syntax.specs.Weights.{root_shape, nth_shape, shape_at, steps_shape, place_shape, executed, steps_weight, stmt_weight}
use Rattle.tower_syntax.specs.Typed.{Names, HasShape, IsWritable, IsTypedStmt, Leads as Path}
use Rattle.tower_meaning.specs.Body.{Environment, Execution, path_of, part_at, with_part_at, place_value, with_place, after_stmt}
use Rattle.tower_meaning.proofs.Fitting.{count_of_list, nth_of_list}
use Rattle.task_code.specs.Own.{Own}
use Rattle.task_code.specs.Does.{word_at}
use Rattle.task_code.specs.Piece.{◌▸◌, end, Stands}
use Rattle.stmt_code.specs.Layout.{Layout, binder_at, root_base, words_before, fixed_offset, moves, private, plus}
use Rattle.stmt_code.specs.Body.{kept, index_code, words_copied, stmt_code}
use Rattle.stmt_code.proofs.Named.{named}
use Rattle.stmt_code.proofs.Needs.{need_steps}
use Rattle.stmt_code.proofs.Flats.{Along, total, shape_along, flat_length, fields_of_list, get_fits, cut}
use Rattle.stmt_code.proofs.Fitted.{path_along, path_ends, root_fits, place_fits}
use Rattle.stmt_code.proofs.OneStep.{Context, Leads, at, stay, wider, on, store}
use Rattle.stmt_code.proofs.ExprsRun.{word_cut, drift, fixed_and_drift, top, Reads, plus_reads}
use Rattle.stmt_code.proofs.ReadsRun.{root_reads}
use Rattle.stmt_code.proofs.Stored.{wrote_one}
use Rattle.stmt_code.proofs.Ready.{Laid, Ready, Kept, kept_same, kept_on, known, temp_ready, wrote_kept, binders_apart}
use Rattle.stmt_code.proofs.PlacesRun.{WroteAt, HasRoom, place_leads, still, place_within, holder, has_room, stored_ready}
use Rattle.stmt_code.proofs.Apart.{Relation, paths_apart}
use Rattle.stmt_code.proofs.MovesRun.{Index, Differ, Moves, source, moved_leads}
use Rattle.stmt_code.proofs.Ran.{Fill, Ran, plain}

pub path_shape : (w : Layout) (sc : Names) (ss : Steps) (s t : Shape) → Path w.scope sc s ss t → steps_shape s ss ≡ t
path_shape w sc no_steps s t h = h
path_shape w sc (field k ss) (one s) t h = absurd h
path_shape w sc (field k ss) (many n s) t h = absurd h
path_shape w sc (field k ss) (all us) t h = path_shape w sc ss (nth_shape us k) t h.1
path_shape w sc (at_index e ss) (one s) t h = absurd h
path_shape w sc (at_index e ss) (many n s) t h = path_shape w sc ss s t h.1
path_shape w sc (at_index e ss) (all us) t h = absurd h

module _ (w : Layout) (lo hi : ℕ) (laid : Laid w lo hi) (sc : Names) (env : Environment) (r : Context) (o : Own) (k : Ready w hi sc env o) where
  -- the words of a place's value
  pub place_reads : (x : Root) (ss : Steps) (t : Shape) → HasShape w.scope sc (place x ss) t → (i : ℕ) → i < words t → Reads o (plus (root_base w x) (fixed_offset (root_shape w.scope x) ss)) (drift env (root_shape w.scope x) ss + i) (word_at (flat (place_value env (place x ss))) i)
  place_reads x ss t h i lt =
      let s = root_shape w.scope x in
      let v = named x env in
      let path = path_of env ss in
      let fv = root_fits w sc env k.fit x h.0 in
      let along = path_along w sc env k.fit ss s t h.1 in
      let c = cut path s v fv along in
      let len : length (flat (part_at path v)) ≡ words t = flat_length (shape_along s path) (part_at path v) (get_fits path s v fv along) ∙ ap words (path_ends w sc env k.fit ss s t h.1) in
      let e : total s path + i ≡ fixed_offset s ss + (drift env s ss + i) = omega (arith, fixed_and_drift w sc env ss s t h.1) in
      let here = word_cut (flat v) (flat (part_at path v)) (λ u. flat (with_part_at path u v)) (total s path) i c (omega (arith, len)) in
      let inside = place_within w lo hi laid sc env r o k x ss t h in
      let at_v = root_reads w sc env r o (known w lo hi laid sc env o k) x h.0 (fixed_offset s ss + (drift env s ss + i)) (omega (arith, inside)) in
      plus_reads o (root_base w x) (fixed_offset s ss) (drift env s ss + i) _ (subst (λ z. Reads o (root_base w x) (fixed_offset s ss + (drift env s ss + i)) z) (ap (word_at (flat v)) (sym e) ∙ here) at_v)

  pub record Saved (g : Bool) (t d a : ℕ) (st : List ℤ) : Type 0 where
    pub own : Own
    pub leads : Leads r 1 (at o a (top g d st)) (at own (end a (kept g t)) st)
    pub ready : Ready w hi sc env own
    pub kept : Kept lo hi o own
    pub buffers : own.buffers ≡ o.buffers
    pub there : Index own g t d
    pub others : (j : ℕ) → j ≢ t → word_at own.words j ≡ word_at o.words j

  pub saved_leads : (g : Bool) (t d a : ℕ) (st : List ℤ) → w.temps ≤ t → t < w.temps + 2 → Stands r.task.code a (kept g t) → Saved g t d a st
  saved_leads false t d a st l m p = record { own = o; leads = wider r 0 1 _ _ (stay r _) (omega arith); ready = k; kept = kept_same lo hi o; buffers = refl; there = λ e. absurd (cc e); others = λ j ne. refl }
  saved_leads true t d a st l m p =
      let there : t < length o.words = omega (arith, laid.high, k.room) in
      let wr = wrote_one o.words t (pos d) there in
      record {
        own = record o { words = slice_set o.words t (pos d) };
        leads = store r o a st t (pos d) p;
        ready = temp_ready w lo hi laid sc env o t (pos d ∷ []) _ k wr l;
        kept = wrote_kept w lo hi laid o t (pos d ∷ []) _ wr (omega (arith, laid.low, laid.param_temps)) (omega (arith, laid.high));
        buffers = refl;
        there = λ e. get_or-set_same o.words t (pos d) (pos 0) there;
        others = λ j ne. get_or-set_other o.words t j (pos d) (pos 0) ne;
      }

  one_shape : (s t : Shape) (ks ls : List ℕ) → Along s ks → Along s ls → shape_along s ks ≡ t → shape_along s ls ≡ t → Relation (total s ks) (total s ls) (words t)
  one_shape s t ks ls a b e f = subst (λ u. Relation (total s ks) (total s ls) (words u)) e (paths_apart ks ls s a b (e ∙ sym f))

  related : (m n c x y i j : ℕ) → Relation m n c → i < j → j < c → y + n + j ≡ x + m + i → x ≡ y → ⊥
  related m n c x y i j rel lt le e xy = pick rel.is
    where
      pick : ((m ≡ n) ⊎ (m + c ≤ n)) ⊎ (n + c ≤ m) → ⊥
      pick (inl (inl q)) = absurd (omega (arith, q, e, xy))
      pick (inl (inr q)) = absurd (omega (arith, q, e, xy))
      pick (inr q) = absurd (omega (arith, q, e, xy))

  same_binder : (b : ℕ) (ss ts : Steps) (t : Shape) → HasShape w.scope sc (place (root.Binder b) ss) t → HasShape w.scope sc (place (root.Binder b) ts) t → (i j d e : ℕ) → d ≡ drift env (shape_at w.scope.binders b) ss + i → e ≡ drift env (shape_at w.scope.binders b) ts + j → i < j → j < words t
      → binder_at w b + fixed_offset (shape_at w.scope.binders b) ts + e ≢ binder_at w b + fixed_offset (shape_at w.scope.binders b) ss + d
  same_binder b ss ts t h g i j d e de ee lt le eq =
      let s = shape_at w.scope.binders b in
      related (total s (path_of env ss)) (total s (path_of env ts)) (words t) (binder_at w b) (binder_at w b) i j
      (one_shape s t (path_of env ss) (path_of env ts) (path_along w sc env k.fit ss s t h.1) (path_along w sc env k.fit ts s t g.1) (path_ends w sc env k.fit ss s t h.1) (path_ends w sc env k.fit ts s t g.1))
      lt le (omega (arith, fixed_and_drift w sc env ss s t h.1, fixed_and_drift w sc env ts s t g.1, de, ee, eq)) refl

  state_total : (b : ℕ) (p : List ℕ) → total (all (shapes_of w.scope.states)) (b ∷ p) ≡ words_before w.scope.states b + total (shape_at w.scope.states b) p
  state_total b p = ap (λ n. n + total (nth_shape (shapes_of w.scope.states) b) p) (fields_of_list w.scope.states b) ∙ ap (λ x. words_before w.scope.states b + total x p) (nth_of_list w.scope.states b)

  state_relation : (t : Shape) (b c : ℕ) (p q : List ℕ) → Relation (total (all (shapes_of w.scope.states)) (b ∷ p)) (total (all (shapes_of w.scope.states)) (c ∷ q)) (words t)
      → Relation (words_before w.scope.states b + total (shape_at w.scope.states b) p) (words_before w.scope.states c + total (shape_at w.scope.states c) q) (words t)
  state_relation t b c p q r' = subst (λ n. Relation (words_before w.scope.states b + total (shape_at w.scope.states b) p) n (words t)) (state_total c q) (subst (λ n. Relation n (total (all (shapes_of w.scope.states)) (c ∷ q)) (words t)) (state_total b p) r')

  -- a word that is written is none that is still to be read
  clear : (x y : Root) (ss ts : Steps) (t : Shape) → HasShape w.scope sc (place x ss) t → HasShape w.scope sc (place y ts) t → IsWritable sc (place x ss) → (i j d e : ℕ) → d ≡ drift env (root_shape w.scope x) ss + i → e ≡ drift env (root_shape w.scope y) ts + j → i < j → j < words t
      → Differ (plus (root_base w x) (fixed_offset (root_shape w.scope x) ss)) d (plus (root_base w y) (fixed_offset (root_shape w.scope y) ts)) e
  clear root.Param y ss ts t h g wr i j d e de ee lt le = absurd wr
  clear (root.Binder b) root.Param ss ts t h g wr i j d e de ee lt le =
      λ eq. absurd (omega (arith, de, ee, eq, place_within w lo hi laid sc env r o k root.Param ts t g, laid.behind_param b h.0.0))
  clear (root.Binder b) (root.Binder c) ss ts t h g wr i j d e de ee lt le = λ eq. pick eq (cases_eq c b)
    where
      pick : binder_at w c + fixed_offset (shape_at w.scope.binders c) ts + e ≡ binder_at w b + fixed_offset (shape_at w.scope.binders b) ss + d → (c ≡ b) ⊎ (c ≢ b) → ⊥
      pick eq (inl q) =
          subst (λ z. HasShape w.scope sc (place (root.Binder z) ts) t → e ≡ drift env (shape_at w.scope.binders z) ts + j → binder_at w z + fixed_offset (shape_at w.scope.binders z) ts + e ≢ binder_at w b + fixed_offset (shape_at w.scope.binders b) ss + d) (sym q)
          (λ g' ee'. same_binder b ss ts t h g' i j d e de ee' lt le) g ee eq
      pick eq (inr ne) = far (binders_apart w lo hi laid b c ne h.0.0 g.0.0)
        where
          far : (binder_at w c + words (shape_at w.scope.binders c) ≤ binder_at w b) ⊎ (binder_at w b + words (shape_at w.scope.binders b) ≤ binder_at w c) → ⊥
          far (inl q) = absurd (omega (arith, q, de, ee, eq, place_within w lo hi laid sc env r o k (root.Binder c) ts t g))
          far (inr q) = absurd (omega (arith, q, de, ee, eq, place_within w lo hi laid sc env r o k (root.Binder b) ss t h))
  clear (root.Binder b) (root.State c) ss ts t h g wr i j d e de ee lt le = tt
  clear (root.State b) root.Param ss ts t h g wr i j d e de ee lt le = tt
  clear (root.State b) (root.Binder c) ss ts t h g wr i j d e de ee lt le = tt
  clear (root.State b) (root.State c) ss ts t h g wr i j d e de ee lt le =
      λ eq. let s = shape_at w.scope.states b in
      let s' = shape_at w.scope.states c in
      let p = path_of env ss in
      let q = path_of env ts in
      let same = nth_of_list w.scope.states b in
      let same' = nth_of_list w.scope.states c in
      let rel : Relation (words_before w.scope.states b + total s p) (words_before w.scope.states c + total s' q) (words t) =
      state_relation t b c p q (one_shape (all (shapes_of w.scope.states)) t (b ∷ p) (c ∷ q)
      (omega (arith, h.0, count_of_list w.scope.states), subst (λ x. Along x p) (sym same) (path_along w sc env k.fit ss s t h.1))
      (omega (arith, g.0, count_of_list w.scope.states), subst (λ x. Along x q) (sym same') (path_along w sc env k.fit ts s' t g.1))
      (ap (λ x. shape_along x p) same ∙ path_ends w sc env k.fit ss s t h.1) (ap (λ x. shape_along x q) same' ∙ path_ends w sc env k.fit ts s' t g.1)) in
      let q1 = fixed_and_drift w sc env ss s t h.1 in
      let q2 = fixed_and_drift w sc env ts s' t g.1 in
      related (words_before w.scope.states b + total s p) (words_before w.scope.states c + total s' q) (words t) 0 0 i j rel
      lt le (omega (arith, q1, q2, de, ee, eq)) refl

  -- nor a temporary word
  temp_apart : (x : Root) (ss : Steps) (t : Shape) → HasShape w.scope sc (place x ss) t → IsWritable sc (place x ss) → (i d u : ℕ) → d ≡ drift env (root_shape w.scope x) ss + i → i < words t → w.temps ≤ u → Differ (plus (root_base w x) (fixed_offset (root_shape w.scope x) ss)) d (private u) 0
  temp_apart root.Param ss t h wr i d u de lt le = absurd wr
  temp_apart (root.Binder b) ss t h wr i d u de lt le = λ eq. absurd (omega (arith, de, eq, place_within w lo hi laid sc env r o k (root.Binder b) ss t h, laid.before_temps b h.0.0))
  temp_apart (root.State b) ss t h wr i d u de lt le = tt

module _ (w : Layout) (lo hi : ℕ) (laid : Laid w lo hi) (r : Context) (zeros : List Value) where
  pub copy_runs : (x y : Root) (ss ts : Steps) (sc : Names) (run : Execution) (o : Own) (a : ℕ) (st : List ℤ) → IsTypedStmt w.scope sc (copy (place x ss) (place y ts)) → Ready w hi sc run.env o → Fill w r run.lists o.buffers → Stands r.task.code a (stmt_code w a (copy (place x ss) (place y ts))) → length st + (max (need_steps false ss) (need_steps false ts) + 4) ≤ 64
      → Ran w lo hi r o (stmt_weight executed w.scope (copy (place x ss) (place y ts))) a (end a (stmt_code w a (copy (place x ss) (place y ts)))) st sc run.lists (after_stmt zeros (copy (place x ss) (place y ts)) run) (λ k. 0)
  copy_runs x y ss ts sc run o a st f rd fl p len =
      let env = run.env in
      let t = f.1.0 in
      let h = f.1.1 in
      let g = f.1.2 in
      let sx = root_shape w.scope x in
      let sy = root_shape w.scope y in
      let d = drift env sx ss in
      let e = drift env sy ts in
      let b = plus (root_base w x) (fixed_offset sx ss) in
      let c = plus (root_base w y) (fixed_offset sy ts) in
      let u = place_value env (place y ts) in
      let xs = flat u in
      let hw = flat env.states in
      let fu = place_fits w sc env rd.fit (place y ts) t g in
      let lu : length xs ≡ words t = flat_length t u fu in
      let count' : length xs ≡ words (place_shape w.scope (place x ss)) = lu ∙ ap words (sym (path_shape w sc ss sx t h.1)) in
      let index1 = place_leads w lo hi laid sc env r o rd x ss t h a st p.0.0 (omega arith) in
      let s1 = saved_leads w lo hi laid sc env r o rd (moves ss) w.temps d _ st (omega arith) (omega arith) p.0.1 in
      let index2 = place_leads w lo hi laid sc env r s1.own s1.ready y ts t g _ st p.1.0.0 (omega arith) in
      let s2 = saved_leads w lo hi laid sc env r s1.own s1.ready (moves ts) (suc w.temps) e _ st (omega arith) (omega arith) p.1.0.1 in
      let o2 = s2.own in
      let rd2 = s2.ready in
      let z0 : d + 0 ≡ d = omega arith in
      let first_index : Index o2 (moves ss) w.temps d = λ q. s2.others w.temps (λ z. absurd (omega (arith, z))) ∙ s1.there q in
      let a2 : ℕ = end (end a (index_code w a (place x ss) ▸ kept (moves ss) w.temps)) (index_code w (end a (index_code w a (place x ss) ▸ kept (moves ss) w.temps)) (place y ts) ▸ kept (moves ts) (suc w.temps)) in
      let px = place_within w lo hi laid sc env r o2 rd2 x ss t h in
      let py = place_within w lo hi laid sc env r o2 rd2 y ts t g in
      let move = moved_leads r (moves ss) b (words sx - fixed_offset sx ss) w.temps d (moves ts) c (words sy - fixed_offset sy ts) (suc w.temps) e
      (still w lo hi laid sc env r o2 rd2 x ss) (still w lo hi laid sc env r o2 rd2 y ts)
      xs o2 hw 0 a2 st first_index s2.there (holder w lo hi laid sc env r o2 rd2 x (fixed_offset sx ss))
      (λ i lt. let z : e + i ≡ e + 0 + i = omega arith in subst (λ n. Reads o2 c n (word_at xs i)) z (place_reads w lo hi laid sc env r o2 rd2 y ts t g i (omega (arith, lu))))
      (λ i lt. let z : d + i ≡ d + 0 + i = omega arith in subst (λ n. HasRoom b n hw o2) z (has_room w lo hi laid sc env r o2 rd2 x ss t h f.0 i (omega (arith, lu))))
      (λ i j lt lj. clear w lo hi laid sc env r o2 rd2 x y ss ts t h g f.0 i j (d + 0 + i) (e + 0 + j) (omega arith) (omega arith) lt (omega (arith, lu)))
      (λ i lt. (temp_apart w lo hi laid sc env r o2 rd2 x ss t h f.0 i (d + 0 + i) w.temps (omega arith) (omega (arith, lu)) (omega arith), temp_apart w lo hi laid sc env r o2 rd2 x ss t h f.0 i (d + 0 + i) (suc w.temps) (omega arith) (omega (arith, lu)) (omega arith)))
      (omega (arith, lu, px)) (omega (arith, lu, py)) in
      let all_moved = subst (λ n. Stands r.task.code a2 (words_copied (source (moves ss) b (words sx - fixed_offset sx ss) w.temps) (source (moves ts) c (words sy - fixed_offset sy ts) (suc w.temps)) 0 n) → Moves r o2 hw b (d + 0) (6 * length xs) a2 (end a2 (words_copied (source (moves ss) b (words sx - fixed_offset sx ss) w.temps) (source (moves ts) c (words sy - fixed_offset sy ts) (suc w.temps)) 0 n)) st xs) count' (λ q. move q (omega arith)) p.1.1 in
      let done = stored_ready w lo hi laid sc env r o2 rd2 x ss t h f.0 u fu all_moved.own (subst (λ n. WroteAt o2 hw b n xs all_moved.own) z0 all_moved.wrote) in
      plain w lo hi r o all_moved.own (stmt_weight executed w.scope (copy (place x ss) (place y ts))) a _ st sc run (with_place (place x ss) u env) (λ k. 0) fl
      (wider r (steps_weight ss + 1 + (steps_weight ts + 1 + 6 * length xs)) _ _ _
      (on r (steps_weight ss + 1) (steps_weight ts + 1 + 6 * length xs) _ _ _ (on r (steps_weight ss) 1 _ _ _ index1 s1.leads)
      (on r (steps_weight ts + 1) (6 * length xs) _ _ _ (on r (steps_weight ts) 1 _ _ _ index2 s2.leads) all_moved.leads)) (omega (arith, count')))
      done.ready (kept_on lo hi o s1.own all_moved.own s1.kept (kept_on lo hi s1.own o2 all_moved.own s2.kept done.kept)) (done.buffers ∙ s2.buffers ∙ s1.buffers)
