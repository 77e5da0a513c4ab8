-- Storing into a place.
use Rattle.std.proofs.Common.{◌≡◌, ℕ, ◌+◌, ◌<◌, ◌≤◌, ℤ, pos, List, [], ◌∷◌, length, refl, ap, sym, ◌∙◌, subst, arith, Bool, true, false, Some, slice_set}
use Rattle.tower_types.specs.Ty.{Shape, all, shapes_of, words}
use Rattle.tower_types.specs.Value.{Value, flat}
use Rattle.tower_syntax.specs.declared.body.Root.{Root}
use Rattle.tower_syntax.specs.declared.body.Root.TheVariants as root
use Rattle.tower_syntax.specs.Tree.{place, Steps}
use Rattle.tower_syntax.specs.Weights.{root_shape, shape_at, steps_weight}
use Rattle.tower_syntax.specs.Typed.{Names, HasShape, IsWritable}
use Rattle.tower_meaning.specs.Body.{Environment, with_place, path_of, part_at, with_part_at}
use Rattle.task_code.specs.Own.{Own}
use Rattle.task_code.specs.Piece.{end, Stands}
use Rattle.stmt_code.specs.Layout.{Layout, binder_at, root_base, words_before, fixed_offset, moves, Base, private, monitor, plus}
use Rattle.stmt_code.specs.Body.{before_value, behind_value, index_code}
use Rattle.stmt_code.proofs.Named.{named}
use Rattle.stmt_code.proofs.Needs.{need_steps}
use Rattle.stmt_code.proofs.Flats.{Fits, total, shape_along, flat_length, get_fits, cut}
use Rattle.stmt_code.proofs.Fitted.{path_along, path_ends, root_fits}
use Rattle.stmt_code.proofs.OneStep.{Context, Leads, at, stay, wider, push, store, stx, stm}
use Rattle.stmt_code.proofs.ExprsRun.{cut_within, drift, fixed_and_drift, not_moved, state_within, top, restack}
use Rattle.stmt_code.proofs.ReadsRun.{steps_leads}
use Rattle.stmt_code.proofs.Stored.{Wrote, wrote_one}
use Rattle.stmt_code.proofs.Ready.{Laid, Ready, Kept, known, part_ready, state_ready, wrote_kept}

-- u is o with the words xs at this base and offset, where hw are the words that o holds
abbrev pub WroteAt : Own → List ℤ → Base → ℕ → List ℤ → Own → Type 0
WroteAt o hw (private a) d xs u = (ws : List ℤ) × (u ≡ record o { words = ws }) × Wrote o.words (a + d) xs ws
WroteAt o hw (monitor m a) d xs u = (ws : List ℤ) × (u ≡ record o { held = Some (record { monitor = m; words = ws }) }) × Wrote hw (a + d) xs ws

abbrev pub Holder : Base → List ℤ → Own → Type 0
Holder (private a) hw o = Unit {0}
Holder (monitor m a) hw o = o.held ≡ Some (record { monitor = m; words = hw })

abbrev pub HasRoom : Base → ℕ → List ℤ → Own → Type 0
HasRoom (private a) d hw o = a + d < length o.words
HasRoom (monitor m a) d hw o = a + d < length hw

abbrev pub slot_top : Bool → Base → ℕ → List ℤ → List ℤ
slot_top true b d st = pos d ∷ st
slot_top false (private a) d st = st
slot_top false (monitor m a) d st = pos 0 ∷ st

module _ (r : Context) (o : Own) where
  pub first_leads : (g : Bool) (b : Base) (d a : ℕ) (st : List ℤ) → Stands r.task.code a (before_value g b) → length st + 1 ≤ 64 → Leads r 1 (at o a (top g d st)) (at o (end a (before_value g b)) (slot_top g b d st))
  first_leads true b d a st p len = wider r 0 1 _ _ (stay r _) (omega arith)
  first_leads false (private x) d a st p len = wider r 0 1 _ _ (stay r _) (omega arith)
  first_leads false (monitor m x) d a st p len = push r o a st (pos 0) p (omega arith)

  pub record Last (g : Bool) (b : Base) (d n a : ℕ) (st : List ℤ) (v : ℤ) (hw : List ℤ) : Type 0 where
    pub own : Own
    pub leads : Leads r 1 (at o a (v ∷ slot_top g b d st)) (at own (end a (behind_value g b n)) st)
    pub wrote : WroteAt o hw b d (v ∷ []) own

  pub last_leads : (g : Bool) (b : Base) (d n a : ℕ) (st : List ℤ) (v : ℤ) (hw : List ℤ) → (g ≡ false → d ≡ 0) → d < n → Holder b hw o → HasRoom b d hw o → Stands r.task.code a (behind_value g b n) → Last g b d n a st v hw
  last_leads true (private x) d n a st v hw z lt h len p =
      record { own = record o { words = slice_set o.words (x + d) v }; leads = stx r o a st x n d v p lt; wrote = (_, refl, wrote_one o.words (x + d) v len) }
  last_leads true (monitor m x) d n a st v hw z lt h len p =
      record { own = record o { held = Some (record { monitor = m; words = slice_set hw (x + d) v }) }; leads = stm r o a st m x n d v hw p h lt; wrote = (_, refl, wrote_one hw (x + d) v len) }
  last_leads false (private x) d n a st v hw z lt h len p =
      let e : x ≡ x + d = omega (arith, z refl) in
      record { own = record o { words = slice_set o.words x v }; leads = store r o a st x v p; wrote = (_, refl, subst (λ j. Wrote o.words j (v ∷ []) (slice_set o.words x v)) e (wrote_one o.words x v (omega (arith, len)))) }
  last_leads false (monitor m x) d n a st v hw z lt h len p =
      let e : x + 0 ≡ x + d = omega (arith, z refl) in
      record { own = record o { held = Some (record { monitor = m; words = slice_set hw (x + 0) v }) }; leads = stm r o a st m x 1 0 v hw p h (omega arith); wrote = (_, refl, subst (λ j. Wrote hw j (v ∷ []) (slice_set hw (x + 0) v)) e (wrote_one hw (x + 0) v (omega (arith, len)))) }

module _ (w : Layout) (lo hi : ℕ) (laid : Laid w lo hi) (sc : Names) (env : Environment) (r : Context) (o : Own) (k : Ready w hi sc env o) where
  -- the moving part of a place's offset, on the stack
  pub place_leads : (x : Root) (ss : Steps) (t : Shape) → HasShape w.scope sc (place x ss) t → (a : ℕ) (st : List ℤ) → Stands r.task.code a (index_code w a (place x ss)) → length st + need_steps false ss ≤ 64
      → Leads r (steps_weight ss) (at o a st) (at o (end a (index_code w a (place x ss))) (top (moves ss) (drift env (root_shape w.scope x) ss) st))
  place_leads x ss t h a st p len =
      let s = root_shape w.scope x in
      let e : 0 + drift env s ss ≡ drift env s ss = omega arith in
      let small = laid.sized.small x in
      restack r o (steps_weight ss) _ _ _ (top (moves ss) (drift env s ss) st) (ap (λ n. top (moves ss) n st) e)
      (steps_leads w sc env r o (known w lo hi laid sc env o k) ss false s t 0 h.1 (laid.sized.proper x) a st (λ z. refl) p len (omega arith))

  pub still : (x : Root) (ss : Steps) → moves ss ≡ false → drift env (root_shape w.scope x) ss ≡ 0
  still x ss z = not_moved env ss (root_shape w.scope x) z

  -- a place lies within its root
  pub place_within : (x : Root) (ss : Steps) (t : Shape) → HasShape w.scope sc (place x ss) t → fixed_offset (root_shape w.scope x) ss + drift env (root_shape w.scope x) ss + words t ≤ words (root_shape w.scope x)
  place_within x ss t h =
      let s = root_shape w.scope x in
      let v = named x env in
      let path = path_of env ss in
      let fv = root_fits w sc env k.fit x h.0 in
      let along = path_along w sc env k.fit ss s t h.1 in
      let c = cut path s v fv along in
      let len : length (flat (part_at path v)) ≡ words t = flat_length (shape_along s path) (part_at path v) (get_fits path s v fv along) ∙ ap words (path_ends w sc env k.fit ss s t h.1) in
      let q1 = fixed_and_drift w sc env ss s t h.1 in let q2 = cut_within (flat v) (flat (part_at path v)) (λ u. flat (with_part_at path u v)) (total s path) c in let q3 = flat_length s v fv in omega (arith, q1, q2, q3, len)

  pub holder : (x : Root) (c : ℕ) → Holder (plus (root_base w x) c) (flat env.states) o
  holder root.Param c = tt
  holder (root.Binder b) c = tt
  holder (root.State j) c = k.shows.held

  -- each of a place's words has room
  pub has_room : (x : Root) (ss : Steps) (t : Shape) → HasShape w.scope sc (place x ss) t → IsWritable sc (place x ss) → (j : ℕ) → j < words t → HasRoom (plus (root_base w x) (fixed_offset (root_shape w.scope x) ss)) (drift env (root_shape w.scope x) ss + j) (flat env.states) o
  has_room root.Param ss t h wr j lt = absurd wr
  has_room (root.Binder b) ss t h wr j lt = let q1 = place_within (root.Binder b) ss t h in let q2 = laid.before_temps b h.0.0 in let q3 = laid.high in let q4 = k.room in omega (arith, q1, q2, q3, q4, lt)
  has_room (root.State n) ss t h wr j lt = let q1 = place_within (root.State n) ss t h in let q2 = state_within w.scope.states n h.0 in let q3 = flat_length (all (shapes_of w.scope.states)) env.states k.fit.states in omega (arith, q1, q2, q3, lt)

  pub record Stored (env' : Environment) (u : Own) : Type 0 where
    pub ready : Ready w hi sc env' u
    pub kept : Kept lo hi o u
    pub buffers : u.buffers ≡ o.buffers

  pub stored_ready : (x : Root) (ss : Steps) (t : Shape) → HasShape w.scope sc (place x ss) t → IsWritable sc (place x ss) → (u : Value) → Fits t u → (o' : Own) → WroteAt o (flat env.states) (plus (root_base w x) (fixed_offset (root_shape w.scope x) ss)) (drift env (root_shape w.scope x) ss) (flat u) o' → Stored (with_place (place x ss) u env) o'
  stored_ready root.Param ss t h wr u f o' at' = absurd wr
  stored_ready (root.Binder b) ss t h wr u f o' at' =
      let s = shape_at w.scope.binders b in
      let path = path_of env ss in
      let sum = fixed_and_drift w sc env ss s t h.1 in
      let e : binder_at w b + fixed_offset s ss + drift env s ss ≡ binder_at w b + total s path = omega (arith, sum) in
      let wrote = subst (λ n. Wrote o.words n (flat u) at'.0) e at'.2 in
      let fu = subst (λ z. Fits z u) (sym (path_ends w sc env k.fit ss s t h.1)) f in
      let ready = part_ready w lo hi laid sc env o b path u at'.0 k h.0.0 h.0.1 (path_along w sc env k.fit ss s t h.1) fu wrote in
      let kept = wrote_kept w lo hi laid o _ (flat u) at'.0 at'.2 (let q1 = laid.low in let q2 = laid.behind_param b h.0.0 in omega (arith, q1, q2)) (let q1 = flat_length t u f in let q2 = place_within (root.Binder b) ss t h in let q3 = laid.before_temps b h.0.0 in let q4 = laid.high in omega (arith, q1, q2, q3, q4)) in
      subst (λ z. Stored (with_place (place (root.Binder b) ss) u env) z) (sym at'.1) (record { ready = ready; kept = kept; buffers = refl })
  stored_ready (root.State j) ss t h wr u f o' at' =
      let s = shape_at w.scope.states j in
      let path = path_of env ss in
      let sum = fixed_and_drift w sc env ss s t h.1 in
      let e : words_before w.scope.states j + fixed_offset s ss + drift env s ss ≡ words_before w.scope.states j + total s path = omega (arith, sum) in
      let wrote = subst (λ n. Wrote (flat env.states) n (flat u) at'.0) e at'.2 in
      let fu = subst (λ z. Fits z u) (sym (path_ends w sc env k.fit ss s t h.1)) f in
      let ready = state_ready w lo hi laid sc env o j path u at'.0 k h.0 (path_along w sc env k.fit ss s t h.1) fu wrote in
      subst (λ z. Stored (with_place (place (root.State j) ss) u env) z) (sym at'.1) (record { ready = ready; kept = record { calls = refl; size = refl; words = λ a h. refl }; buffers = refl })
