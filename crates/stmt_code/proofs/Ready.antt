-- What a state of the task shows of an environment, and how it goes on showing it.
use Rattle.std.proofs.Common.{◌≡◌, ◌≢◌, ℕ, ◌+◌, ◌<◌, ◌≤◌, ℤ, pos, List, [], ◌∷◌, length, refl, ap, sym, ◌∙◌, subst, arith, Some, get_or-set_same, get_or-set_other, ◌⊎◌, inl, inr}
use Rattle.std.proofs.lemmas.Bool.{cases_lt, cases_eq}
use Rattle.tower_types.specs.Ty.{Shape, all, shapes_of, words}
use Rattle.tower_types.specs.Value.{Value, word, flat, part, with_part}
use Rattle.tower_syntax.specs.declared.body.Root.TheVariants as root
use Rattle.tower_syntax.specs.Weights.{shape_at}
use Rattle.tower_syntax.specs.Typed.{Names, out_of_scope, IsInScope, Use}
use Rattle.tower_meaning.specs.Body.{Environment, part_at, with_part_at, with_root}
use Rattle.tower_meaning.specs.Fitting.{IsFitting}
use Rattle.tower_meaning.proofs.Fitting.{count_of_list, nth_of_list}
use Rattle.tower_meaning.proofs.Values.{with_root_fits}
use Rattle.task_code.specs.Own.{Own}
use Rattle.task_code.specs.Does.{word_at}
use Rattle.stmt_code.specs.Layout.{Layout, binder_at, scratch_at, words_before, fields_before}
use Rattle.stmt_code.proofs.Named.{named, bound}
use Rattle.stmt_code.proofs.Flats.{Fits, Along, total, shape_along, flat_length, fields_of_list, with_same, get_fits, put_fits, cut}
use Rattle.stmt_code.proofs.ExprsRun.{Holds, Shows, Sized, Known, cut_within}
use Rattle.stmt_code.proofs.Stored.{Wrote, cut_wrote, wrote_same, wrote_in, holds_apart}

-- the words that a callback writes lie from lo to hi: those of names, two for indices, and those of messages
pub record Laid (w : Layout) (lo hi : ℕ) : Type 0 where
  pub sized : Sized w
  pub low : lo ≤ w.param + words w.scope.message
  pub apart : (b c : ℕ) → b < c → c < length w.scope.binders → binder_at w b + words (shape_at w.scope.binders b) ≤ binder_at w c
  pub behind_param : (b : ℕ) → b < length w.scope.binders → w.param + words w.scope.message ≤ binder_at w b
  pub before_temps : (b : ℕ) → b < length w.scope.binders → binder_at w b + words (shape_at w.scope.binders b) ≤ w.temps
  pub param_temps : w.param + words w.scope.message ≤ w.temps
  pub high : w.temps + 3 ≤ hi
  pub behind_temps : (k : ℕ) → k < length w.scope.emitters → w.temps + 3 ≤ scratch_at w k
  pub scratch_high : (k : ℕ) → k < length w.scope.emitters → scratch_at w k + words (shape_at w.scope.emitters k) ≤ hi

pub record Ready (w : Layout) (hi : ℕ) (sc : Names) (env : Environment) (o : Own) : Type 0 where
  pub fit : IsFitting w.scope env
  pub shows : Shows w sc env o
  pub room : hi ≤ length o.words

pub record Kept (lo hi : ℕ) (o u : Own) : Type 0 where
  pub calls : u.calls ≡ o.calls
  pub size : length u.words ≡ length o.words
  pub words : (a : ℕ) → (a < lo) ⊎ (hi ≤ a) → word_at u.words a ≡ word_at o.words a

pub kept_on : (lo hi : ℕ) (o u v : Own) → Kept lo hi o u → Kept lo hi u v → Kept lo hi o v
kept_on lo hi o u v p q = record { calls = q.calls ∙ p.calls; size = q.size ∙ p.size; words = λ a h. q.words a h ∙ p.words a h }

pub kept_same : (lo hi : ℕ) (o : Own) → Kept lo hi o o
kept_same lo hi o = record { calls = refl; size = refl; words = λ a h. refl }

pub with_words : Own → List ℤ → Own
with_words o ws = record o { words = ws }

pub not_in : (u : Use) → IsInScope u → u ≡ out_of_scope → ⊥
not_in u h e = subst IsInScope e h

module _ (w : Layout) (lo hi : ℕ) (laid : Laid w lo hi) where
  pub known : (sc : Names) (env : Environment) (o : Own) → Ready w hi sc env o → Known w sc env o
  known sc env o r = record { fit = r.fit; shows = r.shows; sized = laid.sized }

  pub wrote_kept : (o : Own) (p : ℕ) (xs ws : List ℤ) → Wrote o.words p xs ws → lo ≤ p → p + length xs ≤ hi → Kept lo hi o (record o { words = ws })
  wrote_kept o p xs ws u l h = record { calls = refl; size = u.size; words = λ a e. outside a e }
    where
      outside : (a : ℕ) → (a < lo) ⊎ (hi ≤ a) → word_at ws a ≡ word_at o.words a
      outside a (inl e) = u.front a (omega arith)
      outside a (inr e) = u.back a (omega arith)

  -- a word behind all that is bound
  pub temp_ready : (sc : Names) (env : Environment) (o : Own) (p : ℕ) (xs ws : List ℤ) → Ready w hi sc env o → Wrote o.words p xs ws → w.temps ≤ p → Ready w hi sc env (record o { words = ws })
  temp_ready sc env o p xs ws r u le =
      record {
        fit = r.fit;
        shows = record {
          message = holds_apart o.words p xs ws w.param (flat env.message) u (inl (omega (arith, flat_length w.scope.message env.message r.fit.message, laid.param_temps))) r.shows.message;
          binders = λ b lt h. let l = flat_length (shape_at w.scope.binders b) (named (root.Binder b) env) (r.fit.binders.each b lt) in let q = laid.before_temps b lt in
              holds_apart o.words p xs ws (binder_at w b) (flat (named (root.Binder b) env)) u (inl (omega (arith, l, q, le))) (r.shows.binders b lt h);
          held = r.shows.held;
        };
        room = omega (arith, r.room, u.size);
      }

  binder_value : (b c : ℕ) (u : Value) (env : Environment) → c ≢ b → named (root.Binder c) (bound b u env) ≡ named (root.Binder c) env
  binder_value b c u env ne = get_or-set_other env.binders b c u (word (pos 0)) ne

  same_value : (b : ℕ) (u : Value) (env : Environment) → b < length env.binders → named (root.Binder b) (bound b u env) ≡ u
  same_value b u env lt = get_or-set_same env.binders b u (word (pos 0)) lt

  pub binders_apart : (b c : ℕ) → c ≢ b → b < length w.scope.binders → c < length w.scope.binders → (binder_at w c + words (shape_at w.scope.binders c) ≤ binder_at w b) ⊎ (binder_at w b + words (shape_at w.scope.binders b) ≤ binder_at w c)
  binders_apart b c ne lb lc = pick (cases_lt c b)
    where
      pick : (c < b) ⊎ (b ≤ c) → (binder_at w c + words (shape_at w.scope.binders c) ≤ binder_at w b) ⊎ (binder_at w b + words (shape_at w.scope.binders b) ≤ binder_at w c)
      pick (inl l) = inl (laid.apart c b l lb)
      pick (inr g) = inr (laid.apart b c (omega (arith, ne)) lc)

  -- a name that is bound, or bound again
  pub bound_ready : (sc sc' : Names) (env : Environment) (o : Own) (b : ℕ) (u : Value) (ws : List ℤ) → Ready w hi sc env o → b < length w.scope.binders → Fits (shape_at w.scope.binders b) u → Wrote o.words (binder_at w b) (flat u) ws
      → ((c : ℕ) → IsInScope (sc' c) → c ≢ b → IsInScope (sc c)) → Ready w hi sc' (bound b u env) (record o { words = ws })
  bound_ready sc sc' env o b u ws r lb f wr old =
      record {
        fit = with_root_fits w.scope env (root.Binder b) u r.fit f;
        shows = record {
          message = let l = flat_length w.scope.message env.message r.fit.message in let q = laid.behind_param b lb in
              holds_apart o.words (binder_at w b) (flat u) ws w.param (flat env.message) wr (inl (omega (arith, l, q))) r.shows.message;
          binders = λ c lt h. holds c lt h (cases_eq c b);
          held = r.shows.held;
        };
        room = let s = wr.size in omega (arith, r.room, s);
      }
    where
      lt : b < length env.binders
      lt = omega (arith, r.fit.binders.count, lb)

      clear : (c : ℕ) → c < length w.scope.binders → (binder_at w c + words (shape_at w.scope.binders c) ≤ binder_at w b) ⊎ (binder_at w b + words (shape_at w.scope.binders b) ≤ binder_at w c) → (binder_at w c + length (flat (named (root.Binder c) env)) ≤ binder_at w b) ⊎ (binder_at w b + length (flat u) ≤ binder_at w c)
      clear c s (inl l) = let q = flat_length (shape_at w.scope.binders c) (named (root.Binder c) env) (r.fit.binders.each c s) in inl (omega (arith, l, q))
      clear c s (inr g) = let q = flat_length (shape_at w.scope.binders b) u f in inr (omega (arith, g, q))

      holds : (c : ℕ) → c < length w.scope.binders → IsInScope (sc' c) → (c ≡ b) ⊎ (c ≢ b) → Holds ws (binder_at w c) (flat (named (root.Binder c) (bound b u env)))
      holds c lc h (inl e) = subst (λ x. Holds ws (binder_at w x) (flat (named (root.Binder x) (bound b u env)))) (sym e) (subst (λ x. Holds ws (binder_at w b) (flat x)) (sym (same_value b u env lt)) wr.inside)
      holds c lc h (inr ne) =
          subst (λ x. Holds ws (binder_at w c) (flat x)) (sym (binder_value b c u env ne))
          (holds_apart o.words (binder_at w b) (flat u) ws (binder_at w c) (flat (named (root.Binder c) env)) wr (clear c lc (binders_apart b c ne lb lc)) (r.shows.binders c lc (old c h ne)))

  -- the words of a name that is not in scope
  pub free_ready : (sc : Names) (env : Environment) (o : Own) (b : ℕ) (xs ws : List ℤ) → Ready w hi sc env o → b < length w.scope.binders → sc b ≡ out_of_scope → length xs ≤ words (shape_at w.scope.binders b) → Wrote o.words (binder_at w b) xs ws → Ready w hi sc env (record o { words = ws })
  free_ready sc env o b xs ws r lb out le wr =
      record {
        fit = r.fit;
        shows = record {
          message = let l = flat_length w.scope.message env.message r.fit.message in let q = laid.behind_param b lb in
              holds_apart o.words (binder_at w b) xs ws w.param (flat env.message) wr (inl (omega (arith, l, q))) r.shows.message;
          binders = λ c lc h. holds_apart o.words (binder_at w b) xs ws (binder_at w c) (flat (named (root.Binder c) env)) wr (clear c lc (binders_apart b c (differ c h) lb lc)) (r.shows.binders c lc h);
          held = r.shows.held;
        };
        room = let s = wr.size in omega (arith, r.room, s);
      }
    where
      differ : (c : ℕ) → IsInScope (sc c) → c ≢ b
      differ c h e = not_in (sc c) h (ap sc e ∙ out)

      clear : (c : ℕ) → c < length w.scope.binders → (binder_at w c + words (shape_at w.scope.binders c) ≤ binder_at w b) ⊎ (binder_at w b + words (shape_at w.scope.binders b) ≤ binder_at w c) → (binder_at w c + length (flat (named (root.Binder c) env)) ≤ binder_at w b) ⊎ (binder_at w b + length xs ≤ binder_at w c)
      clear c s (inl l) = let q = flat_length (shape_at w.scope.binders c) (named (root.Binder c) env) (r.fit.binders.each c s) in inl (omega (arith, l, q))
      clear c s (inr g) = inr (omega (arith, g, le))

  -- fewer names in scope
  pub less_ready : (sc sc' : Names) (env : Environment) (o : Own) → Ready w hi sc env o → ((c : ℕ) → IsInScope (sc' c) → IsInScope (sc c)) → Ready w hi sc' env o
  less_ready sc sc' env o r f =
      record {
        fit = r.fit;
        shows = record { message = r.shows.message; binders = λ b lt h. r.shows.binders b lt (f b h); held = r.shows.held };
        room = r.room;
      }

  -- a part of a name's value
  pub part_ready : (sc : Names) (env : Environment) (o : Own) (b : ℕ) (path : List ℕ) (u : Value) (ws : List ℤ) → Ready w hi sc env o → b < length w.scope.binders → IsInScope (sc b) → Along (shape_at w.scope.binders b) path → Fits (shape_along (shape_at w.scope.binders b) path) u → Wrote o.words (binder_at w b + total (shape_at w.scope.binders b) path) (flat u) ws
      → Ready w hi sc (bound b (with_part_at path u (named (root.Binder b) env)) env) (record o { words = ws })
  part_ready sc env o b path u ws r lb h along f wr =
      let s = shape_at w.scope.binders b in
      let v = named (root.Binder b) env in
      let fv = r.fit.binders.each b lb in
      let c = cut path s v fv along in
      let e : length (flat u) ≡ length (flat (part_at path v)) = flat_length (shape_along s path) u f ∙ sym (flat_length (shape_along s path) (part_at path v) (get_fits path s v fv along)) in
      let whole = cut_wrote (flat v) (flat (part_at path v)) (λ x. flat (with_part_at path x v)) (total s path) u c e in
      let inside = cut_within (flat v) (flat (part_at path v)) (λ x. flat (with_part_at path x v)) (total s path) c in
      bound_ready sc sc env o b (with_part_at path u v) ws r lb (put_fits path s v u fv along f)
      (wrote_in o.words (binder_at w b) (total s path) (flat v) (flat u) (flat (with_part_at path u v)) ws (r.shows.binders b lb h) (omega (arith, e, inside)) whole wr)
      (λ c k ne. k)

  -- a part of a state
  pub state_ready : (sc : Names) (env : Environment) (o : Own) (j : ℕ) (path : List ℕ) (u : Value) (ws : List ℤ) → Ready w hi sc env o → j < length w.scope.states → Along (shape_at w.scope.states j) path → Fits (shape_along (shape_at w.scope.states j) path) u → Wrote (flat env.states) (words_before w.scope.states j + total (shape_at w.scope.states j) path) (flat u) ws
      → Ready w hi sc (with_root (root.State j) (with_part_at path u (named (root.State j) env)) env) (record o { held = Some (record { monitor = w.monitor; words = ws }) })
  state_ready sc env o j path u ws r lt along f wr =
      let s : Shape = all (shapes_of w.scope.states) in
      let v = env.states in
      let fv = r.fit.states in
      let same = nth_of_list w.scope.states j in
      let inside : Along s (j ∷ path) = (omega (arith, lt, count_of_list w.scope.states), subst (λ x. Along x path) (sym same) along) in
      let fu : Fits (shape_along s (j ∷ path)) u = subst (λ x. Fits (shape_along x path) u) (sym same) f in
      let c = cut (j ∷ path) s v fv inside in
      let e : length (flat u) ≡ length (flat (part_at (j ∷ path) v)) = flat_length (shape_along s (j ∷ path)) u fu ∙ sym (flat_length (shape_along s (j ∷ path)) (part_at (j ∷ path) v) (get_fits (j ∷ path) s v fv inside)) in
      let whole = cut_wrote (flat v) (flat (part_at (j ∷ path) v)) (λ x. flat (with_part_at (j ∷ path) x v)) (total s (j ∷ path)) u c e in
      let far : words_before w.scope.states j + total (shape_at w.scope.states j) path ≡ total s (j ∷ path) = ap (λ n. n + total (shape_at w.scope.states j) path) (sym (fields_of_list w.scope.states j)) ∙ ap (λ x. fields_before (shapes_of w.scope.states) j + total x path) (sym same) in
      let is : ws ≡ flat (with_part_at (j ∷ path) u v) = wrote_same (flat v) (total s (j ∷ path)) (flat u) ws (flat (with_part_at (j ∷ path) u v)) (subst (λ n. Wrote (flat v) n (flat u) ws) far wr) whole in
      let is' : ws ≡ flat (with_part j (λ old. with_part_at path u (part j v)) v) = is ∙ ap flat (with_same j (with_part_at path u) v) in
      record {
        fit = with_root_fits w.scope env (root.State j) (with_part_at path u (named (root.State j) env)) r.fit (put_fits path (shape_at w.scope.states j) (part j v) u (subst (λ x. Fits x (part j v)) same (get_fits (j ∷ []) s v fv (inside.0, tt))) along f);
        shows = record { message = r.shows.message; binders = r.shows.binders; held = ap (λ x. Some (record { monitor = w.monitor; words = x })) is' };
        room = r.room;
      }
