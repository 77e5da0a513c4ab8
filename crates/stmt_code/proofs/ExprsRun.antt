-- Words, offsets, and the code of one index and of one word.
use Rattle.std.proofs.Common.{◌≡◌, ℕ, zero, suc, ◌+◌, ◌*◌, ◌^◌, ◌<◌, ◌≤◌, ℤ, pos, negsuc, List, [], ◌∷◌, ◌++◌, length, Option, Some, None, refl, ap, sym, ◌∙◌, subst, arith, Bool, true, false, ◌||◌, unsigned_abs, length-append}
use Rattle.std.proofs.lemmas.List.{get_or-append-add}
use Rattle.std.proofs.Math.ListN.{get_or-append}
use Rattle.tower_types.specs.declared.scalar.Scalar.TheVariants as scalar
use Rattle.tower_types.specs.declared.scalar.BinOp.TheVariants as op
use Rattle.tower_types.specs.Ty.{Shape, one, many, all, Shapes, no_shapes, shape, shapes_of, words, words_of_all}
use Rattle.tower_types.specs.Value.{Value, num, flat}
use Rattle.tower_types.specs.Arithmetic.{binary_of}
use Rattle.tower_syntax.specs.declared.body.Root.{Root}
use Rattle.tower_syntax.specs.declared.body.Root.TheVariants as root
use Rattle.tower_syntax.specs.Tree.{Expr, lit, read, un, bin, choose, cast, Steps, no_steps, field, at as at_index}
use Rattle.tower_syntax.specs.Weights.{root_shape, nth_shape, shape_at, field_shape, element_shape}
use Rattle.tower_syntax.specs.Typed.{Names, IsInScope, IsProper, count, Leads as Path}
use Rattle.tower_meaning.specs.Body.{Environment, expr_value, path_of}
use Rattle.tower_meaning.specs.Fitting.{IsFitting}
use Rattle.task_code.specs.declared.program.Instr.TheVariants.{Push, Bin}
use Rattle.task_code.specs.Own.{Own}
use Rattle.task_code.specs.Does.{word_at}
use Rattle.task_code.specs.Piece.{Piece, ins, ◌▸◌, end, Stands}
use Rattle.stmt_code.specs.Layout.{Layout, binder_at, fields_before, words_before, given_index, given_offset, fixed_offset, is_moving, moves, Base, private, monitor, plus}
use Rattle.stmt_code.specs.Body.{read_word, scaled, added, if_moving}
use Rattle.stmt_code.proofs.Named.{named}
use Rattle.stmt_code.proofs.Needs.{one_if}
use Rattle.stmt_code.proofs.Flats.{total, Cut}
use Rattle.stmt_code.proofs.WordSums.{u64_fits, u64_mul, u64_add}
use Rattle.stmt_code.proofs.OneStep.{Context, Leads, at, stay, wider, on, push, ld, ldx, ldm, bin as bin_leads}

-- ---- words in lists

-- the words xs stand in the list from a on
abbrev pub Holds : List ℤ → ℕ → List ℤ → Type 0
Holds ws a xs = (i : ℕ) → i < length xs → word_at ws (a + i) ≡ word_at xs i

pub word_in : (front x back : List ℤ) (i : ℕ) → i < length x → word_at (front ++ (x ++ back)) (length front + i) ≡ word_at x i
word_in front x back i lt = get_or-append-add front (x ++ back) i (pos 0) ∙ get_or-append x back (pos 0) i lt

pub word_cut : (whole x : List ℤ) (f : Value → List ℤ) (far i : ℕ) → Cut whole far x f → i < length x → word_at whole (far + i) ≡ word_at x i
word_cut whole x f far i c lt =
    subst (λ n. word_at whole (n + i) ≡ word_at x i) c.is_far (subst (λ l. word_at l (length c.front + i) ≡ word_at x i) (sym c.is) (word_in c.front x c.back i lt))

pub cut_within : (whole x : List ℤ) (f : Value → List ℤ) (far : ℕ) → Cut whole far x f → far + length x ≤ length whole
cut_within whole x f far c =
    let e : length whole ≡ length (c.front ++ (x ++ c.back)) = ap length c.is in
    omega (arith, e, length-append c.front (x ++ c.back), length-append x c.back, c.is_far)

-- ---- offsets

abbrev pub unless_given : Option ℕ → ℕ → ℕ
unless_given (Some k) n = 0
unless_given None n = n

abbrev pub index_in : Environment → Expr → ℕ
index_in env e = unsigned_abs (num (expr_value env e))

-- the moving part of a place's offset
abbrev pub drift : Environment → Shape → Steps → ℕ
drift env s no_steps = 0
drift env s (field k ss) = drift env (field_shape k s) ss
drift env s (at_index e ss) = unless_given (given_index e) (index_in env e * words (element_shape s)) + drift env (element_shape s) ss

given_or_not : (env : Environment) (e : Expr) (n : ℕ) → given_offset (given_index e) n + unless_given (given_index e) (index_in env e * n) ≡ index_in env e * n
given_or_not env (lit s (pos k)) n = omega arith
given_or_not env (lit s (negsuc k)) n = omega arith
given_or_not env (read p) n = omega arith
given_or_not env (un op s a) n = omega arith
given_or_not env (bin op s a b) n = omega arith
given_or_not env (choose c a b) n = omega arith
given_or_not env (cast s a) n = omega arith

pub fixed_and_drift : (w : Layout) (sc : Names) (env : Environment) (ss : Steps) (s t : Shape) → Path w.scope sc s ss t → fixed_offset s ss + drift env s ss ≡ total s (path_of env ss)
fixed_and_drift w sc env no_steps s t h = refl
fixed_and_drift w sc env (field k ss) (one s) t h = absurd h
fixed_and_drift w sc env (field k ss) (many n s) t h = absurd h
fixed_and_drift w sc env (field k ss) (all us) t h = let q = fixed_and_drift w sc env ss (nth_shape us k) t h.1 in omega (arith, q)
fixed_and_drift w sc env (at_index e ss) (one s) t h = absurd h
fixed_and_drift w sc env (at_index e ss) (many n s) t h =
    let q = fixed_and_drift w sc env ss s t h.1 in
    let g = given_or_not env e (words s) in
    omega (arith, q, g)
fixed_and_drift w sc env (at_index e ss) (all us) t h = absurd h

pub still_zero : (g : Option ℕ) (started : Bool) (m n : ℕ) → (started ≡ false → m ≡ 0) → (is_moving g || started) ≡ false → m + unless_given g n ≡ 0
still_zero (Some k) started m n z e = let q = z e in omega (arith, q)
still_zero None started m n z e = absurd (cc e)

not_either : (g : Option ℕ) (b : Bool) (n : ℕ) → (is_moving g || b) ≡ false → (unless_given g n ≡ 0) × (b ≡ false)
not_either (Some k) b n e = (refl, e)
not_either None b n e = absurd (cc e)

pub not_moved : (env : Environment) (ss : Steps) (s : Shape) → moves ss ≡ false → drift env s ss ≡ 0
not_moved env no_steps s e = refl
not_moved env (field k ss) s e = not_moved env ss (field_shape k s) e
not_moved env (at_index x ss) s e =
    let q = not_either (given_index x) (moves ss) (index_in env x * words (element_shape s)) e in
    let q0 = q.0 in
    let r = not_moved env ss (element_shape s) q.1 in
    omega (arith, q0, r)

pub nth_within : (us : Shapes) (k : ℕ) → k < count us → fields_before us k + words (nth_shape us k) ≤ words_of_all us
nth_within no_shapes k lt = absurd (omega arith)
nth_within (shape s ss) zero lt = omega arith
nth_within (shape s ss) (suc k) lt = let q = nth_within ss k (omega arith) in omega (arith, q)

pub state_within : (ss : List Shape) (k : ℕ) → k < length ss → words_before ss k + words (shape_at ss k) ≤ words (all (shapes_of ss))
state_within [] k lt = absurd (omega arith)
state_within (s ∷ ss) zero lt = omega arith
state_within (s ∷ ss) (suc k) lt = let q = state_within ss k (omega arith) in omega (arith, q)

-- ---- the machine

abbrev pub top : Bool → ℕ → List ℤ → List ℤ
top true m st = pos m ∷ st
top false m st = st

-- the word v stands at this base and offset
abbrev pub Reads : Own → Base → ℕ → ℤ → Type 0
Reads o (private a) d v = word_at o.words (a + d) ≡ v
Reads o (monitor m a) d v = (ws : List ℤ) × (o.held ≡ Some (record { monitor = m; words = ws })) × (word_at ws (a + d) ≡ v)

-- the own part has the words of the message, of each name in scope, and of the states
pub record Shows (w : Layout) (sc : Names) (env : Environment) (o : Own) : Type 0 where
  pub message : Holds o.words w.param (flat env.message)
  pub binders : (b : ℕ) → b < length w.scope.binders → IsInScope (sc b) → Holds o.words (binder_at w b) (flat (named (root.Binder b) env))
  pub held : o.held ≡ Some (record { monitor = w.monitor; words = flat env.states })

-- the words of each name can be counted, and no array is too long
pub record Sized (w : Layout) : Type 0 where
  pub small : (r : Root) → words (root_shape w.scope r) < 2 ^ 63
  pub proper : (r : Root) → IsProper (root_shape w.scope r)

-- what the plan of a callback and its run are known to be
pub record Known (w : Layout) (sc : Names) (env : Environment) (o : Own) : Type 0 where
  pub fit : IsFitting w.scope env
  pub shows : Shows w sc env o
  pub sized : Sized w

pub plus_reads : (o : Own) (b : Base) (c d : ℕ) (v : ℤ) → Reads o b (c + d) v → Reads o (plus b c) d v
plus_reads o (private a) c d v h = let e : a + (c + d) ≡ a + c + d = omega arith in subst (λ n. word_at o.words n ≡ v) e h
plus_reads o (monitor m a) c d v h = let e : a + (c + d) ≡ a + c + d = omega arith in (h.0, h.1, subst (λ n. word_at h.0 n ≡ v) e h.2)

module _ (r : Context) (o : Own) where
  pub restack : (n : ℕ) (t : Own) (a : ℕ) (st st' : List ℤ) → st ≡ st' → Leads r n t (at o a st) → Leads r n t (at o a st')
  restack n t a st st' e l = subst (λ s. Leads r n t (at o a s)) e l

  pub scaled_leads : (k n a : ℕ) (st : List ℤ) → Stands r.task.code a (scaled n) → k < 2 ^ 64 → n < 2 ^ 64 → k * n < 2 ^ 64 → length st + 2 ≤ 64 → Leads r 2 (at o a (pos k ∷ st)) (at o (end a (scaled n)) (pos (k * n) ∷ st))
  scaled_leads k (suc zero) a st h lk ln lm len =
      restack 2 _ a (pos k ∷ st) (pos (k * 1) ∷ st) (ap (λ x. pos x ∷ st) (omega arith)) (wider r 0 2 _ _ (stay r (at o a (pos k ∷ st))) (omega arith))
  scaled_leads k zero a st h lk ln lm len = times k zero a st h lk ln lm len
    where
      times : (k n a : ℕ) (st : List ℤ) → Stands r.task.code a (ins (Push (pos n)) ▸ ins (Bin op.Mul scalar.U64)) → k < 2 ^ 64 → n < 2 ^ 64 → k * n < 2 ^ 64 → length st + 2 ≤ 64 → Leads r 2 (at o a (pos k ∷ st)) (at o (suc (suc a)) (pos (k * n) ∷ st))
      times k n a st h lk ln lm len =
          restack 2 _ (suc (suc a)) (binary_of op.Mul scalar.U64 (pos k) (pos n) ∷ st) (pos (k * n) ∷ st) (ap (λ x. x ∷ st) (u64_mul k n lm))
          (on r 1 1 _ _ _ (push r o a (pos k ∷ st) (pos n) h.0 (omega arith))
          (bin_leads r o (suc a) st op.Mul scalar.U64 (pos k) (pos n) h.1 refl (u64_fits k lk) (u64_fits n ln)))
  scaled_leads k (suc (suc n)) a st h lk ln lm len =
      restack 2 _ (suc (suc a)) (binary_of op.Mul scalar.U64 (pos k) (pos (suc (suc n))) ∷ st) (pos (k * suc (suc n)) ∷ st) (ap (λ x. x ∷ st) (u64_mul k (suc (suc n)) lm))
      (on r 1 1 _ _ _ (push r o a (pos k ∷ st) (pos (suc (suc n))) h.0 (omega arith))
      (bin_leads r o (suc a) st op.Mul scalar.U64 (pos k) (pos (suc (suc n))) h.1 refl (u64_fits k lk) (u64_fits (suc (suc n)) ln)))

  -- one index: its code, if it is not given, and what it adds
  pub index_leads : (g : Option ℕ) (started : Bool) (x : Piece) (m k n wt a : ℕ) (st : List ℤ)
      → (started ≡ false → m ≡ 0)
      → Stands r.task.code a (if_moving g (x ▸ scaled n ▸ added started))
      → (Stands r.task.code a x → Leads r wt (at o a (top started m st)) (at o (end a x) (pos k ∷ top started m st)))
      → k < 2 ^ 64 → n < 2 ^ 64 → m + k * n < 2 ^ 64 → length st + (2 + one_if started) ≤ 64
      → Leads r (wt + 3) (at o a (top started m st)) (at o (end a (if_moving g (x ▸ scaled n ▸ added started))) (top (is_moving g || started) (m + unless_given g (k * n)) st))
  index_leads (Some i) started x m k n wt a st z h run lk ln lm len =
      restack (wt + 3) _ a (top started m st) (top started (m + 0) st) (ap (λ y. top started y st) (omega arith)) (wider r 0 (wt + 3) _ _ (stay r (at o a (top started m st))) (omega arith))
  index_leads None false x m k n wt a st z h run lk ln lm len =
      let e : k * n ≡ m + k * n = omega (arith, z refl) in
      wider r (wt + 2) (wt + 3) _ _
      (restack (wt + 2) _ (end (end a x) (scaled n)) (pos (k * n) ∷ st) (pos (m + k * n) ∷ st) (ap (λ y. pos y ∷ st) e)
      (on r wt 2 _ _ _ (run h.0) (scaled_leads k n (end a x) st h.1.0 lk ln (omega arith) (omega arith)))) (omega arith)
  index_leads None true x m k n wt a st z h run lk ln lm len =
      let b = end (end a x) (scaled n) in
      restack (wt + 3) _ (suc b) (binary_of op.Add scalar.U64 (pos m) (pos (k * n)) ∷ st) (pos (m + k * n) ∷ st) (ap (λ x. x ∷ st) (u64_add m (k * n) lm))
      (wider r (wt + 2 + 1) (wt + 3) _ _
      (on r (wt + 2) 1 _ _ _ (on r wt 2 _ _ _ (run h.0) (scaled_leads k n (end a x) (pos m ∷ st) h.1.0 lk ln (omega arith) (omega arith)))
      (bin_leads r o b st op.Add scalar.U64 (pos m) (pos (k * n)) h.1.1 refl (u64_fits m (omega arith)) (u64_fits (k * n) (omega arith)))) (omega arith))

  -- reading a word, at an index on the stack or at none
  pub word_leads : (g : Bool) (b : Base) (d n a : ℕ) (st : List ℤ) (v : ℤ) → (g ≡ false → d ≡ 0) → d < n → Reads o b d v → Stands r.task.code a (read_word g b n) → length st + 1 ≤ 64
      → Leads r 2 (at o a (top g d st)) (at o (end a (read_word g b n)) (v ∷ st))
  word_leads false (private x) d n a st v z lt rd h len =
      let e : x ≡ x + d = omega (arith, z refl) in
      wider r 1 2 _ _ (restack 1 _ (suc a) (word_at o.words x ∷ st) (v ∷ st) (ap (λ y. y ∷ st) (ap (word_at o.words) e ∙ rd)) (ld r o a st x h (omega arith))) (omega arith)
  word_leads false (monitor m x) d n a st v z lt rd h len =
      let e : x + 0 ≡ x + d = omega (arith, z refl) in
      restack 2 _ (suc (suc a)) (word_at rd.0 (x + 0) ∷ st) (v ∷ st) (ap (λ y. y ∷ st) (ap (word_at rd.0) e ∙ rd.2))
      (on r 1 1 _ _ _ (push r o a st (pos 0) h.0 (omega arith)) (ldm r o (suc a) st m x 1 0 rd.0 h.1 rd.1 (omega arith)))
  word_leads true (private x) d n a st v z lt rd h len =
      wider r 1 2 _ _ (restack 1 _ (suc a) (word_at o.words (x + d) ∷ st) (v ∷ st) (ap (λ y. y ∷ st) rd) (ldx r o a st x n d h lt)) (omega arith)
  word_leads true (monitor m x) d n a st v z lt rd h len =
      wider r 1 2 _ _ (restack 1 _ (suc a) (word_at rd.0 (x + d) ∷ st) (v ∷ st) (ap (λ y. y ∷ st) rd.2) (ldm r o a st m x n d rd.0 h rd.1 lt)) (omega arith)
