-- What is known behind a statement is what the relations see there.
use Rattle.std.proofs.Common.{◌≡◌, ℕ, zero, suc, ◌<◌, ◌+◌, ◌==◌, inl, inr, List, [], ◌∷◌, ◌++◌, length, slice_index_or, Bool, true, false, cond, refl, ap, sym, subst, ◌∙◌, arith, length-append}
use Rattle.std.proofs.lemmas.List.{get_or_at, get_or_append_left}
use Rattle.std.proofs.lemmas.Bool.{false≢true}
use Rattle.tower_types.specs.Ty.{Ty, Name, Fields}
use Rattle.tower_syntax.specs.declared.named.Target.{Target}
use Rattle.tower_syntax.specs.declared.named.Target.TheVariants as target
use Rattle.tower_syntax.specs.RawTree.{Link, RawPlace, root, get, index, RawExpr, truth, read, lit, un, bin, choose, cast, RawStmt, bind, local, set, copy, branch, loop, emit}
use Rattle.arch_types.specs.Typing.{Env, no_type}
use Rattle.arch_types.specs.Body.{with_name, writable_with}
use Rattle.tower_syntax.specs.Typed.{Use, read_only, with_name as with_use, IsInScope}
use Rattle.arch_types.specs.Numbered.{Counts, past, naming, IsSeen, SeesPlace, Sees, bound_by, bound_by_all, after}
use Rattle.arch_types.specs.Walk.{Known, type_at, known_type, may_write_among, with_binders, binding}
use Rattle.arch_types.proofs.Right.{IsKnown, env_with, Uses, UsesPlace, Knows, Agrees, IsWithin}
use Rattle.arch_types.proofs.Same.{nat_eq_true, nat_eq_refl}
use Rattle.arch_types.proofs.Within.{one_with}

other : {A : Type 0} (xs : List A) (x d : A) (b : ℕ) → (b ≡ length xs → ⊥) → slice_index_or (xs ++ x ∷ []) b d ≡ slice_index_or xs b d
other [] x d zero n = absurd (n refl)
other [] x d (suc b) n = refl
other (y ∷ xs) x d zero n = refl
other (y ∷ xs) x d (suc b) n = other xs x d b (λ e. n (ap suc e))

writable_is : (ws : List Bool) (n : ℕ) (w : Bool) (b : ℕ) → length ws ≡ n → (q : Bool) → (b == n) ≡ q → cond q w (slice_index_or ws b false) ≡ slice_index_or (ws ++ w ∷ []) b false
writable_is ws n w b l true e = let i = nat_eq_true b n e in sym (get_or_at ws w [] false b (l ∙ sym i))
writable_is ws n w b l false e = sym (other ws w false b (λ i. let j : (b == n) ≡ true = ap (λ k. b == k) (sym (i ∙ l)) ∙ nat_eq_refl b in false≢true (sym e ∙ j)))

type_is : (xs : Fields) (name : Name) (t : Ty) (b : ℕ) → b ≡ length xs → type_at (xs ++ (name, t) ∷ []) b ≡ t
type_is xs name t b e = ap (λ f. f.1) (get_or_at xs (name, t) [] ([], no_type) b (sym e))

type_before : (xs : Fields) (name : Name) (t : Ty) (b : ℕ) → b < length xs → type_at (xs ++ (name, t) ∷ []) b ≡ type_at xs b
type_before xs name t b l = ap (λ f. f.1) (get_or_append_left xs ((name, t) ∷ []) ([], no_type) b l)

pub longer : {A : Type 0} (xs : List A) (x : A) → length (xs ++ x ∷ []) ≡ length xs + 1
longer xs x = length-append xs (x ∷ [])

module _ (γ : Known) (has : Target → Ty → Type 0) (k : Knows γ has) where
  abbrev Γ : Env
  Γ = env_with γ has

  -- nothing was bound
  pub still : Agrees Γ γ
  still = record { names = refl; records = refl; emitters = refl; writable = λ x. refl; bound = refl; has = k }

  module _ (name : Name) (t : Ty) (new : Ty → Type 0) (w : Bool) (holds : new t) (single : (u v : Ty) → new u → new v → u ≡ v) where
    abbrev later : Known
    later = binding γ name t w

    written : (x : Target) → writable_with Γ.bound w Γ.writable x ≡ may_write_among later.writable x
    written (target.Binder b) = writable_is γ.writable (length γ.binders) w b k.even (b == length γ.binders) refl
    written target.Param = refl
    written (target.State b) = refl
    written (target.Record b) = refl
    written (target.Source b) = refl
    written (target.Channel b) = refl
    written (target.Emitter b) = refl

    known_binder : (b : ℕ) → b < length later.binders → (q : Bool) → (b == length γ.binders) ≡ q → (with_name Γ new w).has (target.Binder b) (type_at later.binders b)
    known_binder b l true e = let i = nat_eq_true b (length γ.binders) e in inl (i, subst new (sym (type_is γ.binders name t b i)) holds)
    known_binder b l false e =
        let n : b ≡ length γ.binders → ⊥ = λ i. false≢true (sym e ∙ (ap (λ j. b == j) (sym i) ∙ nat_eq_refl b)) in
        let m = longer γ.binders (name, t) in let h : b < length γ.binders = omega arith in
        inr (n, subst (has (target.Binder b)) (sym (type_before γ.binders name t b h)) (k.knows (target.Binder b) h))

    known : (x : Target) → IsKnown later x → (with_name Γ new w).has x (known_type later x)
    known (target.Binder b) l = known_binder b l (b == length γ.binders) refl
    known target.Param l = k.knows target.Param l
    known (target.State b) l = k.knows (target.State b) l
    known (target.Record b) l = absurd l
    known (target.Source b) l = absurd l
    known (target.Channel b) l = absurd l
    known (target.Emitter b) l = absurd l

    pub binds : Agrees (with_name Γ new w) later
    binds = record {
      names = refl;
      records = refl;
      emitters = refl;
      writable = written;
      bound = sym (longer γ.binders (name, t));
      has = record {
        even = longer γ.writable w ∙ ap (λ n. n + 1) k.even ∙ sym (longer γ.binders (name, t));
        one = one_with Γ new w k.one single;
        knows = known;
      };
    }

  -- each use has its type
  module _ (c : Counts) (w : IsWithin c γ) where
    seen : (x : Target) → IsSeen c x → has x (known_type γ x)
    seen (target.Binder b) l = k.knows (target.Binder b) (w.in_scope b l)
    seen target.Param l = k.knows target.Param l
    seen (target.State b) l = let m = w.states in k.knows (target.State b) (omega arith)
    seen (target.Record b) l = absurd l
    seen (target.Source b) l = absurd l
    seen (target.Channel b) l = absurd l
    seen (target.Emitter b) l = absurd l

    mutual
      pub place_uses : (p : RawPlace Link) → SeesPlace c p → UsesPlace (λ x. has x (known_type γ x)) p
      place_uses (root u) h = seen u.target h
      place_uses (get at p name) h = place_uses p h
      place_uses (index at p e) h = (place_uses p h.0, expr_uses e h.1)

      pub expr_uses : (e : RawExpr Link) → Sees c e → Uses (λ x. has x (known_type γ x)) e
      expr_uses (truth at b) h = tt {0}
      expr_uses (read p) h = place_uses p h
      expr_uses (lit at s i) h = tt {0}
      expr_uses (un at op a) h = expr_uses a h
      expr_uses (bin at op a b) h = (expr_uses a h.0, expr_uses b h.1)
      expr_uses (choose at c a b) h = (expr_uses c h.0, expr_uses a h.1, expr_uses b h.2)
      expr_uses (cast at t a) h = expr_uses a h.1

-- ---- behind statements, what is in scope is known

module _ (c : Counts) (γ : Known) (w : IsWithin c γ) (binders names : Fields) (writable : List Bool) (e : binders ≡ γ.binders ++ names) where
  more : length binders ≡ length γ.binders + length names
  more = ap length e ∙ length-append γ.binders names

  pub within_past : (n : ℕ) → length names ≡ n → IsWithin (past c n) (with_binders γ binders writable)
  within_past n l = let m = more in record {
    states = w.states;
    bound = ap (λ j. j + n) w.bound ∙ ap (λ j. length γ.binders + j) (sym l) ∙ sym m;
    in_scope = λ b h. let i = w.in_scope b h in omega arith;
  }

  named : (u : Use) (b : ℕ) (q : Bool) → (b == c.bound) ≡ q → length names ≡ 1 → IsInScope (cond q u (c.names b)) → b < length binders
  named u b true i l h = let j = nat_eq_true b c.bound i in let m = more in let d = w.bound in omega arith
  named u b false i l h = let j = w.in_scope b h in let m = more in omega arith

  pub within_naming : (u : Use) → length names ≡ 1 → IsWithin (naming c u) (with_binders γ binders writable)
  within_naming u l = let m = more in record {
    states = w.states;
    bound = ap (λ j. j + 1) w.bound ∙ ap (λ j. length γ.binders + j) (sym l) ∙ sym m;
    in_scope = λ b h. named u b (b == c.bound) refl l h;
  }

  pub within_after : (s : RawStmt Link) → length names ≡ bound_by s → IsWithin (after c s) (with_binders γ binders writable)
  within_after (bind at i v) l = within_naming read_only l
  within_after (local at i u) l = within_naming Rattle.tower_syntax.specs.Typed.writable l
  within_after (set at p v) l = within_past 0 l
  within_after (copy at p q) l = within_past 0 l
  within_after (branch at t then_at a else_at b) l = within_past (bound_by_all a + bound_by_all b) l
  within_after (loop at i n body) l = within_past (suc (bound_by_all body)) l
  within_after (emit at u v) l = within_past 0 l

-- the relations see no more than what is known
pub env_is : (Γ : Env) (γ : Known) → Agrees Γ γ → env_with γ Γ.has ≡ Γ
env_is Γ γ a = λ i. record {
  names = sym a.names i;
  records = sym a.records i;
  emitters = sym a.emitters i;
  has = Γ.has;
  writable = λ x. sym (a.writable x) i;
  bound = sym a.bound i;
}
