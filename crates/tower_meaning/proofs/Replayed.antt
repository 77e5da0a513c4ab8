-- What a list of marks comes to is what the replay says.
use Rattle.std.proofs.Common.{◌≡◌, ℕ, ◌+◌, List, [], ◌∷◌, ◌++◌, length, Option, Some, None, refl, ap, sym, ◌∙◌, subst, append_assoc, append-nil, arith}
use Rattle.std.specs.Prelude.{fold, option_and_then}
use Rattle.std.proofs.lemmas.List.{length-append}
use Rattle.std.proofs.lemmas.List.Sums.{fold-append}
use Rattle.tower_syntax.specs.declared.event.Mark.{Mark}
use Rattle.tower_syntax.specs.Arch.{Events}
use Rattle.tower_meaning.specs.System.{System}
use Rattle.tower_meaning.specs.Atomic.{Atomic, start, act, replay}
use Rattle.tower_meaning.specs.Replayed.{Replayed, replayed_from, replayed, first_misfit, IsMisfit, ComesTo, ReplayedComesTo, NoMisfitIsDefined}

abbrev made : Atomic → Option ℕ → Replayed
made s o = record { state = s; misfit = o }

module _ (system : System) (events : Events) where
  abbrev next : Option Atomic → Mark → Option Atomic
  next o m = option_and_then (λ t. act system events t m) o

  -- where these marks lead
  abbrev from : Option Atomic → List Mark → Option Atomic
  from o ms = fold next o ms

  nowhere : (ms : List Mark) → from None ms ≡ None
  nowhere [] = refl
  nowhere (m ∷ ms) = nowhere ms

  -- a mark, by what it leads to, before marks that lead on
  by_next : (ms : List Mark) (u : Atomic) (C : Option Atomic → Type 0) (o : Option Atomic) → from o ms ≡ Some u → ((v : Atomic) → from (Some v) ms ≡ Some u → C (Some v)) → C o
  by_next ms u C None e h = let n = nowhere ms in cc
  by_next ms u C (Some v) e h = h v e

  same : (t u : Atomic) → Some t ≡ Some u → t ≡ u
  same t u e = cc

  -- marks that all fit
  all_fit : (ms : List Mark) (k : ℕ) (s t u : Atomic) → from (Some t) ms ≡ Some u → replayed_from system events k s (Some t) ms ≡ made u None
  all_fit [] k s t u e = ap (λ t. made t None) (same t u e)
  all_fit (m ∷ ms) k s t u e = by_next ms u (λ o. replayed_from system events (k + 1) t o ms ≡ made u None) (act system events t m) e (λ v h. all_fit ms (k + 1) t v u h)

  -- marks before one that does not fit
  unfit : (before : List Mark) (m : Mark) (behind : List Mark) (k : ℕ) (s t u : Atomic) → from (Some t) before ≡ Some u → act system events u m ≡ None → replayed_from system events k s (Some t) (before ++ m ∷ behind) ≡ made u (Some (k + length before + 1))
  unfit [] m behind k s t u e n =
      let q : t ≡ u = same t u e in
      let k1 : k + 1 ≡ k + length {A = Mark} [] + 1 = omega arith in
      ap (λ t. replayed_from system events (k + 1) t (act system events t m) behind) q
      ∙ ap (λ o. replayed_from system events (k + 1) u o behind) n
      ∙ ap (λ k. made u (Some k)) k1
  unfit (x ∷ before) m behind k s t u e n =
      let C : Option Atomic → Type 0 = λ o. replayed_from system events (k + 1) t o (before ++ m ∷ behind) ≡ made u (Some (k + length (x ∷ before) + 1)) in
      let k1 : (k + 1) + length before + 1 ≡ k + length (x ∷ before) + 1 = omega arith in
      by_next before u C (act system events t x) e (λ v h. unfit before m behind (k + 1) t v u h n ∙ ap (λ k. made u (Some k)) k1)

  -- the replay goes on by one mark
  one_more : (done : List Mark) (m : Mark) (t v : Atomic) → replay system events done ≡ Some t → act system events t m ≡ Some v → replay system events (done ++ m ∷ []) ≡ Some v
  one_more done m t v e h = fold-append next (Some (start system)) done (m ∷ []) ∙ ap (λ o. next o m) e ∙ h

  abbrev Comes : List Mark → Replayed → Type 0
  Comes marks r = ComesTo system events marks r.misfit r.state

  comes_by : (ms done : List Mark) (m : Mark) (k : ℕ) (t : Atomic) (o : Option Atomic) → act system events t m ≡ o → replay system events done ≡ Some t → k ≡ length done
      → ((v : Atomic) → replay system events (done ++ m ∷ []) ≡ Some v → Comes ((done ++ m ∷ []) ++ ms) (replayed_from system events (k + 1) t (Some v) ms))
      → Comes (done ++ m ∷ ms) (replayed_from system events (k + 1) t o ms)
  comes_by ms done m k t None a e n h = record { before = done; mark = m; behind = ms; parts = refl; number = omega (arith, n); leads = e; misfits = a }
  comes_by ms done m k t (Some v) a e n h =
      subst (λ marks. Comes marks (replayed_from system events (k + 1) t (Some v) ms)) (append_assoc done (m ∷ []) ms) (h v (one_more done m t v e a))

  comes : (ms done : List Mark) (k : ℕ) (s t : Atomic) → replay system events done ≡ Some t → k ≡ length done → Comes (done ++ ms) (replayed_from system events k s (Some t) ms)
  comes [] done k s t e n = ap (replay system events) (append-nil done) ∙ e
  comes (m ∷ ms) done k s t e n =
      comes_by ms done m k t (act system events t m) refl e n
      (λ v h. comes ms (done ++ m ∷ []) (k + 1) t v h (omega (arith, n, length-append done (m ∷ []))))

  is_by : (marks : List Mark) (o : Option ℕ) (s : Atomic) → ComesTo system events marks o s → replayed system events marks ≡ made s o
  is_by marks None s h = all_fit marks 0 (start system) (start system) s h
  is_by marks (Some k) s h =
      let k1 : 0 + length h.before + 1 ≡ k = omega (arith, h.number) in
      ap (replayed system events) h.parts ∙ unfit h.before h.mark h.behind 0 (start system) (start system) s h.leads h.misfits ∙ ap (λ k. made s (Some k)) k1

  all_comes : (marks : List Mark) → Comes marks (replayed system events marks)
  all_comes marks = comes marks [] 0 (start system) (start system) refl refl

  defined_by : (marks : List Mark) (o : Option ℕ) (s : Atomic) → ComesTo system events marks o s → o ≡ None → (s : Atomic) × (replay system events marks ≡ Some s)
  defined_by marks None s h e = (s, h)
  defined_by marks (Some k) s h e = cc

pub replayed_comes_to : ReplayedComesTo
replayed_comes_to system events marks r = (
  λ e. subst (λ r. ComesTo system events marks r.misfit r.state) e (all_comes system events marks),
  λ h. is_by system events marks r.misfit r.state h,
)

pub no_misfit_is_defined : NoMisfitIsDefined
no_misfit_is_defined system events marks = (
  λ e. defined_by system events marks (first_misfit system events marks) (replayed system events marks).state (all_comes system events marks) e,
  λ d. ap (λ r. r.misfit) (is_by system events marks None d.0 d.1),
)
