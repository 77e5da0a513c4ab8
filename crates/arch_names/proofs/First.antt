-- The first fault of two lists of sites.
use Rattle.std.proofs.Common.{◌≡◌, inl, inr, List, [], ◌∷◌, ◌++◌, Option, Some, None, refl, sym, ap, subst, ◌∙◌, Result}
use Rattle.std.specs.Option.{option_or}
use Rattle.std.specs.Result.{IsErrAnd, IfErr}
use Rattle.std.proofs.lemmas.Result.{err_from_is_err_and}
use Rattle.arch_names.specs.declared.fault.NameFault.{NameFault}
use Rattle.arch_names.specs.Site.{Site}
use Rattle.arch_names.specs.Walk.{fault_at, first, IsFault}

pub first-append : (xs ys : List Site) → first (xs ++ ys) ≡ option_or (first xs) (first ys)
first-append [] ys = refl
first-append (x ∷ xs) ys = by (fault_at x) (first-append xs ys)
  where
    by : (r : Option NameFault) → first (xs ++ ys) ≡ option_or (first xs) (first ys) → option_or r (first (xs ++ ys)) ≡ option_or (option_or r (first xs)) (first ys)
    by None h = h
    by (Some f) h = refl

pub clean_both : (xs ys : List Site) → first xs ≡ None → first ys ≡ None → first (xs ++ ys) ≡ None
clean_both xs ys p q = first-append xs ys ∙ ap (λ r. option_or r (first ys)) p ∙ q

pub fault_left : (xs ys : List Site) (f : NameFault) → IsFault xs f → IsFault (xs ++ ys) f
fault_left xs ys f (inl h) = inl h
fault_left xs ys f (inr h) = inr (first-append xs ys ∙ ap (λ r. option_or r (first ys)) h)

pub fault_right : (xs ys : List Site) (f : NameFault) → first xs ≡ None → IsFault ys f → IsFault (xs ++ ys) f
fault_right xs ys f p (inl h) = inl h
fault_right xs ys f p (inr h) = inr (first-append xs ys ∙ ap (λ r. option_or r (first ys)) p ∙ h)

-- a fault that leaves a function by `?`
pub exit : {T : Type 0} (r : Result T NameFault) (ss : List Site) (f : NameFault) → IsErrAnd r (λ x. x ≡ f) → IsFault ss f → IfErr r (IsFault ss)
exit r ss f h q = let p = err_from_is_err_and r h in rw (p.1, p.2) q

pub exit_first : {T : Type 0} (r : Result T NameFault) (all xs ys : List Site) (f : NameFault) → IsErrAnd r (λ x. x ≡ f) → all ≡ xs ++ ys → IsFault xs f → IfErr r (IsFault all)
exit_first r all xs ys f h e q = exit r all f h (subst (λ ss. IsFault ss f) (sym e) (fault_left xs ys f q))

pub exit_second : {T : Type 0} (r : Result T NameFault) (all xs ys : List Site) (f : NameFault) → IsErrAnd r (λ x. x ≡ f) → all ≡ xs ++ ys → first xs ≡ None → IsFault ys f → IfErr r (IsFault all)
exit_second r all xs ys f h e p q = exit r all f h (subst (λ ss. IsFault ss f) (sym e) (fault_right xs ys f p q))
