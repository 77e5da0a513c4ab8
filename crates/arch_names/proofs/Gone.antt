-- A list of parts, as far as it was gone through, where k is what stands around them.
use Rattle.std.proofs.Common.{◌≡◌, ℕ, ◌+◌, ◌<◌, ◌≤◌, suc, List, [], ◌∷◌, ◌++◌, map, length, take, drop, get_or, None, Result, refl, sym, ap, subst, ◌∙◌, drop-cons}
use Rattle.std.specs.Result.{IsErrAnd, IfErr}
use Rattle.std.proofs.lemmas.List.{take-append-drop, take_all}
use Rattle.arch_names.specs.declared.fault.NameFault.{NameFault}
use Rattle.arch_names.specs.Site.{Site}
use Rattle.arch_names.specs.Sets.{each}
use Rattle.arch_names.specs.Walk.{first, IsMade, IsFault}
use Rattle.arch_names.proofs.First.{clean_both, fault_left, fault_right, exit}
use Rattle.arch_names.proofs.Gathered.{map_take_more, each-append, each-push}

map-push : {X Y : Type 0} (f : X → Y) (xs : List X) (y : X) → map f (xs ++ y ∷ []) ≡ map f xs ++ f y ∷ []
map-push f [] y = refl
map-push f (x ∷ xs) y = ap (λ r. f x ∷ r) (map-push f xs y)

map-append : {X Y : Type 0} (f : X → Y) (xs ys : List X) → map f (xs ++ ys) ≡ map f xs ++ map f ys
map-append f [] ys = refl
map-append f (x ∷ xs) ys = ap (λ r. f x ∷ r) (map-append f xs ys)

module _ {C R X V W : Type 0} (raw : R → X) (of : C → X → List Site) (see : V → W) (tree : C → X → W) where
  pub record Gone (k : C) (xs : List R) (made : List V) : Type 0 where
    pub clean : first (each (of k) (map raw xs)) ≡ None
    pub trees : map see made ≡ map (tree k) (map raw xs)

  pub none_gone : (k : C) (made : List V) → made ≡ [] → Gone k [] made
  none_gone k made e = record { clean = refl; trees = ap (map see) e }

  module _ (k : C) (xs : List R) (i : ℕ) (y : R) (made : List V) (is : y ≡ get_or xs i y) (within : i < length xs) (gone : Gone k (take i xs) made) where
    pub gone_more : (made' : List V) (m : V) → IsMade (of k (raw y)) see (tree k (raw y)) m → made' ≡ made ++ m ∷ [] → Gone k (take (i + 1) xs) made'
    gone_more made' m h g =
        let e = map_take_more raw xs i y is within in
        record {
          clean = ap (λ l. first (each (of k) l)) e ∙ ap first (each-push (of k) (map raw (take i xs)) (raw y)) ∙ clean_both (each (of k) (map raw (take i xs))) (of k (raw y)) gone.clean h.0;
          trees = ap (map see) g ∙ map-push see made m ∙ (λ j. gone.trees j ++ h.1 j ∷ []) ∙ sym (map-push (tree k) (map raw (take i xs)) (raw y)) ∙ ap (map (tree k)) (sym e);
        }

    pub gone_exit : {T : Type 0} (r : Result T NameFault) (f : NameFault) → IsErrAnd r (λ x. x ≡ f) → IsFault (of k (raw y)) f → IfErr r (IsFault (each (of k) (map raw xs)))
    gone_exit r f h q =
        let front = each (of k) (map raw (take i xs)) in
        let back = each (of k) (map raw (drop (suc i) xs)) in
        let split : xs ≡ take i xs ++ y ∷ drop (suc i) xs = sym (take-append-drop i xs) ∙ ap (λ z. take i xs ++ z) (drop-cons xs i y within) ∙ ap (λ z. take i xs ++ z ∷ drop (suc i) xs) (sym is) in
        let e : each (of k) (map raw xs) ≡ front ++ (of k (raw y) ++ back) = ap (λ z. each (of k) (map raw z)) split ∙ ap (each (of k)) (map-append raw (take i xs) (y ∷ drop (suc i) xs)) ∙ each-append (of k) (map raw (take i xs)) (raw y ∷ map raw (drop (suc i) xs)) in
        exit r (each (of k) (map raw xs)) f h (subst (λ ss. IsFault ss f) (sym e) (fault_right front (of k (raw y) ++ back) f gone.clean (fault_left (of k (raw y)) back f q)))

  pub all_gone : (k : C) (xs : List R) (i : ℕ) (made : List V) → length xs ≤ i → Gone k (take i xs) made → IsMade (each (of k) (map raw xs)) (map see) (map (tree k) (map raw xs)) made
  all_gone k xs i made le h = let g : Gone k xs made = subst (λ z. Gone k z made) (take_all i xs le) h in (g.clean, g.trees)

-- the same around what is found alike
pub exit_alike : {C X : Type 0} (of : C → X → List Site) (k l : C) (xs : List X) → k ≡ l → {T : Type 0} (r : Result T NameFault) (f : NameFault) → IsErrAnd r (λ x. x ≡ f) → IsFault (each (of k) xs) f → IfErr r (IsFault (each (of l) xs))
exit_alike of k l xs same r f h q = exit r (each (of l) xs) f h (subst (λ z. IsFault (each (of z) xs) f) same q)
