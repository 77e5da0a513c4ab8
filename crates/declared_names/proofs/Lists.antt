-- What holds of each thing that the elements of a list give, and of each two things of a list.
use Rattle.std.proofs.Common.{zero, suc, List, [], ◌∷◌, map, arith}
use Rattle.std.specs.List.{AllPairs}
use Rattle.arch_types.specs.Outline.{each}
use Rattle.arch_types.proofs.Lists.{AllOf, all_both, each_element}

pub each_gives : {X Y Z : Type 0} (P : X → Type 0) (Q : Z → Type 0) (f : X → Y) (of : Y → List Z) → ((x : X) → P x → AllOf Q (of (f x))) → (xs : List X) → AllOf P xs → AllOf Q (each of (map f xs))
each_gives P Q f of h [] every = tt
each_gives P Q f of h (x ∷ xs) every = all_both Q (of (f x)) (each of (map f xs)) (h x every.0) (each_gives P Q f of h xs every.1)

-- each element with each behind it
abbrev pub Pairwise : {X : Type 0} → (X → X → Type 0) → List X → Type 0
Pairwise R [] = Unit {0}
Pairwise R (x ∷ xs) = AllOf (R x) xs × Pairwise R xs

pub each_pair : {X : Type 0} (R : X → X → Type 0) (xs : List X) → Pairwise R xs → AllPairs R xs
each_pair R [] h i j d less within = absurd (omega (arith, within))
each_pair R (x ∷ xs) h i zero d less within = absurd (omega (arith, less))
each_pair R (x ∷ xs) h zero (suc j) d less within = each_element (R x) xs h.0 j d (omega (arith, within))
each_pair R (x ∷ xs) h (suc i) (suc j) d less within = each_pair R xs h.1 i j d (omega (arith, less)) (omega (arith, within))

pub all_mapped : {X Y : Type 0} (f : X → Y) (Q : Y → Type 0) (xs : List X) → AllOf (λ x. Q (f x)) xs → AllOf Q (map f xs)
all_mapped f Q [] h = tt
all_mapped f Q (x ∷ xs) h = (h.0, all_mapped f Q xs h.1)
