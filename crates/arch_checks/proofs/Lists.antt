-- What all elements of a list keep, by recursion, and the greatest of some numbers.
use Rattle.std.proofs.Common.{inl, inr, ◌≤◌, ℕ, List, [], ◌∷◌, map, refl, sym, subst, arith}
use Rattle.arch_types.specs.Outline.{each}
use Rattle.channel_graph.proofs.Members.{In}
use Rattle.arch_checks.specs.Sizes.{greatest}
pub use Rattle.arch_types.proofs.Lists.{AllOf, all_both as both, all_left as front, all_right as back}

pub all_of : {X : Type 0} (P : X → Type 0) (xs : List X) → ((x : X) → In x xs → P x) → AllOf P xs
all_of P [] h = tt
all_of P (x ∷ xs) h = (h x (inl refl), all_of P xs (λ y i. h y (inr i)))

pub of_all : {X : Type 0} (P : X → Type 0) (xs : List X) (x : X) → AllOf P xs → In x xs → P x
of_all P [] x h i = absurd i
of_all P (y ∷ ys) x h (inl e) = subst P (sym e) h.0
of_all P (y ∷ ys) x h (inr i) = of_all P ys x h.1 i

pub all_each : {X Y : Type 0} (P : Y → Type 0) (of : X → List Y) (xs : List X) → ((x : X) → In x xs → AllOf P (of x)) → AllOf P (each of xs)
all_each P of [] h = tt
all_each P of (x ∷ xs) h = both P (of x) (each of xs) (h x (inl refl)) (all_each P of xs (λ y i. h y (inr i)))

pub each_all : {X Y : Type 0} (P : Y → Type 0) (of : X → List Y) (xs : List X) (x : X) → AllOf P (each of xs) → In x xs → AllOf P (of x)
each_all P of [] x h i = absurd i
each_all P of (y ∷ ys) x h (inl e) = subst (λ z. AllOf P (of z)) (sym e) (front P (of y) (each of ys) h)
each_all P of (y ∷ ys) x h (inr i) = each_all P of ys x (back P (of y) (each of ys) h) i

pub all_map : {X Y : Type 0} (P : Y → Type 0) (f : X → Y) (xs : List X) → AllOf (λ x. P (f x)) xs → AllOf P (map f xs)
all_map P f [] h = tt
all_map P f (x ∷ xs) h = (h.0, all_map P f xs h.1)

pub map_all : {X Y : Type 0} (P : Y → Type 0) (f : X → Y) (xs : List X) → AllOf P (map f xs) → AllOf (λ x. P (f x)) xs
map_all P f [] h = tt
map_all P f (x ∷ xs) h = (h.0, map_all P f xs h.1)

pub greatest_below : (ns : List ℕ) (k : ℕ) → AllOf (λ n. n ≤ k) ns → greatest ns ≤ k
greatest_below [] k h = omega arith
greatest_below (n ∷ ns) k h = let r = greatest_below ns k h.1 in omega (arith, h.0, r)

pub below_greatest : (ns : List ℕ) (k : ℕ) → greatest ns ≤ k → AllOf (λ n. n ≤ k) ns
below_greatest [] k h = tt
below_greatest (n ∷ ns) k h = (omega (arith, h), below_greatest ns k (omega (arith, h)))
