-- The first fault of a statement by its one or two expressions and places, and what is too high in it.
use Rattle.std.proofs.Common.{◌≡◌, ◌⊎◌, ℕ, ◌<◌, ◌≤◌, inl, inr, [], ◌∷◌, Some, None, ap, arith}
use Rattle.tower_types.specs.Ty.{Ty}
use Rattle.arch_types.specs.declared.fault.TypeFault.{TypeFault}
use Rattle.arch_types.specs.Offence.{Faults, Child, Test, Row, end, child, none_before, Node, offset, IsClean, IsFirst}
use Rattle.arch_types.specs.Body.{told, IsDeep}
use Rattle.arch_types.specs.Walk.{earlier, first_high, too_high}
use Rattle.arch_types.proofs.Right.{Told}
use Rattle.arch_types.proofs.Nodes.{Ones, Spans, node_clean, types_clean, none_of_one, none_of_two}
use Rattle.arch_types.proofs.First.{one_child, one_type, two_first, two_second, two_third, two_fourth}
use Rattle.arch_types.proofs.Sequence.{told_both, told_first, told_deep}

-- other faults, none of which is this one's equal
pub beside : (P Q : TypeFault → Type 0) (f : TypeFault) → IsFirst P f → ((g : TypeFault) → Q g → offset f < offset g) → IsFirst (λ g. P g ⊎ Q g) f
beside P Q f p q = record {
  is_one = inl p.is_one;
  least = λ g h. elim h [ inl x ↦ p.least g x | inr x ↦ inr (q g x) ];
}

module _ (c : Child) (test : Test) (ones : Ones (child c test end)) (h : ℕ) where
  abbrev breaks : Faults
  breaks f = Node (child c test end) f

  abbrev deeps : Faults
  deeps f = IsDeep c h breaks f

  module _ (bound : ℕ) (s : Spans (child c test end) bound) where
    pub one_offends : (f : TypeFault) → IsFirst c.faults f → IsFirst (λ g. breaks g ⊎ deeps g) f
    one_offends f p = beside breaks deeps f (one_child c test bound s ones f p) (λ g x. absurd (x.1 f p.is_one))

    pub one_type_offends : (t : Ty) (f : TypeFault) → c.has t → test none_before t ≡ Some f → offset f ≡ c.at → IsFirst (λ g. breaks g ⊎ deeps g) f
    one_type_offends t f k e i = let p = one_type c test bound s ones t f k e in beside breaks deeps f p (λ g x. absurd (x.2 f p.is_one i))

  pub one_clean : (t : Ty) → c.has t → test none_before t ≡ None → IsClean breaks
  one_clean t k e = node_clean (child c test end) (t ∷ []) ones (k, tt {0}) (none_of_one c test t e)

  pub one_told : (O : Type 0) (t : Ty) → c.has t → test none_before t ≡ None → Told O (too_high c.at (told h)) deeps
  one_told O t k e = told_deep O c h breaks (λ f x. ones.0.clean t f k x) (λ o g x i. one_clean t k e g x)

module _ (c d : Child) (test last : Test) (ones : Ones (child c test (child d last end))) (h k : ℕ) where
  abbrev row : Row
  row = child c test (child d last end)

  abbrev both : Faults
  both f = Node row f

  abbrev high : Faults
  high f = IsDeep c h both f ⊎ IsDeep d k both f

  abbrev all : Faults
  all f = both f ⊎ high f

  pub two_clean : (t u : Ty) → c.has t → d.has u → test none_before t ≡ None → last t u ≡ None → IsClean both
  two_clean t u has and e i = node_clean row (t ∷ u ∷ []) ones (has, (and, tt {0})) (none_of_two c d test last t u e i)

  pub two_told : (O : Type 0) → (O → c.at < d.at) → (t u : Ty) → c.has t → d.has u → test none_before t ≡ None → last t u ≡ None → Told O (first_high (too_high c.at (told h)) (too_high d.at (told k))) high
  two_told O l t u has and e i = let n = two_clean t u has and e i in
      told_both O (λ g. IsDeep c h both g) (λ g. IsDeep d k both g) (too_high c.at (told h)) (too_high d.at (told k)) d.at
      (told_deep O c h both (λ g x. ones.0.clean t g has x) (λ o g x j. n g x))
      (told_deep O d k both (λ g x. ones.1.0.clean u g and x) (λ o g x j. n g x))
      (λ o g x. let j : offset g ≡ c.at = ap offset x.3 in let m = l o in omega arith)
      (λ o g x. let j : offset g ≡ d.at = ap offset x.3 in omega arith)

  module _ (bound : ℕ) (s : Spans (child c test (child d last end)) bound) where
    -- what is too high in the second stands behind the first
    second_at : (g : TypeFault) → IsDeep d k both g → offset g ≡ d.at
    second_at g x = ap offset x.3

    first_below : (f : TypeFault) → c.faults f → offset f < d.at
    first_below f x = (s.0.within f x).below

    pub two_offends : (f : TypeFault) → IsFirst c.faults f → IsFirst all f
    two_offends f p = beside both high f (two_first c d test last bound s ones f p) (λ g x. elim x [
      | inl y ↦ absurd (y.1 f p.is_one)
      | inr y ↦ let i = second_at g y in let j = first_below f p.is_one in omega arith
    ])

    -- the first has a type, and a fault that is behind it comes with what is too high in it
    module _ (t : Ty) (f : TypeFault) (has : c.has t) (p : IsFirst both f) (l : d.at ≤ offset f) (only : (g : TypeFault) → both g → d.at ≤ offset g) (no : (g : TypeFault) → IsDeep d k both g → ⊥) where
      first_told : Told (Unit {0}) (too_high c.at (told h)) (λ g. IsDeep c h both g)
      first_told = told_deep (Unit {0}) c h both (λ g x. ones.0.clean t g has x) (λ o g x i. let j = only g x in let m = s.0.begins in omega arith)

      deep_below : (g : TypeFault) → IsDeep c h both g → offset g < d.at
      deep_below g x = let i : offset g ≡ c.at = ap offset x.3 in let m = s.0.begins in omega arith

      behind_first : IsFirst (λ g. IsDeep c h both g ⊎ both g) (earlier (too_high c.at (told h)) f)
      behind_first = let m = s.0.begins in told_first (Unit {0}) (λ g. IsDeep c h both g) both (too_high c.at (told h)) f d.at first_told (tt {0}) p (omega arith) deep_below only

      pub told_behind : IsFirst all (earlier (too_high c.at (told h)) f)
      told_behind = record {
        is_one = elim behind_first.is_one [ inl x ↦ inr (inl x) | inr x ↦ inl x ];
        least = λ g x. behind_first.least g (elim x [
          | inl y ↦ inr y
          | inr y ↦ elim y [ inl z ↦ inl z | inr z ↦ absurd (no g z) ]
        ]);
      }

    pub two_offends_second : (t : Ty) (f : TypeFault) → c.has t → IsFirst d.faults f → IsFirst all (earlier (too_high c.at (told h)) f)
    two_offends_second t f has p =
        told_behind t f has (two_second c d test last bound s ones t f has p) (s.2.0.within f p.is_one).from
        (λ g x. elim x [
          | inl y ↦ elim y [ inl z ↦ absurd (ones.0.clean t g has z) | inr z ↦ elim z [ inl w ↦ (s.2.0.within g w).from | inr w ↦ absurd w ] ]
          | inr y ↦ absurd (types_clean row y.0 ones y.1 f (inr (inl p.is_one)))
        ])
        (λ g x. x.1 f p.is_one)

    pub two_offends_third : (t u : Ty) (f : TypeFault) → c.has t → d.has u → test none_before t ≡ Some f → offset f ≡ c.at → IsFirst all f
    two_offends_third t u f has and e i = let p = two_third c d test last bound s ones t u f has and e in beside both high f p (λ g x. elim x [
      | inl y ↦ absurd (y.2 f p.is_one i)
      | inr y ↦ let j = second_at g y in let m = s.0.begins in omega arith
    ])

    pub two_offends_fourth : (t u : Ty) (f : TypeFault) → c.has t → d.has u → test none_before t ≡ None → last t u ≡ Some f → offset f ≡ d.at → IsFirst all (earlier (too_high c.at (told h)) f)
    two_offends_fourth t u f has and e i at = let p = two_fourth c d test last bound s ones t u f has and e i in
        told_behind t f has p (omega arith)
        (λ g x. elim (p.least g x) [
          | inl y ↦ let j : offset g ≡ offset f = ap offset y in omega arith
          | inr y ↦ omega arith
        ])
        (λ g x. x.2 f p.is_one at)
