-- The first fault of two parts that follow each other, where what is only too high is told beside the first part.
use Rattle.std.proofs.Common.{◌≡◌, ◌⊎◌, ℕ, ◌<◌, ◌≤◌, inl, inr, Option, Some, None, Bool, true, false, nat_lt, if◌then◌else◌, refl, sym, subst, arith}
use Rattle.arch_types.specs.declared.fault.TypeFault.{TypeFault}
use Rattle.arch_types.specs.declared.fault.TypeFault.TheVariants as fault
use Rattle.arch_types.specs.declared.high.High.{High}
use Rattle.arch_types.specs.Offence.{Faults, Child, offset, IsClean, IsFirst}
use Rattle.arch_types.specs.Body.{told, IsDeep}
use Rattle.arch_types.specs.Walk.{deep, earlier, first_high, too_high}
use Rattle.arch_types.proofs.Right.{Told}
use Rattle.arch_types.proofs.StmtWalk.{earlier_none}

pub earlier_some : (d : High) (f : TypeFault) → 0 < offset f → earlier (Some d) f ≡ deep d
earlier_some d (fault.Mismatch at w t) l = refl
earlier_some d (fault.NotPlace at) l = refl
earlier_some d (fault.Field at) l = refl
earlier_some d (fault.Range at) l = refl
earlier_some d (fault.Deep at n) l = refl
earlier_some d fault.NoMemory l = absurd (omega arith)

abbrev pub Below : (TypeFault → Type 0) → ℕ → Type 0
Below P hi = (f : TypeFault) → P f → offset f < hi

abbrev pub From : ℕ → (TypeFault → Type 0) → Type 0
From lo P = (f : TypeFault) → P f → lo ≤ offset f

pub first_left : (P Q : TypeFault → Type 0) (f : TypeFault) (mid : ℕ) → IsFirst P f → offset f < mid → From mid Q → IsFirst (λ g. P g ⊎ Q g) f
first_left P Q f mid p l q = record {
  is_one = inl p.is_one;
  least = λ g h. elim h [
    | inl x ↦ p.least g x
    | inr x ↦ let k = q g x in inr (omega arith)
  ];
}

pub first_right : (P Q : TypeFault → Type 0) (f : TypeFault) → IsClean P → IsFirst Q f → IsFirst (λ g. P g ⊎ Q g) f
first_right P Q f n p = record {
  is_one = inr p.is_one;
  least = λ g h. elim h [ inl x ↦ absurd (n g x) | inr x ↦ p.least g x ];
}

pub clean_both : (P Q : TypeFault → Type 0) → IsClean P → IsClean Q → IsClean (λ g. P g ⊎ Q g)
clean_both P Q p q f h = elim h [ inl x ↦ p f x | inr x ↦ q f x ]

module _ (O : Type 0) (P Q : TypeFault → Type 0) where
  pub told_right : (k : Option High) → IsClean P → Told O k Q → Told O k (λ g. P g ⊎ Q g)
  told_right None n q = clean_both P Q n q
  told_right (Some d) n q = λ o. first_right P Q (deep d) n (q o)

  pub told_both : (h k : Option High) (mid : ℕ) → Told O h P → Told O k Q → (O → Below P mid) → (O → From mid Q) → Told O (first_high h k) (λ g. P g ⊎ Q g)
  told_both None k mid p q b r = told_right k p q
  told_both (Some d) k mid p q b r = λ o. first_left P Q (deep d) mid (p o) (b o (deep d) (p o).is_one) (r o)

  pub told_first : (h : Option High) (f : TypeFault) (mid : ℕ) → Told O h P → O → IsFirst Q f → 0 < offset f → Below P mid → From mid Q → IsFirst (λ g. P g ⊎ Q g) (earlier h f)
  told_first None f mid p o q l b r = subst (IsFirst (λ g. P g ⊎ Q g)) (sym (earlier_none f)) (first_right P Q f p q)
  told_first (Some d) f mid p o q l b r = subst (IsFirst (λ g. P g ⊎ Q g)) (sym (earlier_some d f l)) (first_left P Q (deep d) mid (p o) (b (deep d) (p o).is_one) r)

pub first_of_same : (P Q : TypeFault → Type 0) (f : TypeFault) → ((g : TypeFault) → P g → Q g) → ((g : TypeFault) → Q g → P g) → IsFirst P f → IsFirst Q f
first_of_same P Q f to back p = record { is_one = to f p.is_one; least = λ g h. p.least g (back g h) }

pub told_same : (O : Type 0) (P Q : TypeFault → Type 0) (h : Option High) → ((g : TypeFault) → P g → Q g) → ((g : TypeFault) → Q g → P g) → Told O h P → Told O h Q
told_same O P Q None to back p = λ f x. p f (back f x)
told_same O P Q (Some d) to back p = λ o. first_of_same P Q (deep d) to back (p o)

-- the order of a part is that of the whole
pub told_within : (O N : Type 0) (P : TypeFault → Type 0) (h : Option High) → (N → O) → Told O h P → Told N h P
told_within O N P None part p = p
told_within O N P (Some d) part p = λ o. p (part o)

-- ---- one expression or place

told_less : (h : ℕ) → told h ≤ h
told_less h = omega arith

told_low : (h : ℕ) → told h ≤ 24 → h ≤ 24
told_low h l = omega arith

module _ (O : Type 0) (c : Child) (h : ℕ) (breaks : Faults) (n : IsClean c.faults) (m : O → (g : TypeFault) → breaks g → offset g ≡ c.at → ⊥) where
  told_case : (b : Bool) → nat_lt 24 (told h) ≡ b → Told O (if b then Some (record { at = c.at; depth = told h }) else None) (IsDeep c h breaks)
  told_case true e = λ o. let l : 24 < told h = grind arith in let k = told_less h in record {
    is_one = (omega arith, n, m o, refl);
    least = λ g x. inl x.3;
  }
  told_case false e = λ f x. let l : told h ≤ 24 = grind arith in let k = told_low h l in let i = x.0 in omega arith

  pub told_deep : Told O (too_high c.at (told h)) (IsDeep c h breaks)
  told_deep = told_case (nat_lt 24 (told h)) refl
