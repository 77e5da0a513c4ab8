-- The first fault of a node, by what is known of its children.
use Rattle.std.proofs.Common.{Option, ◌≡◌, ℕ, ◌<◌, ◌≤◌, inl, inr, List, [], ◌∷◌, Some, None, Bool, true, false, refl, ap, sym, subst, ◌∙◌, arith}
use Rattle.std.proofs.lemmas.Option.{none-some, same_Some}
use Rattle.tower_types.specs.Ty.{Ty, Name}
use Rattle.arch_types.specs.declared.fault.TypeFault.{TypeFault}
use Rattle.arch_types.specs.Wanted.{Wanted, fulfils, misfit, unless}
use Rattle.arch_types.specs.Offence.{Child, Test, Row, end, child, InSome, HaveTypes, Misses, none_before, Node, offset, IsClean, IsFirst}

-- a fault stands from a place on, and before another
pub record Within (lo : ℕ) (hi : ℕ) (f : TypeFault) : Type 0 where
  pub from : lo ≤ offset f
  pub below : offset f < hi

pub wider : (lo hi lo' hi' : ℕ) (f : TypeFault) → lo' ≤ lo → hi ≤ hi' → Within lo hi f → Within lo' hi' f
wider lo hi lo' hi' f a b w = let x = w.from in let y = w.below in record { from = omega arith; below = omega arith }

-- a child has one type at most, and none where a fault is in it
pub record IsOne (c : Child) : Type 0 where
  pub one : (t u : Ty) → c.has t → c.has u → t ≡ u
  pub clean : (t : Ty) (f : TypeFault) → c.has t → c.faults f → ⊥

abbrev pub Ones : Row → Type 0
Ones end = Unit {0}
Ones (child c test row) = IsOne c × Ones row

-- a child's faults stand within it
pub record IsSound (c : Child) (bound : ℕ) : Type 0 where
  pub begins : c.at < bound
  pub within : (f : TypeFault) → c.faults f → Within c.at bound f

abbrev pub start : Row → ℕ → ℕ
start end bound = bound
start (child c test row) bound = c.at

-- the children follow each other, and what is wrong with a child's type stands within it
abbrev pub Spans : Row → ℕ → Type 0
Spans end bound = Unit {0}
Spans (child c test row) bound =
    IsSound c (start row bound) × ((before t : Ty) (f : TypeFault) → test before t ≡ Some f → Within c.at (start row bound) f) × Spans row bound

pub start_within : (row : Row) (bound : ℕ) → Spans row bound → start row bound ≤ bound
start_within end bound s = omega arith
start_within (child c test row) bound s = let x = s.0.begins in let y = start_within row bound s.2 in omega arith

pub inside : (row : Row) (bound : ℕ) (f : TypeFault) → Spans row bound → InSome row f → Within (start row bound) bound f
inside end bound f s h = absurd h
inside (child c test row) bound f s h = let x = s.0.begins in let y = start_within row bound s.2 in elim h [
  | inl k ↦ wider c.at (start row bound) c.at bound f (omega arith) y (s.0.within f k)
  | inr k ↦ wider (start row bound) bound c.at bound f (omega arith) (omega arith) (inside row bound f s.2 k)
]

pub misses_inside : (before : Ty) (row : Row) (ts : List Ty) (bound : ℕ) (f : TypeFault) → Spans row bound → Misses before row ts f → Within (start row bound) bound f
misses_inside before end ts bound f s h = absurd h
misses_inside before (child c test row) [] bound f s h = absurd h
misses_inside before (child c test row) (t ∷ ts) bound f s h = let x = s.0.begins in let y = start_within row bound s.2 in elim h [
  | inl k ↦ wider c.at (start row bound) c.at bound f (omega arith) y (s.1 before t f k)
  | inr k ↦ wider (start row bound) bound c.at bound f (omega arith) (omega arith) (misses_inside t row ts bound f s.2 k)
]

pub node_within : (row : Row) (bound : ℕ) (f : TypeFault) → Spans row bound → Node row f → Within (start row bound) bound f
node_within row bound f s h = elim h [
  | inl k ↦ inside row bound f s k
  | inr k ↦ misses_inside none_before row k.0 bound f s k.2
]

pub types_one : (row : Row) (ts us : List Ty) → Ones row → HaveTypes row ts → HaveTypes row us → ts ≡ us
types_one end [] [] s h k = refl
types_one end [] (u ∷ us) s h k = absurd k
types_one end (t ∷ ts) us s h k = absurd h
types_one (child c test row) [] us s h k = absurd h
types_one (child c test row) (t ∷ ts) [] s h k = absurd k
types_one (child c test row) (t ∷ ts) (u ∷ us) s h k = λ i. s.0.one t u h.0 k.0 i ∷ types_one row ts us s.1 h.1 k.1 i

pub types_clean : (row : Row) (ts : List Ty) → Ones row → HaveTypes row ts → IsClean (InSome row)
types_clean end ts s h f k = k
types_clean (child c test row) [] s h f k = absurd h
types_clean (child c test row) (t ∷ ts) s h f k = elim k [
  | inl x ↦ s.0.clean t f h.0 x
  | inr x ↦ types_clean row ts s.1 h.1 f x
]

-- ---- the first fault in the children

pub first_child : (c : Child) (test : Test) (row : Row) (bound : ℕ) (f : TypeFault) → Spans (child c test row) bound → IsFirst c.faults f → IsFirst (InSome (child c test row)) f
first_child c test row bound f s p = record {
  is_one = inl p.is_one;
  least = λ g h. elim h [
    | inl x ↦ p.least g x
    | inr x ↦ let a = s.0.within f p.is_one in let b = inside row bound g s.2 x in let i = a.below in let j = b.from in inr (omega arith)
  ];
}

pub next_child : (c : Child) (test : Test) (row : Row) (f : TypeFault) → IsClean c.faults → IsFirst (InSome row) f → IsFirst (InSome (child c test row)) f
next_child c test row f n p = record {
  is_one = inr p.is_one;
  least = λ g h. elim h [ inl x ↦ absurd (n g x) | inr x ↦ p.least g x ];
}

pub in_children : (row : Row) (f : TypeFault) → Ones row → IsFirst (InSome row) f → IsFirst (Node row) f
in_children row f s p = record {
  is_one = inl p.is_one;
  least = λ g h. elim h [ inl x ↦ p.least g x | inr x ↦ absurd (types_clean row x.0 s x.1 f p.is_one) ];
}

-- ---- the first fault of the types

pub first_miss : (before : Ty) (c : Child) (test : Test) (row : Row) (bound : ℕ) (t : Ty) (ts : List Ty) (f : TypeFault) → Spans (child c test row) bound → test before t ≡ Some f → IsFirst (Misses before (child c test row) (t ∷ ts)) f
first_miss before c test row bound t ts f s e = record {
  is_one = inl e;
  least = λ g h. elim h [
    | inl x ↦ inl (same_Some _ _ (sym x ∙ e))
    | inr x ↦ let a = s.1 before t f e in let b = misses_inside t row ts bound g s.2 x in let i = a.below in let j = b.from in inr (omega arith)
  ];
}

pub next_miss : (before : Ty) (c : Child) (test : Test) (row : Row) (t : Ty) (ts : List Ty) (f : TypeFault) → test before t ≡ None → IsFirst (Misses t row ts) f → IsFirst (Misses before (child c test row) (t ∷ ts)) f
next_miss before c test row t ts f e p = record {
  is_one = inr p.is_one;
  least = λ g h. elim h [ inl x ↦ absurd (none-some _ (sym e ∙ x)) | inr x ↦ p.least g x ];
}

pub no_miss : (before : Ty) (c : Child) (test : Test) (row : Row) (t : Ty) (ts : List Ty) → test before t ≡ None → IsClean (Misses t row ts) → IsClean (Misses before (child c test row) (t ∷ ts))
no_miss before c test row t ts e n f h = elim h [ inl x ↦ none-some _ (sym e ∙ x) | inr x ↦ n f x ]

pub in_types : (row : Row) (ts : List Ty) (f : TypeFault) → Ones row → HaveTypes row ts → IsFirst (Misses none_before row ts) f → IsFirst (Node row) f
in_types row ts f s h p = record {
  is_one = inr (ts, h, p.is_one);
  least = λ g k. elim k [
    | inl x ↦ absurd (types_clean row ts s h g x)
    | inr x ↦ p.least g (subst (λ us. Misses none_before row us g) (types_one row x.0 ts s x.1 h) x.2)
  ];
}

pub node_clean : (row : Row) (ts : List Ty) → Ones row → HaveTypes row ts → IsClean (Misses none_before row ts) → IsClean (Node row)
node_clean row ts s h n f k = elim k [
  | inl x ↦ types_clean row ts s h f x
  | inr x ↦ n f (subst (λ us. Misses none_before row us f) (types_one row x.0 ts s x.1 h) x.2)
]

-- ---- what is wrong with a type stands where its node does

pub unless_at : (b : Bool) (g f : TypeFault) → unless b g ≡ Some f → f ≡ g
unless_at true g f h = absurd (none-some _ h)
unless_at false g f h = sym (same_Some _ _ h)

pub unless_none : (b : Bool) (g : TypeFault) → unless b g ≡ None → b ≡ true
unless_none true g h = refl
unless_none false g h = absurd (none-some _ (sym h))

pub misfit_at : (names : List Name) (at : ℕ) (w : Wanted) (t : Ty) (f : TypeFault) → misfit names at w t ≡ Some f → offset f ≡ at
misfit_at names at w t f h = ap offset (unless_at _ _ f h)

pub misfit_within : (names : List Name) (at bound : ℕ) (w : Wanted) (t : Ty) (f : TypeFault) → at < bound → misfit names at w t ≡ Some f → Within at bound f
misfit_within names at bound w t f l h = let e = misfit_at names at w t f h in record { from = omega arith; below = omega arith }

pub fits_none : (names : List Name) (at : ℕ) (w : Wanted) (t : Ty) → fulfils w t ≡ true → misfit names at w t ≡ None
fits_none names at w t h = rw h refl

pub absent : (o : Option TypeFault) (f : TypeFault) → o ≡ None → o ≡ Some f → ⊥
absent o f e x = none-some _ (sym e ∙ x)

-- no type of up to three children misses
pub none_of_one : (c : Child) (test : Test) (t : Ty) → test none_before t ≡ None → IsClean (Misses none_before (child c test end) (t ∷ []))
none_of_one c test t e f h = elim h [ inl x ↦ absent _ f e x | inr x ↦ x ]

pub none_of_two : (c d : Child) (test last : Test) (t u : Ty) → test none_before t ≡ None → last t u ≡ None → IsClean (Misses none_before (child c test (child d last end)) (t ∷ u ∷ []))
none_of_two c d test last t u e i f h = elim h [
  | inl x ↦ absent _ f e x
  | inr x ↦ elim x [ inl y ↦ absent _ f i y | inr y ↦ y ]
]

pub none_of_three : (b c d : Child) (first test last : Test) (s t u : Ty) → first none_before s ≡ None → test s t ≡ None → last t u ≡ None → IsClean (Misses none_before (child b first (child c test (child d last end))) (s ∷ t ∷ u ∷ []))
none_of_three b c d first test last s t u a e i f h = elim h [
  | inl x ↦ absent _ f a x
  | inr x ↦ elim x [
    | inl y ↦ absent _ f e y
    | inr y ↦ elim y [ inl z ↦ absent _ f i z | inr z ↦ z ]
  ]
]
