-- The fault that is computed is the first offence.
use Rattle.std.proofs.Common.{map, ◌≡◌, ◌⊎◌, inl, inr, ℕ, ◌<◌, Bool, true, false, nat_eq, nat_lt, if◌then◌else◌, List, [], ◌∷◌, Option, Some, None, Contains, refl, sym, ap, subst, ◌∙◌, true≢false, arith}
use Rattle.std.proofs.lemmas.List.Elements.{Contains-append_cases, Contains-append_right, Contains-push_cases}
use Rattle.std.proofs.lemmas.Bool.{eqb-true, eq-eqb, ltb-true, lt-ltb}
use Rattle.std.specs.Option.{option_map, option_or, unwrap_or}
use Rattle.tower_syntax.specs.RawTree.{Id}
use Rattle.tower_syntax.specs.declared.named.Target.{Target}
use Rattle.tower_syntax.specs.declared.named.Target.TheVariants as target
use Rattle.arch_names.specs.declared.names.Declared.{Declared}
use Rattle.arch_names.specs.declared.names.Thing.{Thing}
use Rattle.arch_names.specs.declared.fault.Sort.{Sort}
use Rattle.arch_names.specs.declared.fault.Sort.TheVariants as sort
use Rattle.arch_names.specs.declared.fault.NameFault.{NameFault}
use Rattle.arch_names.specs.declared.fault.NameFault.TheVariants as fault
use Rattle.arch_names.specs.Names.{sort_of, serves}
use Rattle.arch_names.specs.Site.{Site, declares, binds, refers, part_type, picks, id_at, Means, Offends, IsUse}
use Rattle.arch_names.specs.Resolved.{offset}
use Rattle.arch_names.specs.Written.{IsBelow, AreAscending}
use Rattle.arch_names.specs.Walk.{served, served_before, unless_found, first_but_own, kind_fault, fault_at, first, meant}

none≢some : {X : Type 0} {x : X} → None ≡ Some x → ⊥
none≢some e = cc

some-injective : {X : Type 0} {x y : X} → Some x ≡ Some y → x ≡ y
some-injective e = cc

-- a site has a fault exactly where it offends
own_fault : (x : Id) (at : ℕ) (b : Bool) (f : NameFault) → nat_eq at x.at ≡ b → (if b then None else Some (fault.Twice x.at at)) ≡ Some f → (at ≡ x.at → ⊥) × (f ≡ fault.Twice x.at at)
own_fault x at true f e h = absurd (none≢some h)
own_fault x at false f e h = (λ same. true≢false (sym (eq-eqb at x.at same) ∙ e), sym (some-injective h))

own_other : (x : Id) (at : ℕ) (b : Bool) → nat_eq at x.at ≡ b → (at ≡ x.at → ⊥) → (if b then None else Some (fault.Twice x.at at)) ≡ Some (fault.Twice x.at at)
own_other x at true e h = absurd (h (eqb-true at x.at e))
own_other x at false e h = refl

kind_fault_is : (want : Sort) (u : Id) (d : Declared Thing) (r : Option Target) (f : NameFault) → serves want d.what ≡ r → unless_found r (kind_fault want u (Some d)) ≡ Some f → (serves want d.what ≡ None) × (f ≡ fault.Kind u.at want (sort_of d.what))
kind_fault_is want u d None f e h = (e, sym (some-injective h))
kind_fault_is want u d (Some t) f e h = absurd (none≢some h)

before_means : (record_at : ℕ) (u : Id) (d : Declared Thing) (b : Bool) (t : Target) → nat_lt d.at record_at ≡ b → (if b then serves sort.Record d.what else None) ≡ Some t → Means (part_type record_at (Some d) u) t
before_means record_at u d true t e h = (d, refl, h, ltb-true d.at record_at e)
before_means record_at u d false t e h = absurd (none≢some h)

served_means : (record_at : ℕ) (found : Option (Declared Thing)) (u : Id) (t : Target) → served_before record_at found ≡ Some t → Means (part_type record_at found u) t
served_means record_at None u t h = absurd (none≢some h)
served_means record_at (Some d) u t h = before_means record_at u d (nat_lt d.at record_at) t refl h

means_served : (record_at : ℕ) (found : Option (Declared Thing)) (u : Id) (t : Target) → Means (part_type record_at found u) t → served_before record_at found ≡ Some t
means_served record_at found u t h = ap (served_before record_at) h.1 ∙ ap (λ b. if b then serves sort.Record h.0.what else None) (lt-ltb h.0.at record_at h.3) ∙ h.2

no_means : (record_at : ℕ) (found : Option (Declared Thing)) (u : Id) (r : Option Target) → served_before record_at found ≡ r → unless_found r (fault.Unknown u.at) ≡ None → (t : Target) × Means (part_type record_at found u) t
no_means record_at found u (Some t) e h = (t, served_means record_at found u t e)
no_means record_at found u None e h = absurd (none≢some (sym h))

unknown_is : {T : Type 0} (r : Option T) (g f : NameFault) → unless_found r g ≡ Some f → (r ≡ None) × (f ≡ g)
unknown_is None g f h = (refl, sym (some-injective h))
unknown_is (Some x) g f h = absurd (none≢some h)

pub fault_offends : (s : Site) (f : NameFault) → fault_at s ≡ Some f → Offends s f
fault_offends (declares None x) f h = absurd (none≢some h)
fault_offends (declares (Some at) x) f h = let k = own_fault x at (nat_eq at x.at) f refl h in (at, refl, k.0, k.1)
fault_offends (binds None x) f h = absurd (none≢some h)
fault_offends (binds (Some at) x) f h = (at, refl, sym (some-injective h))
fault_offends (refers want None u) f h = inl (refl, sym (some-injective h))
fault_offends (refers want (Some d) u) f h = let k = kind_fault_is want u d (serves want d.what) f refl h in inr (d, refl, k.0, k.1)
fault_offends (part_type record_at found u) f h = let k = unknown_is (served_before record_at found) (fault.Unknown u.at) f h in (λ t m. none≢some (sym k.0 ∙ means_served record_at found u t m), k.1)
fault_offends (picks found u) f h = let k = unknown_is found (fault.Unknown u.at) f h in (k.0, k.1)

nothing_served : (record_at : ℕ) (found : Option (Declared Thing)) (u : Id) (r : Option Target) → served_before record_at found ≡ r → ((t : Target) → Means (part_type record_at found u) t → ⊥) → unless_found r (fault.Unknown u.at) ≡ Some (fault.Unknown u.at)
nothing_served record_at found u None e h = refl
nothing_served record_at found u (Some t) e h = absurd (h t (served_means record_at found u t e))

pub offends_fault : (s : Site) (f : NameFault) → Offends s f → fault_at s ≡ Some f
offends_fault (declares first x) f h = ap (first_but_own x) h.1 ∙ own_other x h.0 (nat_eq h.0 x.at) refl h.2 ∙ ap Some (sym h.3)
offends_fault (binds other x) f h = ap (option_map (λ at. fault.Twice x.at at)) h.1 ∙ ap Some (sym h.2)
offends_fault (refers want found u) f (inl h) = ap (λ o. unless_found (served want o) (kind_fault want u o)) h.0 ∙ ap Some (sym h.1)
offends_fault (refers want found u) f (inr h) = ap (λ o. unless_found (served want o) (kind_fault want u o)) h.1 ∙ ap (λ o. unless_found o (kind_fault want u (Some h.0))) h.2 ∙ ap Some (sym h.3)
offends_fault (part_type record_at found u) f h = nothing_served record_at found u (served_before record_at found) refl h.0 ∙ ap Some (sym h.1)
offends_fault (picks found u) f h = ap (λ o. unless_found o (fault.Unknown u.at)) h.0 ∙ ap Some (sym h.1)

-- and a use without a fault means what it is given
kind_means : (want : Sort) (d : Declared Thing) (r : Option Target) (g : NameFault) → serves want d.what ≡ r → unless_found r g ≡ None → serves want d.what ≡ Some (unwrap_or r target.Param)
kind_means want d None g e h = absurd (none≢some (sym h))
kind_means want d (Some t) g e h = e

part_means : (record_at : ℕ) (found : Option (Declared Thing)) (u : Id) (r : Option Target) → served_before record_at found ≡ r → unless_found r (fault.Unknown u.at) ≡ None → Means (part_type record_at found u) (unwrap_or r target.Param)
part_means record_at found u (Some t) e h = served_means record_at found u t e
part_means record_at found u None e h = absurd (none≢some (sym h))

pub clean_means : (s : Site) → IsUse s → fault_at s ≡ None → Means s (meant s)
clean_means (declares first x) used h = absurd used
clean_means (binds other x) used h = absurd used
clean_means (refers want None u) used h = absurd (none≢some (sym h))
clean_means (refers want (Some d) u) used h = (d, refl, kind_means want d (serves want d.what) (kind_fault want u (Some d)) refl h)
clean_means (part_type record_at found u) used h = part_means record_at found u (served_before record_at found) refl h
clean_means (picks None u) used h = absurd (none≢some (sym h))
clean_means (picks (Some d) u) used h = (d, refl, refl)

pub offends_at : (s : Site) (f : NameFault) → Offends s f → offset f ≡ (id_at s).at
offends_at (declares first x) f h = ap offset h.3
offends_at (binds other x) f h = ap offset h.2
offends_at (refers want found u) f (inl h) = ap offset h.1
offends_at (refers want found u) f (inr h) = ap offset h.3
offends_at (part_type record_at found u) f h = ap offset h.1
offends_at (picks found u) f h = ap offset h.1

-- lists of sites
pub here : (a : Site) (ss : List Site) → Contains (a ∷ ss) a
here a ss = (0, omega arith, refl)

pub there : (a s : Site) (ss : List Site) → Contains ss s → Contains (a ∷ ss) s
there a s ss h = Contains-append_right (a ∷ []) ss s h

nowhere : (s : Site) → Contains [] s → ⊥
nowhere s h = omega arith

in_cons : (a s : Site) (ss : List Site) → Contains (a ∷ ss) s → (a ≡ s) ⊎ Contains ss s
in_cons a s ss h = elim (Contains-append_cases (a ∷ []) ss s h) [
  | inl k ↦ elim (Contains-push_cases [] a s k) [ inl n ↦ absurd (nowhere s n) | inr e ↦ inl e ]
  | inr k ↦ inr k
]

none_of_both : (r s : Option NameFault) → option_or r s ≡ None → (r ≡ None) × (s ≡ None)
none_of_both None s h = (refl, h)
none_of_both (Some f) s h = absurd (none≢some (sym h))

some_of_both : (r s : Option NameFault) (f : NameFault) → option_or r s ≡ Some f → (r ≡ Some f) ⊎ ((r ≡ None) × (s ≡ Some f))
some_of_both None s f h = inr (refl, h)
some_of_both (Some g) s f h = inl h

pub clean_at : (ss : List Site) (s : Site) → first ss ≡ None → Contains ss s → fault_at s ≡ None
clean_at [] s h k = absurd (nowhere s k)
clean_at (a ∷ ss) s h k = let p = none_of_both (fault_at a) (first ss) h in elim (in_cons a s ss k) [ inl e ↦ ap fault_at (sym e) ∙ p.0 | inr m ↦ clean_at ss s p.1 m ]

pub first_at : (ss : List Site) (f : NameFault) → first ss ≡ Some f → (s : Site) × Contains ss s × Offends s f
first_at [] f h = absurd (none≢some h)
first_at (a ∷ ss) f h = elim (some_of_both (fault_at a) (first ss) f h) [
  | inl e ↦ (a, here a ss, fault_offends a f e)
  | inr p ↦ let r = first_at ss f p.1 in (r.0, there a r.0 ss r.1, r.2)
]

below_in : (n : ℕ) (ss : List Site) (s : Site) → IsBelow n (map (λ t. (id_at t).at) ss) → Contains ss s → n < (id_at s).at
below_in n [] s o k = absurd (nowhere s k)
below_in n (a ∷ ss) s o k = elim (in_cons a s ss k) [ inl e ↦ subst (λ z. n < (id_at z).at) e o.0 | inr m ↦ below_in n ss s o.1 m ]

pub least_at : (ss : List Site) (f g : NameFault) (s : Site) → AreAscending (map (λ t. (id_at t).at) ss) → first ss ≡ Some f → Contains ss s → Offends s g → (g ≡ f) ⊎ (offset f < offset g)
least_at [] f g s o h k q = absurd (nowhere s k)
least_at (a ∷ ss) f g s o h k q = elim (some_of_both (fault_at a) (first ss) f h) [
  | inl e ↦ elim (in_cons a s ss k) [
    | inl i ↦ inl (some-injective (sym (offends_fault a g (subst (λ z. Offends z g) (sym i) q)) ∙ e))
    | inr m ↦ inr (let l : (id_at a).at < (id_at s).at = below_in (id_at a).at ss s o.0 m in let x = offends_at a f (fault_offends a f e) in let y = offends_at s g q in omega (arith, l, x, y))
  ]
  | inr p ↦ elim (in_cons a s ss k) [
    | inl i ↦ absurd (none≢some (sym p.0 ∙ offends_fault a g (subst (λ z. Offends z g) (sym i) q)))
    | inr m ↦ least_at ss f g s o.1 p.1 m q
  ]
]
