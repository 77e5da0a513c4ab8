-- The source and the handlers of a cycle that is shown exist.
use Rattle.std.proofs.Common.{◌≡◌, inl, inr, ℕ, zero, suc, ◌<◌, List, [], ◌∷◌, length, get_or, filter, find, All, Bool, cond, Option, Some, None, unwrap_or, refl, sym, ap, ◌∙◌, subst}
use Rattle.std.specs.Prelude.{◌&&◌, ◌==◌}
use Rattle.std.specs.List.{list_any}
use Rattle.std.proofs.lemmas.Bool.{cases_Bool}
use Rattle.tower_syntax.specs.declared.arch.On.TheVariants as on
use Rattle.tower_syntax.specs.Arch.{Arch}
use Rattle.tower_syntax.specs.Graph.{leads, handler_numbers, handlers_on, spread, spread_times, reached_by}
use Rattle.tower_syntax.specs.Weights.{source_numbers}
use Rattle.channel_graph.specs.declared.circuit.CycleFound.{CycleFound}
use Rattle.channel_graph.specs.Circuit.{near, circuit, nearer, walk, walk_if, walk_round, or_else, first_of_all, found_at, shown_at, shown}
use Rattle.channel_graph.proofs.Members.{In, filter_has, number_below, In-get_or}

record First {A : Type 0} (f : ℕ → Option A) (ks : List ℕ) (x : A) : Type 0 where
  at : ℕ
  has : In at ks
  is : f at ≡ Some x

none_some : {A : Type 0} (x : A) → None ≡ Some x → ⊥
none_some x e = cc

first_by : {A : Type 0} (f : ℕ → Option A) (k : ℕ) (ks : List ℕ) (x : A) → (first_of_all f ks ≡ Some x → First f ks x) → (o : Option A) → f k ≡ o → or_else o (first_of_all f ks) ≡ Some x → First f (k ∷ ks) x
first_by f k ks x later None g h = let r = later h in record { at = r.at; has = inr r.has; is = r.is }
first_by f k ks x later (Some y) g h = record { at = k; has = inl refl; is = g ∙ h }

first_some : {A : Type 0} (f : ℕ → Option A) (ks : List ℕ) (x : A) → first_of_all f ks ≡ Some x → First f ks x
first_some f [] x e = absurd (none_some x e)
first_some f (k ∷ ks) x e = first_by f k ks x (λ h. first_some f ks x h) (f k) refl e

found_has : (s : ℕ) (o : Option (List ℕ)) (c : CycleFound) → found_at s o ≡ Some c → (c.source ≡ s) × (o ≡ Some c.walk)
found_has s None c e = absurd (none_some c e)
found_has s (Some ks) c e =
    let same : record { source = s; walk = ks } ≡ c = cc in
    (ap (λ d. d.source) (sym same), ap (λ d. Some d.walk) same)

-- a cycle that is shown is that of a source that exists, from a handler on that the source reaches
record ShownFrom (arch : Arch) (c : CycleFound) : Type 0 where
  source : c.source < length arch.sources
  first : ℕ
  has : In first (reached_by arch c.source)
  round : walk_round arch first ≡ Some c.walk

shown_from : (arch : Arch) (c : CycleFound) → shown arch ≡ Some c → ShownFrom arch c
shown_from arch c e =
    let s = first_some (shown_at arch) (source_numbers arch) c e in
    let f = found_has s.at _ c s.is in
    let h = first_some (walk_round arch) (reached_by arch s.at) c.walk f.1 in
    record {
      source = subst (λ n. n < length arch.sources) (sym f.0) (number_below (length arch.sources) s.at s.has);
      first = h.at;
      has = subst (λ n. In h.at (reached_by arch n)) (sym f.0) h.has;
      round = h.is;
    }

-- ---- what a source reaches exists

abbrev AreThere : Arch → List ℕ → Type 0
AreThere arch ks = (k : ℕ) → In k ks → k < length arch.handlers

numbered : (arch : Arch) (p : ℕ → Bool) → AreThere arch (filter p (handler_numbers arch))
numbered arch p k h = number_below (length arch.handlers) k (filter_has p (handler_numbers arch) k h).0

spread_there : (arch : Arch) (n : ℕ) (hs : List ℕ) → AreThere arch hs → AreThere arch (spread_times arch n hs)
spread_there arch zero hs h = h
spread_there arch (suc n) hs h = spread_there arch n (spread arch hs) (numbered arch _)

reached_there : (arch : Arch) (s : ℕ) → AreThere arch (reached_by arch s)
reached_there arch s = spread_there arch (length arch.handlers) (handlers_on arch (on.Source s)) (numbered arch _)

-- ---- and so does the walk round from it

found_in : (q : ℕ → Bool) (ks : List ℕ) (j : ℕ) → find q ks ≡ Some j → In j ks
found_in q [] j e = cc
found_in q (k ∷ ks) j e = elim (cases_Bool (q k)) [
  | inl t ↦
      let s : Some k ≡ Some j = subst (λ b. cond b (Some k) (find q ks) ≡ Some j) t e in
      let same : j ≡ k = cc in
      inl same
  | inr t ↦ inr (found_in q ks j (subst (λ b. cond b (Some k) (find q ks) ≡ Some j) t e))
]

nearer_there : (arch : Arch) (h n k : ℕ) → k < length arch.handlers → nearer arch h n k < length arch.handlers
nearer_there arch h n k l = by (find q (handler_numbers arch)) refl
  where
    q : ℕ → Bool
    q j = leads arch k j && list_any (λ i. i == j) (near arch h n)

    by : (o : Option ℕ) → find q (handler_numbers arch) ≡ o → unwrap_or o k < length arch.handlers
    by None e = l
    by (Some j) e = number_below (length arch.handlers) j (found_in q (handler_numbers arch) j e)

same_there : (arch : Arch) (j k : ℕ) → j ≡ k → k < length arch.handlers → j < length arch.handlers
same_there arch j k e l = subst (λ n. n < length arch.handlers) (sym e) l

walk_there : (arch : Arch) (h n k : ℕ) → k < length arch.handlers → AreThere arch (walk arch h n k)
walk_there arch h zero k l j (inl e) = same_there arch j k e l
walk_there arch h zero k l j (inr e) = absurd e
walk_there arch h (suc n) k l j (inl e) = same_there arch j k e l
walk_there arch h (suc n) k l j (inr e) = walk_there arch h n (nearer arch h (suc n) k) (nearer_there arch h (suc n) k l) j e

round_there : (arch : Arch) (h : ℕ) (way : List ℕ) → h < length arch.handlers → walk_round arch h ≡ Some way → AreThere arch way
round_there arch h way l e = by (circuit arch h) refl
  where
    by : (o : Option ℕ) → circuit arch h ≡ o → AreThere arch way
    by None g = absurd (none_some way (sym (ap (walk_if arch h) g) ∙ e))
    by (Some n) g =
        let s : Some (walk arch h n h) ≡ Some way = sym (ap (walk_if arch h) g) ∙ e in
        let same : walk arch h n h ≡ way = cc in
        subst (AreThere arch) same (walk_there arch h n h l)

pub shown_source : (arch : Arch) (c : CycleFound) → shown arch ≡ Some c → c.source < length arch.sources
shown_source arch c e = (shown_from arch c e).source

pub shown_walk : (arch : Arch) (c : CycleFound) → shown arch ≡ Some c → All (λ j. j < length arch.handlers) c.walk
shown_walk arch c e =
    let r = shown_from arch c e in
    let t = round_there arch r.first c.walk (reached_there arch c.source r.first r.has) r.round in
    λ i d l. t (get_or c.walk i d) (In-get_or c.walk i d l)
