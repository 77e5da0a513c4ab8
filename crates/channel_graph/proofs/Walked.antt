-- Walks, their lengths, and handlers that stand on one twice.
use Rattle.std.proofs.Common.{◌≡◌, ℕ, zero, suc, ◌+◌, ◌<◌, ◌≤◌, List, [], ◌∷◌, ◌++◌, length, filter, take, get_or, replicate, cond, not, Bool, true, false, ◌⊎◌, inl, inr, ◌==◌, arith, refl, sym, ◌∙◌, ap, subst}
use Rattle.std.proofs.lemmas.Bool.{false≢true, cases_Bool, cases_lt, eqb-true, eq-eqb}
use Rattle.std.proofs.lemmas.List.{length-append, get_or_append_left, get_or_past, length-replicate, get_or-replicate, length-take-le}
use Rattle.std.proofs.Math.Seq.{get_or-append_seam}
use Rattle.tower_syntax.specs.declared.arch.On.TheVariants as on
use Rattle.tower_syntax.specs.declared.arch.Listener.TheVariants as to
use Rattle.tower_syntax.specs.Arch.{Arch}
use Rattle.tower_syntax.specs.Graph.{handler, subs, hears, same_on, Reaches}
use Rattle.tower_syntax.specs.Graph.{begins as reach_begins, goes as reach_goes}
use Rattle.tower_syntax.specs.WellNumbered.{AreListeners, IsWellNumbered}
use Rattle.channel_graph.specs.declared.reach.Start.TheVariants as start
use Rattle.channel_graph.specs.Reaching.{Follows, begins, goes}
use Rattle.channel_graph.specs.Circuit.{LeadsBack, IsAcyclic}
use Rattle.channel_graph.specs.Ranked.{rank, is_loud, AreLoud}
use Rattle.channel_graph.specs.Chain.{IsOnSource, LeadsAlong, IsWalk, IsChain, IsChainWithin}
use Rattle.channel_graph.specs.Lengths.{Starts, LeadsToMark, AreBefore, AreStarts, IsStart, IsOnMark, HasWalk}
use Rattle.channel_graph.proofs.Members.{In, filter_has, has_filter, contains_from_In, In-from_contains}
use Rattle.channel_graph.proofs.Linked.{link_of, source_handler_below, below_listed}
use Rattle.channel_graph.proofs.Rounds.{loud_leads, leads_loud}

-- ---- a list with more numbers than there are has one twice

abbrev Repeats : List ℕ → Type 0
Repeats [] = ⊥
Repeats (x ∷ xs) = In x xs ⊎ Repeats xs

abbrev EachBelow : ℕ → List ℕ → Type 0
EachBelow n [] = Unit {0}
EachBelow n (x ∷ xs) = (x < n) × EachBelow n xs

abbrev others : ℕ → List ℕ → List ℕ
others n xs = filter (λ x. not (x == n)) xs

others_same : (n x : ℕ) (xs : List ℕ) → (x == n) ≡ true → others n (x ∷ xs) ≡ others n xs
others_same n x xs e = ap (λ b. cond (not b) (x ∷ others n xs) (others n xs)) e

others_other : (n x : ℕ) (xs : List ℕ) → (x == n) ≡ false → others n (x ∷ xs) ≡ x ∷ others n xs
others_other n x xs e = ap (λ b. cond (not b) (x ∷ others n xs) (others n xs)) e

-- what stands twice among the others stands twice
repeats_among : (n : ℕ) (xs : List ℕ) → Repeats (others n xs) → Repeats xs
repeats_among n [] r = r
repeats_among n (x ∷ xs) r = elim (cases_Bool (x == n)) [
  | inl same ↦ inr (repeats_among n xs (subst Repeats (others_same n x xs same) r))
  | inr other ↦ elim (subst Repeats (others_other n x xs other) r) [
    | inl here ↦ inl (filter_has (λ y. not (y == n)) xs x here).0
    | inr later ↦ inr (repeats_among n xs later)
  ]
]

below_among : (n : ℕ) (xs : List ℕ) → EachBelow (suc n) xs → EachBelow n (others n xs)
below_among n [] b = b
below_among n (x ∷ xs) b = elim (cases_Bool (x == n)) [
  | inl same ↦ subst (EachBelow n) (sym (others_same n x xs same)) (below_among n xs b.1)
  | inr other ↦
      let here : x < n = elim (cases_lt x n) [
        | inl lt ↦ lt
        | inr ge ↦ let same : x ≡ n = omega (arith, b.0) in absurd (false≢true (sym other ∙ eq-eqb x n same))
      ] in
      subst (EachBelow n) (sym (others_other n x xs other)) (here, below_among n xs b.1)
]

-- all but one are others, or one stands twice
few_taken : (n : ℕ) (xs : List ℕ) → Repeats xs ⊎ (length xs ≤ length (others n xs) + 1)
few_taken n [] = inr (omega arith)
few_taken n (x ∷ xs) = elim (few_taken n xs) [
  | inl twice ↦ inl (inr twice)
  | inr few ↦ elim (cases_Bool (x == n)) [
    | inr other ↦ inr (omega (arith, few, ap length (others_other n x xs other)))
    | inl same ↦ elim (cases_lt (length (others n xs)) (length xs)) [
      | inl less ↦ inl (inl (subst (λ y. In y xs) (sym (eqb-true x n same)) (taken n xs less)))
      | inr all ↦ inr (omega (arith, all, ap length (others_same n x xs same)))
    ]
  ]
]
  where
    -- where the others are fewer, n is there
    taken : (n : ℕ) (xs : List ℕ) → length (others n xs) < length xs → In n xs
    taken n [] less = absurd (omega arith)
    taken n (x ∷ xs) less = elim (cases_Bool (x == n)) [
      | inl same ↦ inl (sym (eqb-true x n same))
      | inr other ↦ inr (taken n xs (omega (arith, less, ap length (others_other n x xs other))))
    ]

pub pigeonhole : (n : ℕ) (xs : List ℕ) → EachBelow n xs → n < length xs → Repeats xs
pigeonhole zero [] b more = absurd (omega arith)
pigeonhole zero (x ∷ xs) b more = absurd (omega (arith, b.0))
pigeonhole (suc n) xs b more = elim (few_taken n xs) [
  | inl twice ↦ twice
  | inr few ↦ repeats_among n xs (pigeonhole n (others n xs) (below_among n xs b) (omega (arith, few)))
]

-- ---- walks

source_below : (arch : Arch) (h : ℕ) → AreListeners arch → IsOnSource arch h → h < length arch.handlers
source_below arch h listed o = source_handler_below arch h o.source listed o.on

along_below : (arch : Arch) (h : ℕ) (hs : List ℕ) → AreListeners arch → LeadsAlong arch h hs → EachBelow (length arch.handlers) hs
along_below arch h [] listed along = tt
along_below arch h (k ∷ ks) listed along = ((link_of arch h k listed along.0).below, along_below arch k ks listed along.1)

-- what follows on a walk follows from its start
follow_along : (arch : Arch) (h : ℕ) (hs : List ℕ) (g k : ℕ) → Follows arch (start.Handler g) h → LeadsAlong arch h hs → In k hs → Follows arch (start.Handler g) k
follow_along arch h [] g k f along here = absurd here
follow_along arch h (j ∷ js) g k f along here =
    let next = goes h j f along.0 in
    elim here [
      | inl same ↦ subst (Follows arch (start.Handler g)) (sym same) next
      | inr later ↦ follow_along arch j js g k next along.1 later
    ]

leads_back : (arch : Arch) (h : ℕ) (hs : List ℕ) → LeadsAlong arch h hs → In h hs → LeadsBack arch h
leads_back arch h [] along here = absurd here
leads_back arch h (j ∷ js) along here =
    let first = begins j along.0 in
    elim here [
      | inl same ↦ subst (Follows arch (start.Handler h)) (sym same) first
      | inr later ↦ follow_along arch j js h h first along.1 later
    ]

-- from a handler that a source reaches no walk has a handler twice
no_repeat : (arch : Arch) (s h : ℕ) (hs : List ℕ) → IsAcyclic arch → s < length arch.sources → Reaches arch s h → LeadsAlong arch h hs → Repeats (h ∷ hs) → ⊥
no_repeat arch s h [] acyclic below reach along twice = elim twice [ inl here ↦ here | inr later ↦ later ]
no_repeat arch s h (k ∷ ks) acyclic below reach along twice = elim twice [
  | inl here ↦ acyclic s h below reach (leads_back arch h (k ∷ ks) along here)
  | inr later ↦ no_repeat arch s k ks acyclic below (reach_goes h k reach along.0) along.1 later
]

pub walk_is_short : (arch : Arch) (hs : List ℕ) → AreListeners arch → IsAcyclic arch → IsWalk arch hs → length hs ≤ length arch.handlers
walk_is_short arch [] listed acyclic walk = omega arith
walk_is_short arch (h ∷ hs) listed acyclic walk = elim (cases_lt (length arch.handlers) (length (h ∷ hs))) [
  | inr few ↦ few
  | inl more ↦
      let below = source_below arch h listed walk.0 in
      absurd (no_repeat arch walk.0.source h hs acyclic walk.0.exists (reach_begins h walk.0.on) walk.1 (pigeonhole (length arch.handlers) (h ∷ hs) (below, along_below arch h hs listed walk.1) more))
]

-- the first handlers of a walk
along_take : (arch : Arch) (h n : ℕ) (hs : List ℕ) → LeadsAlong arch h hs → LeadsAlong arch h (take n hs)
along_take arch h zero hs along = tt
along_take arch h (suc n) [] along = tt
along_take arch h (suc n) (k ∷ ks) along = (along.0, along_take arch k n ks along.1)

-- ---- the search

-- at first each handler is marked
pub all_start : (arch : Arch) (ranks : List ℕ) → ranks ≡ replicate (length arch.handlers) 1 → AreStarts arch 1 ranks
all_start arch ranks same = record {
  each = ap length same ∙ length-replicate (length arch.handlers) 1;
  sound = λ k marked. record { rest = []; along = tt; long = omega arith };
  all = λ k below s. let one : rank ranks k ≡ 1 = ap (λ xs. get_or xs k 0) same ∙ get_or-replicate (length arch.handlers) k 1 0 below in omega arith;
}

pub no_walk_yet : (arch : Arch) → HasWalk arch 0
no_walk_yet arch = record { walk = []; is = tt; long = refl }

-- one handler more of those before the marked ones
pub before_more : (arch : Arch) (old : List ℕ) (loud : List Bool) (m : ℕ) (new more : List ℕ) (b : Bool) (x : ℕ) → IsWellNumbered arch → AreLoud arch old (length arch.handlers) loud → m < length arch.handlers → AreBefore arch old m new → b ≡ is_loud arch loud m → x ≡ cond b 1 0 → more ≡ new ++ x ∷ [] → AreBefore arch old (m + 1) more
before_more arch old loud m new more b x numbered l below before test is grown =
    let here : rank more m ≡ x = ap (λ xs. get_or xs m 0) grown ∙ subst (λ j. get_or (new ++ x ∷ []) j 0 ≡ x) before.each (get_or-append_seam new x [] 0) in
    let same : (k : ℕ) → k < m → rank more k ≡ rank new k = λ k h. let inside : k < length new = omega (arith, before.each) in ap (λ xs. get_or xs k 0) grown ∙ get_or_append_left new (x ∷ []) 0 k inside in
    let long : length more ≡ m + 1 = ap length grown ∙ omega (arith, length-append new (x ∷ []), before.each) in
    record {
      each = long;
      sound = λ k marked. elim (cases_lt k m) [
        | inl early ↦ before.sound k (subst (λ r. 0 < r) (same k early) marked)
        | inr late ↦ elim (cases_lt m k) [
          | inl past ↦ let none : rank more k ≡ 0 = get_or_past more k 0 (omega (arith, long)) in absurd (omega arith)
          | inr ended ↦
              let at : m ≡ k = omega arith in
              let loud_here : is_loud arch loud m ≡ true = mark_is_loud b x (is_loud arch loud m) test is (subst (λ r. 0 < r) here (subst (λ j. 0 < rank more j) (sym at) marked)) in
              subst (LeadsToMark arch old) at (loud_leads arch old loud m numbered l loud_here)
        ]
      ];
      all = λ k inside leads. elim (cases_lt k m) [
        | inl early ↦ subst (λ r. 0 < r) (sym (same k early)) (before.all k early leads)
        | inr late ↦
            let at : k ≡ m = omega arith in
            let one : x ≡ 1 = is ∙ ap (λ t. cond t 1 0) (test ∙ leads_loud arch old loud m numbered l below (subst (LeadsToMark arch old) at leads)) in
            let mark : rank more m ≡ 1 = here ∙ one in
            subst (λ j. 0 < rank more j) (sym at) (omega arith)
      ];
    }
  where
    mark_is_loud : (b : Bool) (x : ℕ) (t : Bool) → b ≡ t → x ≡ cond b 1 0 → 0 < x → t ≡ true
    mark_is_loud true x t e f h = sym e
    mark_is_loud false x t e f h = absurd (omega arith)

-- those before the marked ones have walks of one handler more
pub starts_before : (arch : Arch) (n : ℕ) (old new : List ℕ) → 1 ≤ n → AreListeners arch → AreStarts arch n old → AreBefore arch old (length arch.handlers) new → AreStarts arch (n + 1) new
starts_before arch n old new some listed starts before = record {
  each = before.each;
  sound = λ k marked.
      let l = before.sound k marked in
      let s = starts.sound l.next l.marked in
      record { rest = l.next ∷ s.rest; along = (l.link, s.along); long = omega (arith, s.long) };
  all = λ k below s. before.all k below (next_of k s.rest s.along s.long);
}
  where
    next_of : (k : ℕ) (rest : List ℕ) → LeadsAlong arch k rest → length rest + 1 ≡ n + 1 → LeadsToMark arch old k
    next_of k [] along long = absurd (omega (arith, some, long))
    next_of k (j ∷ js) along long = record {
      next = j;
      link = along.0;
      marked = starts.all j (link_of arch k j listed along.0).below (record { rest = js; along = along.1; long = omega arith });
    }

-- a marked handler on a source has a walk
pub walk_found : (arch : Arch) (n : ℕ) (ranks : List ℕ) → AreStarts arch n ranks → IsOnMark arch ranks → HasWalk arch n
walk_found arch n ranks starts m =
    let s = starts.sound m.handler m.start.marked in
    record { walk = m.handler ∷ s.rest; is = (m.start.on, s.along); long = omega (arith, s.long) }

-- where no walk has n + 1 handlers, none has more
pub none_longer : (arch : Arch) (n : ℕ) (ranks : List ℕ) → AreListeners arch → AreStarts arch (n + 1) ranks → ((k : ℕ) → IsStart arch ranks k → ⊥) → (hs : List ℕ) → IsWalk arch hs → length hs ≤ n
none_longer arch n ranks listed starts none [] walk = omega arith
none_longer arch n ranks listed starts none (h ∷ hs) walk = elim (cases_lt n (length (h ∷ hs))) [
  | inr few ↦ few
  | inl more ↦
      let short : length (take n hs) ≡ n = length-take-le n hs (omega arith) in
      let s : Starts arch (n + 1) h = record { rest = take n hs; along = along_take arch h n hs walk.1; long = omega (arith, short) } in
      absurd (none h (record { on = walk.0; marked = starts.all h (source_below arch h listed walk.0) s }))
]

pub chain_found : (arch : Arch) (n : ℕ) → HasWalk arch n → ((hs : List ℕ) → IsWalk arch hs → length hs ≤ n) → IsChain arch n
chain_found arch n w most = record { walk = w.walk; is = w.is; long = w.long; longest = most }

pub chain_within : (arch : Arch) (limit n : ℕ) → n ≤ limit → HasWalk arch n → ((hs : List ℕ) → IsWalk arch hs → length hs ≤ limit → length hs ≤ n) → IsChainWithin arch limit n
chain_within arch limit n few w most = record { walk = w.walk; is = w.is; long = w.long; within = few; longest = most }

-- ---- what the code tests

-- a handler whose source exists is on a source
pub on_source : (arch : Arch) (h s : ℕ) → AreListeners arch → h < length arch.handlers → s < length arch.sources → on.Source s ≡ (handler arch h).on → IsOnSource arch h
on_source arch h s listed below exists at = record {
  source = s;
  exists = exists;
  on = contains_from_In (subs arch (on.Source s)) (to.Handler h) (has_filter (hears arch (on.Source s)) arch.listeners (to.Handler h) (below_listed arch h listed below) (subst (λ o. same_on o (on.Source s) ≡ true) at (eq-eqb s s refl)));
}

pub on_channel : (arch : Arch) (h c : ℕ) → on.Channel c ≡ (handler arch h).on → IsOnSource arch h → ⊥
on_channel arch h c at o =
    let m = filter_has (hears arch (on.Source o.source)) arch.listeners (to.Handler h) (In-from_contains (subs arch (on.Source o.source)) (to.Handler h) o.on) in
    false≢true (subst (λ p. same_on p (on.Source o.source) ≡ true) (sym at) m.1)
