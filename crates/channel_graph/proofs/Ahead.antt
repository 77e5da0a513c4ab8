-- What is nearest ahead, and the walk that ranks show.
use Rattle.std.proofs.Common.{◌≡◌, ◌≢◌, ℕ, zero, suc, ◌+◌, ◌-◌, ◌<◌, ◌≤◌, List, [], ◌∷◌, ◌++◌, length, get_or, set, take, map, slice_get, Option, Some, None, unwrap_or, Bool, true, false, ◌&&◌, ◌==◌, nat_lt, nat_le, ◌⊎◌, inl, inr, All, arith, refl, sym, ◌∙◌, ap, subst, append_assoc, append-nil, get_or-set_same, get_or-set_other}
use Rattle.std.proofs.lemmas.Bool.{false≢true, cases_Bool, cases_eq, cases_lt, or_cases, eqb-true, eq-eqb, and_from, and_parts, lt-ltb, ltb-true, le-leb, leb-true}
use Rattle.std.proofs.lemmas.List.{length-set, take_more, get_or_past}
use Rattle.std.proofs.Math.Seq.{take-length}
use Rattle.tower_syntax.specs.declared.arch.On.{On}
use Rattle.tower_syntax.specs.declared.arch.On.TheVariants as on
use Rattle.tower_syntax.specs.declared.arch.Emitter.{Emitter as EmitterValue}
use Rattle.tower_syntax.specs.declared.arch.Handler.{Handler as HandlerValue}
use Rattle.tower_syntax.specs.Arch.{Arch, Emitter}
use Rattle.tower_syntax.specs.View.{emitter_of, handler_of}
use Rattle.tower_syntax.specs.Graph.{handler, leads, same_on}
use Rattle.tower_syntax.specs.WellNumbered.{AreListeners, IsNumberedHandler}
use Rattle.channel_graph.specs.declared.ranking.Nearest.{Nearest}
use Rattle.channel_graph.specs.Reaching.{is_on, IsWithin}
use Rattle.channel_graph.specs.Circuit.{leads_near, nearer, walk, walk_round}
use Rattle.channel_graph.specs.Ranked.{rank, is_near, AreRanked}
use Rattle.channel_graph.specs.Ranking.{no_nearest, nearest_at, ranked_at, IsNoFarther, IsNearer, AddsNearest, IsOnChannel, AreNearest, IsAhead, IsRanked, IsRanking}
use Rattle.channel_graph.proofs.Members.{In, has_any, contains_from_In}
use Rattle.channel_graph.proofs.Linked.{link_of, of_link}
use Rattle.channel_graph.proofs.Searched.{handler_read}
use Rattle.channel_graph.proofs.Led.{emitters_read}
use Rattle.channel_graph.proofs.Shortest.{find_at, near_wider, wider_near, nearby, from_nearby}
use Rattle.channel_graph.proofs.Rounds.{found_round, none_round, least_is_nearer}

-- ---- the nearer of two

no_farther_both : (x y z : Nearest) → IsNoFarther x y → IsNoFarther y z → IsNoFarther x z
no_farther_both x y z f g = λ pos.
    let q = g pos in
    let p = f q.0 in (
      p.0,
      omega (arith, p.1, q.1),
      λ same.
          let first : x.rank ≡ y.rank = omega (arith, p.1, q.1, same) in
          let second : y.rank ≡ z.rank = omega (arith, p.1, q.1, same) in
          omega (arith, p.2 first, q.2 second),
    )

-- ---- the nearest on each channel

on_later : (arch : Arch) (ranks : List ℕ) (n c : ℕ) (x : Nearest) → IsOnChannel arch ranks n c x → IsOnChannel arch ranks (n + 1) c x
on_later arch ranks n c x o = record { below = omega (arith, o.below); on = o.on; ranked = o.ranked }

-- one handler more is counted
pub nearest_more : (arch : Arch) (ranks : List ℕ) (k : ℕ) (old new : List Nearest) (o : On) → o ≡ (handler arch k).on → IsWithin (length old) o → AreNearest arch ranks k old → AddsNearest old o (ranked_at ranks k) new → AreNearest arch ranks (k + 1) new
nearest_more arch ranks k old new (on.Source s) e within t m =
    subst (AreNearest arch ranks (k + 1)) (sym m) (record {
      each = t.each;
      found = λ c pos. on_later arch ranks k c (nearest_at old c) (t.found c pos);
      least = λ c j inside below o. elim (cases_lt j k) [
        | inl early ↦ t.least c j inside early o
        | inr late ↦
            let here : j ≡ k = omega (arith, late, below) in
            let at : is_on arch (on.Channel c) k ≡ true = subst (λ x. is_on arch (on.Channel c) x ≡ true) here o in
            let wrong : same_on (on.Source s) (on.Channel c) ≡ true = subst (λ x. same_on x (on.Channel c) ≡ true) (sym e) at in
            absurd (false≢true wrong)
      ];
    })
nearest_more arch ranks k old new (on.Channel a) e within t m =
    let x = m.nearer in
    let here : nearest_at (set old a x) a ≡ x = get_or-set_same old a x no_nearest within in
    let apart : (c : ℕ) → c ≢ a → nearest_at (set old a x) c ≡ nearest_at old c = λ c ne. get_or-set_other old a c x no_nearest ne in
    let on_a : is_on arch (on.Channel a) k ≡ true = subst (λ y. same_on y (on.Channel a) ≡ true) e (eq-eqb a a refl) in
    subst (AreNearest arch ranks (k + 1)) (sym m.written) (record {
      each = length-set old a x ∙ t.each;
      found = λ c pos. elim (cases_eq c a) [
        | inl same ↦ subst (λ d. IsOnChannel arch ranks (k + 1) d (nearest_at (set old a x) d)) (sym same)
            (subst (IsOnChannel arch ranks (k + 1) a) (sym here) (found_at_a on_a (subst (λ y. 0 < y.rank) here (subst (λ d. 0 < (nearest_at (set old a x) d).rank) same pos))))
        | inr other ↦ subst (IsOnChannel arch ranks (k + 1) c) (sym (apart c other)) (on_later arch ranks k c (nearest_at old c) (t.found c (subst (λ y. 0 < y.rank) (apart c other) pos)))
      ];
      least = λ c j inside below o. elim (cases_eq c a) [
        | inl same ↦ subst (λ d. IsNoFarther (nearest_at (set old a x) d) (ranked_at ranks j)) (sym same)
            (subst (λ y. IsNoFarther y (ranked_at ranks j)) (sym here) (least_at_a j below (subst (λ d. d < length arch.channels) same inside) (subst (λ d. is_on arch (on.Channel d) j ≡ true) same o)))
        | inr other ↦ subst (λ y. IsNoFarther y (ranked_at ranks j)) (sym (apart c other)) (elim (cases_lt j k) [
          | inl early ↦ t.least c j inside early o
          | inr late ↦
              let last : j ≡ k = omega (arith, late, below) in
              let at : is_on arch (on.Channel c) k ≡ true = subst (λ y. is_on arch (on.Channel c) y ≡ true) last o in
              let test : same_on (on.Channel a) (on.Channel c) ≡ true = subst (λ y. same_on y (on.Channel c) ≡ true) (sym e) at in
              absurd (other (sym (eqb-true a c test)))
        ])
      ];
    })
  where
    found_at_a : is_on arch (on.Channel a) k ≡ true → 0 < m.nearer.rank → IsOnChannel arch ranks (k + 1) a m.nearer
    found_at_a on_a pos = elim m.which.one [
      | inl was ↦ subst (IsOnChannel arch ranks (k + 1) a) (sym was) (on_later arch ranks k a (nearest_at old a) (t.found a (subst (λ y. 0 < y.rank) was pos)))
      | inr is ↦ subst (IsOnChannel arch ranks (k + 1) a) (sym is) (record { below = omega arith; on = on_a; ranked = refl })
    ]

    least_at_a : (j : ℕ) → j < k + 1 → a < length arch.channels → is_on arch (on.Channel a) j ≡ true → IsNoFarther m.nearer (ranked_at ranks j)
    least_at_a j below inside o = elim (cases_lt j k) [
      | inl early ↦ no_farther_both m.nearer (nearest_at old a) (ranked_at ranks j) m.which.first (t.least a j inside early o)
      | inr late ↦
          let last : k ≡ j = omega (arith, late, below) in
          subst (λ i. IsNoFarther m.nearer (ranked_at ranks i)) last m.which.second
    ]

-- ---- the nearest of those that a handler leads to

-- one of the channels of the emitters has it
pub record IsOf (table : List Nearest) (es : List Emitter) (x : Nearest) : Type 0 where
  pub emitter : Emitter
  pub has : In emitter es
  pub is : nearest_at table emitter.channel ≡ x

-- the nearest on the channels of these emitters
pub record IsFirstOf (table : List Nearest) (es : List Emitter) (x : Nearest) : Type 0 where
  pub found : 0 < x.rank → IsOf table es x
  pub each : (e : Emitter) → In e es → IsNoFarther x (nearest_at table e.channel)

pub first_of_none : (table : List Nearest) (x : Nearest) → x.rank ≡ 0 → IsFirstOf table [] x
first_of_none table x none = record { found = λ pos. absurd (omega (arith, pos, none)); each = λ e h. absurd h }

in_push : {X Y : Type 0} (f : X → Y) (xs : List X) (y : X) (e : Y) → In e (map f (xs ++ y ∷ [])) → In e (map f xs) ⊎ (e ≡ f y)
in_push f [] y e h = elim h [ inl same ↦ inr same | inr none ↦ absurd none ]
in_push f (x ∷ xs) y e h = elim h [
  | inl same ↦ inl (inl same)
  | inr later ↦ elim (in_push f xs y e later) [ inl before ↦ inl (inr before) | inr last ↦ inr last ]
]

push_old : {X Y : Type 0} (f : X → Y) (xs : List X) (y : X) (e : Y) → In e (map f xs) → In e (map f (xs ++ y ∷ []))
push_old f [] y e h = absurd h
push_old f (x ∷ xs) y e h = elim h [ inl same ↦ inl same | inr later ↦ inr (push_old f xs y e later) ]

push_new : {X Y : Type 0} (f : X → Y) (xs : List X) (y : X) → In (f y) (map f (xs ++ y ∷ []))
push_new f [] y = inl refl
push_new f (x ∷ xs) y = inr (push_new f xs y)

first_push : (table : List Nearest) (es : List EmitterValue) (y : EmitterValue) (old new : Nearest) → IsFirstOf table (map emitter_of es) old → IsNearer old (nearest_at table y.channel) new → IsFirstOf table (map emitter_of (es ++ y ∷ [])) new
first_push table es y old new f m = record {
  found = λ pos. elim m.one [
    | inl same ↦
        let o = f.found (subst (λ x. 0 < x.rank) same pos) in
        record { emitter = o.emitter; has = push_old emitter_of es y o.emitter o.has; is = o.is ∙ sym same }
    | inr same ↦ record { emitter = emitter_of y; has = push_new emitter_of es y; is = sym same }
  ];
  each = λ e h. elim (in_push emitter_of es y e h) [
    | inl before ↦ no_farther_both new old (nearest_at table e.channel) m.first (f.each e before)
    | inr last ↦ subst (λ x. IsNoFarther new (nearest_at table x.channel)) (sym last) m.second
  ];
}

pub first_more : (table : List Nearest) (es : List EmitterValue) (i : ℕ) (d : EmitterValue) (old new : Nearest) → i < length es → IsFirstOf table (map emitter_of (take i es)) old → IsNearer old (nearest_at table (get_or es i d).channel) new → IsFirstOf table (map emitter_of (take (i + 1) es)) new
first_more table es i d old new h f m =
    subst (λ xs. IsFirstOf table (map emitter_of xs) new) (sym (take_more es i d h)) (first_push table (take i es) (get_or es i d) old new f m)

pub ahead_of : (arch : Arch) (ranks : List ℕ) (k : ℕ) (v : HandlerValue) (items : List EmitterValue) (i : ℕ) (table : List Nearest) (x : Nearest) → AreListeners arch → IsNumberedHandler arch (handler_of v) → slice_get arch.handlers k ≡ Some (handler_of v) → items ≡ v.emitters → i ≡ length items → IsFirstOf table (map emitter_of (take i items)) x → AreNearest arch ranks (length arch.handlers) table → IsAhead arch ranks k x
ahead_of arch ranks k v items i table x listed numbered e same end first t =
    let whole : take i items ≡ items = ap (λ n. take n items) end ∙ take-length items in
    let all : map emitter_of (take i items) ≡ (handler arch k).emitters = ap (map emitter_of) whole ∙ emitters_read arch k v items e same in
    let f : IsFirstOf table (handler arch k).emitters x = subst (λ es. IsFirstOf table es x) all first in
    let inside : All (λ y. y.channel < length arch.channels) (handler arch k).emitters = subst (λ g. All (λ y. y.channel < length arch.channels) g.emitters) (sym (handler_read arch k v e)) numbered.emitters in
    let on_it : (o : IsOf table (handler arch k).emitters x) → 0 < x.rank → IsOnChannel arch ranks (length arch.handlers) o.emitter.channel x = λ o pos. subst (IsOnChannel arch ranks (length arch.handlers) o.emitter.channel) o.is (t.found o.emitter.channel (subst (λ y. 0 < y.rank) (sym o.is) pos)) in
    record {
      link = λ pos.
          let o = f.found pos in
          let h = on_it o pos in
          of_link arch k x.handler listed (record { emitter = o.emitter; has = o.has; below = h.below; on = h.on });
      ranked = λ pos. (on_it (f.found pos) pos).ranked;
      least = λ j link.
          let l = link_of arch k j listed link in
          no_farther_both x (nearest_at table l.emitter.channel) (ranked_at ranks j) (f.each l.emitter l.has) (t.least l.emitter.channel j (all_in (λ y. y.channel < length arch.channels) (handler arch k).emitters l.emitter inside l.has) l.below l.on);
    }
  where
    all_in : {X : Type 0} (P : X → Type 0) (xs : List X) (y : X) → All P xs → In y xs → P y
    all_in P xs y every h = let at = contains_from_In xs y h in subst P at.2 (every at.0 y at.1)

-- ---- ranks that are looked over

pub ranked_end : (arch : Arch) (h : ℕ) (ranks : List ℕ) (k : ℕ) → k < length arch.handlers → k ≡ h → rank ranks k ≡ 1 → IsRanked arch h ranks k
ranked_end arch h ranks k below same one = record {
  few = omega (arith, below, one);
  own = λ e. one;
  only = λ e. same;
  nearer = λ more. absurd (omega (arith, more, one));
  links = λ j link pos. (omega (arith, one), omega (arith, one, pos));
}

pub ranked_none : (arch : Arch) (h : ℕ) (ranks : List ℕ) (k : ℕ) (x : Nearest) → IsAhead arch ranks k x → k ≢ h → x.rank ≡ 0 → rank ranks k ≡ 0 → IsRanked arch h ranks k
ranked_none arch h ranks k x a other none zero_rank = record {
  few = omega (arith, zero_rank);
  own = λ e. absurd (other e);
  only = λ one. absurd (omega (arith, one, zero_rank));
  nearer = λ more. absurd (omega (arith, more, zero_rank));
  links = λ j link pos. absurd (let p = a.least j link pos in omega (arith, p.0, none));
}

pub ranked_more : (arch : Arch) (h : ℕ) (ranks : List ℕ) (k : ℕ) (x : Nearest) → IsAhead arch ranks k x → k ≢ h → 0 < x.rank → rank ranks k ≡ x.rank + 1 → rank ranks k ≤ length arch.handlers → IsRanked arch h ranks k
ranked_more arch h ranks k x a other pos is few = record {
  few = few;
  own = λ e. absurd (other e);
  only = λ one. absurd (omega (arith, one, is, pos));
  nearer = λ more. record { next = x.handler; link = a.link pos; less = omega (arith, is, a.ranked pos) };
  links = λ j link p. let q = a.least j link p in (omega (arith, is), omega (arith, is, q.1));
}

ranks_near : (arch : Arch) (h : ℕ) (ranks : List ℕ) → AreListeners arch → IsRanking arch h ranks (length arch.handlers) → (m k : ℕ) → k < length arch.handlers → is_near arch h m k ≡ true → (0 < rank ranks k) × (rank ranks k ≤ m + 1)
ranks_near arch h ranks listed r zero k below e = elim (or_cases (h == k) false e) [
  | inl same ↦ let one = (r k below).own (sym (eqb-true h k same)) in (omega (arith, one), omega (arith, one))
  | inr none ↦ absurd (false≢true none)
]
ranks_near arch h ranks listed r (suc m) k below e = elim (wider_near arch h m k e) [
  | inl before ↦ let s = ranks_near arch h ranks listed r m k below before in (s.0, omega (arith, s.1))
  | inr led ↦
      let j = nearby arch h m k led in
      let inside : j.number < length arch.handlers = (link_of arch k j.number listed j.link).below in
      let s = ranks_near arch h ranks listed r m j.number inside j.near in
      let l = (r k below).links j.number j.link s.0 in
      (l.0, omega (arith, l.1, s.1))
]

ranked_near : (arch : Arch) (h : ℕ) (ranks : List ℕ) → AreListeners arch → IsRanking arch h ranks (length arch.handlers) → (m k : ℕ) → k < length arch.handlers → 0 < rank ranks k → rank ranks k ≤ m + 1 → is_near arch h m k ≡ true
ranked_near arch h ranks listed r zero k below pos few =
    let same : k ≡ h = (r k below).only (omega (arith, pos, few)) in
    has_any (λ i. i == k) (h ∷ []) h (inl refl) (eq-eqb h k (sym same))
ranked_near arch h ranks listed r (suc m) k below pos few = elim (cases_lt (m + 1) (rank ranks k)) [
  | inr near_already ↦ near_wider arch h m k below (inl (ranked_near arch h ranks listed r m k below pos near_already))
  | inl last ↦
      let l = (r k below).nearer (omega (arith, last)) in
      let inside : l.next < length arch.handlers = (link_of arch k l.next listed l.link).below in
      let close : is_near arch h m l.next ≡ true = ranked_near arch h ranks listed r m l.next inside (omega (arith, l.less, last)) (omega (arith, l.less, few)) in
      near_wider arch h m k below (inr (from_nearby arch h m k l.next close l.link))
]

-- such ranks are as near as they say
pub ranking_ranked : (arch : Arch) (h : ℕ) (ranks : List ℕ) → AreListeners arch → length ranks ≡ length arch.handlers → IsRanking arch h ranks (length arch.handlers) → AreRanked arch h (length arch.handlers) ranks
ranking_ranked arch h ranks listed each r = record {
  each = each;
  top = λ k. elim (cases_lt k (length arch.handlers)) [
    | inl below ↦ omega (arith, (r k below).few)
    | inr above ↦ let none : rank ranks k ≡ 0 = get_or_past ranks k 0 (omega (arith, above, each)) in omega (arith, none)
  ];
  near = λ k m le below e. ranks_near arch h ranks listed r m k below e;
  ranked = λ k m le below pos few. ranked_near arch h ranks listed r m k below pos few;
}

-- ---- the walk ahead

-- the handlers that follow on the walk, from one of this rank on to the one before h
abbrev pub ahead_from : Arch → ℕ → ℕ → ℕ → List ℕ
ahead_from arch h zero k = []
ahead_from arch h (suc zero) k = []
ahead_from arch h (suc (suc n)) k = walk arch h n k

nearest_is_nearer : (arch : Arch) (h : ℕ) (ranks : List ℕ) (k n : ℕ) (x : Nearest) → AreListeners arch → AreRanked arch h (length arch.handlers) ranks → IsAhead arch ranks k x → x.rank ≡ n + 1 → n ≤ length arch.handlers → x.handler ≡ nearer arch h n k
nearest_is_nearer arch h ranks k n x listed r a is few =
    let pos : 0 < x.rank = omega (arith, is) in
    let link = a.link pos in
    let here : passes x.handler ≡ true = and_from (leads arch k x.handler) (nat_lt 0 (rank ranks x.handler) && nat_le (rank ranks x.handler) (n + 1)) link
    (and_from (nat_lt 0 (rank ranks x.handler)) (nat_le (rank ranks x.handler) (n + 1)) (lt-ltb 0 (rank ranks x.handler) (omega (arith, a.ranked pos, pos))) (le-leb (rank ranks x.handler) (n + 1) (omega (arith, a.ranked pos, is)))) in
    sym (ap (λ o. unwrap_or o k) (find_at passes (length arch.handlers) x.handler (link_of arch k x.handler listed link).below before here)) ∙ least_is_nearer arch h (length arch.handlers) n ranks k r few
  where
    passes : ℕ → Bool
    passes = λ j. leads arch k j && (nat_lt 0 (rank ranks j) && nat_le (rank ranks j) (n + 1))

    before : (j : ℕ) → j < x.handler → passes j ≡ false
    before j less = elim (cases_Bool (passes j)) [
      | inr fails ↦ fails
      | inl holds ↦ absurd (
          let both = and_parts (leads arch k j) (nat_lt 0 (rank ranks j) && nat_le (rank ranks j) (n + 1)) holds in
          let parts = and_parts (nat_lt 0 (rank ranks j)) (nat_le (rank ranks j) (n + 1)) both.1 in
          let low : 0 < rank ranks j = ltb-true 0 (rank ranks j) parts.0 in
          let high : rank ranks j ≤ n + 1 = leb-true (rank ranks j) (n + 1) parts.1 in
          let p = a.least j both.0 low in
          let same : x.rank ≡ rank ranks j = omega (arith, p.1, high, is) in
          omega (arith, p.2 same, less))
    ]

-- the walk from k goes to the nearest ahead
ahead_walk : (arch : Arch) (h : ℕ) (ranks : List ℕ) (k n : ℕ) (x : Nearest) → AreListeners arch → AreRanked arch h (length arch.handlers) ranks → IsAhead arch ranks k x → x.rank ≡ n + 1 → n ≤ length arch.handlers → k ∷ ahead_from arch h x.rank x.handler ≡ walk arch h n k
ahead_walk arch h ranks k zero x listed r a is few =
    let one : x.rank ≡ 1 = omega (arith, is) in
    ap (λ (m : ℕ). k ∷ ahead_from arch h m x.handler) one
ahead_walk arch h ranks k (suc n) x listed r a is few =
    let more : x.rank ≡ suc (suc n) = omega (arith, is) in
    ap (λ (m : ℕ). k ∷ ahead_from arch h m x.handler) more ∙ ap (λ y. k ∷ walk arch h n y) (nearest_is_nearer arch h ranks k (suc n) x listed r a is few)

-- where none that h leads to has a rank, there is no walk round
pub ahead_none : (arch : Arch) (h : ℕ) (ranks : List ℕ) (x : Nearest) → AreListeners arch → length ranks ≡ length arch.handlers → IsRanking arch h ranks (length arch.handlers) → IsAhead arch ranks h x → x.rank ≡ 0 → None ≡ walk_round arch h
ahead_none arch h ranks x listed each r a none = none_round arch h (λ m below. elim (cases_Bool (leads_near arch h m h)) [
  | inr fails ↦ fails
  | inl holds ↦ absurd (
      let j = nearby arch h m h holds in
      let inside : j.number < length arch.handlers = (link_of arch h j.number listed j.link).below in
      let s = ranks_near arch h ranks listed r m j.number inside j.near in
      let p = a.least j.number j.link s.0 in
      omega (arith, p.0, none))
])

-- the walk round begins at h, and goes on from the nearest ahead
pub ahead_begins : (arch : Arch) (h : ℕ) (ranks : List ℕ) (x : Nearest) (way : List ℕ) → AreListeners arch → length ranks ≡ length arch.handlers → IsRanking arch h ranks (length arch.handlers) → IsAhead arch ranks h x → 0 < x.rank → way ≡ h ∷ [] → Some (way ++ ahead_from arch h (rank ranks x.handler) x.handler) ≡ walk_round arch h
ahead_begins arch h ranks x way listed each r a pos starts =
    let n = x.rank - 1 in
    let is : x.rank ≡ n + 1 = omega (arith, pos) in
    let link = a.link pos in
    let inside : x.handler < length arch.handlers = (link_of arch h x.handler listed link).below in
    let ranked : rank ranks x.handler ≡ x.rank = a.ranked pos in
    let few : n < length arch.handlers = omega (arith, (r x.handler inside).few, ranked, is) in
    let little : n ≤ length arch.handlers = omega (arith, few) in
    let close : is_near arch h n x.handler ≡ true = ranked_near arch h ranks listed r n x.handler inside (omega (arith, ranked, pos)) (omega (arith, ranked, is)) in
    let led : leads_near arch h n h ≡ true = from_nearby arch h n h x.handler close link in
    let begun : way ++ ahead_from arch h (rank ranks x.handler) x.handler ≡ h ∷ ahead_from arch h x.rank x.handler = ap (λ ks. ks ++ ahead_from arch h (rank ranks x.handler) x.handler) starts ∙ ap (λ (m : ℕ). h ∷ ahead_from arch h m x.handler) ranked in
    found_round arch h n (way ++ ahead_from arch h (rank ranks x.handler) x.handler) few (before n is) led (begun ∙ ahead_walk arch h ranks h n x listed (ranking_ranked arch h ranks listed each r) a is little)
  where
    before : (n : ℕ) → x.rank ≡ n + 1 → (m : ℕ) → m < n → leads_near arch h m h ≡ false
    before n is m less = elim (cases_Bool (leads_near arch h m h)) [
      | inr fails ↦ fails
      | inl holds ↦ absurd (
          let j = nearby arch h m h holds in
          let inside : j.number < length arch.handlers = (link_of arch h j.number listed j.link).below in
          let s = ranks_near arch h ranks listed r m j.number inside j.near in
          let p = a.least j.number j.link s.0 in
          omega (arith, p.1, s.1, is, less))
    ]

-- what is ahead of a handler of a rank above 1 has one less
pub ahead_rank : (arch : Arch) (h : ℕ) (ranks : List ℕ) (k : ℕ) (x : Nearest) → IsRanked arch h ranks k → IsAhead arch ranks k x → 1 < rank ranks k → (0 < x.rank) × (rank ranks x.handler ≡ x.rank) × (rank ranks k ≡ x.rank + 1)
ahead_rank arch h ranks k x r a more =
    let l = r.nearer more in
    let p = a.least l.next l.link (omega (arith, l.less, more)) in
    let ranked : rank ranks x.handler ≡ x.rank = a.ranked p.0 in
    let q = r.links x.handler (a.link p.0) (omega (arith, ranked, p.0)) in
    (p.0, ranked, omega (arith, p.1, q.1, ranked, l.less))

-- one step of the walk
pub ahead_goes : (arch : Arch) (h : ℕ) (ranks : List ℕ) (k : ℕ) (x : Nearest) (way more : List ℕ) (round : Option (List ℕ)) → AreListeners arch → length ranks ≡ length arch.handlers → IsRanking arch h ranks (length arch.handlers) → k < length arch.handlers → IsAhead arch ranks k x → 1 < rank ranks k → Some (way ++ ahead_from arch h (rank ranks k) k) ≡ round → more ≡ way ++ k ∷ [] → Some (more ++ ahead_from arch h (rank ranks x.handler) x.handler) ≡ round
ahead_goes arch h ranks k x way more round listed each r below a high before grown =
    let s = ahead_rank arch h ranks k x (r k below) a high in
    let n = x.rank - 1 in
    let is : x.rank ≡ n + 1 = omega (arith, s.0) in
    let few : n ≤ length arch.handlers = omega (arith, (r k below).few, s.2, is) in
    let step = ahead_walk arch h ranks k n x listed (ranking_ranked arch h ranks listed each r) a is few in
    let two : rank ranks k ≡ suc (suc n) = omega (arith, s.2, is) in
    let rest : ahead_from arch h (rank ranks k) k ≡ walk arch h n k = ap (λ (m : ℕ). ahead_from arch h m k) two in
    let next : k ∷ ahead_from arch h (rank ranks x.handler) x.handler ≡ ahead_from arch h (rank ranks k) k = ap (λ (m : ℕ). k ∷ ahead_from arch h m x.handler) s.1 ∙ step ∙ sym rest in
    ap Some (ap (λ ks. ks ++ ahead_from arch h (rank ranks x.handler) x.handler) grown ∙ append_assoc way (k ∷ []) (ahead_from arch h (rank ranks x.handler) x.handler) ∙ ap (λ ks. way ++ ks) next) ∙ before

-- the walk ends before h
pub ahead_ends : (arch : Arch) (h k : ℕ) (way : List ℕ) (n : ℕ) (round : Option (List ℕ)) → n ≤ 1 → Some (way ++ ahead_from arch h n k) ≡ round → Some way ≡ round
ahead_ends arch h k way zero round few e = ap Some (sym (append-nil way)) ∙ e
ahead_ends arch h k way (suc zero) round few e = ap Some (sym (append-nil way)) ∙ e
ahead_ends arch h k way (suc (suc n)) round few e = absurd (omega (arith, few))
