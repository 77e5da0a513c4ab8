-- The ranks of handlers, and the walk that they show.
use Rattle.std.proofs.Common.{◌≡◌, ℕ, zero, suc, ◌+◌, ◌-◌, ◌<◌, ◌≤◌, List, [], ◌∷◌, ◌++◌, length, get_or, set, cond, Option, Some, None, unwrap_or, Bool, true, false, ◌||◌, ◌&&◌, ◌==◌, nat_lt, nat_le, ◌⊎◌, inl, inr, arith, refl, sym, ◌∙◌, ap, subst, append_assoc, All}
use Rattle.std.specs.List.{list_any}
use Rattle.std.proofs.lemmas.Bool.{false≢true, cases_Bool, cases_lt, eqb-true, eq-eqb, ne_eqb, and_from, and_right, and_parts, lt-ltb, ltb-true, le-leb, leb-true}
use Rattle.std.proofs.lemmas.List.{length-set, length-append, get_or_append_left}
use Rattle.std.proofs.Math.Seq.{get_or-append_seam}
use Rattle.tower_syntax.specs.declared.arch.On.{On}
use Rattle.tower_syntax.specs.declared.arch.On.TheVariants as on
use Rattle.tower_syntax.specs.Arch.{Arch, Emitter}
use Rattle.tower_syntax.specs.Graph.{numbers_before, handler_numbers, handler, no_handler, leads, same_on, reached_by}
use Rattle.tower_syntax.specs.WellNumbered.{AreListeners, IsWellNumbered}
use Rattle.channel_graph.specs.Reaching.{is_on, IsMarked, IsWithin, AreReached}
use Rattle.channel_graph.specs.Circuit.{near, wider, leads_near, nearer, walk, walk_if, walk_round, first_of_all, found_at, shown_at}
use Rattle.channel_graph.specs.Lengths.{LeadsToMark}
use Rattle.channel_graph.specs.Ranked.{rank, is_near, AreRanked, AreLoud, is_loud, ranked_next, Widens, least_ranked, MarksChannel, AreLooping, marked_below}
use Rattle.channel_graph.proofs.Members.{In, any_has, has_any, filter_has, number_below, contains_from_In}
use Rattle.channel_graph.proofs.Linked.{link_of, of_link}
use Rattle.channel_graph.proofs.Searched.{marked_set, set_marked, channel_marked}
use Rattle.channel_graph.specs.declared.reach.Start.TheVariants as start
use Rattle.channel_graph.proofs.ReachedList.{marks_are}
use Rattle.channel_graph.proofs.Led.{bool_same}
use Rattle.channel_graph.proofs.Shortest.{find_at, find_none, find_agree, near_wider, wider_near, nearby, from_nearby, near_stays, no_walk, passing, first-filter, first_at, first_none}

-- ---- marked channels

pub loud_no : (arch : Arch) (ranks : List ℕ) (k : ℕ) (old new : List Bool) → AreLoud arch ranks k old → rank ranks k ≡ 0 → new ≡ old → AreLoud arch ranks (k + 1) new
loud_no arch ranks k old new l none same =
    subst (AreLoud arch ranks (k + 1)) (sym same) (record {
      each = l.each;
      heard = λ c m. let h = l.heard c m in record { number = h.number; below = omega (arith, h.below); ranked = h.ranked; on = h.on };
      all = λ c j inside below pos o. elim (cases_lt j k) [
        | inl early ↦ l.all c j inside early pos o
        | inr late ↦ let here : j ≡ k = omega arith in absurd (let zero_rank : rank ranks j ≡ 0 = ap (rank ranks) here ∙ none in omega arith)
      ];
    })

pub loud_yes : (arch : Arch) (ranks : List ℕ) (k : ℕ) (old new : List Bool) (o : On) → o ≡ (handler arch k).on → IsWithin (length old) o → AreLoud arch ranks k old → 0 < rank ranks k → MarksChannel old o new → AreLoud arch ranks (k + 1) new
loud_yes arch ranks k old new (on.Source s) e within l pos m =
    subst (AreLoud arch ranks (k + 1)) (sym m) (record {
      each = l.each;
      heard = λ c mark. let h = l.heard c mark in record { number = h.number; below = omega (arith, h.below); ranked = h.ranked; on = h.on };
      all = λ c j inside below p o. elim (cases_lt j k) [
        | inl early ↦ l.all c j inside early p o
        | inr late ↦
            let here : j ≡ k = omega arith in
            let at : is_on arch (on.Channel c) k ≡ true = subst (λ x. is_on arch (on.Channel c) x ≡ true) here o in
            let wrong : same_on (on.Source s) (on.Channel c) ≡ true = subst (λ x. same_on x (on.Channel c) ≡ true) (sym e) at in
            absurd (false≢true wrong)
      ];
    })
loud_yes arch ranks k old new (on.Channel a) e within l pos m =
    subst (AreLoud arch ranks (k + 1)) (sym m) (record {
      each = length-set old a true ∙ l.each;
      heard = λ c mark. elim (marked_set old a c within mark) [
        | inl same ↦ record {
          number = k;
          below = omega arith;
          ranked = pos;
          on = subst (λ x. same_on x (on.Channel c) ≡ true) e (eq-eqb a c (sym same));
        }
        | inr was ↦ let h = l.heard c was in record { number = h.number; below = omega (arith, h.below); ranked = h.ranked; on = h.on }
      ];
      all = λ c j inside below p o. elim (cases_lt j k) [
        | inl early ↦ set_marked old a c within (l.all c j inside early p o)
        | inr late ↦
            let here : j ≡ k = omega arith in
            let at : is_on arch (on.Channel c) k ≡ true = subst (λ x. is_on arch (on.Channel c) x ≡ true) here o in
            let test : same_on (on.Channel a) (on.Channel c) ≡ true = subst (λ x. same_on x (on.Channel c) ≡ true) (sym e) at in
            subst (IsMarked (set old a true)) (eqb-true a c test) (channel_marked old a within)
      ];
    })

-- an emitter of a handler is on a channel that exists
all_in : {X : Type 0} (P : X → Type 0) (xs : List X) (x : X) → All P xs → In x xs → P x
all_in P xs x all h = let at = contains_from_In xs x h in subst P at.2 (all at.0 x at.1)

emitter_below : (arch : Arch) (k : ℕ) (e : Emitter) → IsWellNumbered arch → k < length arch.handlers → In e (handler arch k).emitters → e.channel < length arch.channels
emitter_below arch k e numbered below h = all_in (λ x. x.channel < length arch.channels) (handler arch k).emitters e (numbered.handlers k no_handler below).emitters h

-- to emit on a marked channel is to lead to a handler with a rank
pub loud_leads : (arch : Arch) (ranks : List ℕ) (loud : List Bool) (k : ℕ) → IsWellNumbered arch → AreLoud arch ranks (length arch.handlers) loud → is_loud arch loud k ≡ true → LeadsToMark arch ranks k
loud_leads arch ranks loud k numbered l e =
    let m = any_has (λ x. get_or loud x.channel false) (handler arch k).emitters e in
    let j = l.heard m.element.channel m.passes in
    record {
      next = j.number;
      link = of_link arch k j.number numbered.listeners (record { emitter = m.element; has = m.has; below = j.below; on = j.on });
      marked = j.ranked;
    }

pub leads_loud : (arch : Arch) (ranks : List ℕ) (loud : List Bool) (k : ℕ) → IsWellNumbered arch → AreLoud arch ranks (length arch.handlers) loud → k < length arch.handlers → LeadsToMark arch ranks k → is_loud arch loud k ≡ true
leads_loud arch ranks loud k numbered l below j =
    let m = link_of arch k j.next numbered.listeners j.link in
    has_any (λ x. get_or loud x.channel false) (handler arch k).emitters m.emitter m.has
    (l.all m.emitter.channel j.next (emitter_below arch k m.emitter numbered below m.has) m.below j.marked m.on)

-- to emit on a marked channel is to lead to a handler that is near
pub loud_near : (arch : Arch) (h n : ℕ) (ranks : List ℕ) (loud : List Bool) (k : ℕ) → IsWellNumbered arch → AreRanked arch h n ranks → AreLoud arch ranks (length arch.handlers) loud → k < length arch.handlers → is_loud arch loud k ≡ leads_near arch h n k
loud_near arch h n ranks loud k numbered r l below =
    bool_same (is_loud arch loud k) (leads_near arch h n k)
    (λ e.
    let m = any_has (λ x. get_or loud x.channel false) (handler arch k).emitters e in
    let j = l.heard m.element.channel m.passes in
    let link = of_link arch k j.number numbered.listeners (record { emitter = m.element; has = m.has; below = j.below; on = j.on }) in
    from_nearby arch h n k j.number (r.ranked j.number n (omega arith) j.below j.ranked (r.top j.number)) link)
    (λ e.
    let j = nearby arch h n k e in
    let m = link_of arch k j.number numbered.listeners j.link in
    has_any (λ x. get_or loud x.channel false) (handler arch k).emitters m.emitter m.has
    (l.all m.emitter.channel j.number (emitter_below arch k m.emitter numbered below m.has) m.below (r.near j.number n (omega arith) m.below j.near).0 m.on))

-- ---- ranks

rank_kept : (arch : Arch) (loud : List Bool) (n : ℕ) (old : List ℕ) (k : ℕ) → 0 < rank old k → ranked_next arch loud n old k ≡ rank old k
rank_kept arch loud n old k pos =
    let some : (rank old k == 0) ≡ false = ne_eqb (rank old k) 0 (λ e. omega arith) in
    ap (λ b. cond (b && is_loud arch loud k) (n + 2) (rank old k)) some

rank_new : (arch : Arch) (loud : List Bool) (n : ℕ) (old : List ℕ) (k : ℕ) → rank old k ≡ 0 → is_loud arch loud k ≡ true → ranked_next arch loud n old k ≡ n + 2
rank_new arch loud n old k none yes' =
    let test : (rank old k == 0 && is_loud arch loud k) ≡ true = and_from (rank old k == 0) (is_loud arch loud k) (eq-eqb (rank old k) 0 none) yes' in
    ap (λ b. cond b (n + 2) (rank old k)) test

rank_none : (arch : Arch) (loud : List Bool) (n : ℕ) (old : List ℕ) (k : ℕ) → rank old k ≡ 0 → is_loud arch loud k ≡ false → ranked_next arch loud n old k ≡ 0
rank_none arch loud n old k none no' =
    let test : (rank old k == 0 && is_loud arch loud k) ≡ false = and_right (rank old k == 0) (is_loud arch loud k) no' in
    ap (λ b. cond b (n + 2) (rank old k)) test ∙ none

-- one round of ranking
pub ranked_more : (arch : Arch) (h n : ℕ) (old new : List ℕ) (loud : List Bool) → IsWellNumbered arch → AreRanked arch h n old → AreLoud arch old (length arch.handlers) loud → Widens arch loud n (length arch.handlers) old new → AreRanked arch h (n + 1) new
ranked_more arch h n old new loud numbered r l w = record {
  each = w.each ∙ r.each;
  top = λ k. elim (cases_lt k (length arch.handlers)) [
    | inl below ↦ elim (cases_lt 0 (rank old k)) [
      | inl pos ↦ omega (arith, w.before k below, rank_kept arch loud n old k pos, r.top k)
      | inr none ↦ elim (cases_Bool (is_loud arch loud k)) [
        | inl t ↦ omega (arith, w.before k below, rank_new arch loud n old k (omega arith) t)
        | inr t ↦ omega (arith, w.before k below, rank_none arch loud n old k (omega arith) t)
      ]
    ]
    | inr above ↦ omega (arith, w.after k above, r.top k)
  ];
  near = λ k m le below e. near_at k m le below e;
  ranked = λ k m le below pos small. ranked_at k m le below pos small;
}
  where
    kept_near : (k m : ℕ) → k < length arch.handlers → m ≤ n → is_near arch h m k ≡ true → (0 < rank new k) × (rank new k ≤ m + 1)
    kept_near k m below le e =
        let s = r.near k m le below e in
        let same : rank new k ≡ rank old k = w.before k below ∙ rank_kept arch loud n old k s.0 in
        (omega (arith, s.0), omega (arith, s.1))

    last_near : (k : ℕ) → k < length arch.handlers → is_near arch h (suc n) k ≡ true → (0 < rank new k) × (rank new k ≤ n + 2)
    last_near k below e = elim (wider_near arch h n k e) [
      | inl before ↦ let s = kept_near k n below (omega arith) before in (s.0, omega (arith, s.1))
      | inr led ↦ elim (cases_lt 0 (rank old k)) [
        | inl pos ↦ let same : rank new k ≡ rank old k = w.before k below ∙ rank_kept arch loud n old k pos in (omega arith, omega (arith, r.top k))
        | inr none ↦ let same : rank new k ≡ n + 2 = w.before k below ∙ rank_new arch loud n old k (omega arith) (loud_near arch h n old loud k numbered r l below ∙ led) in (omega arith, omega arith)
      ]
    ]

    near_at : (k m : ℕ) → m ≤ n + 1 → k < length arch.handlers → is_near arch h m k ≡ true → (0 < rank new k) × (rank new k ≤ m + 1)
    near_at k m le below e = elim (cases_lt n m) [
      | inl last ↦
          let at : m ≡ suc n = omega arith in
          let s = last_near k below (subst (λ x. is_near arch h x k ≡ true) at e) in
          (s.0, omega (arith, s.1))
      | inr before ↦ kept_near k m below before e
    ]

    ranked_at : (k m : ℕ) → m ≤ n + 1 → k < length arch.handlers → 0 < rank new k → rank new k ≤ m + 1 → is_near arch h m k ≡ true
    ranked_at k m le below pos small = elim (cases_lt 0 (rank old k)) [
      | inl had ↦
          let same : rank new k ≡ rank old k = w.before k below ∙ rank_kept arch loud n old k had in
          elim (cases_lt n m) [
            | inl last ↦
                let at : suc n ≡ m = omega arith in
                subst (λ x. is_near arch h x k ≡ true) at (near_wider arch h n k below (inl (r.ranked k n (omega arith) below had (r.top k))))
            | inr before ↦ r.ranked k m before below had (omega arith)
          ]
      | inr none ↦ elim (cases_Bool (is_loud arch loud k)) [
        | inl t ↦
            let same : rank new k ≡ n + 2 = w.before k below ∙ rank_new arch loud n old k (omega arith) t in
            let at : suc n ≡ m = omega arith in
            subst (λ x. is_near arch h x k ≡ true) at (near_wider arch h n k below (inr (sym (loud_near arch h n old loud k numbered r l below) ∙ t)))
        | inr t ↦ absurd (let same : rank new k ≡ 0 = w.before k below ∙ rank_none arch loud n old k (omega arith) t in omega arith)
      ]
    ]

-- ---- the walk

pub found_round : (arch : Arch) (h n : ℕ) (way : List ℕ) → n < length arch.handlers → ((m : ℕ) → m < n → leads_near arch h m h ≡ false) → leads_near arch h n h ≡ true → way ≡ walk arch h n h → Some way ≡ walk_round arch h
found_round arch h n way below before here e =
    ap Some e ∙ sym (ap (walk_if arch h) (find_at (λ m. leads_near arch h m h) (length arch.handlers) n below before here))

pub none_round : (arch : Arch) (h : ℕ) → ((m : ℕ) → m < length arch.handlers → leads_near arch h m h ≡ false) → None ≡ walk_round arch h
none_round arch h none =
    sym (ap (walk_if arch h) (find_none (λ m. leads_near arch h m h) (handler_numbers arch) (λ m i. none m (number_below (length arch.handlers) m i))))

-- where a round ranks nothing more, nothing more is near, and h never leads back
pub ended_round : (arch : Arch) (h n : ℕ) (old new : List ℕ) (loud : List Bool) → IsWellNumbered arch → h < length arch.handlers → AreRanked arch h n old → AreLoud arch old (length arch.handlers) loud → Widens arch loud n (length arch.handlers) old new → new ≡ old → ((m : ℕ) → m < n → leads_near arch h m h ≡ false) → leads_near arch h n h ≡ false → (m : ℕ) → leads_near arch h m h ≡ false
ended_round arch h n old new loud numbered inside r l w same before here m = elim (cases_lt m n) [
  | inl early ↦ before m early
  | inr late ↦ elim (cases_Bool (leads_near arch h m h)) [
    | inl led ↦
        let j = nearby arch h m h led in
        let below : j.number < length arch.handlers = (link_of arch h j.number numbered.listeners j.link).below in
        let at : (m - n) + n ≡ m = omega arith in
        let close : is_near arch h ((m - n) + n) j.number ≡ true = subst (λ x. is_near arch h x j.number ≡ true) (sym at) j.near in
        let early : is_near arch h n j.number ≡ true = near_stays arch h n (m - n) numbered.listeners still j.number below close in
        absurd (false≢true (sym here ∙ from_nearby arch h n h j.number early j.link))
    | inr not_led ↦ not_led
  ]
]
  where
    still : (k : ℕ) → is_near arch h (suc n) k ≡ true → is_near arch h n k ≡ true
    still k e =
        let found = any_has (λ i. i == k) (wider arch (near arch h n)) e in
        let member : In k (wider arch (near arch h n)) = subst (λ i. In i (wider arch (near arch h n))) (eqb-true found.element k found.passes) found.has in
        let below : k < length arch.handlers = number_below (length arch.handlers) k (filter_has (λ i. list_any (λ j. j == i || leads arch i j) (near arch h n)) (handler_numbers arch) k member).0 in
        elim (wider_near arch h n k e) [
          | inl close ↦ close
          | inr led ↦ elim (cases_lt 0 (rank old k)) [
            | inl pos ↦ r.ranked k n (omega arith) below pos (r.top k)
            | inr none ↦ absurd (
                let kept : rank new k ≡ rank old k = ap (λ xs. rank xs k) same in
                let fresh : rank new k ≡ n + 2 = w.before k below ∙ rank_new arch loud n old k (omega arith) (loud_near arch h n old loud k numbered r l below ∙ led) in
                omega arith)
          ]
        ]

-- the least handler by rank is the least that is nearer
pub least_is_nearer : (arch : Arch) (h n m : ℕ) (ranks : List ℕ) (k : ℕ) → AreRanked arch h n ranks → m ≤ n → least_ranked arch ranks m k ≡ nearer arch h m k
least_is_nearer arch h n m ranks k r le =
    ap (λ o. unwrap_or o k) (find_agree (λ j. leads arch k j && (nat_lt 0 (rank ranks j) && nat_le (rank ranks j) (m + 1))) (λ j. leads arch k j && is_near arch h m j) (handler_numbers arch)
    (λ j i. ap (λ b. leads arch k j && b) (same j (number_below (length arch.handlers) j i))))
  where
    same : (j : ℕ) → j < length arch.handlers → (nat_lt 0 (rank ranks j) && nat_le (rank ranks j) (m + 1)) ≡ is_near arch h m j
    same j below = bool_same (nat_lt 0 (rank ranks j) && nat_le (rank ranks j) (m + 1)) (is_near arch h m j)
        (λ e. let both = and_parts (nat_lt 0 (rank ranks j)) (nat_le (rank ranks j) (m + 1)) e in
        r.ranked j m le below (ltb-true 0 (rank ranks j) both.0) (leb-true (rank ranks j) (m + 1) both.1))
        (λ e. let both = r.near j m le below e in
        and_from (nat_lt 0 (rank ranks j)) (nat_le (rank ranks j) (m + 1)) (lt-ltb 0 (rank ranks j) both.0) (le-leb (rank ranks j) (m + 1) both.1))

-- one step of the walk
pub walk_step : (arch : Arch) (h left at next : ℕ) (way more w : List ℕ) → 0 < left → way ++ walk arch h left at ≡ w → more ≡ way ++ at ∷ [] → next ≡ nearer arch h left at → more ++ walk arch h (left - 1) next ≡ w
walk_step arch h zero at next way more w pos e f g = absurd (omega arith)
walk_step arch h (suc m) at next way more w pos e f g =
    let one_less : suc m - 1 ≡ m = omega arith in
    ap (λ n. more ++ walk arch h n next) one_less ∙ ap (λ ks. ks ++ walk arch h m next) f ∙ ap (λ k. (way ++ at ∷ []) ++ walk arch h m k) g ∙ append_assoc way (at ∷ []) (walk arch h m (nearer arch h (suc m) at)) ∙ e

-- ---- the first walk of all

-- one more handler is marked if it leads back to itself
pub looping_more : (arch : Arch) (n : ℕ) (marks more : List Bool) (b : Bool) → AreLooping arch n marks → (b ≡ false → walk_round arch n ≡ None) → more ≡ marks ++ b ∷ [] → AreLooping arch (n + 1) more
looping_more arch n marks more b l r e =
    subst (AreLooping arch (n + 1)) (sym e) (record {
      each = omega (arith, length-append marks (b ∷ []), l.each);
      others = λ h below none. elim (cases_lt h n) [
        | inl early ↦
            let within : h < length marks = omega (arith, l.each) in
            l.others h early (sym (get_or_append_left marks (b ∷ []) false h within) ∙ none)
        | inr late ↦
            let here : h ≡ length marks = omega (arith, l.each) in
            let at : h ≡ n = omega arith in
            let unmarked : b ≡ false = sym (get_or-append_seam marks b [] false) ∙ ap (λ i. get_or (marks ++ b ∷ []) i false) (sym here) ∙ none in
            subst (λ i. walk_round arch i ≡ None) (sym at) (r unmarked)
      ];
    })

-- a handler that its own search did not mark has no walk round
pub unmarked_none : (arch : Arch) (h : ℕ) (reached : List Bool) → AreReached arch (start.Handler h) reached → get_or reached h false ≡ false → walk_round arch h ≡ None
unmarked_none arch h reached r unmarked = no_walk arch h (λ f. false≢true (sym unmarked ∙ r.follows h f))

pub round_none : (arch : Arch) (marks : List Bool) (n : ℕ) → first_of_all (walk_round arch) (marked_below marks n) ≡ None → (get_or marks n false ≡ false) ⊎ (walk_round arch n ≡ None) → first_of_all (walk_round arch) (marked_below marks (n + 1)) ≡ None
round_none arch marks n before here =
    let p : ℕ → Bool = λ k. get_or marks k false in
    let none : passing p (walk_round arch) n ≡ None = elim here [
      | inl unmarked ↦ ap (λ b. cond b (walk_round arch n) None) unmarked
      | inr no_round ↦ both (p n) (walk_round arch n) no_round
    ] in
    first-filter p (walk_round arch) (numbers_before (n + 1) []) ∙ first_none (passing p (walk_round arch)) n (sym (first-filter p (walk_round arch) (numbers_before n [])) ∙ before) none
  where
    both : (b : Bool) (o : Option (List ℕ)) → o ≡ None → cond b o None ≡ None
    both true o e = e
    both false o e = refl

pub round_found : (arch : Arch) (marks : List Bool) (n : ℕ) (way : List ℕ) → n < length arch.handlers → first_of_all (walk_round arch) (marked_below marks n) ≡ None → get_or marks n false ≡ true → walk_round arch n ≡ Some way → Some way ≡ first_of_all (walk_round arch) (marked_below marks (length arch.handlers))
round_found arch marks n way below before marked here =
    let p : ℕ → Bool = λ k. get_or marks k false in
    let found : passing p (walk_round arch) n ≡ Some way = ap (λ b. cond b (walk_round arch n) None) marked ∙ here in
    sym (first-filter p (walk_round arch) (numbers_before (length arch.handlers) []) ∙ first_at (passing p (walk_round arch)) (length arch.handlers) n way below (sym (first-filter p (walk_round arch) (numbers_before n [])) ∙ before) found)

-- the marked handlers are those that the source reaches
pub rounds_of : (arch : Arch) (s : ℕ) (marks slice : List Bool) (way : Option (List ℕ)) → AreListeners arch → AreReached arch (start.Source s) marks → slice ≡ marks → way ≡ first_of_all (walk_round arch) (marked_below slice (length arch.handlers)) → found_at s way ≡ shown_at arch s
rounds_of arch s marks slice way listed reached same e =
    let list : marked_below slice (length arch.handlers) ≡ reached_by arch s = ap (λ ms. marked_below ms (length arch.handlers)) same ∙ marks_are arch s marks listed reached in
    ap (found_at s) (e ∙ ap (first_of_all (walk_round arch)) list)

-- the marked handlers are those that the source reaches
pub marked_reached : (arch : Arch) (s : ℕ) (marks slice : List Bool) → AreListeners arch → AreReached arch (start.Source s) marks → slice ≡ marks → marked_below slice (length arch.handlers) ≡ reached_by arch s
marked_reached arch s marks slice listed reached same = ap (λ ms. marked_below ms (length arch.handlers)) same ∙ marks_are arch s marks listed reached
