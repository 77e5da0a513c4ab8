-- What a step of a search keeps.
use Rattle.std.proofs.Common.{◌≡◌, ◌≢◌, ℕ, zero, suc, ◌+◌, ◌<◌, ◌≤◌, List, [], ◌∷◌, ◌++◌, length, get_or, set, take, filter, map, cond, Bool, true, false, ◌⊎◌, inl, inr, Contains, count_by, arith, refl, sym, ◌∙◌, ap, subst, get_or-set_same, get_or-set_other, slice_get, Some, below_more, replicate, append-nil}
use Rattle.std.proofs.lemmas.Bool.{false≢true, cases_Bool, cases_eq, cases_lt, ne_eqb, eq-eqb, MatchBool-at_true, MatchBool-at_false}
use Rattle.std.proofs.lemmas.List.{length-append, length-set, get_or_append_left}
use Rattle.std.proofs.lemmas.List.Elements.{Contains-append_left, Contains-push, filter-append}
use Rattle.std.proofs.lemmas.List.Sums.{sum_by-cons, sum_by-set, count_by-le-length}
use Rattle.std.proofs.Math.Seq.{get_or-append_seam}
use Rattle.std.proofs.lemmas.List.{take_more, get_or_default, length-replicate, length-map}
use Rattle.std.proofs.Math.Seq.{take-length}
use Rattle.std.proofs.lemmas.Option.{get_or_from_slice_get}
use Rattle.tower_syntax.specs.Arch.{Arch, Emitter}
use Rattle.tower_syntax.specs.View.{emitter_of, handler_of}
use Rattle.tower_syntax.specs.declared.arch.Emitter.{Emitter as EmitterValue}
use Rattle.tower_syntax.specs.declared.arch.On.{On}
use Rattle.tower_syntax.specs.declared.arch.On.TheVariants as on
use Rattle.tower_syntax.specs.Graph.{numbers_before, handler, no_handler, leads, same_on}
use Rattle.tower_syntax.specs.WellNumbered.{AreListeners, IsNumberedOn}
use Rattle.tower_syntax.specs.declared.arch.Handler.{Handler as HandlerValue}
use Rattle.std.proofs.Math.ListN.{get_or-map}
use Rattle.channel_graph.specs.declared.reach.Start.{Start}
use Rattle.channel_graph.proofs.Listed.{numbers_before-suc}
use Rattle.channel_graph.proofs.Linked.{link_of, of_link}
use Rattle.channel_graph.proofs.Members.{In, filter_has, has_filter, number_below, below_number, In-get_or, contains_from_In}
use Rattle.channel_graph.specs.declared.reach.Reach.{Reach}
use Rattle.channel_graph.specs.Reaching.{IsMarked, Follows, IsReach, Later, Marks, Visits, Goes, AreOpen, AreDone, AreAudiences, HearsMore, IsWithin, Begins, begins, goes, is_on, first_on}

pub later_same : (r : Reach) → Later r r
later_same r = record { from = refl; handlers = λ k h. h; channels = λ c h. h; longer = omega arith; order = λ j h. refl }

pub later_later : (a b c : Reach) → Later a b → Later b c → Later a c
later_later a b c f g = record {
  from = g.from ∙ f.from;
  handlers = λ k h. g.handlers k (f.handlers k h);
  channels = λ k h. g.channels k (f.channels k h);
  longer = omega (arith, f.longer, g.longer);
  order = λ j h. let more : j < length b.order = omega (arith, f.longer) in g.order j more ∙ f.order j h;
}

pub goes_goes : (arch : Arch) (a b c : Reach) → Goes arch a b → Goes arch b c → Goes arch a c
goes_goes arch a b c f g = record { reach = g.reach; later = later_later a b c f.later g.later }

-- a mark is one of the old ones, or the new one
pub marked_set : (marks : List Bool) (k j : ℕ) → k < length marks → IsMarked (set marks k true) j → (j ≡ k) ⊎ IsMarked marks j
marked_set marks k j h m = elim (cases_eq j k) [
  | inl same ↦ inl same
  | inr other ↦ inr (sym (get_or-set_other marks k j true false other) ∙ m)
]

pub set_marked : (marks : List Bool) (k j : ℕ) → k < length marks → IsMarked marks j → IsMarked (set marks k true) j
set_marked marks k j h m = elim (cases_eq j k) [
  | inl same ↦ subst (λ i. IsMarked (set marks k true) i) (sym same) (get_or-set_same marks k true false h)
  | inr other ↦ get_or-set_other marks k j true false other ∙ m
]

visit_new : (arch : Arch) (old new : Reach) (k : ℕ) → k < length old.handlers → get_or old.handlers k false ≡ false → Marks old new k → IsReach arch old → Follows arch old.from k → Goes arch old new
visit_new arch old new k below t m r f =
    let marked : (j : ℕ) → IsMarked new.handlers j → (j ≡ k) ⊎ IsMarked old.handlers j = λ j h. marked_set old.handlers k j below (subst (λ hs. IsMarked hs j) m.handlers h) in
    let stays : (j : ℕ) → IsMarked old.handlers j → IsMarked new.handlers j = λ j h. subst (λ hs. IsMarked hs j) (sym m.handlers) (set_marked old.handlers k j below h) in
    let here : IsMarked new.handlers k = subst (λ hs. IsMarked hs k) (sym m.handlers) (get_or-set_same old.handlers k true false below) in
    let follows : (j : ℕ) → Follows arch old.from j → Follows arch new.from j = λ j h. subst (λ s. Follows arch s j) (sym m.from) h in
    let long : length new.order ≡ length old.order + 1 = omega (arith, ap length m.order, length-append old.order (k ∷ [])) in
    let before : (j : ℕ) → j < length old.order → get_or new.order j 0 ≡ get_or old.order j 0 = λ j h. ap (λ o. get_or o j 0) m.order ∙ get_or_append_left old.order (k ∷ []) 0 j h in
    let last : get_or new.order (length old.order) 0 ≡ k = ap (λ o. get_or o (length old.order) 0) m.order ∙ get_or-append_seam old.order k [] 0 in
    record {
      reach = record {
        handlers = ap length m.handlers ∙ length-set old.handlers k true ∙ r.handlers;
        channels = ap length m.channels ∙ r.channels;
        sound = λ j h. elim (marked j h) [
          | inl same ↦ follows j (subst (Follows arch old.from) (sym same) f)
          | inr was ↦ follows j (r.sound j was)
        ];
        ordered = λ j h. elim (marked j h) [
          | inl same ↦ subst (λ o. Contains o j) (sym m.order) (subst (Contains (old.order ++ k ∷ [])) (sym same) (Contains-push old.order k))
          | inr was ↦ subst (λ o. Contains o j) (sym m.order) (Contains-append_left old.order (k ∷ []) j (r.ordered j was))
        ];
        within = λ j h. elim (cases_lt j (length old.order)) [
          | inl early ↦ subst (IsMarked new.handlers) (sym (before j early)) (stays (get_or old.order j 0) (r.within j early))
          | inr late ↦
              let at : length old.order ≡ j = omega arith in
              subst (IsMarked new.handlers) (sym (subst (λ i. get_or new.order i 0 ≡ k) at last)) here
        ];
        count =
            let weight : Bool → ℕ = λ b. cond b 1 0 in
            let counted : count_by (λ b. b) (set old.handlers k true) + weight (get_or old.handlers k false) ≡ count_by (λ b. b) old.handlers + 1 = sum_by-set weight old.handlers k true false below in
            let none : weight (get_or old.handlers k false) ≡ 0 = ap weight t in
            ap (count_by (λ b. b)) m.handlers ∙ omega (arith, r.count, counted, none, long);
        heard = λ c j mc h o. stays j (r.heard c j (subst (λ cs. IsMarked cs c) m.channels mc) h o);
      };
      later = record {
        from = m.from;
        handlers = stays;
        channels = λ c h. subst (λ cs. IsMarked cs c) (sym m.channels) h;
        longer = omega arith;
        order = before;
      };
    }

pub visit_goes : (arch : Arch) (old new : Reach) (k : ℕ) → k < length old.handlers → Visits old new k → IsReach arch old → Follows arch old.from k → Goes arch old new × IsMarked new.handlers k
visit_goes arch old new k below v r f = elim (cases_Bool (get_or old.handlers k false)) [
  | inl t ↦
      let same : new ≡ old = MatchBool-at_true (new ≡ old) (Marks old new k) t v in
      (subst (λ n. Goes arch old n) (sym same) (record { reach = r; later = later_same old }), subst (λ n. IsMarked n.handlers k) (sym same) t)
  | inr t ↦
      let m : Marks old new k = MatchBool-at_false (new ≡ old) (Marks old new k) t v in
      (visit_new arch old new k below t m r f, subst (λ hs. IsMarked hs k) (sym m.handlers) (get_or-set_same old.handlers k true false below))
]

-- the handlers on a channel have been marked, and now the channel is
pub open_goes : (arch : Arch) (old mid : Reach) (c : ℕ) → c < length mid.channels → Goes arch old mid → ((k : ℕ) → k < length arch.handlers → is_on arch (on.Channel c) k ≡ true → IsMarked mid.handlers k) → Goes arch old (record mid { channels = set mid.channels c true })
open_goes arch old mid c below g all =
    let r = g.reach in
    record {
      reach = record {
        handlers = r.handlers;
        channels = length-set mid.channels c true ∙ r.channels;
        sound = r.sound;
        ordered = r.ordered;
        within = r.within;
        count = r.count;
        heard = λ d k md h o. elim (marked_set mid.channels c d below md) [
          | inl same ↦ all k h (subst (λ x. is_on arch (on.Channel x) k ≡ true) same o)
          | inr was ↦ r.heard d k was h o
        ];
      };
      later = record {
        from = g.later.from;
        handlers = g.later.handlers;
        channels = λ d h. set_marked mid.channels c d below (g.later.channels d h);
        longer = g.later.longer;
        order = g.later.order;
      };
    }

pub channel_marked : (marks : List Bool) (c : ℕ) → c < length marks → IsMarked (set marks c true) c
channel_marked marks c h = get_or-set_same marks c true false h

-- each of a channel's handlers exists, and is on it
pub first_on_at : (arch : Arch) (c : On) (n j d : ℕ) → j < length (first_on arch c n) → (get_or (first_on arch c n) j d < n) × (is_on arch c (get_or (first_on arch c n) j d) ≡ true)
first_on_at arch c n j d h =
    let m = filter_has (is_on arch c) (numbers_before n []) (get_or (first_on arch c n) j d) (In-get_or (first_on arch c n) j d h) in
    (number_below n (get_or (first_on arch c n) j d) m.0, m.1)

-- and it has all of them
pub at_first_on : (arch : Arch) (c : On) (n k : ℕ) → k < n → is_on arch c k ≡ true → Contains (first_on arch c n) k
at_first_on arch c n k h o = contains_from_In (first_on arch c n) k (has_filter (is_on arch c) (numbers_before n []) k (below_number n k h) o)

-- where each of the handlers on a channel is marked
pub all_marked : (arch : Arch) (c : On) (marks : List Bool) (ks : List ℕ) → ks ≡ first_on arch c (length arch.handlers) → ((j : ℕ) → j < length ks → IsMarked marks (get_or ks j 0)) → (k : ℕ) → k < length arch.handlers → is_on arch c k ≡ true → IsMarked marks k
all_marked arch c marks ks same each k h o =
    let at : Contains ks k = subst (λ xs. Contains xs k) (sym same) (at_first_on arch c (length arch.handlers) k h o) in
    let read : get_or ks at.0 0 ≡ k = get_or_default ks at.0 0 k at.1 ∙ at.2 in
    subst (IsMarked marks) read (each at.0 at.1)

-- emitters whose channels are marked, and one more
pub open_push : (marks : List Bool) (es : List EmitterValue) (e : EmitterValue) → AreOpen marks (map emitter_of es) → IsMarked marks e.channel → AreOpen marks (map emitter_of (es ++ e ∷ []))
open_push marks [] e h m = (m, tt)
open_push marks (x ∷ xs) e h m = (h.0, open_push marks xs e h.1 m)

pub open_more : (marks : List Bool) (es : List EmitterValue) (i : ℕ) (d : EmitterValue) → i < length es → AreOpen marks (map emitter_of (take i es)) → IsMarked marks (get_or es i d).channel → AreOpen marks (map emitter_of (take (i + 1) es))
open_more marks es i d h before here = subst (λ xs. AreOpen marks (map emitter_of xs)) (sym (take_more es i d h)) (open_push marks (take i es) (get_or es i d) before here)

pub open_later : (old new : List Bool) (es : List Emitter) → ((c : ℕ) → IsMarked old c → IsMarked new c) → AreOpen old es → AreOpen new es
open_later old new [] more h = tt
open_later old new (e ∷ es) more h = (more e.channel h.0, open_later old new es more h.1)

-- the handlers that are kept for a channel
pub audience : (arch : Arch) (heard : List (List ℕ)) (c : ℕ) (ks r : List ℕ) → AreAudiences arch (length arch.handlers) heard → c < length arch.channels → ks ≡ r → r ≡ get_or heard c r → ks ≡ first_on arch (on.Channel c) (length arch.handlers)
audience arch heard c ks r kept below e read =
    let within : c < length heard = omega (arith, kept.each) in
    e ∙ read ∙ get_or_default heard c r [] within ∙ kept.has c below

pub audience_at : (arch : Arch) (c : On) (ks : List ℕ) → ks ≡ first_on arch c (length arch.handlers) → (j d : ℕ) → j < length ks → (get_or ks j d < length arch.handlers) × (is_on arch c (get_or ks j d) ≡ true)
audience_at arch c ks same j d h =
    let P : List ℕ → Type 0 = λ xs. j < length xs → (get_or xs j d < length arch.handlers) × (is_on arch c (get_or xs j d) ≡ true) in
    subst P (sym same) (first_on_at arch c (length arch.handlers) j d) h

-- a handler that is read
pub handler_read : (arch : Arch) (h : ℕ) (v : HandlerValue) → slice_get arch.handlers h ≡ Some (handler_of v) → handler arch h ≡ handler_of v
handler_read arch h v e = get_or_from_slice_get arch.handlers h (handler_of v) no_handler e

In_map : {X Y : Type 0} (f : X → Y) (xs : List X) (i : ℕ) (x : X) → i < length xs → In (f (get_or xs i x)) (map f xs)
In_map f [] i x h = absurd (omega arith)
In_map f (y ∷ ys) zero x h = inl refl
In_map f (y ∷ ys) (suc i) x h = inr (In_map f ys i x (omega arith))

-- an emitter of it leads to the handlers on its channel
pub emitter_leads : (arch : Arch) (h : ℕ) (v : HandlerValue) (items : List EmitterValue) (i : ℕ) (x : EmitterValue) → AreListeners arch → slice_get arch.handlers h ≡ Some (handler_of v) → items ≡ v.emitters → i < length items → x ≡ get_or items i x → (k : ℕ) → k < length arch.handlers → is_on arch (on.Channel x.channel) k ≡ true → leads arch h k ≡ true
emitter_leads arch h v items i x listed e same within read k below o =
    let there : In (emitter_of x) (map emitter_of items) = subst (λ y. In (emitter_of y) (map emitter_of items)) (sym read) (In_map emitter_of items i x within) in
    let all : map emitter_of items ≡ (handler arch h).emitters = ap (map emitter_of) same ∙ sym (ap (λ g. g.emitters) (handler_read arch h v e)) in
    of_link arch h k listed (record { emitter = emitter_of x; has = subst (In (emitter_of x)) all there; below = below; on = o })

-- all of its emitters
pub all_open : (arch : Arch) (h : ℕ) (v : HandlerValue) (items : List EmitterValue) (i : ℕ) (marks : List Bool) → slice_get arch.handlers h ≡ Some (handler_of v) → items ≡ v.emitters → i ≡ length items → AreOpen marks (map emitter_of (take i items)) → AreOpen marks (handler arch h).emitters
all_open arch h v items i marks e same end opened =
    let whole : take i items ≡ items = ap (λ n. take n items) end ∙ take-length items in
    let all : map emitter_of (take i items) ≡ (handler arch h).emitters = ap (map emitter_of) (whole ∙ same) ∙ sym (ap (λ g. g.emitters) (handler_read arch h v e)) in
    subst (AreOpen marks) all opened

pub open_has : (marks : List Bool) (es : List Emitter) (e : Emitter) → AreOpen marks es → In e es → IsMarked marks e.channel
open_has marks [] e h m = absurd m
open_has marks (x ∷ xs) e h m = elim m [
  | inl same ↦ subst (λ y. IsMarked marks y.channel) (sym same) h.0
  | inr later ↦ open_has marks xs e h.1 later
]

pub marked_below : (marks : List Bool) (k : ℕ) → IsMarked marks k → k < length marks
marked_below [] k h = absurd (false≢true h)
marked_below (m ∷ ms) zero h = omega arith
marked_below (m ∷ ms) (suc k) h = omega (arith, marked_below ms k h)

-- the order has no more handlers than there are
pub order_short : (arch : Arch) (r : Reach) → IsReach arch r → length r.order ≤ length arch.handlers
order_short arch r h = omega (arith, h.count, h.handlers, count_by-le-length (λ b. b) r.handlers)

pub handler_below : (arch : Arch) (r : Reach) (j : ℕ) → IsReach arch r → j < length r.order → get_or r.order j 0 < length arch.handlers
handler_below arch r j h within = omega (arith, marked_below r.handlers (get_or r.order j 0) (h.within j within), h.handlers)

-- one more handler of the order has no link that is not followed
pub done_more : (arch : Arch) (old new : Reach) (n : ℕ) → n < length old.order → AreDone arch old n → Later old new → AreOpen new.channels (handler arch (get_or old.order n 0)).emitters → AreDone arch new (n + 1)
done_more arch old new n within before later opened =
    let P : ℕ → Type 0 = λ j. AreOpen new.channels (handler arch (get_or new.order j 0)).emitters in
    let moved : (j : ℕ) → j < length old.order → AreOpen new.channels (handler arch (get_or old.order j 0)).emitters → P j = λ j h o. subst (λ x. AreOpen new.channels (handler arch x).emitters) (sym (later.order j h)) o in
    below_more P n
    (λ j h. let early : j < length old.order = omega arith in moved j early (open_later old.channels new.channels (handler arch (get_or old.order j 0)).emitters later.channels (before j h)))
    (moved n within opened)

-- where all of the order is done, whatever a marked handler leads to is marked
pub done_closed : (arch : Arch) (r : Reach) (n : ℕ) → AreListeners arch → IsReach arch r → AreDone arch r n → length r.order ≤ n → (h k : ℕ) → IsMarked r.handlers h → leads arch h k ≡ true → IsMarked r.handlers k
done_closed arch r n listed reach done all h k mark link =
    let at = reach.ordered h mark in
    let l = link_of arch h k listed link in
    let early : at.0 < n = omega (arith, at.1) in
    let read : get_or r.order at.0 0 ≡ h = get_or_default r.order at.0 0 h at.1 ∙ at.2 in
    let opened : AreOpen r.channels (handler arch h).emitters = subst (λ x. AreOpen r.channels (handler arch x).emitters) read (done at.0 early) in
    reach.heard l.emitter.channel k (open_has r.channels (handler arch h).emitters l.emitter opened l.has) l.below l.on

-- no mark
pub none_marked : (n k : ℕ) → IsMarked (replicate n false) k → ⊥
none_marked zero k h = false≢true h
none_marked (suc n) zero h = false≢true h
none_marked (suc n) (suc k) h = none_marked n k h

pub none_counted : (n : ℕ) → count_by (λ b. b) (replicate n false) ≡ 0
none_counted zero = refl
none_counted (suc n) =
    let weight : Bool → ℕ = λ b. cond b 1 0 in
    omega (arith, sum_by-cons weight false (replicate n false), none_counted n)

pub nothing_reached : (arch : Arch) (r : Reach) → r.handlers ≡ replicate (length arch.handlers) false → r.channels ≡ replicate (length arch.channels) false → r.order ≡ [] → IsReach arch r
nothing_reached arch r hs cs os = record {
  handlers = ap length hs ∙ length-replicate (length arch.handlers) false;
  channels = ap length cs ∙ length-replicate (length arch.channels) false;
  sound = λ k m. absurd (none_marked (length arch.handlers) k (subst (λ ms. IsMarked ms k) hs m));
  ordered = λ k m. absurd (none_marked (length arch.handlers) k (subst (λ ms. IsMarked ms k) hs m));
  within = λ j h. absurd (let none : j < 0 = subst (λ o. j < length o) os h in omega arith);
  count = ap (count_by (λ b. b)) hs ∙ none_counted (length arch.handlers) ∙ sym (ap length os);
  heard = λ c k m h o. absurd (none_marked (length arch.channels) c (subst (λ ms. IsMarked ms c) cs m));
}

-- one more handler
pub first_on-more : (arch : Arch) (c : On) (n : ℕ) → first_on arch c (n + 1) ≡ first_on arch c n ++ cond (is_on arch c n) (n ∷ []) []
first_on-more arch c n =
    let next : n + 1 ≡ suc n = omega arith in
    ap (first_on arch c) next ∙ ap (filter (is_on arch c)) (numbers_before-suc n) ∙ filter-append (is_on arch c) (numbers_before n []) (n ∷ [])

pub first_on_has : (arch : Arch) (c : On) (n : ℕ) (xs ys : List ℕ) → xs ≡ first_on arch c n → ys ≡ xs ++ n ∷ [] → is_on arch c n ≡ true → ys ≡ first_on arch c (n + 1)
first_on_has arch c n xs ys e f o = f ∙ ap (λ zs. zs ++ n ∷ []) e ∙ sym (first_on-more arch c n ∙ ap (λ b. first_on arch c n ++ cond b (n ∷ []) []) o)

pub first_on_lacks : (arch : Arch) (c : On) (n : ℕ) (xs ys : List ℕ) → xs ≡ first_on arch c n → ys ≡ xs → is_on arch c n ≡ false → ys ≡ first_on arch c (n + 1)
first_on_lacks arch c n xs ys e f o = f ∙ e ∙ sym (first_on-more arch c n ∙ ap (λ b. first_on arch c n ++ cond b (n ∷ []) []) o ∙ append-nil (first_on arch c n))

pub handler_at : (arch : Arch) (items : List HandlerValue) (k : ℕ) (x : HandlerValue) → map handler_of items ≡ arch.handlers → k < length items → x ≡ get_or items k x → handler arch k ≡ handler_of x
handler_at arch items k x same within read =
    let inside : k < length arch.handlers = omega (arith, ap length same, length-map items handler_of) in
    get_or_default arch.handlers k no_handler (handler_of x) inside ∙ sym (ap (λ hs. get_or hs k (handler_of x)) same) ∙ get_or-map handler_of items k x ∙ ap handler_of (sym read)

-- the handlers of each channel, with one more handler
pub hears_more : (arch : Arch) (k : ℕ) (old new : List (List ℕ)) → AreAudiences arch k old → HearsMore old (handler arch k).on k new → AreAudiences arch (k + 1) new
hears_more arch k old new kept more = by_on (handler arch k).on refl more
  where
    other : (a d : ℕ) → d ≢ a → (on.Channel a ≡ (handler arch k).on) → is_on arch (on.Channel d) k ≡ false
    other a d ne e = subst (λ o. same_on o (on.Channel d) ≡ false) e (ne_eqb a d (λ s. ne (sym s)))

    by_on : (o : On) → o ≡ (handler arch k).on → HearsMore old o k new → AreAudiences arch (k + 1) new
    by_on (on.Source s) e m =
        subst (λ hs. AreAudiences arch (k + 1) hs) (sym m) (record {
          each = kept.each;
          has = λ d below. first_on_lacks arch (on.Channel d) k (get_or old d []) (get_or old d []) (kept.has d below) refl (subst (λ o. same_on o (on.Channel d) ≡ false) e refl);
        })
    by_on (on.Channel a) e m =
        record {
          each = ap length m ∙ length-set old a (get_or old a [] ++ k ∷ []) ∙ kept.each;
          has = λ d below.
              let within : d < length old = omega (arith, kept.each) in
              elim (cases_eq d a) [
                | inl same ↦
                    let inside : a < length old = omega arith in
                    let written : get_or new a [] ≡ get_or old a [] ++ k ∷ [] = ap (λ hs. get_or hs a []) m ∙ get_or-set_same old a (get_or old a [] ++ k ∷ []) [] inside in
                    let here : is_on arch (on.Channel a) k ≡ true = subst (λ o. same_on o (on.Channel a) ≡ true) e (eq-eqb a a refl) in
                    let at : get_or new a [] ≡ first_on arch (on.Channel a) (k + 1) = first_on_has arch (on.Channel a) k (get_or old a []) (get_or new a []) (kept.has a (omega (arith, kept.each))) written here in
                    subst (λ x. get_or new x [] ≡ first_on arch (on.Channel x) (k + 1)) (sym same) at
                | inr ne ↦
                    let written : get_or new d [] ≡ get_or old d [] = ap (λ hs. get_or hs d []) m ∙ get_or-set_other old a d (get_or old a [] ++ k ∷ []) [] ne in
                    first_on_lacks arch (on.Channel d) k (get_or old d []) (get_or new d []) (kept.has d below) written (other a d ne e)
              ];
        }

-- what is marked at the start, closed under links, has all that follows
pub all_follow : (arch : Arch) (from : Start) (marks : List Bool) → ((k : ℕ) → Begins arch from k → IsMarked marks k) → ((h k : ℕ) → IsMarked marks h → leads arch h k ≡ true → IsMarked marks k) → (k : ℕ) → Follows arch from k → IsMarked marks k
all_follow arch from marks first closed k (begins h b) = first h b
all_follow arch from marks first closed k (goes h j before link) = closed h j (all_follow arch from marks first closed h before) link

-- of numbers, the marked ones
pub marked_more : (marks : List Bool) (n : ℕ) → filter (λ k. get_or marks k false) (numbers_before (n + 1) []) ≡ filter (λ k. get_or marks k false) (numbers_before n []) ++ cond (get_or marks n false) (n ∷ []) []
marked_more marks n =
    let p : ℕ → Bool = λ k. get_or marks k false in
    let next : n + 1 ≡ suc n = omega arith in
    ap (λ m. filter p (numbers_before m [])) next ∙ ap (filter p) (numbers_before-suc n) ∙ filter-append p (numbers_before n []) (n ∷ [])

pub within_on : (arch : Arch) (n : ℕ) (o : On) → n ≡ length arch.channels → IsNumberedOn arch o → IsWithin n o
within_on arch n (on.Source s) e h = tt
within_on arch n (on.Channel c) e h = omega arith
