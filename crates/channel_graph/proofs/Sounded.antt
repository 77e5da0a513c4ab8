-- Depths of handlers and channels, one by one.
use Rattle.std.proofs.Common.{◌≡◌, ℕ, zero, suc, ◌+◌, ◌-◌, ◌<◌, ◌≤◌, List, [], ◌∷◌, Contains, length, map, get_or, set, slice_get, Some, max, true, inl, inr, arith, refl, sym, ◌∙◌, ap, subst, get_or-set_same, get_or-set_other}
use Rattle.std.proofs.lemmas.Bool.{cases_lt, cases_eq}
use Rattle.std.proofs.lemmas.List.{length-map, length-set}
use Rattle.tower_syntax.specs.declared.arch.On.TheVariants as on
use Rattle.tower_syntax.specs.declared.arch.Emitter.{Emitter as EmitterValue}
use Rattle.tower_syntax.specs.declared.arch.Handler.{Handler as HandlerValue}
use Rattle.tower_syntax.specs.Arch.{Arch, Emitter}
use Rattle.tower_syntax.specs.View.{emitter_of, handler_of}
use Rattle.tower_syntax.specs.Graph.{handler, leads}
use Rattle.tower_syntax.specs.WellNumbered.{AreListeners}
use Rattle.channel_graph.specs.declared.depths.Known.{Known}
use Rattle.channel_graph.specs.Chain.{IsOnSource, LeadsAlong, IsWalk, IsChain, IsChainWithin}
use Rattle.channel_graph.specs.Lengths.{Starts, HasWalk}
use Rattle.channel_graph.specs.Ranked.{rank}
use Rattle.channel_graph.specs.Reaching.{is_on, first_on}
use Rattle.channel_graph.specs.Deep.{IsDepth, IsDepthOn, AreDepths, IsKnown, IsTop, IsDeepest, emitted}
use Rattle.channel_graph.proofs.Members.{In, contains_from_In}
use Rattle.channel_graph.proofs.Linked.{link_of, of_link, source_handler_below}
use Rattle.channel_graph.proofs.Led.{in_map, emitters_read}
use Rattle.channel_graph.proofs.Looked.{read_twice}
use Rattle.channel_graph.proofs.Searched.{at_first_on, audience_at}
use Rattle.channel_graph.proofs.Walked.{chain_found, chain_within}
use Rattle.std.proofs.lemmas.List.{get_or_default}

-- ---- the greatest of some numbers

-- one place more
pub top_more : (xs places : List ℕ) (floor n m x out : ℕ) → IsTop xs floor n m places → x ≡ rank xs (get_or places m 0) → 0 < x → out ≡ max n x → IsTop xs floor out (m + 1) places
top_more xs places floor n m x out top read pos is = record {
  above = omega (arith, top.above, is);
  each = λ j below. elim (cases_lt j m) [
    | inl early ↦ let was = top.each j early in (was.0, omega (arith, was.1, is))
    | inr late ↦
        let at : m ≡ j = omega arith in
        subst (λ i. (0 < rank xs (get_or places i 0)) × (rank xs (get_or places i 0) ≤ out)) at (omega (arith, read, pos), omega (arith, read, is))
  ];
  some = elim (cases_lt n x) [
    | inl more ↦ inr (m, omega arith, omega (arith, read, is, more))
    | inr less ↦ elim top.some [
      | inl low ↦ inl (omega (arith, is, less, low))
      | inr s ↦ inr (s.0, omega (arith, s.1), omega (arith, s.2, is, less))
    ]
  ];
}

-- the channel of one emitter more
pub emitter_more : (arch : Arch) (h : ℕ) (v : HandlerValue) (items : List EmitterValue) (i : ℕ) (x : EmitterValue) (xs : List ℕ) (n out : ℕ) → slice_get arch.handlers h ≡ Some (handler_of v) → items ≡ v.emitters → i < length items → x ≡ get_or items i x → IsTop xs 1 n i (emitted arch h) → 0 < rank xs x.channel → out ≡ max n (rank xs x.channel) → IsTop xs 1 out (i + 1) (emitted arch h)
emitter_more arch h v items i x xs n out e same within read top pos is =
    let here : get_or (emitted arch h) i 0 ≡ x.channel = ap (λ es. get_or (map (λ y. y.channel) es) i 0) (sym (emitters_read arch h v items e same)) ∙ read_twice (λ (y : Emitter). y.channel) emitter_of items i x 0 within read in
    top_more xs (emitted arch h) 1 n i (rank xs x.channel) out top (ap (rank xs) (sym here)) pos is

pub emitters_end : (arch : Arch) (h : ℕ) (v : HandlerValue) (items : List EmitterValue) (i : ℕ) (xs : List ℕ) (n : ℕ) → slice_get arch.handlers h ≡ Some (handler_of v) → items ≡ v.emitters → i ≡ length items → IsTop xs 1 n i (emitted arch h) → IsTop xs 1 n (length (handler arch h).emitters) (emitted arch h)
emitters_end arch h v items i xs n e same end top =
    let all : i ≡ length (handler arch h).emitters = end ∙ sym (length-map items emitter_of) ∙ ap length (emitters_read arch h v items e same) in
    subst (λ m. IsTop xs 1 n m (emitted arch h)) all top

-- ---- a handler, by the channels on which it emits

-- a place among the channels of k by which it leads to j
record Heard (arch : Arch) (k j : ℕ) : Type 0 where
  place : ℕ
  within : place < length (handler arch k).emitters
  below : j < length arch.handlers
  on : is_on arch (on.Channel (get_or (emitted arch k) place 0)) j ≡ true

heard_of : (arch : Arch) (k j : ℕ) → AreListeners arch → leads arch k j ≡ true → Heard arch k j
heard_of arch k j listed link =
    let l = link_of arch k j listed link in
    let at = contains_from_In (emitted arch k) l.emitter.channel (in_map (λ e. e.channel) (handler arch k).emitters l.emitter l.has) in
    let read : get_or (emitted arch k) at.0 0 ≡ l.emitter.channel = get_or_default (emitted arch k) at.0 0 l.emitter.channel at.1 ∙ at.2 in
    record {
      place = at.0;
      within = omega (arith, at.1, length-map (handler arch k).emitters (λ e. e.channel));
      below = l.below;
      on = subst (λ c. is_on arch (on.Channel c) j ≡ true) (sym read) l.on;
    }

record Emits (es : List Emitter) (c : ℕ) : Type 0 where
  emitter : Emitter
  has : In emitter es
  is : emitter.channel ≡ c

emitter_at : (es : List Emitter) (i : ℕ) → i < length es → Emits es (get_or (map (λ e. e.channel) es) i 0)
emitter_at [] i h = absurd (omega arith)
emitter_at (e ∷ es) zero h = record { emitter = e; has = inl refl; is = refl }
emitter_at (e ∷ es) (suc i) h =
    let r = emitter_at es i (omega arith) in
    record { emitter = r.emitter; has = inr r.has; is = r.is }

leads_at : (arch : Arch) (k j i : ℕ) → AreListeners arch → i < length (handler arch k).emitters → j < length arch.handlers → is_on arch (on.Channel (get_or (emitted arch k) i 0)) j ≡ true → leads arch k j ≡ true
leads_at arch k j i listed within below o =
    let e = emitter_at (handler arch k).emitters i within in
    of_link arch k j listed (record { emitter = e.emitter; has = e.has; below = below; on = subst (λ c. is_on arch (on.Channel c) j ≡ true) (sym e.is) o })

handler_depth : (arch : Arch) (q : Known) (k n : ℕ) → AreListeners arch → IsKnown arch q → IsTop q.channels 1 n (length (handler arch k).emitters) (emitted arch k) → IsDepth arch k n
handler_depth arch q k n listed known top = record {
  starts = elim top.some [
    | inl low ↦ record { rest = []; along = tt; long = omega (arith, low) }
    | inr s ↦
        let c = get_or (emitted arch k) s.0 0 in
        let pos = (top.each s.0 s.1).0 in
        elim (known.known c pos).some [
          | inl one ↦ record { rest = []; along = tt; long = omega (arith, one, s.2) }
          | inr w ↦
              let link = leads_at arch k w.number s.0 listed s.1 w.below w.on in
              record { rest = w.number ∷ w.starts.rest; along = (link, w.starts.along); long = omega (arith, w.starts.long, s.2, pos) }
        ]
  ];
  longest = λ m s. few m s.rest s.along s.long;
}
  where
    few : (m : ℕ) (rest : List ℕ) → LeadsAlong arch k rest → length rest + 1 ≡ m → m ≤ n
    few m [] along long = omega (arith, top.above, long)
    few m (j ∷ js) along long =
        let h = heard_of arch k j listed along.0 in
        let t = top.each h.place h.within in
        let d = known.known (get_or (emitted arch k) h.place 0) t.0 in
        let less = d.longest (length js + 1) (record { number = j; below = h.below; on = h.on; starts = record { rest = js; along = along.1; long = refl } }) in
        omega (arith, less, t.1, long)

-- ---- a channel, by the handlers on it

-- each handler on the channel has a depth of at most n
on_it_known : (arch : Arch) (depths ks : List ℕ) (c n : ℕ) → ks ≡ first_on arch (on.Channel c) (length arch.handlers) → IsTop depths 0 n (length ks) ks → (k : ℕ) → k < length arch.handlers → is_on arch (on.Channel c) k ≡ true → (0 < rank depths k) × (rank depths k ≤ n)
on_it_known arch depths ks c n same top k below o =
    let at : Contains ks k = subst (λ xs. Contains xs k) (sym same) (at_first_on arch (on.Channel c) (length arch.handlers) k below o) in
    let read : get_or ks at.0 0 ≡ k = get_or_default ks at.0 0 k at.1 ∙ at.2 in
    subst (λ j. (0 < rank depths j) × (rank depths j ≤ n)) read (top.each at.0 at.1)

channel_depth : (arch : Arch) (depths ks : List ℕ) (c n : ℕ) → AreDepths arch depths → ks ≡ first_on arch (on.Channel c) (length arch.handlers) → IsTop depths 0 n (length ks) ks → IsDepthOn arch c (n + 1)
channel_depth arch depths ks c n d same top = record {
  longest = λ m s.
      let here = on_it_known arch depths ks c n same top s.number s.below s.on in
      omega (arith, (d.known s.number here.0).longest m s.starts, here.1);
  some = elim top.some [
    | inl none ↦ inl (omega (arith, none))
    | inr s ↦
        let j = get_or ks s.0 0 in
        let a = audience_at arch (on.Channel c) ks same s.0 0 s.1 in
        let is : rank depths j ≡ (n + 1) - 1 = omega (arith, s.2) in
        inr (record { number = j; below = a.0; on = a.1; starts = subst (λ x. Starts arch x j) is (d.known j (top.each s.0 s.1).0).starts })
  ];
}

-- ---- a number is set

set_above : (xs : List ℕ) (k x j : ℕ) → k < length xs → 0 < x → 0 < rank xs j → 0 < rank (set xs k x) j
set_above xs k x j below pos was = elim (cases_eq j k) [
  | inl same ↦ subst (λ i. 0 < rank (set xs k x) i) (sym same) (subst (λ r. 0 < r) (sym (get_or-set_same xs k x 0 below)) pos)
  | inr other ↦ subst (λ r. 0 < r) (sym (get_or-set_other xs k j x 0 other)) was
]

-- what holds of the numbers that are not 0, and of the one that is set
set_holds : (P : ℕ → ℕ → Type 0) (xs : List ℕ) (k x : ℕ) → k < length xs → P k x → ((j : ℕ) → 0 < rank xs j → P j (rank xs j)) → (j : ℕ) → 0 < rank (set xs k x) j → P j (rank (set xs k x) j)
set_holds P xs k x below here each j pos = elim (cases_eq j k) [
  | inl same ↦ subst (λ i. P i (rank (set xs k x) i)) (sym same) (subst (P k) (sym (get_or-set_same xs k x 0 below)) here)
  | inr other ↦
      let read = get_or-set_other xs k j x 0 other in
      subst (P j) (sym read) (each j (subst (λ r. 0 < r) read pos))
]

pub known_handler : (arch : Arch) (q : Known) (k n : ℕ) → AreListeners arch → IsKnown arch q → k < length arch.handlers → IsTop q.channels 1 n (length (handler arch k).emitters) (emitted arch k) → IsKnown arch (record q { handlers = set q.handlers k n })
known_handler arch q k n listed known inside top =
    let below : k < length q.handlers = omega (arith, known.depths.each) in
    let some : 0 < n = omega (arith, top.above) in
    record {
      depths = record {
        each = length-set q.handlers k n ∙ known.depths.each;
        known = set_holds (IsDepth arch) q.handlers k n below (handler_depth arch q k n listed known top) known.depths.known;
        closed = λ i j pos link. set_above q.handlers k n j below some (set_holds (λ h r. leads arch h j ≡ true → 0 < rank q.handlers j) q.handlers k n below
            (λ first. let h = heard_of arch k j listed first in known.heard (get_or (emitted arch k) h.place 0) j (top.each h.place h.within).0 h.below h.on)
            (λ h p later. known.depths.closed h j p later) i pos link);
      };
      each = known.each;
      known = known.known;
      heard = λ c j pos b o. set_above q.handlers k n j below some (known.heard c j pos b o);
    }

pub known_channel : (arch : Arch) (q : Known) (ks : List ℕ) (c n : ℕ) → IsKnown arch q → c < length arch.channels → ks ≡ first_on arch (on.Channel c) (length arch.handlers) → IsTop q.handlers 0 n (length ks) ks → IsKnown arch (record q { channels = set q.channels c (n + 1) })
known_channel arch q ks c n known inside same top =
    let below : c < length q.channels = omega (arith, known.each) in
    record {
      depths = known.depths;
      each = length-set q.channels c (n + 1) ∙ known.each;
      known = set_holds (IsDepthOn arch) q.channels c (n + 1) below (channel_depth arch q.handlers ks c n known.depths same top) known.known;
      heard = λ d k pos b o. set_holds (λ a r. is_on arch (on.Channel a) k ≡ true → 0 < rank q.handlers k) q.channels c (n + 1) below
          (λ here. (on_it_known arch q.handlers ks c n same top k b here).0)
          (λ a p there. known.heard a k p b there) d pos o;
    }

-- ---- the handlers on sources

pub deepest_pass : (arch : Arch) (depths : List ℕ) (k n : ℕ) → IsDeepest arch depths k n → (IsOnSource arch k → ⊥) → IsDeepest arch depths (k + 1) n
deepest_pass arch depths k n d none = record {
  walk = d.walk;
  all = λ h below o. elim (cases_lt h k) [
    | inl early ↦ d.all h early o
    | inr late ↦ let at : h ≡ k = omega arith in absurd (none (subst (IsOnSource arch) at o))
  ];
}

pub deepest_more : (arch : Arch) (depths : List ℕ) (k n out : ℕ) → AreDepths arch depths → IsDeepest arch depths k n → IsOnSource arch k → 0 < rank depths k → out ≡ max n (rank depths k) → IsDeepest arch depths (k + 1) out
deepest_more arch depths k n out known d here pos is = record {
  walk = elim (cases_lt n (rank depths k)) [
    | inl more ↦
        let s = (known.known k pos).starts in
        record { walk = k ∷ s.rest; is = (here, s.along); long = omega (arith, s.long, is, more) }
    | inr less ↦ let same : n ≡ out = omega (arith, is, less) in subst (HasWalk arch) same d.walk
  ];
  all = λ h below o. elim (cases_lt h k) [
    | inl early ↦ let was = d.all h early o in (was.0, omega (arith, was.1, is))
    | inr late ↦
        let at : k ≡ h = omega arith in
        subst (λ i. (0 < rank depths i) × (rank depths i ≤ out)) at (pos, omega (arith, is))
  ];
}

pub deepest_chain : (arch : Arch) (depths : List ℕ) (n : ℕ) → AreListeners arch → AreDepths arch depths → IsDeepest arch depths (length arch.handlers) n → IsChain arch n
deepest_chain arch depths n listed known d = chain_found arch n d.walk few
  where
    few : (hs : List ℕ) → IsWalk arch hs → length hs ≤ n
    few [] walk = omega arith
    few (h ∷ hs) walk =
        let below = source_handler_below arch h walk.0.source listed walk.0.on in
        let here = d.all h below walk.0 in
        let long = (known.known h here.0).longest (length hs + 1) (record { rest = hs; along = walk.1; long = refl }) in
        omega (arith, long, here.1)

pub deepest_within : (arch : Arch) (depths : List ℕ) (n : ℕ) → AreListeners arch → n ≤ length arch.handlers → AreDepths arch depths → IsDeepest arch depths (length arch.handlers) n → IsChainWithin arch (length arch.handlers) n
deepest_within arch depths n listed few known d =
    let chain = deepest_chain arch depths n listed known d in
    chain_within arch (length arch.handlers) n few d.walk (λ hs walk short. chain.longest hs walk)
