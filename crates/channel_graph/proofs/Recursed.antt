-- What a handler costs by as many rounds as there are handlers is what it costs by a recursion on its links.
use Rattle.std.proofs.Common.{◌≡◌, ℕ, zero, suc, ◌+◌, ◌-◌, ◌*◌, ◌<◌, ◌≤◌, List, [], ◌∷◌, length, map, sum, true, inl, inr, arith, refl, sym, ◌∙◌, ap}
use Rattle.std.proofs.lemmas.Bool.{eq-eqb}
use Rattle.std.specs.List.{list_any}
use Rattle.tower_syntax.specs.declared.arch.On.TheVariants as on
use Rattle.tower_syntax.specs.declared.arch.Listener.{Listener}
use Rattle.tower_syntax.specs.declared.arch.Listener.TheVariants as to
use Rattle.tower_syntax.specs.Arch.{Arch, Emitter}
use Rattle.tower_syntax.specs.Graph.{handler, subs, is_handler, leads, Reaches, begins, goes}
use Rattle.tower_syntax.specs.Weights.{section, subscribers_weight, emitter_words, emitter_weight, message_words, deliver_within, deliver}
use Rattle.tower_syntax.specs.WellNumbered.{AreListeners}
use Rattle.channel_graph.specs.Circuit.{IsAcyclic}
use Rattle.channel_graph.specs.Chain.{LeadsAlong, IsWalk}
use Rattle.channel_graph.specs.Table.{further}
use Rattle.channel_graph.specs.Laws.{IsDelivery, DeliverRecurs, DeliverIsOnly, CostFollows}
use Rattle.channel_graph.proofs.Members.{In, has_any, contains_from_In}
use Rattle.channel_graph.proofs.Walked.{walk_is_short}

-- ---- only what a handler leads to counts

pub subscribers_agree : (f g : ℕ → ℕ) (w : ℕ) (ls : List Listener) → ((k : ℕ) → In (to.Handler k) ls → f k ≡ g k) → subscribers_weight f w ls ≡ subscribers_weight g w ls
subscribers_agree f g w [] same = refl
subscribers_agree f g w (to.Output o ∷ ls) same = omega (arith, subscribers_agree f g w ls (λ k m. same k (inr m)))
subscribers_agree f g w (to.Handler k ∷ ls) same = omega (arith, same k (inl refl), subscribers_agree f g w ls (λ j m. same j (inr m)))

emitters_agree : (arch : Arch) (f g : ℕ → ℕ) (es : List Emitter) → ((e : Emitter) (k : ℕ) → In e es → In (to.Handler k) (subs arch (on.Channel e.channel)) → f k ≡ g k) → map (emitter_weight arch f) es ≡ map (emitter_weight arch g) es
emitters_agree arch f g [] same = refl
emitters_agree arch f g (e ∷ es) same =
    let here = subscribers_agree f g (emitter_words arch e) (subs arch (on.Channel e.channel)) (λ k m. same e k (inl refl) m) in
    let one : emitter_weight arch f e ≡ emitter_weight arch g e = ap (λ n. 32 + e.bound * (32 + n)) here in
    ap (λ n. n ∷ map (emitter_weight arch f) es) one ∙ ap (λ ns. emitter_weight arch g e ∷ ns) (emitters_agree arch f g es (λ d k m. same d k (inr m)))

pub further_agrees : (arch : Arch) (f g : ℕ → ℕ) (h : ℕ) → ((k : ℕ) → leads arch h k ≡ true → f k ≡ g k) → further arch f h ≡ further arch g h
further_agrees arch f g h same =
    ap (λ ns. section arch (handler arch h) + sum ns) (emitters_agree arch f g (handler arch h).emitters (λ e k m there.
    same k (has_any (λ d. list_any (is_handler k) (subs arch (on.Channel d.channel))) (handler arch h).emitters e m (has_any (is_handler k) (subs arch (on.Channel e.channel)) (to.Handler k) there (eq-eqb k k refl)))))

-- ---- walks from a handler are short

-- at most n links in a row go on from h
abbrev pub IsShort : Arch → ℕ → ℕ → Type 0
IsShort arch n h = (hs : List ℕ) → LeadsAlong arch h hs → length hs ≤ n

none_further : (arch : Arch) (h k : ℕ) → IsShort arch 0 h → leads arch h k ≡ true → ⊥
none_further arch h k short link = let long = short (k ∷ []) (link, tt) in absurd (omega (arith, long))

shorter : (arch : Arch) (n h k : ℕ) → IsShort arch (suc n) h → leads arch h k ≡ true → IsShort arch n k
shorter arch n h k short link = λ ks along. let long = short (k ∷ ks) (link, along) in omega (arith, long)

record From (arch : Arch) (hs : List ℕ) : Type 0 where
  walk : List ℕ
  is : IsWalk arch walk
  long : length hs ≤ length walk

-- a walk from a handler that a source reaches is the end of one from the source
from_source : (arch : Arch) (s h : ℕ) (hs : List ℕ) → s < length arch.sources → Reaches arch s h → LeadsAlong arch h hs → From arch (h ∷ hs)
from_source arch s h hs exists (begins k c) along = record { walk = h ∷ hs; is = (record { source = s; exists = exists; on = c }, along); long = omega arith }
from_source arch s h hs exists (goes g k before link) along =
    let r = from_source arch s g (h ∷ hs) exists before (link, along) in
    record { walk = r.walk; is = r.is; long = let l = r.long in omega (arith, l) }

record Short (arch : Arch) (h : ℕ) : Type 0 where
  most : ℕ
  is : IsShort arch most h
  few : most < length arch.handlers

reached_short : (arch : Arch) (s h : ℕ) → AreListeners arch → IsAcyclic arch → s < length arch.sources → Reaches arch s h → Short arch h
reached_short arch s h listed acyclic exists reach = record {
  most = length arch.handlers - 1;
  is = λ hs along.
      let r = from_source arch s h hs exists reach along in
      let few = walk_is_short arch r.walk listed acyclic r.is in
      let long = r.long in
      omega (arith, few, long);
  few =
      let r = from_source arch s h [] exists reach tt in
      let few = walk_is_short arch r.walk listed acyclic r.is in
      let long = r.long in
      omega (arith, few, long);
}

-- ---- more rounds change nothing

pub round_more : (arch : Arch) (n m h : ℕ) → IsShort arch n h → n < m → deliver_within (suc m) arch h ≡ deliver_within m arch h
round_more arch n zero h short enough = absurd (omega arith)
round_more arch zero (suc m) h short enough =
    further_agrees arch (deliver_within (suc m) arch) (deliver_within m arch) h (λ k link. absurd (none_further arch h k short link))
round_more arch (suc n) (suc m) h short enough =
    further_agrees arch (deliver_within (suc m) arch) (deliver_within m arch) h (λ k link. round_more arch n m k (shorter arch n h k short link) (omega arith))

pub deliver_recurs : DeliverRecurs
deliver_recurs arch s listed acyclic exists h reach =
    let r = reached_short arch s h listed acyclic exists reach in
    sym (round_more arch r.most (length arch.handlers) h r.is r.few)

-- ---- what recurs is what the rounds give

round_only : (arch : Arch) (s : ℕ) (of_handler : ℕ → ℕ) → IsDelivery arch s of_handler → (n m h : ℕ) → IsShort arch n h → n < m → Reaches arch s h → of_handler h ≡ deliver_within m arch h
round_only arch s of_handler delivers n zero h short enough reach = absurd (omega arith)
round_only arch s of_handler delivers zero (suc m) h short enough reach =
    delivers h reach ∙ further_agrees arch of_handler (deliver_within m arch) h (λ k link. absurd (none_further arch h k short link))
round_only arch s of_handler delivers (suc n) (suc m) h short enough reach =
    delivers h reach ∙ further_agrees arch of_handler (deliver_within m arch) h (λ k link. round_only arch s of_handler delivers n m k (shorter arch n h k short link) (omega arith) (goes h k reach link))

pub deliver_is_only : DeliverIsOnly
deliver_is_only arch s of_handler listed acyclic exists delivers h reach =
    let r = reached_short arch s h listed acyclic exists reach in
    round_only arch s of_handler delivers r.most (length arch.handlers) h r.is r.few reach

pub cost_follows : CostFollows
cost_follows arch s of_handler listed acyclic exists delivers =
    let on_it = subs arch (on.Source s) in
    ap (λ n. 64 + n) (subscribers_agree (deliver arch) of_handler (message_words arch (on.Source s)) on_it (λ k m.
    sym (deliver_is_only arch s of_handler listed acyclic exists delivers k (begins k (contains_from_In on_it (to.Handler k) m)))))
