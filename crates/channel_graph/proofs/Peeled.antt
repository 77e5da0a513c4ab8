-- What leads to settled handlers only is settled.
use Rattle.std.proofs.Common.{◌≡◌, ℕ, None, Contains, ◌+◌, ◌<◌, List, length, get_or, set, Bool, true, false, replicate, inl, inr, sym, ◌∙◌, ap, subst, get_or-set_same, get_or-set_other, arith, refl}
use Rattle.std.proofs.lemmas.Bool.{false≢true, eqb-true, eq-eqb, cases_eq, cases_lt}
use Rattle.std.proofs.lemmas.List.{length-set, length-replicate}
use Rattle.tower_syntax.specs.declared.arch.On.{On}
use Rattle.tower_syntax.specs.declared.arch.On.TheVariants as on
use Rattle.tower_syntax.specs.declared.arch.Listener.TheVariants as to
use Rattle.std.specs.List.{list_any}
use Rattle.tower_syntax.specs.Arch.{Arch}
use Rattle.tower_syntax.specs.Graph.{handler, leads, same_on, subs, is_handler, Reaches, begins, goes, reached_by}
use Rattle.tower_syntax.specs.WellNumbered.{AreListeners, IsNumberedOn}
use Rattle.channel_graph.specs.declared.reach.Start.TheVariants as start
use Rattle.channel_graph.specs.declared.settled.Quiet.{Quiet}
use Rattle.channel_graph.specs.Reaching.{is_on, IsMarked, AreOpen}
use Rattle.channel_graph.specs.Reaching.{Follows, begins as first, goes as further}
use Rattle.channel_graph.specs.Circuit.{walk_round, found_at, shown_at}
use Rattle.channel_graph.specs.Settled.{IsSettled, IsQuiet, IsSourceWithin, Blots, AreSpared, AreClear}
use Rattle.channel_graph.proofs.Members.{In-from_contains, has_any}
use Rattle.channel_graph.proofs.Linked.{link_of, sub_is_on}
use Rattle.channel_graph.proofs.Searched.{marked_set, set_marked, none_marked, open_has}
use Rattle.channel_graph.proofs.Closed.{listed_is_reached}
use Rattle.channel_graph.proofs.Shortest.{no_walk}
use Rattle.channel_graph.proofs.Acyclic.{each_first}

-- what follows from settled handlers is settled
within : (arch : Arch) (done : List Bool) (k : ℕ) → IsSettled arch done → ((j : ℕ) → leads arch k j ≡ true → IsMarked done j) → (j : ℕ) → Follows arch (start.Handler k) j → IsMarked done j
within arch done k s each j (first i b) = each i b
within arch done k s each j (further h i f link) = s.closed h i (within arch done k s each h f) link

settle_more : (arch : Arch) (done : List Bool) (k : ℕ) → k < length done → IsSettled arch done → get_or done k false ≡ false → ((j : ℕ) → leads arch k j ≡ true → IsMarked done j) → IsSettled arch (set done k true)
settle_more arch done k below s none each = record {
  each = length-set done k true ∙ s.each;
  closed = λ h j m link. elim (marked_set done k h below m) [
    | inl same ↦ set_marked done k j below (each j (subst (λ x. leads arch x j ≡ true) same link))
    | inr was ↦ set_marked done k j below (s.closed h j was link)
  ];
  clean = λ h m back. elim (marked_set done k h below m) [
    | inl same ↦ false≢true (sym none ∙ within arch done k s each k (subst (λ x. Follows arch (start.Handler x) x) same back))
    | inr was ↦ s.clean h was back
  ];
}

-- a handler whose emitters are on marked channels
pub quiet_handler : (arch : Arch) (q : Quiet) (k : ℕ) → AreListeners arch → IsQuiet arch q → k < length arch.handlers → get_or q.handlers k false ≡ false → AreOpen q.channels (handler arch k).emitters → IsQuiet arch (record q { handlers = set q.handlers k true })
quiet_handler arch q k listed h inside none opened =
    let below : k < length q.handlers = omega (arith, h.settled.each) in
    record {
      settled = settle_more arch q.handlers k below h.settled none (λ j link.
          let l = link_of arch k j listed link in
          h.heard l.emitter.channel j (open_has q.channels (handler arch k).emitters l.emitter opened l.has) l.below l.on);
      channels = h.channels;
      heard = λ c j m b o. set_marked q.handlers k j below (h.heard c j m b o);
    }

-- a channel whose handlers are marked
pub quiet_channel : (arch : Arch) (q : Quiet) (c : ℕ) → IsQuiet arch q → c < length arch.channels → ((k : ℕ) → k < length arch.handlers → is_on arch (on.Channel c) k ≡ true → IsMarked q.handlers k) → IsQuiet arch (record q { channels = set q.channels c true })
quiet_channel arch q c h inside all =
    let below : c < length q.channels = omega (arith, h.channels) in
    record {
      settled = h.settled;
      channels = length-set q.channels c true ∙ h.channels;
      heard = λ d k m b o. elim (marked_set q.channels c d below m) [
        | inl same ↦ all k b (subst (λ x. is_on arch (on.Channel x) k ≡ true) same o)
        | inr was ↦ h.heard d k was b o
      ];
    }

pub nothing_quiet : (arch : Arch) (q : Quiet) → q.handlers ≡ replicate (length arch.handlers) false → q.channels ≡ replicate (length arch.channels) false → IsQuiet arch q
nothing_quiet arch q hs cs = record {
  settled = record {
    each = ap length hs ∙ length-replicate (length arch.handlers) false;
    closed = λ k j m link. absurd (none_marked (length arch.handlers) k (subst (λ ms. IsMarked ms k) hs m));
    clean = λ k m back. none_marked (length arch.handlers) k (subst (λ ms. IsMarked ms k) hs m);
  };
  channels = ap length cs ∙ length-replicate (length arch.channels) false;
  heard = λ c k m b o. absurd (none_marked (length arch.channels) c (subst (λ ms. IsMarked ms c) cs m));
}

-- ---- sources

pub source_within : (arch : Arch) (n : ℕ) (o : On) → n ≡ length arch.sources → IsNumberedOn arch o → IsSourceWithin n o
source_within arch n (on.Source s) e h = omega arith
source_within arch n (on.Channel c) e h = tt

pub spared_none : (arch : Arch) (done clear : List Bool) → length clear ≡ length arch.sources → AreSpared arch done 0 clear
spared_none arch done clear e = record { each = e; settled = λ s k m b o. absurd (omega arith) }

-- one more handler, which is settled
pub spared_done : (arch : Arch) (done : List Bool) (n : ℕ) (clear : List Bool) → AreSpared arch done n clear → IsMarked done n → AreSpared arch done (n + 1) clear
spared_done arch done n clear h here = record {
  each = h.each;
  settled = λ s k m b o. elim (cases_lt k n) [
    | inl early ↦ h.settled s k m early o
    | inr late ↦ let at : n ≡ k = omega arith in subst (IsMarked done) at here
  ];
}

-- one more handler, whose source is marked no longer
pub spared_blot : (arch : Arch) (done : List Bool) (n : ℕ) (old new : List Bool) (o : On) → o ≡ (handler arch n).on → IsSourceWithin (length old) o → AreSpared arch done n old → Blots old o new → AreSpared arch done (n + 1) new
spared_blot arch done n old new (on.Source a) e within h b =
    subst (AreSpared arch done (n + 1)) (sym b) (record {
      each = length-set old a false ∙ h.each;
      settled = λ s k m below o. elim (cases_eq s a) [
        | inl same ↦ absurd (false≢true (sym (get_or-set_same old a false false within) ∙ subst (IsMarked (set old a false)) same m))
        | inr ne ↦
            let was : IsMarked old s = sym (get_or-set_other old a s false false ne) ∙ m in
            elim (cases_lt k n) [
              | inl early ↦ h.settled s k was early o
              | inr late ↦
                  let at : k ≡ n = omega arith in
                  let here : same_on (on.Source a) (on.Source s) ≡ true = subst (λ x. same_on x (on.Source s) ≡ true) (sym e) (subst (λ x. is_on arch (on.Source s) x ≡ true) at o) in
                  absurd (ne (sym (eqb-true a s here)))
            ]
      ];
    })
spared_blot arch done n old new (on.Channel c) e within h b =
    subst (AreSpared arch done (n + 1)) (sym b) (record {
      each = h.each;
      settled = λ s k m below o. elim (cases_lt k n) [
        | inl early ↦ h.settled s k m early o
        | inr late ↦
            let at : k ≡ n = omega arith in
            let here : same_on (on.Channel c) (on.Source s) ≡ true = subst (λ x. same_on x (on.Source s) ≡ true) (sym e) (subst (λ x. is_on arch (on.Source s) x ≡ true) at o) in
            absurd (false≢true here)
      ];
    })

-- a handler among the subscribers of a source
has_sub : (arch : Arch) (s k : ℕ) → Contains (subs arch (on.Source s)) (to.Handler k) → list_any (is_handler k) (subs arch (on.Source s)) ≡ true
has_sub arch s k c = has_any (is_handler k) (subs arch (on.Source s)) (to.Handler k) (In-from_contains (subs arch (on.Source s)) (to.Handler k) c) (eq-eqb k k refl)

-- what a source reaches is settled, where the handlers on it are
reaches_settled : (arch : Arch) (done : List Bool) (s : ℕ) → AreListeners arch → IsSettled arch done → ((k : ℕ) → k < length arch.handlers → is_on arch (on.Source s) k ≡ true → IsMarked done k) → (h : ℕ) → Reaches arch s h → IsMarked done h
reaches_settled arch done s listed settled each h (begins k c) =
    let on_it = sub_is_on arch (on.Source s) k listed (has_sub arch s k c) in
    each k on_it.0 on_it.1
reaches_settled arch done s listed settled each h (goes j k r link) = settled.closed j k (reaches_settled arch done s listed settled each j r) link

pub clear_of : (arch : Arch) (done clear : List Bool) (n : ℕ) → AreListeners arch → n ≡ length arch.handlers → IsSettled arch done → AreSpared arch done n clear → AreClear arch clear
clear_of arch done clear n listed end settled spared = record {
  each = spared.each;
  free = λ s h m r back. settled.clean h (reaches_settled arch done s listed settled (λ k below o. let early : k < n = omega arith in spared.settled s k m early o) h r) back;
}

-- the cycle that is shown of a clear source
pub clear_none : (arch : Arch) (clear : List Bool) (s : ℕ) → AreListeners arch → AreClear arch clear → IsMarked clear s → None ≡ shown_at arch s
clear_none arch clear s listed h m =
    sym (ap (found_at s) (each_first (walk_round arch) (reached_by arch s) (λ k i. no_walk arch k (λ back. h.free s k m (listed_is_reached arch s k listed i) back))))
