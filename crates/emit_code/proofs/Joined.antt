-- Listeners that join those of their channel.
use Rattle.std.proofs.Common.{◌≡◌, ◌∙◌, ℕ, ◌+◌, ◌<◌, ◌≤◌, inl, inr, List, [], ◌∷◌, ◌++◌, length, take, filter, cond, set, get_or, Bool, true, false, sym, ap, subst, arith, append-nil, get_or-set_same, get_or-set_other, length-set}
use Rattle.std.proofs.lemmas.Bool.{cases_eq, eq-eqb, ne_eqb}
use Rattle.std.proofs.lemmas.List.{take_more, take_all}
use Rattle.std.proofs.lemmas.List.Elements.{filter-append}
use Rattle.tower_syntax.specs.declared.arch.On.{On}
use Rattle.tower_syntax.specs.declared.arch.On.TheVariants as on
use Rattle.tower_syntax.specs.declared.arch.Listener.{Listener}
use Rattle.tower_syntax.specs.Arch.{Arch}
use Rattle.tower_syntax.specs.Graph.{hears, same_on}
use Rattle.tower_syntax.specs.WellNumbered.{IsNumberedOn}
use Rattle.channel_graph.specs.Listening.{attached}
use Rattle.channel_graph.proofs.Listed.{hears-attached}
use Rattle.emit_code.specs.Heard.{AreHeardAmong, IsWithin, HearsMore}

pub within_on : (arch : Arch) (n : ℕ) (o : On) → n ≡ length arch.channels → IsNumberedOn arch o → IsWithin n o
within_on arch n (on.Source s) e h = tt
within_on arch n (on.Channel c) e h = omega (arith, e, h)

passes : (p : Listener → Bool) (ls : List Listener) (l : Listener) → p l ≡ true → filter p (ls ++ l ∷ []) ≡ filter p ls ++ l ∷ []
passes p ls l e = filter-append p ls (l ∷ []) ∙ ap (λ b. filter p ls ++ cond b (l ∷ []) []) e

fails : (p : Listener → Bool) (ls : List Listener) (l : Listener) → p l ≡ false → filter p (ls ++ l ∷ []) ≡ filter p ls
fails p ls l e = filter-append p ls (l ∷ []) ∙ ap (λ b. filter p ls ++ cond b (l ∷ []) []) e ∙ append-nil (filter p ls)

heard_at : (arch : Arch) (ls : List Listener) (l : Listener) (o : On) (old new : List (List Listener)) → AreHeardAmong arch ls old → ((c : On) → hears arch c l ≡ same_on o c) → HearsMore old o l new → AreHeardAmong arch (ls ++ l ∷ []) new
heard_at arch ls l (on.Source s) old new kept hears_is same = record {
  each = ap length same ∙ kept.each;
  has = λ c below. ap (λ hs. get_or hs c []) same ∙ kept.has c below ∙ sym (fails (hears arch (on.Channel c)) ls l (hears_is (on.Channel c)));
}
heard_at arch ls l (on.Channel a) old new kept hears_is grown = record {
  each = ap length grown ∙ length-set old a (get_or old a [] ++ l ∷ []) ∙ kept.each;
  has = λ c below.
      ap (λ hs. get_or hs c []) grown ∙ elim (cases_eq a c) [
        | inl same ↦
            let inside : a < length old = omega (arith, kept.each, below, same) in
            ap (λ d. get_or (set old a (get_or old a [] ++ l ∷ [])) d []) (sym same)
            ∙ get_or-set_same old a (get_or old a [] ++ l ∷ []) [] inside
            ∙ ap (λ d. get_or old d [] ++ l ∷ []) same
            ∙ ap (λ xs. xs ++ l ∷ []) (kept.has c below)
            ∙ sym (passes (hears arch (on.Channel c)) ls l (hears_is (on.Channel c) ∙ eq-eqb a c same))
        | inr differ ↦
            get_or-set_other old a c (get_or old a [] ++ l ∷ []) [] (λ q. differ (sym q))
            ∙ kept.has c below
            ∙ sym (fails (hears arch (on.Channel c)) ls l (hears_is (on.Channel c) ∙ ne_eqb a c differ))
      ];
}

-- one listener more
pub heard_more : (arch : Arch) (ls : List Listener) (l : Listener) (o : On) (old new : List (List Listener)) → AreHeardAmong arch ls old → o ≡ attached arch l → HearsMore old o l new → AreHeardAmong arch (ls ++ l ∷ []) new
heard_more arch ls l o old new kept at grown = heard_at arch ls l o old new kept (λ c. hears-attached arch c l ∙ ap (λ q. same_on q c) (sym at)) grown

pub heard_next : (arch : Arch) (items : List Listener) (i : ℕ) (d : Listener) (o : On) (old new : List (List Listener)) → i < length items → AreHeardAmong arch (take i items) old → o ≡ attached arch (get_or items i d) → HearsMore old o (get_or items i d) new → AreHeardAmong arch (take (i + 1) items) new
heard_next arch items i d o old new within kept at grown =
    subst (λ ls. AreHeardAmong arch ls new) (sym (take_more items i d within)) (heard_more arch (take i items) (get_or items i d) o old new kept at grown)

pub all_heard : (arch : Arch) (items ls : List Listener) (i : ℕ) (heard : List (List Listener)) → length items ≤ i → items ≡ ls → AreHeardAmong arch (take i items) heard → AreHeardAmong arch ls heard
all_heard arch items ls i heard past same kept = subst (λ xs. AreHeardAmong arch xs heard) (take_all i items past ∙ same) kept
