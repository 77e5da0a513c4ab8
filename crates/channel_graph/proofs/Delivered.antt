-- Deliveries to one subscriber more.
use Rattle.std.proofs.Common.{◌≡◌, ℕ, ◌+◌, ◌-◌, ◌^◌, ◌<◌, List, [], ◌∷◌, ◌++◌, length, get_or, set, take, filter, cond, min, true, false, inl, inr, arith, refl, sym, ◌∙◌, ap, subst, get_or-set_same, get_or-set_other, append-nil}
use Rattle.std.proofs.lemmas.Bool.{cases_eq, eq-eqb, ne_eqb}
use Rattle.std.proofs.lemmas.List.{length-set, take_more}
use Rattle.std.proofs.Math.Seq.{take-length}
use Rattle.std.proofs.lemmas.List.Elements.{filter-append}
use Rattle.tower_types.specs.Records.{saturated}
use Rattle.tower_syntax.specs.declared.arch.On.{On}
use Rattle.tower_syntax.specs.declared.arch.On.TheVariants as on
use Rattle.tower_syntax.specs.declared.arch.Listener.{Listener}
use Rattle.tower_syntax.specs.declared.arch.Listener.TheVariants as to
use Rattle.tower_syntax.specs.Arch.{Arch}
use Rattle.tower_syntax.specs.Graph.{hears, same_on, no_handler, no_output}
use Rattle.tower_syntax.specs.Weights.{move, message_words, subscribers_weight}
use Rattle.tower_syntax.specs.WellNumbered.{IsWellNumbered, AreListeners, IsNumberedOn}
use Rattle.channel_graph.specs.Listening.{attached, Exists}
use Rattle.channel_graph.specs.Table.{IsTable, channel_move, weight_among}
use Rattle.channel_graph.specs.Costed.{IsListed, costs_in, Joins}
use Rattle.channel_graph.proofs.Listed.{hears-attached, listener_exists}

-- what a subscriber costs, where a handler costs as said
abbrev pub costs_by : (ℕ → ℕ) → Listener → ℕ
costs_by f (to.Handler h) = f h
costs_by f (to.Output o) = 0

pub costs_read : (arch : Arch) (f : ℕ → ℕ) (costs : List ℕ) (l : Listener) → IsTable (length arch.handlers) f costs → Exists arch l → costs_in costs l ≡ saturated (costs_by f l)
costs_read arch f costs (to.Handler h) table exists = table.has h exists
costs_read arch f costs (to.Output o) table exists = refl

weight-push : (f : ℕ → ℕ) (w : ℕ) (ls : List Listener) (l : Listener) → subscribers_weight f w (ls ++ l ∷ []) ≡ subscribers_weight f w ls + (move w + costs_by f l)
weight-push f w [] (to.Handler h) = omega arith
weight-push f w [] (to.Output o) = omega arith
weight-push f w (to.Handler h ∷ ls) l = omega (arith, weight-push f w ls l)
weight-push f w (to.Output o ∷ ls) l = omega (arith, weight-push f w ls l)

-- a subscriber of this source or channel
pub among_yes : (arch : Arch) (f : ℕ → ℕ) (ls : List Listener) (l : Listener) (o : On) → same_on (attached arch l) o ≡ true → weight_among arch f (ls ++ l ∷ []) o ≡ weight_among arch f ls o + (move (message_words arch o) + costs_by f l)
among_yes arch f ls l o here =
    let w = message_words arch o in
    ap (subscribers_weight f w) (filter-append (hears arch o) ls (l ∷ []) ∙ ap (λ b. filter (hears arch o) ls ++ cond b (l ∷ []) []) (hears-attached arch o l ∙ here)) ∙ weight-push f w (filter (hears arch o) ls) l

-- a subscriber of another
pub among_no : (arch : Arch) (f : ℕ → ℕ) (ls : List Listener) (l : Listener) (o : On) → same_on (attached arch l) o ≡ false → weight_among arch f (ls ++ l ∷ []) o ≡ weight_among arch f ls o
among_no arch f ls l o here =
    ap (subscribers_weight f (message_words arch o)) (filter-append (hears arch o) ls (l ∷ []) ∙ ap (λ b. filter (hears arch o) ls ++ cond b (l ∷ []) []) (hears-attached arch o l ∙ here) ∙ append-nil (filter (hears arch o) ls))

-- one more summand, each side cut, as the code adds them
pub sum_more : (before here moved cost more out : ℕ) (b m c : ℕ) → b ≡ saturated before → m ≡ saturated moved → c ≡ saturated cost → more ≡ min (m + c) (2 ^ 64 - 1) → out ≡ min (b + more) (2 ^ 64 - 1) → here ≡ before + (moved + cost) → out ≡ saturated here
sum_more before here moved cost more out b m c x y z p q e = omega arith

pub joins_channel : (arch : Arch) (costs moves old new : List ℕ) (l : Listener) (c more total : ℕ) → IsTable (length arch.channels) (channel_move arch) moves → Exists arch l → c < length arch.channels → on.Channel c ≡ attached arch l → more ≡ min (get_or moves c 0 + costs_in costs l) (2 ^ 64 - 1) → total ≡ min (get_or old c 0 + more) (2 ^ 64 - 1) → new ≡ set old c total → Joins arch costs l old new
joins_channel arch costs moves old new l c more total moved exists below at m t written f ls table before = record {
  each = ap length written ∙ length-set old c total ∙ before.each;
  has = λ d inside. elim (cases_eq d c) [
    | inl same ↦
        let within : c < length old = omega (arith, before.each) in
        let here : same_on (attached arch l) (on.Channel c) ≡ true = subst (λ o. same_on o (on.Channel c) ≡ true) at (eq-eqb c c refl) in
        let sum = sum_more (weight_among arch f ls (on.Channel c)) (weight_among arch f (ls ++ l ∷ []) (on.Channel c)) (channel_move arch c) (costs_by f l) more total (get_or old c 0) (get_or moves c 0) (costs_in costs l) (before.has c below) (moved.has c below) (costs_read arch f costs l table exists) m t (among_yes arch f ls l (on.Channel c) here) in
        let read : get_or new c 0 ≡ total = ap (λ xs. get_or xs c 0) written ∙ get_or-set_same old c total 0 within in
        subst (λ x. get_or new x 0 ≡ saturated (weight_among arch f (ls ++ l ∷ []) (on.Channel x))) (sym same) (read ∙ sum)
    | inr other ↦
        let elsewhere : same_on (attached arch l) (on.Channel d) ≡ false = subst (λ o. same_on o (on.Channel d) ≡ false) at (ne_eqb c d (λ e. other (sym e))) in
        ap (λ xs. get_or xs d 0) written ∙ get_or-set_other old c d total 0 other ∙ before.has d inside ∙ ap saturated (sym (among_no arch f ls l (on.Channel d) elsewhere))
  ];
}

pub joins_source : (arch : Arch) (costs old new : List ℕ) (l : Listener) (s : ℕ) → on.Source s ≡ attached arch l → new ≡ old → Joins arch costs l old new
joins_source arch costs old new l s at same f ls table before =
    subst (λ xs. IsTable (length arch.channels) (λ c. weight_among arch f (ls ++ l ∷ []) (on.Channel c)) xs) (sym same) (record {
      each = before.each;
      has = λ d inside.
          let elsewhere : same_on (attached arch l) (on.Channel d) ≡ false = subst (λ o. same_on o (on.Channel d) ≡ false) at refl in
          before.has d inside ∙ ap saturated (sym (among_no arch f ls l (on.Channel d) elsewhere));
    })

-- what a listener that exists is attached to exists
pub attached_numbered : (arch : Arch) (l : Listener) → IsWellNumbered arch → Exists arch l → IsNumberedOn arch (attached arch l)
attached_numbered arch (to.Handler h) w e = (w.handlers h no_handler e).on
attached_numbered arch (to.Output o) w e = w.outputs o no_output e

-- the listeners of a system that are read
pub listener_read : (arch : Arch) (items : List Listener) (i : ℕ) (d : Listener) → AreListeners arch → items ≡ arch.listeners → i < length items → Exists arch (get_or items i d)
listener_read arch items i d listed same within =
    subst (λ ls. Exists arch (get_or ls i d)) (sym same) (listener_exists arch listed i d (subst (λ ls. i < length ls) same within))

pub listed_when_there : (arch : Arch) (n : ℕ) (l : Listener) → n ≡ length arch.handlers → Exists arch l → IsListed n l
listed_when_there arch n (to.Handler h) same exists = omega arith
listed_when_there arch n (to.Output o) same exists = tt

-- one listener more of a source or channel, and one of another
pub joined : (arch : Arch) (f : ℕ → ℕ) (costs : List ℕ) (items : List Listener) (i : ℕ) (d : Listener) (o : On) (total moved more out : ℕ) → IsTable (length arch.handlers) f costs → Exists arch (get_or items i d) → i < length items → total ≡ saturated (weight_among arch f (take i items) o) → moved ≡ saturated (move (message_words arch o)) → more ≡ min (moved + costs_in costs (get_or items i d)) (2 ^ 64 - 1) → out ≡ min (total + more) (2 ^ 64 - 1) → same_on (attached arch (get_or items i d)) o ≡ true → out ≡ saturated (weight_among arch f (take (i + 1) items) o)
joined arch f costs items i d o total moved more out table exists within t m r e here =
    let l = get_or items i d in
    sum_more (weight_among arch f (take i items) o) (weight_among arch f (take (i + 1) items) o) (move (message_words arch o)) (costs_by f l) more out total moved (costs_in costs l) t m (costs_read arch f costs l table exists) r e
    (ap (λ ls. weight_among arch f ls o) (take_more items i d within) ∙ among_yes arch f (take i items) l o here)

pub not_joined : (arch : Arch) (f : ℕ → ℕ) (items : List Listener) (i : ℕ) (d : Listener) (o : On) (total : ℕ) → i < length items → total ≡ saturated (weight_among arch f (take i items) o) → same_on (attached arch (get_or items i d)) o ≡ false → total ≡ saturated (weight_among arch f (take (i + 1) items) o)
not_joined arch f items i d o total within t here =
    t ∙ ap saturated (sym (ap (λ ls. weight_among arch f ls o) (take_more items i d within) ∙ among_no arch f (take i items) (get_or items i d) o here))

-- all listeners
pub all_joined : (arch : Arch) (f : ℕ → ℕ) (items : List Listener) (i : ℕ) (o : On) (total : ℕ) → items ≡ arch.listeners → i ≡ length items → total ≡ saturated (weight_among arch f (take i items) o) → total ≡ saturated (weight_among arch f arch.listeners o)
all_joined arch f items i o total same end t =
    t ∙ ap (λ ls. saturated (weight_among arch f ls o)) (ap (λ j. take j items) end ∙ take-length items ∙ same)
