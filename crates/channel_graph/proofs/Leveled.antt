-- Where no link leads to a lower level, a handler below all that it leads to never leads back.
use Rattle.std.proofs.Common.{◌≡◌, not, refl, ℕ, None, ◌+◌, ◌<◌, ◌≤◌, List, [], ◌∷◌, ◌++◌, length, get_or, take, map, Bool, true, false, inl, inr, arith, sym, ◌∙◌, ap, subst}
use Rattle.std.proofs.lemmas.Bool.{false≢true, eqb-true}
use Rattle.std.proofs.lemmas.List.{take_more}
use Rattle.std.proofs.Math.Seq.{take-length}
use Rattle.tower_syntax.specs.declared.arch.On.{On}
use Rattle.tower_syntax.specs.declared.arch.On.TheVariants as on
use Rattle.tower_syntax.specs.declared.arch.Emitter.{Emitter as EmitterValue}
use Rattle.tower_syntax.specs.Arch.{Arch, Emitter}
use Rattle.tower_syntax.specs.View.{emitter_of}
use Rattle.tower_syntax.specs.Graph.{handler, leads, same_on}
use Rattle.tower_syntax.specs.WellNumbered.{AreListeners}
use Rattle.channel_graph.specs.declared.reach.Start.TheVariants as start
use Rattle.channel_graph.specs.Reaching.{Follows, begins, goes}
use Rattle.channel_graph.specs.Circuit.{walk_round}
use Rattle.channel_graph.specs.Ranked.{rank}
use Rattle.channel_graph.specs.Levels.{channel_level, AreFrom, IsFromOn, Ascends}
use Rattle.channel_graph.proofs.Members.{In}
use Rattle.channel_graph.proofs.Linked.{link_of}
use Rattle.channel_graph.proofs.Shortest.{no_walk}
use Rattle.channel_graph.proofs.Acyclic.{follows_below}

from_push : (arch : Arch) (levels : List ℕ) (n : ℕ) (es : List EmitterValue) (e : EmitterValue) → AreFrom arch levels n (map emitter_of es) → n ≤ channel_level arch levels e.channel → AreFrom arch levels n (map emitter_of (es ++ e ∷ []))
from_push arch levels n [] e h m = (m, tt)
from_push arch levels n (x ∷ xs) e h m = (h.0, from_push arch levels n xs e h.1 m)

pub from_more : (arch : Arch) (levels : List ℕ) (n : ℕ) (es : List EmitterValue) (i : ℕ) (d : EmitterValue) → i < length es → AreFrom arch levels n (map emitter_of (take i es)) → n ≤ channel_level arch levels (get_or es i d).channel → AreFrom arch levels n (map emitter_of (take (i + 1) es))
from_more arch levels n es i d h before here = subst (λ xs. AreFrom arch levels n (map emitter_of xs)) (sym (take_more es i d h)) (from_push arch levels n (take i es) (get_or es i d) before here)

-- the emitters of a handler that is read
pub all_from : (arch : Arch) (levels : List ℕ) (n k : ℕ) (items : List EmitterValue) (i : ℕ) → map emitter_of items ≡ (handler arch k).emitters → i ≡ length items → AreFrom arch levels n (map emitter_of (take i items)) → AreFrom arch levels n (handler arch k).emitters
all_from arch levels n k items i all end each =
    let whole : take i items ≡ items = ap (λ m. take m items) end ∙ take-length items in
    subst (AreFrom arch levels n) (ap (map emitter_of) whole ∙ all) each

from_has : (arch : Arch) (levels : List ℕ) (n : ℕ) (es : List Emitter) (e : Emitter) → AreFrom arch levels n es → In e es → n ≤ channel_level arch levels e.channel
from_has arch levels n [] e h m = absurd m
from_has arch levels n (x ∷ xs) e h m = elim m [
  | inl same ↦ subst (λ (y : Emitter). n ≤ channel_level arch levels y.channel) (sym same) h.0
  | inr later ↦ from_has arch levels n xs e h.1 later
]

from_on : (arch : Arch) (levels : List ℕ) (n c : ℕ) (o : On) → same_on o (on.Channel c) ≡ true → IsFromOn arch levels n o → channel_level arch levels c ≤ n
from_on arch levels n c (on.Source s) e h = absurd (false≢true e)
from_on arch levels n c (on.Channel a) e h = subst (λ x. channel_level arch levels x ≤ n) (eqb-true a c e) h

-- a link leads to at least the level of the channels
link_level : (arch : Arch) (levels : List ℕ) (n k j : ℕ) → AreListeners arch → Ascends arch levels (length arch.handlers) → AreFrom arch levels n (handler arch k).emitters → leads arch k j ≡ true → n ≤ rank levels j
link_level arch levels n k j listed up from link =
    let l = link_of arch k j listed link in
    omega (arith, from_has arch levels n (handler arch k).emitters l.emitter from l.has, from_on arch levels (rank levels j) l.emitter.channel (handler arch j).on l.on (up.on j l.below))

-- what follows is higher
higher : (arch : Arch) (levels : List ℕ) (k : ℕ) → AreListeners arch → Ascends arch levels (length arch.handlers) → AreFrom arch levels (rank levels k + 1) (handler arch k).emitters → (j : ℕ) → Follows arch (start.Handler k) j → rank levels k < rank levels j
higher arch levels k listed up from j (begins i link) = omega (arith, link_level arch levels (rank levels k + 1) k i listed up from link)
higher arch levels k listed up from j (goes h i f link) =
    omega (arith, higher arch levels k listed up from h f, link_level arch levels (rank levels h) h i listed up (up.emitters h (follows_below arch k h listed f)) link)

pub below_none : (arch : Arch) (levels : List ℕ) (k : ℕ) → AreListeners arch → Ascends arch levels (length arch.handlers) → AreFrom arch levels (rank levels k + 1) (handler arch k).emitters → walk_round arch k ≡ None
below_none arch levels k listed up from = no_walk arch k (λ back. let wrong = higher arch levels k listed up from k back in omega (arith, wrong))

pub not_false : (b : Bool) → not b ≡ false → b ≡ true
not_false true e = refl
not_false false e = absurd (false≢true (sym e))
