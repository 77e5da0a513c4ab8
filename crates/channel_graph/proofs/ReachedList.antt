-- The list of marked handlers is the weights' list of what a source reaches.
use Rattle.std.proofs.Common.{◌≡◌, ℕ, ◌↔◌, List, [], length, get_or, filter, Bool, true, false, Contains, sym, ◌∙◌, ap, subst}
use Rattle.tower_syntax.specs.declared.arch.On.TheVariants as on
use Rattle.tower_syntax.specs.declared.arch.Listener.TheVariants as to
use Rattle.tower_syntax.specs.Arch.{Arch}
use Rattle.tower_syntax.specs.Graph.{numbers_before, handler_numbers, hears, subs, reached_by, Reaches}
use Rattle.tower_syntax.specs.Graph as graph
use Rattle.tower_syntax.specs.WellNumbered.{AreListeners}
use Rattle.channel_graph.specs.declared.reach.Start.TheVariants as start
use Rattle.channel_graph.specs.Reaching.{Follows, begins, goes, AreReached}
use Rattle.channel_graph.proofs.Members.{In, filter_has, has_filter, In-from_contains, contains_from_In, filter-agree}
use Rattle.channel_graph.proofs.Linked.{listed_below, below_listed}
use Rattle.channel_graph.proofs.Closed.{reached_closed, listed_is_reached, reached_is_listed}

pub reaches_follows : (arch : Arch) (s : ℕ) → AreListeners arch → (k : ℕ) → Reaches arch s k → Follows arch (start.Source s) k
reaches_follows arch s listed k (graph.begins h c) =
    let m = filter_has (hears arch (on.Source s)) arch.listeners (to.Handler h) (In-from_contains (subs arch (on.Source s)) (to.Handler h) c) in
    begins h (listed_below arch h listed m.0, m.1)
reaches_follows arch s listed k (graph.goes h j before link) = goes h j (reaches_follows arch s listed h before) link

pub follows_reaches : (arch : Arch) (s : ℕ) → AreListeners arch → (k : ℕ) → Follows arch (start.Source s) k → Reaches arch s k
follows_reaches arch s listed k (begins h b) =
    graph.begins h (contains_from_In (subs arch (on.Source s)) (to.Handler h) (has_filter (hears arch (on.Source s)) arch.listeners (to.Handler h) (below_listed arch h listed b.0) b.1))
follows_reaches arch s listed k (goes h j before link) = graph.goes h j (follows_reaches arch s listed h before) link

pub marks_are : (arch : Arch) (s : ℕ) (marks : List Bool) → AreListeners arch → AreReached arch (start.Source s) marks → filter (λ k. get_or marks k false) (handler_numbers arch) ≡ reached_by arch s
marks_are arch s marks listed reached =
    let r = reached_closed arch s listed in
    let wider : (k : ℕ) → In k (handler_numbers arch) → r.test k ≡ true → get_or marks k false ≡ true = λ k h t.
    reached.follows k (reaches_follows arch s listed k (listed_is_reached arch s k listed (subst (In k) (sym r.is) (has_filter r.test (handler_numbers arch) k h t)))) in
    let narrower : (k : ℕ) → In k (handler_numbers arch) → get_or marks k false ≡ true → r.test k ≡ true = λ k h t.
    (filter_has r.test (handler_numbers arch) k (subst (In k) r.is (reached_is_listed arch s k listed (follows_reaches arch s listed k (reached.marked k t))))).1 in
    filter-agree r.test (λ k. get_or marks k false) (handler_numbers arch) wider narrower ∙ sym r.is

pub found_is : (arch : Arch) (s : ℕ) (marks slice : List Bool) (found : List ℕ) → AreListeners arch → AreReached arch (start.Source s) marks → slice ≡ marks → found ≡ filter (λ k. get_or slice k false) (numbers_before (length slice) []) → found ≡ reached_by arch s
found_is arch s marks slice found listed reached same e =
    let each : length slice ≡ length arch.handlers = ap length same ∙ reached.each in
    e ∙ ap (λ n. filter (λ k. get_or slice k false) (numbers_before n [])) each ∙ ap (λ ms. filter (λ k. get_or ms k false) (handler_numbers arch)) same ∙ marks_are arch s marks listed reached

pub found_reaches : (arch : Arch) (s : ℕ) (found : List ℕ) → AreListeners arch → found ≡ reached_by arch s → (k : ℕ) → Contains found k ↔ Reaches arch s k
found_reaches arch s found listed e k = (
  (λ h. listed_is_reached arch s k listed (In-from_contains (reached_by arch s) k (subst (λ ks. Contains ks k) e h))),
  (λ r. subst (λ ks. Contains ks k) (sym e) (contains_from_In (reached_by arch s) k (reached_is_listed arch s k listed r))),
)
