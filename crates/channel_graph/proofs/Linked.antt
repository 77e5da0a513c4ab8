-- Which handlers a channel and a handler lead to, in a well numbered system.
use Rattle.std.proofs.Common.{◌≡◌, ℕ, ◌<◌, List, [], ◌∷◌, length, Contains, true, inl, inr, refl, sym, ap, subst}
use Rattle.std.proofs.lemmas.Bool.{false≢true, eqb-true, eq-eqb}
use Rattle.std.specs.List.{list_any}
use Rattle.tower_syntax.specs.declared.arch.On.{On}
use Rattle.tower_syntax.specs.declared.arch.On.TheVariants as on
use Rattle.tower_syntax.specs.declared.arch.Listener.{Listener}
use Rattle.tower_syntax.specs.declared.arch.Listener.TheVariants as to
use Rattle.tower_syntax.specs.Arch.{Arch, Emitter}
use Rattle.tower_syntax.specs.Graph.{handler, hears, subs, is_handler, leads}
use Rattle.tower_syntax.specs.WellNumbered.{AreListeners, handlers_among}
use Rattle.channel_graph.specs.Reaching.{is_on}
use Rattle.channel_graph.proofs.Members.{In, any_has, has_any, filter_has, has_filter, number_below, below_number, In-from_contains}

among_has : (ls : List Listener) (k : ℕ) → In (to.Handler k) ls → In k (handlers_among ls)
among_has [] k h = h
among_has (to.Output o ∷ ls) k h = elim h [ inl same ↦ absurd (cc) | inr later ↦ among_has ls k later ]
among_has (to.Handler j ∷ ls) k h = elim h [ inl same ↦ inl (cc) | inr later ↦ inr (among_has ls k later) ]

has_among : (ls : List Listener) (k : ℕ) → In k (handlers_among ls) → In (to.Handler k) ls
has_among [] k h = h
has_among (to.Output o ∷ ls) k h = inr (has_among ls k h)
has_among (to.Handler j ∷ ls) k h = elim h [ inl same ↦ inl (ap to.Handler same) | inr later ↦ inr (has_among ls k later) ]

pub listed_below : (arch : Arch) (k : ℕ) → AreListeners arch → In (to.Handler k) arch.listeners → k < length arch.handlers
listed_below arch k listed h = number_below (length arch.handlers) k (subst (In k) listed.handlers (among_has arch.listeners k h))

pub below_listed : (arch : Arch) (k : ℕ) → AreListeners arch → k < length arch.handlers → In (to.Handler k) arch.listeners
below_listed arch k listed h = has_among arch.listeners k (subst (In k) (sym listed.handlers) (below_number (length arch.handlers) k h))

pub is_handler-true : (k : ℕ) (l : Listener) → is_handler k l ≡ true → l ≡ to.Handler k
is_handler-true k (to.Handler h) e = ap to.Handler (eqb-true h k e)
is_handler-true k (to.Output o) e = absurd (false≢true e)

-- the subscribers of a source or channel that are handlers
pub sub_is_on : (arch : Arch) (c : On) (k : ℕ) → AreListeners arch → list_any (is_handler k) (subs arch c) ≡ true → (k < length arch.handlers) × (is_on arch c k ≡ true)
sub_is_on arch c k listed e =
    let r = any_has (is_handler k) (subs arch c) e in
    let same : r.element ≡ to.Handler k = is_handler-true k r.element r.passes in
    let kept : In (to.Handler k) (subs arch c) = subst (λ l. In l (subs arch c)) same r.has in
    let m = filter_has (hears arch c) arch.listeners (to.Handler k) kept in
    (listed_below arch k listed m.0, m.1)

pub on_is_sub : (arch : Arch) (c : On) (k : ℕ) → AreListeners arch → k < length arch.handlers → is_on arch c k ≡ true → list_any (is_handler k) (subs arch c) ≡ true
on_is_sub arch c k listed h e =
    has_any (is_handler k) (subs arch c) (to.Handler k) (has_filter (hears arch c) arch.listeners (to.Handler k) (below_listed arch k listed h) e) (eq-eqb k k refl)

-- a link from h to k
pub record Link (arch : Arch) (h k : ℕ) : Type 0 where
  pub emitter : Emitter
  pub has : In emitter (handler arch h).emitters
  pub below : k < length arch.handlers
  pub on : is_on arch (on.Channel emitter.channel) k ≡ true

pub link_of : (arch : Arch) (h k : ℕ) → AreListeners arch → leads arch h k ≡ true → Link arch h k
link_of arch h k listed e =
    let r = any_has (λ e. list_any (is_handler k) (subs arch (on.Channel e.channel))) (handler arch h).emitters e in
    let s = sub_is_on arch (on.Channel r.element.channel) k listed r.passes in
    record { emitter = r.element; has = r.has; below = s.0; on = s.1 }

pub of_link : (arch : Arch) (h k : ℕ) → AreListeners arch → Link arch h k → leads arch h k ≡ true
of_link arch h k listed l =
    has_any (λ e. list_any (is_handler k) (subs arch (on.Channel e.channel))) (handler arch h).emitters l.emitter l.has (on_is_sub arch (on.Channel l.emitter.channel) k listed l.below l.on)

-- a handler on a source exists
pub source_handler_below : (arch : Arch) (h s : ℕ) → AreListeners arch → Contains (subs arch (on.Source s)) (to.Handler h) → h < length arch.handlers
source_handler_below arch h s listed c =
    let m = filter_has (hears arch (on.Source s)) arch.listeners (to.Handler h) (In-from_contains (subs arch (on.Source s)) (to.Handler h) c) in
    listed_below arch h listed m.0
