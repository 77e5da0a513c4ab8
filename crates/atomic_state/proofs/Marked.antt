-- What the marks make of a state.
use Rattle.std.proofs.Common.{◌≡◌, ◌∙◌, ℕ, zero, suc, ◌+◌, ◌<◌, List, [], ◌∷◌, ◌++◌, length, map, fold, drop, take, get_or, cond, Bool, true, false, Option, Some, None, slice_get, slice_set, slice_index_or, refl, ap, sym, subst, add-one, arith}
use Rattle.std.proofs.lemmas.List.{map-append}
use Rattle.std.proofs.lemmas.Option.{none-some}
use Rattle.tower_types.specs.Value.{Value}
use Rattle.tower_types.specs.View.{value_of}
use Rattle.tower_types.specs.declared.value.Value.{Value as ValueValue}
use Rattle.tower_syntax.specs.declared.arch.SourceKind.{SourceKind}
use Rattle.tower_syntax.specs.declared.arch.Listener.{Listener}
use Rattle.tower_syntax.specs.declared.arch.Listener.TheVariants as to
use Rattle.tower_syntax.specs.Arch.{Arch, Entry, Events, tick, signal}
use Rattle.tower_syntax.specs.Arrival.{ticks, is_tick, brought, brought_by_tick}
use Rattle.tower_meaning.specs.Atomic.{Atomic, arrive, begin, bring, put, may_start}
use Rattle.tower_meaning.specs.System.{System, Item}
use Rattle.atomic_state.specs.declared.queue.Queue.{Queue}
use Rattle.atomic_state.specs.Items.{item_of}
use Rattle.atomic_state.specs.Queues.{waiting_of, with_queues}
use Rattle.atomic_state.specs.StateView.{pending_of, output_of, moved_on}
use Rattle.atomic_state.specs.Step.{can_take, first_listener}
use Rattle.atomic_state.proofs.Arrived.{lost_of, same_lost}
use Rattle.atomic_state.proofs.Lists.{map_set, some_same}
use Rattle.atomic_state.proofs.Pending.{Held, Pending, items_of, pending_push, slot}

-- ---- an entry

pub same_queues : (s : Atomic) (qs rs : List Queue) → map waiting_of rs ≡ map waiting_of qs → map lost_of rs ≡ map lost_of qs → with_queues s rs ≡ with_queues s qs
same_queues s qs rs waits losts = ap (λ a. made a (map lost_of rs)) waits ∙ ap (made (map waiting_of qs)) losts
  where
    made : List (List Value) → List ℕ → Atomic
    made a b = record s { queues = a; lost = b }

-- how many ticks an entry is
abbrev pub tick_count : Entry → ℕ
tick_count e = cond (is_tick e) 1 0

pub counted_on : (es : List Entry) (i : ℕ) (e : Entry) → slice_get es i ≡ Some e → ticks (take (i + 1) es) ≡ ticks (take i es) + tick_count e
counted_on es i e at = ap (λ k. ticks (take k es)) (add-one i) ∙ by es i at
  where
    by : (ds : List Entry) (j : ℕ) → slice_get ds j ≡ Some e → ticks (take (suc j) ds) ≡ ticks (take j ds) + tick_count e
    by [] j at = absurd (none-some e at)
    by (d ∷ ds) zero at =
        let same : tick_count d ≡ tick_count e = ap tick_count (some_same d e at) in
        omega (arith, same)
    by (d ∷ ds) (suc j) at = omega (arith, by ds j at)

pub tick_done : (system : System) (events : Events) (s new : Atomic) (t : ℕ) (kinds : List SourceKind) → slice_get events.entries s.place ≡ Some tick → t ≡ ticks (take s.place events.entries) → system.kinds ≡ kinds
    → new ≡ fold (bring system) (moved_on s) (brought_by_tick (t + 1) 0 kinds) → arrive system events s (slice_get events.entries s.place) ≡ Some new
tick_done system events s new t kinds at counted same is =
    let k : ticks (take (s.place + 1) events.entries) ≡ t + 1 = counted_on events.entries s.place tick at ∙ ap (λ n. n + 1) (sym counted) in
    ap (arrive system events s) at
    ∙ ap (λ n. Some (fold (bring system) (moved_on s) (brought_by_tick n 0 system.kinds))) k
    ∙ ap (λ ks. Some (fold (bring system) (moved_on s) (brought_by_tick (t + 1) 0 ks))) same
    ∙ ap Some (sym is)

pub signal_done : (system : System) (events : Events) (s new : Atomic) (x : ℕ) (v : Value) → slice_get events.entries s.place ≡ Some (signal x v)
    → new ≡ bring system (moved_on s) (x, v) → arrive system events s (slice_get events.entries s.place) ≡ Some new
signal_done system events s new x v at is = ap (arrive system events s) at ∙ ap Some (sym is)

-- ---- a source takes a message

pub begun : (system : System) (s : Atomic) (ps : List Pending) (qs : List Queue) (x : ℕ) (q r : Queue) (new : Pending)
    → s.pending ≡ map items_of ps → s.queues ≡ map waiting_of qs → s.lost ≡ map lost_of qs → x < length qs → q ≡ get_or qs x q
    → can_take (slice_get s.pending x) (slice_get s.queues x) ≡ true → may_start system s x ≡ true → waiting_of r ≡ drop 1 (waiting_of q) → r.lost ≡ q.lost
    → ((v : Value) (rest : List Value) → waiting_of q ≡ v ∷ rest → items_of new ≡ system.subscribers x v)
    → begin system s x (slice_get s.pending x) (slice_get s.queues x)
    ≡ Some (record s { queues = map waiting_of (slice_set qs x r); pending = map items_of (slice_set ps x new); lost = map lost_of (slice_set qs x r) })
begun system s ps qs x q r new is_pending is_queues is_lost lt read takes may waits losts subscribed = by (slice_get s.pending x) (slice_get s.queues x) refl takes
  where
    made : List (List Value) → List (List Item) → List ℕ → Atomic
    made a b c = record s { queues = a; pending = b; lost = c }

    target : Atomic
    target = made (map waiting_of (slice_set qs x r)) (map items_of (slice_set ps x new)) (map lost_of (slice_set qs x r))

    here : slice_get s.queues x ≡ Some (waiting_of q)
    here = ap (λ l. slice_get l x) is_queues ∙ slot waiting_of qs x q lt read

    by : (o : Option (List Item)) (k : Option (List Value)) → slice_get s.queues x ≡ k → can_take o k ≡ true → begin system s x o k ≡ Some target
    by None k at t = cc
    by (Some (i ∷ is)) k at t = cc
    by (Some []) None at t = cc
    by (Some []) (Some []) at t = cc
    by (Some []) (Some (v ∷ rest)) at t =
        let front : waiting_of q ≡ v ∷ rest = some_same _ _ (sym here ∙ at) in
        let queue : slice_set s.queues x rest ≡ map waiting_of (slice_set qs x r) =
        ap (λ l. slice_set l x rest) is_queues ∙ sym (map_set waiting_of qs x r ∙ ap (slice_set (map waiting_of qs) x) (waits ∙ ap (drop 1) front)) in
        let items : slice_set s.pending x (system.subscribers x v) ≡ map items_of (slice_set ps x new) =
        ap (λ l. slice_set l x (system.subscribers x v)) is_pending ∙ sym (map_set items_of ps x new ∙ ap (slice_set (map items_of ps) x) (subscribed v rest front)) in
        let lost : s.lost ≡ map lost_of (slice_set qs x r) = is_lost ∙ sym (same_lost qs x q r lt read losts) in
        ap (λ b. cond b (Some (made (slice_set s.queues x rest) (slice_set s.pending x (system.subscribers x v)) s.lost)) None) may
        ∙ ap (λ a. Some (made a (slice_set s.pending x (system.subscribers x v)) s.lost)) queue
        ∙ ap (λ b. Some (made (map waiting_of (slice_set qs x r)) b s.lost)) items
        ∙ ap (λ c. Some (made (map waiting_of (slice_set qs x r)) (map items_of (slice_set ps x new)) c)) lost

-- the first message that waits
pub first_waits : (xs : List ValueValue) (m : ValueValue) (v : Value) (rest : List Value) → m ≡ get_or xs 0 m → map value_of xs ≡ v ∷ rest → value_of m ≡ v
first_waits [] m v rest read e = cc
first_waits (x ∷ xs) m v rest read e = ap value_of read ∙ cc

-- ---- an output

pub put_done : (s : Atomic) (ps : List Pending) (x o : ℕ) (p q : Pending) (l : Listener) (m : ValueValue) (outs new : List (ℕ × ValueValue)) → s.pending ≡ map items_of ps → s.outputs ≡ map output_of outs
    → x < length ps → p ≡ get_or ps x p → p.items ≡ q.items ++ (l, m) ∷ [] → new ≡ outs ++ (o, m) ∷ [] → first_listener (slice_get s.pending x) ≡ Some (to.Output o)
    → put s x (slice_get s.pending x) ≡ Some (record s { pending = map items_of (slice_set ps x q); outputs = map output_of new })
put_done s ps x o p q l m outs new is_pending is_outputs lt read popped pushed first =
    let here : slice_get s.pending x ≡ Some ((l, value_of m) ∷ items_of q) =
    ap (λ l. slice_get l x) is_pending ∙ slot items_of ps x p lt read ∙ ap (λ is. Some (pending_of is)) popped ∙ ap Some (pending_push q.items (l, m)) in
    let output : l ≡ to.Output o = some_same l (to.Output o) (sym (ap first_listener here) ∙ first) in
    ap (put s x) here ∙ ap (λ (k : Listener). put s x (Some ((k, value_of m) ∷ items_of q))) output
    ∙ ap (λ a. Some (made a (s.outputs ++ (o, value_of m) ∷ []))) (ap (λ l. slice_set l x (items_of q)) is_pending ∙ sym (map_set items_of ps x q))
    ∙ ap (λ b. Some (made (map items_of (slice_set ps x q)) b)) (ap (λ l. l ++ (o, value_of m) ∷ []) is_outputs ∙ sym (ap (map output_of) pushed ∙ map-append output_of outs ((o, m) ∷ [])))
  where
    made : List (List Item) → List (ℕ × Value) → Atomic
    made a b = record s { pending = a; outputs = b }

pub nothing_first : {A : Type 0} (ps : List Pending) (x : ℕ) (p : Pending) (l : Listener) → x < length ps → p ≡ get_or ps x p → length p.items ≡ 0 → first_listener (slice_get (map items_of ps) x) ≡ Some l → A
nothing_first ps x p l lt read none first = absurd (by p.items none (sym (ap first_listener (slot items_of ps x p lt read)) ∙ first))
  where
    by : (xs : List Held) → length xs ≡ 0 → first_listener (Some (pending_of xs)) ≡ Some l → ⊥
    by [] e f = none-some l f
    by (x ∷ xs) e f = omega arith
