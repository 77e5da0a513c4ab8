-- The atomic meaning: one mark is one step.
use Rattle.std.specs.Prelude.{◌≡◌, ℕ, ◌+◌, ◌≤◌, List, [], ◌∷◌, ◌++◌, map, fold, take, length, All, slice_index, slice_index_or, slice_get, slice_set, cond, pos, Bool, true, false, ◌&&◌, ◌||◌, not, IsTrue, Option, Some, None, option_and_then}
use Rattle.tower_types.specs.Ty.{shape_of}
use Rattle.tower_types.specs.Value.{Value, word, parts, no_values, fits}
use Rattle.tower_syntax.specs.declared.arch.SourceKind.{SourceKind}
use Rattle.tower_syntax.specs.declared.arch.SourceKind.TheVariants as kind
use Rattle.tower_syntax.specs.declared.arch.Listener.TheVariants as to
use Rattle.tower_syntax.specs.declared.event.Mark.{Mark}
use Rattle.tower_syntax.specs.declared.event.Mark.TheVariants as mark
use Rattle.tower_syntax.specs.Arch.{Arch, Source, Entry, tick, signal, Events}
use Rattle.tower_syntax.specs.Arrival.{is_init, ticks, brought, is_full}
use Rattle.tower_meaning.specs.System.{System, Item}

-- lists by monitor and by source, the outputs so far with their numbers, and the place in the event record
pub record Atomic : Type 0 where
  pub monitors : List Value
  pub queues : List (List Value)
  pub pending : List (List Item)
  pub lost : List ℕ
  pub outputs : List (ℕ × Value)
  pub place : ℕ

-- an initialisation has one message 0 at the start
abbrev pub first_queue : SourceKind → List Value
first_queue k = cond (is_init k) (word (pos 0) ∷ []) []

abbrev pub start : System → Atomic
start system = record {
  monitors = system.zeros;
  queues = map first_queue system.kinds;
  pending = map (λ k. []) system.kinds;
  lost = map (λ k. 0) system.kinds;
  outputs = [];
  place = 0;
}

-- ---- an entry arrives

-- a message that finds its queue full is dropped and counted, and any other goes to the queue's end
abbrev pub bring : System → Atomic → ℕ × Value → Atomic
bring system s m =
    let queue = slice_index_or s.queues m.0 [] in
    cond (is_full (slice_index_or system.depths m.0 None) (length queue))
    (record s { lost = slice_set s.lost m.0 (slice_index s.lost m.0 + 1) })
    (record s { queues = slice_set s.queues m.0 (queue ++ m.1 ∷ []) })

abbrev pub arrive : System → Events → Atomic → Option Entry → Option Atomic
arrive system events s None = None
arrive system events s (Some e) =
    let k = ticks (take (s.place + 1) events.entries) in
    Some (fold (bring system) (record s { place = s.place + 1 }) (brought system.kinds k e))

-- ---- a source takes a message

abbrev pub is_none_left : List Value → List Item → Bool
is_none_left [] [] = true
is_none_left [] (i ∷ is) = false
is_none_left (v ∷ vs) is = false

-- each init source has an empty queue and nothing pending
abbrev pub are_inits_done : List SourceKind → List (List Value) → List (List Item) → Bool
are_inits_done [] queues pending = true
are_inits_done (k ∷ ks) [] pending = true
are_inits_done (k ∷ ks) (q ∷ qs) [] = true
are_inits_done (k ∷ ks) (q ∷ qs) (p ∷ ps) = (not (is_init k) || is_none_left q p) && are_inits_done ks qs ps

-- no period or signal starts before all initialisation has ended
abbrev pub may_start : System → Atomic → ℕ → Bool
may_start system s x = is_init (slice_index_or system.kinds x kind.Signal) || are_inits_done system.kinds s.queues s.pending

abbrev pub begin : System → Atomic → ℕ → Option (List Item) → Option (List Value) → Option Atomic
begin system s x (Some []) (Some (v ∷ rest)) =
    cond (may_start system s x) (Some (record s { queues = slice_set s.queues x rest; pending = slice_set s.pending x (system.subscribers x v) })) None
begin system s x _ _ = None

-- ---- a source's first pending item

abbrev pub handle : System → Atomic → ℕ → ℕ → Value → List Item → Atomic
handle system s x h v rest =
    let m = system.monitor h in
    let f = system.effect h (slice_index_or s.monitors m (parts no_values)) v in
    record s { monitors = slice_set s.monitors m f.states; pending = slice_set s.pending x (system.follow h f.lists ++ rest) }

abbrev pub run : System → Atomic → ℕ → Option (List Item) → Option Atomic
run system s x (Some ((to.Handler h, v) ∷ rest)) = Some (handle system s x h v rest)
run system s x _ = None

abbrev pub put : Atomic → ℕ → Option (List Item) → Option Atomic
put s x (Some ((to.Output o, v) ∷ rest)) = Some (record s { pending = slice_set s.pending x rest; outputs = s.outputs ++ (o, v) ∷ [] })
put s x _ = None

-- ---- the four rows

-- the state after a mark, where it is defined
abbrev pub act : System → Events → Atomic → Mark → Option Atomic
act system events s mark.Arrive = arrive system events s (slice_get events.entries s.place)
act system events s (mark.Start x) = begin system s x (slice_get s.pending x) (slice_get s.queues x)
act system events s (mark.Run x) = run system s x (slice_get s.pending x)
act system events s (mark.Out x) = put s x (slice_get s.pending x)

-- one mark after another from the start: undefined where one of them is
abbrev pub replay : System → Events → List Mark → Option Atomic
replay system events marks = fold (λ s m. option_and_then (λ t. act system events t m) s) (Some (start system)) marks

-- ---- which events a system can have

-- a signal source, and a value that fits it
abbrev pub FitsSource : Arch → Value → Option Source → Type 0
FitsSource arch v None = ⊥
FitsSource arch v (Some s) = (s.kind ≡ kind.Signal) × IsTrue (fits (shape_of arch.records s.message) v)

abbrev pub FitsEntry : Arch → Entry → Type 0
FitsEntry arch tick = Unit {0}
FitsEntry arch (signal x v) = FitsSource arch v (slice_get arch.sources x)

pub record Fit (arch : Arch) (events : Events) : Type 0 where
  pub kinds : events.kinds ≡ map (λ s. s.kind) arch.sources
  pub depths : events.depths ≡ map (λ s. s.depth) arch.sources
  pub few_ticks : ticks events.entries ≤ 9223372036854775807
  pub entries : All (FitsEntry arch) events.entries
