-- The state before any mark, and what a mark makes of a state.
use Rattle.std.proofs.Common.{◌≡◌, ◌∙◌, ℕ, ◌+◌, ◌<◌, ◌≤◌, List, [], ◌∷◌, ◌++◌, length, map, take, get_or, All, Option, Some, None, slice_get, refl, ap, sym, subst, arith, suc, zero}
use Rattle.std.proofs.lemmas.List.{length-map}
use Rattle.std.proofs.lemmas.List.Elements.{All-head, All-tail}
use Rattle.std.proofs.lemmas.Option.{none-some, slice_get_within}
use Rattle.tower_types.specs.Ty.{Ty, Name, Fields, table_of}
use Rattle.tower_types.specs.Records.{IsTypeAmong}
use Rattle.tower_types.specs.Value.{Value, parts, values_of}
use Rattle.tower_types.specs.View.{fields_of}
use Rattle.tower_syntax.specs.declared.arch.Monitor.{Monitor as MonitorValue}
use Rattle.tower_syntax.specs.declared.event.Mark.{Mark}
use Rattle.tower_syntax.specs.Arch.{Arch, Entry, Events, tick, signal, Source}
use Rattle.tower_syntax.specs.Arrival.{ticks}
use Rattle.tower_syntax.specs.View.{monitor_of}
use Rattle.tower_syntax.specs.WellNumbered.{AreNumberedFields, IsWellNumbered}
use Rattle.tower_meaning.specs.Atomic.{Atomic, Fit, FitsEntry, FitsSource, act}
use Rattle.tower_meaning.specs.Body.{zeros_of_fields}
use Rattle.tower_meaning.specs.System.{system_of, zero_monitor}
use Rattle.atomic_state.specs.declared.tree.Tree.{Tree as TreeValue}
use Rattle.atomic_state.specs.declared.tree.Tree.TheVariants as tree
use Rattle.atomic_state.specs.declared.parts.AtomicStep.{AtomicStep}
use Rattle.atomic_state.specs.declared.parts.AtomicStep.TheVariants as step
use Rattle.atomic_state.specs.Fitting.{FitsState, IsStateOf, NamesQueue}
use Rattle.atomic_state.specs.Kept.{Kept}
use Rattle.atomic_state.specs.Step.{Steps}
use Rattle.atomic_state.specs.TreeView.{tree_of}
use Rattle.atomic_state.proofs.Handled.{all_known}
use Rattle.atomic_state.proofs.Lists.{after_set}
use Rattle.atomic_state.proofs.StateFits.{act_fits}
use Rattle.atomic_state.proofs.Trees.{tree_of-Parts}
use Rattle.atomic_state.proofs.Zeros.{listed_zeros}

-- ---- monitors

monitor_in : (P : Fields → Type 0) (xs : List MonitorValue) (i : ℕ) (m : MonitorValue) → All (λ m. P m.states) (map monitor_of xs) → i < length xs → m ≡ get_or xs i m → P (fields_of m.states)
monitor_in P [] i m h lt e = absurd (omega arith)
monitor_in P (x ∷ xs) zero m h lt e = subst (λ (y : MonitorValue). P (fields_of y.states)) (sym e) (All-head (λ m. P m.states) (monitor_of x) (map monitor_of xs) h)
monitor_in P (x ∷ xs) (suc i) m h lt e = monitor_in P xs i m (All-tail (λ m. P m.states) (monitor_of x) (map monitor_of xs) h) (omega arith) e

-- the states of a monitor have known types
pub states_known : (arch : Arch) (xs : List MonitorValue) (i : ℕ) (m : MonitorValue) → IsWellNumbered arch → map monitor_of xs ≡ arch.monitors → i < length xs → m ≡ get_or xs i m
    → All (λ f. IsTypeAmong (length arch.records) f.1) (fields_of m.states)
states_known arch xs i m n same lt read =
    all_known (length arch.records) (fields_of m.states)
    (monitor_in (AreNumberedFields (length arch.records)) xs i m (subst (All (λ m. AreNumberedFields (length arch.records) m.states)) (sym same) n.monitors) lt read).1

pub monitor_zero : (arch : Arch) (m : MonitorValue) (t : TreeValue) (zs : List TreeValue) → tree_of t ≡ parts (values_of (map tree_of zs)) → map tree_of zs ≡ zeros_of_fields (table_of arch.records) (fields_of m.states)
    → tree_of t ≡ zero_monitor arch (monitor_of m)
monitor_zero arch m t zs is e = is ∙ ap (λ l. parts (values_of l)) e ∙ ap parts (listed_zeros (table_of arch.records) (fields_of m.states))

-- ---- what an entry names

source_there : (v : Value) (arch : Arch) (ss : List Source) (x : ℕ) → FitsSource arch v (slice_get ss x) → x < length ss
source_there v arch [] x h = absurd h
source_there v arch (s ∷ ss) zero h = omega arith
source_there v arch (s ∷ ss) (suc x) h = omega (arith, source_there v arch ss x h)

entry_names : (arch : Arch) (n : ℕ) (es : List Entry) (i : ℕ) → n ≡ length arch.sources → All (FitsEntry arch) es → NamesQueue n (slice_get es i)
entry_names arch n [] i e h = tt
entry_names arch n (tick ∷ es) zero e h = tt
entry_names arch n (signal x v ∷ es) zero e h = omega (arith, e, source_there v arch arch.sources x (All-head (FitsEntry arch) (signal x v) es h))
entry_names arch n (d ∷ es) (suc i) e h = entry_names arch n es i e (All-tail (FitsEntry arch) d es h)

pub names_queue : (arch : Arch) (events : Events) (s : Atomic) → Fit arch events → FitsState arch s → NamesQueue (length s.queues) (slice_get events.entries s.place)
names_queue arch events s fit f = entry_names arch (length s.queues) events.entries s.place f.queue_count fit.entries

-- ---- a mark

pub step_made : (arch : Arch) (events : Events) (old new : Kept) (m : Mark) (r : AtomicStep) → IsStateOf arch events old → Steps old.state (act (system_of arch) events old.state m) r new.state
    → new.ticks ≡ ticks (take new.state.place events.entries) → IsStateOf arch events new
step_made arch events old new m r made steps counted = record { numbered = made.numbered; typed = made.typed; fit = made.fit; state_fits = by r steps; counted = counted }
  where
    by : (r : AtomicStep) → Steps old.state (act (system_of arch) events old.state m) r new.state → FitsState arch new.state
    by step.Done h = act_fits arch made.numbered made.typed events made.fit old.state made.state_fits m new.state h
    by step.Misfit h = subst (FitsState arch) (sym h.1) made.state_fits
    by step.NoMemory h = subst (FitsState arch) (sym h) made.state_fits

pub none_yet : (es : List Entry) → 0 ≡ ticks (take 0 es)
none_yet [] = refl
none_yet (e ∷ es) = refl
