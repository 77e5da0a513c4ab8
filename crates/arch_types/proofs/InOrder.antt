-- A checked tree has its handlers by monitor, and its listeners in text order.
use Rattle.std.proofs.Common.{◌≡◌, ◌∙◌, ℕ, zero, suc, ◌+◌, ◌≤◌, List, [], ◌∷◌, ◌++◌, map, length, refl, sym, ap, subst, arith, append_assoc, slice_index_or, length-append}
use Rattle.std.specs.List.Sorted.{IsNonDecreasingBy}
use Rattle.std.proofs.lemmas.List.{get_or_at, map-append}
use Rattle.tower_types.specs.Ty.{Name}
use Rattle.tower_syntax.specs.declared.arch.Listener.{Listener}
use Rattle.tower_syntax.specs.declared.arch.Listener.TheVariants as to
use Rattle.tower_syntax.specs.RawTree.{Link, RawPart, state, handler, RawItem, fields, init, period, signal, channel, output, monitor, Raw}
use Rattle.tower_syntax.specs.Arch.{Arch, Handler}
use Rattle.tower_syntax.specs.Graph.{no_handler, no_output}
use Rattle.arch_types.specs.Outline.{each, output_of, part_listeners, handlers_in, listeners, outline, Written, written_of, handlers_from, handlers_of}
use Rattle.arch_types.specs.File.{AreHandlers, IsChecked}
use Rattle.arch_types.specs.Listed.{handler_name, listener_names, name_of, IsInFileOrder}
use Rattle.arch_types.proofs.Lists.{AllOf, all_both, all_more, each_element}

-- ---- by monitor

-- no number of an element falls
abbrev AscendBy : {X : Type 0} → (X → ℕ) → List X → Type 0
AscendBy n [] = Unit {0}
AscendBy n (x ∷ xs) = AllOf (λ y. n x ≤ n y) xs × AscendBy n xs

at_places : {X : Type 0} (n : X → ℕ) (xs : List X) → AscendBy n xs → IsNonDecreasingBy n xs
at_places n [] h i j d le below = absurd (omega (arith, below))
at_places n (x ∷ xs) h zero zero d le below = omega arith
at_places n (x ∷ xs) h zero (suc j) d le below = each_element (λ y. n x ≤ n y) xs h.0 j d (omega (arith, below))
at_places n (x ∷ xs) h (suc i) zero d le below = absurd (omega (arith, le))
at_places n (x ∷ xs) h (suc i) (suc j) d le below = at_places n xs h.1 i j d (omega (arith, le)) (omega (arith, below))

-- these have the number k, and those behind them at least k
ascend_both : {X : Type 0} (n : X → ℕ) (k : ℕ) (xs ys : List X) → AllOf (λ x. n x ≡ k) xs → AllOf (λ y. k ≤ n y) ys → AscendBy n ys → AscendBy n (xs ++ ys)
ascend_both n k [] ys h l t = t
ascend_both n k (x ∷ xs) ys h l t = (
  all_both (λ y. n x ≤ n y) xs ys (all_more (λ y. n y ≡ k) (λ y. n x ≤ n y) (λ y e. omega (arith, e, h.0)) xs h.1) (all_more (λ y. k ≤ n y) (λ y. n x ≤ n y) (λ y e. omega (arith, e, h.0)) ys l),
  ascend_both n k xs ys h.1 l t,
)

abbrev monitor_in : Written → ℕ
monitor_in w = w.monitor

in_monitor : (k : ℕ) (ps : List (RawPart Link)) → AllOf (λ w. monitor_in w ≡ k) (each (written_of k) ps)
in_monitor k [] = tt
in_monitor k (state at i t ∷ ps) = in_monitor k ps
in_monitor k (handler at i u hs ∷ ps) = (refl, in_monitor k ps)

from_monitor : (items : List (RawItem Link)) (k : ℕ) → AllOf (λ w. k ≤ monitor_in w) (handlers_from k items)
from_monitor [] k = tt
from_monitor (fields at i fs ∷ items) k = from_monitor items k
from_monitor (init at i p ∷ items) k = from_monitor items k
from_monitor (period at i ms p d ∷ items) k = from_monitor items k
from_monitor (signal at i t p d ∷ items) k = from_monitor items k
from_monitor (channel at i t ∷ items) k = from_monitor items k
from_monitor (output at i u ∷ items) k = from_monitor items k
from_monitor (monitor at i ps ∷ items) k =
    all_both (λ w. k ≤ monitor_in w) (each (written_of k) ps) (handlers_from (k + 1) items)
    (all_more (λ w. monitor_in w ≡ k) (λ w. k ≤ monitor_in w) (λ w e. omega (arith, e)) (each (written_of k) ps) (in_monitor k ps))
    (all_more (λ w. k + 1 ≤ monitor_in w) (λ w. k ≤ monitor_in w) (λ w e. omega (arith, e)) (handlers_from (k + 1) items) (from_monitor items (k + 1)))

ascend_written : (items : List (RawItem Link)) (k : ℕ) → AscendBy monitor_in (handlers_from k items)
ascend_written [] k = tt
ascend_written (fields at i fs ∷ items) k = ascend_written items k
ascend_written (init at i p ∷ items) k = ascend_written items k
ascend_written (period at i ms p d ∷ items) k = ascend_written items k
ascend_written (signal at i t p d ∷ items) k = ascend_written items k
ascend_written (channel at i t ∷ items) k = ascend_written items k
ascend_written (output at i u ∷ items) k = ascend_written items k
ascend_written (monitor at i ps ∷ items) k =
    ascend_both monitor_in k (each (written_of k) ps) (handlers_from (k + 1) items) (in_monitor k ps)
    (all_more (λ w. k + 1 ≤ monitor_in w) (λ w. k ≤ monitor_in w) (λ w e. omega (arith, e)) (handlers_from (k + 1) items) (from_monitor items (k + 1)))
    (ascend_written items (k + 1))

above_checked : (arch : Arch) (k : ℕ) (ws : List Written) (hs : List Handler) → AreHandlers arch ws hs → AllOf (λ w. k ≤ monitor_in w) ws → AllOf (λ h. k ≤ h.monitor) hs
above_checked arch k [] [] are h = tt
above_checked arch k [] (q ∷ hs) are h = absurd are
above_checked arch k (w ∷ ws) [] are h = absurd are
above_checked arch k (w ∷ ws) (q ∷ hs) are h = (subst (λ m. k ≤ m) (sym are.0.monitor) h.0, above_checked arch k ws hs are.1 h.1)

ascend_checked : (arch : Arch) (ws : List Written) (hs : List Handler) → AreHandlers arch ws hs → AscendBy monitor_in ws → AscendBy (λ h. h.monitor) hs
ascend_checked arch [] [] are h = tt
ascend_checked arch [] (q ∷ hs) are h = absurd are
ascend_checked arch (w ∷ ws) [] are h = absurd are
ascend_checked arch (w ∷ ws) (q ∷ hs) are h = (subst (λ m. AllOf (λ y. m ≤ y.monitor) hs) (sym are.0.monitor) (above_checked arch w.monitor ws hs are.1 h.0), ascend_checked arch ws hs are.1 h.1)

-- ---- in text order

-- the name of a listener, where these are the names of outputs and of handlers
abbrev name_in : List Name → List Name → Listener → Name
name_in os hs (to.Output o) = slice_index_or os o []
name_in os hs (to.Handler h) = slice_index_or hs h []

named_at : {X Y : Type 0} (f : X → Y) (xs : List X) (i : ℕ) (d : X) → f (slice_index_or xs i d) ≡ slice_index_or (map f xs) i (f d)
named_at f [] i d = refl
named_at f (x ∷ xs) zero d = refl
named_at f (x ∷ xs) (suc i) d = named_at f xs i d

name_is : (arch : Arch) (l : Listener) → name_of arch l ≡ name_in (map (λ o. o.name) arch.outputs) (map (λ h. h.name) arch.handlers) l
name_is arch (to.Output o) = named_at (λ o. o.name) arch.outputs o no_output
name_is arch (to.Handler h) = named_at (λ h. h.name) arch.handlers h no_handler

names_are : (arch : Arch) (ls : List Listener) → map (name_of arch) ls ≡ map (name_in (map (λ o. o.name) arch.outputs) (map (λ h. h.name) arch.handlers)) ls
names_are arch [] = refl
names_are arch (l ∷ ls) = λ i. name_is arch l i ∷ names_are arch ls i

abbrev output_names : List (RawItem Link) → List Name
output_names items = map (λ o. o.name) (each output_of items)

abbrev handler_names : List (RawItem Link) → List Name
handler_names [] = []
handler_names (monitor at i ps ∷ items) = each handler_name ps ++ handler_names items
handler_names (_ ∷ items) = handler_names items

-- a name with what stands before it, and what behind
moved : (before rest : List Name) (n : Name) (xs : List Name) → xs ≡ before ++ n ∷ rest → xs ≡ (before ++ n ∷ []) ++ rest
moved before rest n xs e = e ∙ sym (append_assoc before (n ∷ []) rest)

here : (before rest : List Name) (n : Name) (xs : List Name) (k : ℕ) → xs ≡ before ++ n ∷ rest → k ≡ length before → slice_index_or xs k [] ≡ n
here before rest n xs k e l = ap (λ ys. slice_index_or ys k []) e ∙ get_or_at before n rest [] k (sym l)

longer : (before : List Name) (n : Name) (k : ℕ) → k ≡ length before → k + 1 ≡ length (before ++ n ∷ [])
longer before n k l = omega (arith, l, length-append before (n ∷ []))

parts_named : (os hs before rest : List Name) (h : ℕ) (ps : List (RawPart Link)) → hs ≡ before ++ (each handler_name ps ++ rest) → h ≡ length before → map (name_in os hs) (part_listeners h ps) ≡ each handler_name ps
parts_named os hs before rest h [] e l = refl
parts_named os hs before rest h (state at i t ∷ ps) e l = parts_named os hs before rest h ps e l
parts_named os hs before rest h (handler at i u parts ∷ ps) e l =
    let first : slice_index_or hs h [] ≡ i.name = here before (each handler_name ps ++ rest) i.name hs h e l in
    let others : map (name_in os hs) (part_listeners (h + 1) ps) ≡ each handler_name ps = parts_named os hs (before ++ i.name ∷ []) rest (h + 1) ps (moved before (each handler_name ps ++ rest) i.name hs e) (longer before i.name h l) in
    λ k. first k ∷ others k

parts_count : (ps : List (RawPart Link)) → handlers_in ps ≡ length (each handler_name ps)
parts_count [] = refl
parts_count (state at i t ∷ ps) = parts_count ps
parts_count (handler at i u hs ∷ ps) = let r : handlers_in ps ≡ length (each handler_name ps) = parts_count ps in omega (arith, r)

items_named : (os hs before other : List Name) (o h : ℕ) (items : List (RawItem Link)) → os ≡ before ++ output_names items → o ≡ length before → hs ≡ other ++ handler_names items → h ≡ length other
    → map (name_in os hs) (listeners o h items) ≡ each listener_names items
items_named os hs before other o h [] e l f m = refl
items_named os hs before other o h (fields at i fs ∷ items) e l f m = items_named os hs before other o h items e l f m
items_named os hs before other o h (init at i p ∷ items) e l f m = items_named os hs before other o h items e l f m
items_named os hs before other o h (period at i ms p d ∷ items) e l f m = items_named os hs before other o h items e l f m
items_named os hs before other o h (signal at i t p d ∷ items) e l f m = items_named os hs before other o h items e l f m
items_named os hs before other o h (channel at i t ∷ items) e l f m = items_named os hs before other o h items e l f m
items_named os hs before other o h (output at i u ∷ items) e l f m =
    let first : slice_index_or os o [] ≡ i.name = here before (output_names items) i.name os o e l in
    let others : map (name_in os hs) (listeners (o + 1) h items) ≡ each listener_names items = items_named os hs (before ++ i.name ∷ []) other (o + 1) h items (moved before (output_names items) i.name os e) (longer before i.name o l) f m in
    λ k. first k ∷ others k
items_named os hs before other o h (monitor at i ps ∷ items) e l f m =
    let own : map (name_in os hs) (part_listeners h ps) ≡ each handler_name ps = parts_named os hs other (handler_names items) h ps f m in
    let counts : h + handlers_in ps ≡ length (other ++ each handler_name ps) = omega (arith, m, parts_count ps, length-append other (each handler_name ps)) in
    let others : map (name_in os hs) (listeners o (h + handlers_in ps) items) ≡ each listener_names items =
    items_named os hs before (other ++ each handler_name ps) o (h + handlers_in ps) items e l (f ∙ sym (append_assoc other (each handler_name ps) (handler_names items))) counts in
    map-append (name_in os hs) (part_listeners h ps) (listeners o (h + handlers_in ps) items) ∙ (λ k. own k ++ others k)

-- the names of the handlers of a checked tree
written_names : (k : ℕ) (ps : List (RawPart Link)) → map (λ w. w.name.name) (each (written_of k) ps) ≡ each handler_name ps
written_names k [] = refl
written_names k (state at i t ∷ ps) = written_names k ps
written_names k (handler at i u hs ∷ ps) = ap (λ ns. i.name ∷ ns) (written_names k ps)

all_written_names : (items : List (RawItem Link)) (k : ℕ) → map (λ w. w.name.name) (handlers_from k items) ≡ handler_names items
all_written_names [] k = refl
all_written_names (fields at i fs ∷ items) k = all_written_names items k
all_written_names (init at i p ∷ items) k = all_written_names items k
all_written_names (period at i ms p d ∷ items) k = all_written_names items k
all_written_names (signal at i t p d ∷ items) k = all_written_names items k
all_written_names (channel at i t ∷ items) k = all_written_names items k
all_written_names (output at i u ∷ items) k = all_written_names items k
all_written_names (monitor at i ps ∷ items) k =
    let own : map (λ w. w.name.name) (each (written_of k) ps) ≡ each handler_name ps = written_names k ps in
    let others : map (λ w. w.name.name) (handlers_from (k + 1) items) ≡ handler_names items = all_written_names items (k + 1) in
    map-append (λ w. w.name.name) (each (written_of k) ps) (handlers_from (k + 1) items) ∙ (λ j. own j ++ others j)

checked_names : (arch : Arch) (ws : List Written) (hs : List Handler) → AreHandlers arch ws hs → map (λ h. h.name) hs ≡ map (λ w. w.name.name) ws
checked_names arch [] [] are = refl
checked_names arch [] (q ∷ hs) are = absurd are
checked_names arch (w ∷ ws) [] are = absurd are
checked_names arch (w ∷ ws) (q ∷ hs) are = λ i. are.0.name i ∷ checked_names arch ws hs are.1 i

pub in_file_order : (raw : Raw Link) (arch : Arch) → IsChecked raw arch → IsInFileOrder raw arch
in_file_order raw arch checked =
    let outputs : map (λ o. o.name) arch.outputs ≡ output_names raw.items = ap (λ a. map (λ o. o.name) a.outputs) checked.outlined in
    let handlers : map (λ h. h.name) arch.handlers ≡ handler_names raw.items = checked_names (outline raw) (handlers_of raw) arch.handlers checked.handlers ∙ all_written_names raw.items 0 in
    record {
      handlers = at_places (λ h. h.monitor) arch.handlers (ascend_checked (outline raw) (handlers_of raw) arch.handlers checked.handlers (ascend_written raw.items 0));
      listeners = names_are arch arch.listeners ∙ ap (λ a. map (name_in (map (λ o. o.name) arch.outputs) (map (λ h. h.name) arch.handlers)) a.listeners) checked.outlined
          ∙ items_named (map (λ o. o.name) arch.outputs) (map (λ h. h.name) arch.handlers) [] [] 0 0 raw.items outputs refl handlers refl;
    }
