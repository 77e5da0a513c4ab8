-- What is due in a task is of a handler that its source reaches.
use Rattle.std.proofs.Common.{◌≡◌, inl, inr, ◌<◌, ℕ, zero, suc, ◌+◌, Bool, true, false, cond, List, [], ◌∷◌, ◌++◌, map, fold, take, length, Option, Some, None, refl, sym, ap, ◌∙◌, subst, slice_get, slice_set, slice_index_or, option_and_then}
use Rattle.std.specs.Prelude.{flat_map, filter, ◌==◌}
use Rattle.std.specs.List.{list_any}
use Rattle.std.proofs.lemmas.Bool.{eq-eqb}
use Rattle.std.proofs.lemmas.Option.{same_Some}
use Rattle.tower_types.specs.Value.{Value, parts, no_values}
use Rattle.tower_syntax.specs.declared.event.Mark.{Mark}
use Rattle.tower_syntax.specs.declared.event.Mark.TheVariants as mark
use Rattle.tower_syntax.specs.declared.arch.On.TheVariants as on
use Rattle.tower_syntax.specs.declared.arch.Listener.{Listener}
use Rattle.tower_syntax.specs.declared.arch.Listener.TheVariants as to
use Rattle.tower_syntax.specs.Arch.{Arch, Emitter, Entry, Events}
use Rattle.tower_syntax.specs.Graph.{no_handler, handler, subs, spread, spread_times, handlers_on, is_handler, leads, Reaches, begins, goes, reached_by, handler_numbers}
use Rattle.tower_syntax.specs.WellNumbered.{IsWellNumbered}
use Rattle.tower_meaning.specs.System.{System, Item, items, follow_from, follow, system_of}
use Rattle.tower_meaning.specs.Body.{effect}
use Rattle.tower_syntax.specs.Arrival.{ticks, brought}
use Rattle.tower_meaning.specs.Atomic.{Atomic, start, bring, arrive, begin, run, put, may_start, handle, act, replay}
use Rattle.task_code.specs.Ceiling.{touches}
use Rattle.task_alone.specs.SettingOf.{setting_of}
use Rattle.task_alone.specs.Alone.{FirstIsOf}
use Rattle.task_alone.proofs.Lists.{after_set, get_unmap}
use Rattle.lock_reduction.specs.Sound.{IsDue}
use Rattle.channel_graph.proofs.Members.{In, has_any, filter_has, contains_from_In, number_below}
use Rattle.channel_graph.proofs.Closed.{reached_is_listed}

-- x reaches each handler of these
abbrev Items : Arch → ℕ → List Item → Type 0
Items arch x [] = Unit {0}
Items arch x ((to.Handler h, v) ∷ rest) = Reaches arch x h × Items arch x rest
Items arch x ((to.Output o, v) ∷ rest) = Items arch x rest

both_items : (arch : Arch) (x : ℕ) (is js : List Item) → Items arch x is → Items arch x js → Items arch x (is ++ js)
both_items arch x [] js a b = b
both_items arch x ((to.Handler h, v) ∷ is) js a b = (a.0, both_items arch x is js a.1 b)
both_items arch x ((to.Output o, v) ∷ is) js a b = both_items arch x is js a b

of_listeners : (arch : Arch) (x : ℕ) (v : Value) (ls : List Listener) → ((h : ℕ) → In (to.Handler h) ls → Reaches arch x h) → Items arch x (map (λ l. (l, v)) ls)
of_listeners arch x v [] each = tt
of_listeners arch x v (to.Handler h ∷ ls) each = (each h (inl refl), of_listeners arch x v ls (λ k i. each k (inr i)))
of_listeners arch x v (to.Output o ∷ ls) each = of_listeners arch x v ls (λ k i. each k (inr i))

of_source : (arch : Arch) (x : ℕ) (v : Value) → Items arch x (items arch (on.Source x) v)
of_source arch x v = of_listeners arch x v (subs arch (on.Source x)) (λ h i. begins h (contains_from_In (subs arch (on.Source x)) (to.Handler h) i))

leads_so : (arch : Arch) (h k : ℕ) (e : Emitter) → In e (handler arch h).emitters → In (to.Handler k) (subs arch (on.Channel e.channel)) → leads arch h k ≡ true
leads_so arch h k e i j =
    has_any (λ e. list_any (is_handler k) (subs arch (on.Channel e.channel))) (handler arch h).emitters e i
    (has_any (is_handler k) (subs arch (on.Channel e.channel)) (to.Handler k) j (eq-eqb k k refl))

of_messages : (arch : Arch) (x h : ℕ) (e : Emitter) (vs : List Value) → Reaches arch x h → In e (handler arch h).emitters → Items arch x (flat_map (items arch (on.Channel e.channel)) vs)
of_messages arch x h e [] r i = tt
of_messages arch x h e (v ∷ vs) r i =
    both_items arch x (items arch (on.Channel e.channel) v) (flat_map (items arch (on.Channel e.channel)) vs)
    (of_listeners arch x v (subs arch (on.Channel e.channel)) (λ k j. goes h k r (leads_so arch h k e i j)))
    (of_messages arch x h e vs r i)

of_emitters : (arch : Arch) (x h : ℕ) (es : List Emitter) (lists : List (List Value)) → Reaches arch x h → ((e : Emitter) → In e es → In e (handler arch h).emitters) → Items arch x (follow_from arch es lists)
of_emitters arch x h [] lists r each = tt
of_emitters arch x h (e ∷ es) [] r each = tt
of_emitters arch x h (e ∷ es) (vs ∷ lists) r each =
    both_items arch x (flat_map (items arch (on.Channel e.channel)) vs) (follow_from arch es lists)
    (of_messages arch x h e vs r (each e (inl refl)))
    (of_emitters arch x h es lists r (λ d i. each d (inr i)))

-- ---- the replay

module _ (arch : Arch) (events : Events) where
  abbrev Pending : Atomic → Type 0
  Pending a = (x : ℕ) (is : List Item) → slice_get a.pending x ≡ Some is → Items arch x is

  abbrev sys : System
  sys = system_of arch

  if_some : (b : Bool) (r a : Atomic) → cond b (Some r) None ≡ Some a → r ≡ a
  if_some true r a e = same_Some r a e
  if_some false r a e = cc

  bring_pending : (a : Atomic) (m : ℕ × Value) (b : Bool) (u w : Atomic) → u.pending ≡ a.pending → w.pending ≡ a.pending → (cond b u w).pending ≡ a.pending
  bring_pending a m true u w e h = e
  bring_pending a m false u w e h = h

  all_pending : (bs : List (ℕ × Value)) (a : Atomic) → (fold (bring sys) a bs).pending ≡ a.pending
  all_pending [] a = refl
  all_pending (b ∷ bs) a = all_pending bs (bring sys a b) ∙ bring_pending a b _ _ _ refl refl

  arrive_keeps : (a a' : Atomic) (o : Option Entry) → Pending a → arrive sys events a o ≡ Some a' → Pending a'
  arrive_keeps a a' None k e = cc
  arrive_keeps a a' (Some n) k e =
      let bs : List (ℕ × Value) = brought sys.kinds (ticks (take (a.place + 1) events.entries)) n in
      let b : Atomic = record a { place = a.place + 1 } in
      let same : fold (bring sys) b bs ≡ a' = same_Some (fold (bring sys) b bs) a' e in
      let pending : a'.pending ≡ a.pending = sym (ap (λ w. w.pending) same) ∙ all_pending bs b in
      λ x is h. k x is (sym (ap (λ l. slice_get l x) pending) ∙ h)

  set_keeps : (a : Atomic) (x : ℕ) (new : List Item) → Pending a → Items arch x new → (y : ℕ) (is : List Item) → slice_get (slice_set a.pending x new) y ≡ Some is → Items arch y is
  set_keeps a x new k i = after_set (Items arch) a.pending x new k i

  begin_keeps : (a a' : Atomic) (x : ℕ) (ps : Option (List Item)) (qs : Option (List Value)) → Pending a → begin sys a x ps qs ≡ Some a' → Pending a'
  begin_keeps a a' x None qs k e = cc
  begin_keeps a a' x (Some (i ∷ is)) qs k e = cc
  begin_keeps a a' x (Some []) None k e = cc
  begin_keeps a a' x (Some []) (Some []) k e = cc
  begin_keeps a a' x (Some []) (Some (v ∷ rest)) k e =
      let r : Atomic = record a { queues = slice_set a.queues x rest; pending = slice_set a.pending x (items arch (on.Source x) v) } in
      let same : r ≡ a' = if_some (may_start sys a x) r a' e in
      subst Pending same (set_keeps a x (items arch (on.Source x) v) k (of_source arch x v))

  run_keeps : (a a' : Atomic) (x : ℕ) (ps : Option (List Item)) → slice_get a.pending x ≡ ps → Pending a → run sys a x ps ≡ Some a' → Pending a'
  run_keeps a a' x None h k e = cc
  run_keeps a a' x (Some []) h k e = cc
  run_keeps a a' x (Some ((to.Output o, v) ∷ rest)) h k e = cc
  run_keeps a a' x (Some ((to.Handler n, v) ∷ rest)) h k e =
      let now = k x ((to.Handler n, v) ∷ rest) h in
      let lists : List (List Value) = (effect arch n (slice_index_or a.monitors (handler arch n).monitor (parts no_values)) v).lists in
      subst Pending (same_Some (handle sys a x n v rest) a' e)
      (set_keeps a x (follow arch n lists ++ rest) k (both_items arch x (follow arch n lists) rest (of_emitters arch x n (handler arch n).emitters lists now.0 (λ d i. i)) now.1))

  put_keeps : (a a' : Atomic) (x : ℕ) (ps : Option (List Item)) → slice_get a.pending x ≡ ps → Pending a → put a x ps ≡ Some a' → Pending a'
  put_keeps a a' x None h k e = cc
  put_keeps a a' x (Some []) h k e = cc
  put_keeps a a' x (Some ((to.Handler n, v) ∷ rest)) h k e = cc
  put_keeps a a' x (Some ((to.Output o, v) ∷ rest)) h k e =
      let now : Items arch x rest = k x ((to.Output o, v) ∷ rest) h in
      subst Pending (same_Some (record a { pending = slice_set a.pending x rest; outputs = a.outputs ++ (o, v) ∷ [] }) a' e) (set_keeps a x rest k now)

  act_keeps : (a a' : Atomic) (m : Mark) → Pending a → act sys events a m ≡ Some a' → Pending a'
  act_keeps a a' mark.Arrive k e = arrive_keeps a a' (slice_get events.entries a.place) k e
  act_keeps a a' (mark.Start x) k e = begin_keeps a a' x (slice_get a.pending x) (slice_get a.queues x) k e
  act_keeps a a' (mark.Run x) k e = run_keeps a a' x (slice_get a.pending x) refl k e
  act_keeps a a' (mark.Out x) k e = put_keeps a a' x (slice_get a.pending x) refl k e

  then_keeps : (o : Option Atomic) (a : Atomic) (m : Mark) → ((b : Atomic) → o ≡ Some b → Pending b) → option_and_then (λ t. act sys events t m) o ≡ Some a → Pending a
  then_keeps None a m k e = cc
  then_keeps (Some b) a m k e = act_keeps b a m (k b refl) e

  fold_keeps : (ms : List Mark) (o : Option Atomic) (a : Atomic) → ((b : Atomic) → o ≡ Some b → Pending b) → fold (λ s m. option_and_then (λ t. act sys events t m) s) o ms ≡ Some a → Pending a
  fold_keeps [] o a k e = k a e
  fold_keeps (m ∷ ms) o a k e = fold_keeps ms (option_and_then (λ t. act sys events t m) o) a (λ b h. then_keeps o b m k h) e

  start_pending : Pending (start sys)
  start_pending x is h =
      let f = get_unmap (λ k. []) sys.kinds x is h in
      subst (Items arch x) f.2 tt

  pub pending_reached : (ms : List Mark) (a : Atomic) → replay sys events ms ≡ Some a → Pending a
  pending_reached ms a e = fold_keeps ms (Some (start sys)) a (λ b h. subst Pending (same_Some (start sys) b h) start_pending) e

  first_reached : (x m : ℕ) (is : List Item) → Items arch x is → FirstIsOf (setting_of arch) m is → (h : ℕ) × Reaches arch x h × ((handler arch h).monitor ≡ m)
  first_reached x m [] i f = absurd f
  first_reached x m ((to.Handler h, v) ∷ rest) i f = (h, i.0, f)
  first_reached x m ((to.Output o, v) ∷ rest) i f = absurd f

-- ---- the monitor exists

abbrev AreThere : Arch → List ℕ → Type 0
AreThere arch ks = (k : ℕ) → In k ks → k < length arch.handlers

numbered_there : (arch : Arch) (p : ℕ → Bool) → AreThere arch (filter p (handler_numbers arch))
numbered_there arch p k h = number_below (length arch.handlers) k (filter_has p (handler_numbers arch) k h).0

spread_there : (arch : Arch) (n : ℕ) (hs : List ℕ) → AreThere arch hs → AreThere arch (spread_times arch n hs)
spread_there arch zero hs h = h
spread_there arch (suc n) hs h = spread_there arch n (spread arch hs) (numbered_there arch _)

reached_there : (arch : Arch) (s : ℕ) → AreThere arch (reached_by arch s)
reached_there arch s = spread_there arch (length arch.handlers) (handlers_on arch (on.Source s)) (numbered_there arch _)

monitor_there : (arch : Arch) (h : ℕ) → IsWellNumbered arch → h < length arch.handlers → (handler arch h).monitor < length arch.monitors
monitor_there arch h numbered l = (numbered.handlers h no_handler l).monitor

-- a monitor that is due in a task is there, and its source touches it
pub touches_due : (arch : Arch) (events : Events) → IsWellNumbered arch → (ms : List Mark) (a : Atomic) → replay (system_of arch) events ms ≡ Some a
    → (x m : ℕ) → IsDue (setting_of arch) a x m → (m < length arch.monitors) × (touches arch x m ≡ true)
touches_due arch events numbered ms a e x m due =
    let f = first_reached arch events x m due.0 (pending_reached arch events ms a e x due.0 due.1) due.2 in
    let listed = reached_is_listed arch x f.0 numbered.listeners f.1 in (
      subst (λ m. m < length arch.monitors) f.2 (monitor_there arch f.0 numbered (reached_there arch x f.0 listed)),
      has_any (λ h. (handler arch h).monitor == m) (reached_by arch x) f.0 listed (eq-eqb (handler arch f.0).monitor m f.2),
    )
