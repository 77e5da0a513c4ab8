-- A mark keeps each value within its type.
use Rattle.std.proofs.Common.{◌≡◌, ◌∙◌, ℕ, zero, suc, ◌+◌, ◌<◌, pos, Bool, true, false, List, [], ◌∷◌, ◌++◌, map, fold, take, length, cond, Option, Some, None, refl, sym, ap, subst, add-one, slice_get, slice_set, slice_index, slice_index_or, arith}
use Rattle.std.specs.Prelude.{All, option_and_then}
use Rattle.std.proofs.lemmas.List.{length-map, length-set}
use Rattle.std.proofs.lemmas.List.Elements.{All-append, All-cons, All-nil, All-head, All-tail, All-push}
use Rattle.std.proofs.lemmas.Option.{same_Some, none-some, get_or_from_slice_get}
use Rattle.tower_types.specs.Value.{Value, word, parts, no_values}
use Rattle.tower_syntax.specs.declared.arch.SourceKind.{SourceKind}
use Rattle.tower_syntax.specs.declared.arch.SourceKind.TheVariants as kind
use Rattle.tower_syntax.specs.declared.arch.Listener.TheVariants as to
use Rattle.tower_syntax.specs.declared.event.Mark.{Mark}
use Rattle.tower_syntax.specs.declared.event.Mark.TheVariants as mark
use Rattle.tower_syntax.specs.Arch.{Arch, Entry, Events}
use Rattle.tower_syntax.specs.Arrival.{ticks, brought, is_full}
use Rattle.tower_syntax.specs.Typed.{IsTyped}
use Rattle.tower_syntax.specs.WellNumbered.{IsWellNumbered}
use Rattle.tower_meaning.specs.System.{Item, System, system_of, zero_monitor}
use Rattle.tower_meaning.specs.Atomic.{Atomic, act, arrive, begin, bring, run, put, handle, may_start, start, first_queue, Fit}
use Rattle.tower_meaning.specs.Fits.{KeepsTypes, fits_monitor, fits_message, fits_item, FitItems, FitBrought}
use Rattle.tower_meaning.proofs.KeepsTypes.{keeps_types, brings_fitting}
use Rattle.atomic_state.specs.Fitting.{FitsState}
use Rattle.atomic_state.proofs.Lists.{after_set, at_or, get_mapped, got_within}

module _ (arch : Arch) where
  abbrev Fits : ℕ → Value → Type 0
  Fits x v = fits_message arch x v ≡ true

  abbrev ItemFits : Item → Type 0
  ItemFits i = fits_item arch i ≡ true

  abbrev OutputFits : ℕ × Value → Type 0
  OutputFits o = fits_item arch (to.Output o.0, o.1) ≡ true

  -- a message comes
  bring_if : (full : Bool) (s : Atomic) (m : ℕ × Value) → FitsState arch s → Fits m.0 m.1 → let queue = slice_index_or s.queues m.0 [] in
      FitsState arch (cond full (record s { lost = slice_set s.lost m.0 (slice_index s.lost m.0 + 1) }) (record s { queues = slice_set s.queues m.0 (queue ++ m.1 ∷ []) }))
  bring_if true s m f h = record {
    monitors = f.monitors;
    monitor_count = f.monitor_count;
    queues = f.queues;
    queue_count = f.queue_count;
    pending = f.pending;
    pending_count = f.pending_count;
    lost_count = length-set s.lost m.0 (slice_index s.lost m.0 + 1) ∙ f.lost_count;
    outputs = f.outputs;
  }
  bring_if false s m f h =
      let queue : List Value = slice_index_or s.queues m.0 [] in
      record {
        monitors = f.monitors;
        monitor_count = f.monitor_count;
        queues = after_set (λ x q. All (Fits x) q) s.queues m.0 (queue ++ m.1 ∷ []) f.queues (All-push (Fits m.0) queue m.1 (at_or (λ x q. All (Fits x) q) s.queues m.0 [] f.queues (All-nil (Fits m.0))) h);
        queue_count = length-set s.queues m.0 (queue ++ m.1 ∷ []) ∙ f.queue_count;
        pending = f.pending;
        pending_count = f.pending_count;
        lost_count = f.lost_count;
        outputs = f.outputs;
      }

  brought_fits : (ms : List (ℕ × Value)) (s : Atomic) → FitsState arch s → FitBrought arch ms → FitsState arch (fold (bring (system_of arch)) s ms)
  brought_fits [] s f h = f
  brought_fits (m ∷ ms) s f h =
      brought_fits ms (bring (system_of arch) s m)
      (bring_if (is_full (slice_index_or (system_of arch).depths m.0 None) (length (slice_index_or s.queues m.0 []))) s m f (All-head (λ (m : ℕ × Value). Fits m.0 m.1) m ms h))
      (All-tail (λ (m : ℕ × Value). Fits m.0 m.1) m ms h)

  module _ (numbered : IsWellNumbered arch) (typed : IsTyped arch) (events : Events) (fit : Fit arch events) where
    keeps : KeepsTypes arch
    keeps = keeps_types arch numbered typed

    start_queued : (x : ℕ) (q : List Value) → slice_get (map first_queue (system_of arch).kinds) x ≡ Some q → All (Fits x) q
    start_queued x q e =
        let f = get_mapped first_queue (system_of arch).kinds x q e in
        subst (All (Fits x)) f.2 (by f.0 f.1)
      where
        by : (k : SourceKind) → slice_get (system_of arch).kinds x ≡ Some k → All (Fits x) (first_queue k)
        by kind.Init is = All-cons (Fits x) (word (pos 0)) [] (keeps.first_message x is) (All-nil (Fits x))
        by (kind.Period ms) is = All-nil (Fits x)
        by kind.Signal is = All-nil (Fits x)

    start_pending : (x : ℕ) (items : List Item) → slice_get (map (λ (k : SourceKind). []) (system_of arch).kinds) x ≡ Some items → FitItems arch items
    start_pending x items e =
        let f = get_mapped (λ (k : SourceKind). []) (system_of arch).kinds x items e in
        subst (FitItems arch) f.2 (All-nil ItemFits)

    pub start_fits : FitsState arch (start (system_of arch))
    start_fits = record {
      monitors = keeps.zeros;
      monitor_count = length-map arch.monitors (zero_monitor arch);
      queues = start_queued;
      queue_count = length-map (system_of arch).kinds first_queue ∙ length-map arch.sources _;
      pending = start_pending;
      pending_count = length-map (system_of arch).kinds _ ∙ length-map arch.sources _;
      lost_count = length-map (system_of arch).kinds _ ∙ length-map arch.sources _;
      outputs = All-nil OutputFits;
    }

    module _ (a : Atomic) (f : FitsState arch a) where
      is_now : (b c : Atomic) → Some b ≡ Some c → FitsState arch b → FitsState arch c
      is_now b c e g = subst (FitsState arch) (same_Some b c e) g

      moved : FitsState arch (record a { place = a.place + 1 })
      moved = record {
        monitors = f.monitors;
        monitor_count = f.monitor_count;
        queues = f.queues;
        queue_count = f.queue_count;
        pending = f.pending;
        pending_count = f.pending_count;
        lost_count = f.lost_count;
        outputs = f.outputs;
      }

      arrives : (o : Option Entry) → slice_get events.entries a.place ≡ o → (b : Atomic) → arrive (system_of arch) events a o ≡ Some b → FitsState arch b
      arrives None at b e = absurd (none-some b e)
      arrives (Some entry) at b e =
          let all : FitBrought arch (brought (system_of arch).kinds (ticks (take (a.place + 1) events.entries)) entry) =
          subst (λ n. FitBrought arch (brought (system_of arch).kinds (ticks (take n events.entries)) entry)) (sym (add-one a.place)) (brings_fitting arch events typed fit a.place entry at) in
          is_now _ b e (brought_fits _ (record a { place = a.place + 1 }) moved all)

      begun_fits : (x : ℕ) (v : Value) (rest : List Value) → slice_get a.queues x ≡ Some (v ∷ rest) → FitsState arch (record a { queues = slice_set a.queues x rest; pending = slice_set a.pending x ((system_of arch).subscribers x v) })
      begun_fits x v rest at =
          let all = f.queues x (v ∷ rest) at in
          record {
            monitors = f.monitors;
            monitor_count = f.monitor_count;
            queues = after_set (λ y q. All (Fits y) q) a.queues x rest f.queues (All-tail (Fits x) v rest all);
            queue_count = length-set a.queues x rest ∙ f.queue_count;
            pending = after_set (λ y items. FitItems arch items) a.pending x ((system_of arch).subscribers x v) f.pending (keeps.delivered x v (All-head (Fits x) v rest all));
            pending_count = length-set a.pending x ((system_of arch).subscribers x v) ∙ f.pending_count;
            lost_count = f.lost_count;
            outputs = f.outputs;
          }

      begins_if : (may : Bool) (x : ℕ) (v : Value) (rest : List Value) → slice_get a.queues x ≡ Some (v ∷ rest) → (b : Atomic)
          → cond may (Some (record a { queues = slice_set a.queues x rest; pending = slice_set a.pending x ((system_of arch).subscribers x v) })) None ≡ Some b → FitsState arch b
      begins_if true x v rest at b e = is_now _ b e (begun_fits x v rest at)
      begins_if false x v rest at b e = absurd (none-some b e)

      begins : (x : ℕ) (o : Option (List Item)) (q : Option (List Value)) → slice_get a.queues x ≡ q → (b : Atomic) → begin (system_of arch) a x o q ≡ Some b → FitsState arch b
      begins x None q at b e = absurd (none-some b e)
      begins x (Some (i ∷ items)) q at b e = absurd (none-some b e)
      begins x (Some []) None at b e = absurd (none-some b e)
      begins x (Some []) (Some []) at b e = absurd (none-some b e)
      begins x (Some []) (Some (v ∷ rest)) at b e = begins_if (may_start (system_of arch) a x) x v rest at b e

      -- the monitor's value of a handler that gets an item
      pub monitor_fits : (h : ℕ) (v : Value) → ItemFits (to.Handler h, v) → fits_monitor arch ((system_of arch).monitor h) (slice_index_or a.monitors ((system_of arch).monitor h) (parts no_values)) ≡ true
      monitor_fits h v first =
          let m : ℕ = (system_of arch).monitor h in
          let there = got_within a.monitors m (omega (arith, keeps.has_monitor h v first, f.monitor_count, length-map arch.monitors (zero_monitor arch))) in
          ap (fits_monitor arch m) (get_or_from_slice_get a.monitors m there.0 (parts no_values) there.1) ∙ f.monitors m there.0 there.1

      handled_fits : (x h : ℕ) (v : Value) (rest : List Item) → FitItems arch ((to.Handler h, v) ∷ rest) → FitsState arch (handle (system_of arch) a x h v rest)
      handled_fits x h v rest all =
          let m : ℕ = (system_of arch).monitor h in
          let first = All-head ItemFits (to.Handler h, v) rest all in
          let was : Value = slice_index_or a.monitors m (parts no_values) in
          let fits = monitor_fits h v first in
          let done = (system_of arch).effect h was v in
          record {
            monitors = after_set (λ k w. fits_monitor arch k w ≡ true) a.monitors m done.states f.monitors (keeps.after_fits h was v fits first);
            monitor_count = length-set a.monitors m done.states ∙ f.monitor_count;
            queues = f.queues;
            queue_count = f.queue_count;
            pending = after_set (λ y items. FitItems arch items) a.pending x ((system_of arch).follow h done.lists ++ rest) f.pending
                (All-append ItemFits ((system_of arch).follow h done.lists) rest (keeps.sent_fit h was v fits first) (All-tail ItemFits (to.Handler h, v) rest all));
            pending_count = length-set a.pending x ((system_of arch).follow h done.lists ++ rest) ∙ f.pending_count;
            lost_count = f.lost_count;
            outputs = f.outputs;
          }

      handles : (x : ℕ) (o : Option (List Item)) → slice_get a.pending x ≡ o → (b : Atomic) → run (system_of arch) a x o ≡ Some b → FitsState arch b
      handles x None at b e = absurd (none-some b e)
      handles x (Some []) at b e = absurd (none-some b e)
      handles x (Some ((to.Handler h, v) ∷ rest)) at b e = is_now _ b e (handled_fits x h v rest (f.pending x ((to.Handler h, v) ∷ rest) at))
      handles x (Some ((to.Output o, v) ∷ rest)) at b e = absurd (none-some b e)

      made_fits : (x o : ℕ) (v : Value) (rest : List Item) → FitItems arch ((to.Output o, v) ∷ rest) → FitsState arch (record a { pending = slice_set a.pending x rest; outputs = a.outputs ++ (o, v) ∷ [] })
      made_fits x o v rest all =
          record {
            monitors = f.monitors;
            monitor_count = f.monitor_count;
            queues = f.queues;
            queue_count = f.queue_count;
            pending = after_set (λ y items. FitItems arch items) a.pending x rest f.pending (All-tail ItemFits (to.Output o, v) rest all);
            pending_count = length-set a.pending x rest ∙ f.pending_count;
            lost_count = f.lost_count;
            outputs = All-push OutputFits a.outputs (o, v) f.outputs (All-head ItemFits (to.Output o, v) rest all);
          }

      makes : (x : ℕ) (o : Option (List Item)) → slice_get a.pending x ≡ o → (b : Atomic) → put a x o ≡ Some b → FitsState arch b
      makes x None at b e = absurd (none-some b e)
      makes x (Some []) at b e = absurd (none-some b e)
      makes x (Some ((to.Handler h, v) ∷ rest)) at b e = absurd (none-some b e)
      makes x (Some ((to.Output o, v) ∷ rest)) at b e = is_now _ b e (made_fits x o v rest (f.pending x ((to.Output o, v) ∷ rest) at))

      pub act_fits : (m : Mark) (b : Atomic) → act (system_of arch) events a m ≡ Some b → FitsState arch b
      act_fits mark.Arrive b e = arrives (slice_get events.entries a.place) refl b e
      act_fits (mark.Start x) b e = begins x (slice_get a.pending x) (slice_get a.queues x) refl b e
      act_fits (mark.Run x) b e = handles x (slice_get a.pending x) refl b e
      act_fits (mark.Out x) b e = makes x (slice_get a.pending x) refl b e
