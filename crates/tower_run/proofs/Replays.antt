-- In a replay each value fits its type.
use Rattle.std.proofs.Common.{◌≡◌, ◌∙◌, ℕ, ◌+◌, ◌<◌, pos, Bool, true, false, List, [], ◌∷◌, ◌++◌, map, fold, take, length, cond, Option, Some, None, refl, sym, ap, subst, add-one, slice_get, slice_set, slice_index_or, length-set}
use Rattle.std.specs.Prelude.{All, option_and_then}
use Rattle.std.proofs.lemmas.List.Elements.{All-append, All-cons, All-nil, All-head, All-tail}
use Rattle.std.proofs.lemmas.Option.{same_Some, none-some, get_or_from_slice_get}
use Rattle.tower_types.specs.Value.{Value, word, parts, no_values, flat}
use Rattle.tower_syntax.specs.declared.arch.SourceKind.{SourceKind}
use Rattle.tower_syntax.specs.declared.arch.SourceKind.TheVariants as kind
use Rattle.tower_syntax.specs.declared.arch.Listener.TheVariants as to
use Rattle.tower_syntax.specs.declared.event.Mark.{Mark}
use Rattle.tower_syntax.specs.declared.event.Mark.TheVariants as mark
use Rattle.tower_syntax.specs.Arch.{Arch, Entry, Events}
use Rattle.tower_syntax.specs.Arrival.{ticks, brought}
use Rattle.tower_syntax.specs.Typed.{IsTyped}
use Rattle.tower_syntax.specs.WellNumbered.{IsWellNumbered}
use Rattle.tower_meaning.specs.System.{Item}
use Rattle.tower_meaning.specs.Atomic.{Atomic, act, arrive, begin, run, put, handle, may_start, replay, start, first_queue, Fit}
use Rattle.tower_meaning.specs.Atomic as meaning
use Rattle.tower_meaning.proofs.KeepsTypes.{keeps_types, brings_fitting}
use Rattle.task_code.specs.Machine.{Machine}
use Rattle.task_alone.specs.Setting.{Setting, KeepsTypes, Fits, FitItems}
use Rattle.task_alone.specs.SettingOf.{setting_of}
use Rattle.task_alone.proofs.Lists.{get_unmap, get_within, after_set}
use Rattle.lock_reduction.proofs.Arrivals.{QueuedFit, all_received}

abbrev pub OutputsFit : Setting → List (ℕ × Value) → Type 0
OutputsFit s outputs = All (λ o. s.fits_item (to.Output o.0, o.1) ≡ true) outputs

pub record AreFitting (s : Setting) (a : Atomic) : Type 0 where
  pub monitors : (m : ℕ) (v : Value) → slice_get a.monitors m ≡ Some v → s.fits_monitor m v ≡ true
  pub count : length a.monitors ≡ length s.system.zeros
  pub queues : QueuedFit s a.queues
  pub pending : (x : ℕ) (items : List Item) → slice_get a.pending x ≡ Some items → FitItems s items
  pub outputs : OutputsFit s a.outputs

module _ (s : Setting) (events : Events) (keeps : KeepsTypes s) (fits : Fits s events) where
  abbrev ItemFits : Item → Type 0
  ItemFits i = s.fits_item i ≡ true

  start_queued : QueuedFit s (map first_queue s.system.kinds)
  start_queued x q e =
      let f = get_unmap first_queue s.system.kinds x q e in
      subst (All (λ v. s.fits_message x v ≡ true)) f.2 (by f.0 f.1)
    where
      by : (k : SourceKind) → slice_get s.system.kinds x ≡ Some k → All (λ v. s.fits_message x v ≡ true) (first_queue k)
      by kind.Init is = All-cons (λ v. s.fits_message x v ≡ true) (word (pos 0)) [] (keeps.first_message x is) (All-nil (λ v. s.fits_message x v ≡ true))
      by (kind.Period ms) is = All-nil (λ v. s.fits_message x v ≡ true)
      by kind.Signal is = All-nil (λ v. s.fits_message x v ≡ true)

  start_pending : (x : ℕ) (items : List Item) → slice_get (map (λ (k : SourceKind). []) s.system.kinds) x ≡ Some items → FitItems s items
  start_pending x items e =
      let f = get_unmap (λ (k : SourceKind). []) s.system.kinds x items e in
      subst (FitItems s) f.2 (All-nil ItemFits)

  start_fits : AreFitting s (start s.system)
  start_fits = record { monitors = keeps.zeros; count = refl; queues = start_queued; pending = start_pending; outputs = All-nil (λ o. s.fits_item (to.Output o.0, o.1) ≡ true) }

  module _ (a : Atomic) (f : AreFitting s a) where
    is_now : (b c : Atomic) → Some b ≡ Some c → AreFitting s b → AreFitting s c
    is_now b c e g = subst (AreFitting s) (same_Some b c e) g

    -- an entry arrives
    entry_fits : (e : Entry) → slice_get events.entries a.place ≡ Some e
        → AreFitting s (fold (meaning.bring s.system) (record a { place = a.place + 1 }) (brought s.system.kinds (ticks (take (a.place + 1) events.entries)) e))
    entry_fits e at =
        let bs : List (ℕ × Value) = brought s.system.kinds (ticks (take (a.place + 1) events.entries)) e in
        let all : All (λ b. s.fits_message b.0 b.1 ≡ true) bs = subst (λ n. All (λ b. s.fits_message b.0 b.1 ≡ true) (brought s.system.kinds (ticks (take n events.entries)) e)) (sym (add-one a.place)) (fits.messages a.place e at) in
        let m : Machine = record { tasks = []; locks = []; queues = map (map flat) a.queues; lost = a.lost; place = 0 } in
        let g = all_received s s.system.depths refl bs m (record a { place = a.place + 1 }) refl refl f.queues all in
        record {
          monitors = λ k v e. f.monitors k v (ap (λ l. slice_get l k) (sym g.monitors) ∙ e);
          count = ap length g.monitors ∙ f.count;
          queues = g.fit;
          pending = λ x items e. f.pending x items (ap (λ l. slice_get l x) (sym g.pending) ∙ e);
          outputs = subst (OutputsFit s) (sym g.outputs) f.outputs;
        }

    arrives : (o : Option Entry) → slice_get events.entries a.place ≡ o → (b : Atomic) → arrive s.system events a o ≡ Some b → AreFitting s b
    arrives None at b e = absurd (none-some b e)
    arrives (Some entry) at b e = is_now _ b e (entry_fits entry at)

    -- a source takes a message
    begun_fits : (x : ℕ) (v : Value) (rest : List Value) → slice_get a.queues x ≡ Some (v ∷ rest) → AreFitting s (record a { queues = slice_set a.queues x rest; pending = slice_set a.pending x (s.system.subscribers x v) })
    begun_fits x v rest at =
        let all = f.queues x (v ∷ rest) at in
        record {
          monitors = f.monitors;
          count = f.count;
          queues = after_set (λ y q. All (λ v. s.fits_message y v ≡ true) q) a.queues x rest f.queues (All-tail (λ v. s.fits_message x v ≡ true) v rest all);
          pending = after_set (λ y items. FitItems s items) a.pending x (s.system.subscribers x v) f.pending (keeps.delivered x v (All-head (λ v. s.fits_message x v ≡ true) v rest all));
          outputs = f.outputs;
        }

    begins_if : (may : Bool) (x : ℕ) (v : Value) (rest : List Value) → slice_get a.queues x ≡ Some (v ∷ rest) → (b : Atomic)
        → cond may (Some (record a { queues = slice_set a.queues x rest; pending = slice_set a.pending x (s.system.subscribers x v) })) None ≡ Some b → AreFitting s b
    begins_if true x v rest at b e = is_now _ b e (begun_fits x v rest at)
    begins_if false x v rest at b e = absurd (none-some b e)

    begins : (x : ℕ) (o : Option (List Item)) (q : Option (List Value)) → slice_get a.queues x ≡ q → (b : Atomic) → begin s.system a x o q ≡ Some b → AreFitting s b
    begins x None q at b e = absurd (none-some b e)
    begins x (Some (i ∷ items)) q at b e = absurd (none-some b e)
    begins x (Some []) None at b e = absurd (none-some b e)
    begins x (Some []) (Some []) at b e = absurd (none-some b e)
    begins x (Some []) (Some (v ∷ rest)) at b e = begins_if (may_start s.system a x) x v rest at b e

    -- a handler runs
    handled_fits : (x h : ℕ) (v : Value) (rest : List Item) → FitItems s ((to.Handler h, v) ∷ rest) → AreFitting s (handle s.system a x h v rest)
    handled_fits x h v rest all =
        let m : ℕ = s.system.monitor h in
        let first : s.fits_item (to.Handler h, v) ≡ true = All-head ItemFits (to.Handler h, v) rest all in
        let there = get_within a.monitors m (subst (λ n. m < n) (sym f.count) (keeps.has_monitor h v first)) in
        let was : Value = slice_index_or a.monitors m (parts no_values) in
        let is_was : was ≡ there.0 = get_or_from_slice_get a.monitors m there.0 (parts no_values) there.1 in
        let fit : s.fits_monitor m was ≡ true = ap (s.fits_monitor m) is_was ∙ f.monitors m there.0 there.1 in
        let done = s.system.effect h was v in
        record {
          monitors = after_set (λ k w. s.fits_monitor k w ≡ true) a.monitors m done.states f.monitors (keeps.after_fits h was v fit first);
          count = length-set a.monitors m done.states ∙ f.count;
          queues = f.queues;
          pending = after_set (λ y items. FitItems s items) a.pending x (s.system.follow h done.lists ++ rest) f.pending
              (All-append ItemFits (s.system.follow h done.lists) rest (keeps.sent_fit h was v fit first) (All-tail ItemFits (to.Handler h, v) rest all));
          outputs = f.outputs;
        }

    handles : (x : ℕ) (o : Option (List Item)) → slice_get a.pending x ≡ o → (b : Atomic) → run s.system a x o ≡ Some b → AreFitting s b
    handles x None at b e = absurd (none-some b e)
    handles x (Some []) at b e = absurd (none-some b e)
    handles x (Some ((to.Handler h, v) ∷ rest)) at b e = is_now _ b e (handled_fits x h v rest (f.pending x ((to.Handler h, v) ∷ rest) at))
    handles x (Some ((to.Output o, v) ∷ rest)) at b e = absurd (none-some b e)

    -- an output is made
    made_fits : (x o : ℕ) (v : Value) (rest : List Item) → FitItems s ((to.Output o, v) ∷ rest) → AreFitting s (record a { pending = slice_set a.pending x rest; outputs = a.outputs ++ (o, v) ∷ [] })
    made_fits x o v rest all =
        record {
          monitors = f.monitors;
          count = f.count;
          queues = f.queues;
          pending = after_set (λ y items. FitItems s items) a.pending x rest f.pending (All-tail ItemFits (to.Output o, v) rest all);
          outputs = All-append (λ o. s.fits_item (to.Output o.0, o.1) ≡ true) a.outputs ((o, v) ∷ []) f.outputs
              (All-cons (λ o. s.fits_item (to.Output o.0, o.1) ≡ true) (o, v) [] (All-head ItemFits (to.Output o, v) rest all) (All-nil (λ o. s.fits_item (to.Output o.0, o.1) ≡ true)));
        }

    makes : (x : ℕ) (o : Option (List Item)) → slice_get a.pending x ≡ o → (b : Atomic) → put a x o ≡ Some b → AreFitting s b
    makes x None at b e = absurd (none-some b e)
    makes x (Some []) at b e = absurd (none-some b e)
    makes x (Some ((to.Handler h, v) ∷ rest)) at b e = absurd (none-some b e)
    makes x (Some ((to.Output o, v) ∷ rest)) at b e = is_now _ b e (made_fits x o v rest (f.pending x ((to.Output o, v) ∷ rest) at))

    acts : (m : Mark) (b : Atomic) → act s.system events a m ≡ Some b → AreFitting s b
    acts mark.Arrive b e = arrives (slice_get events.entries a.place) refl b e
    acts (mark.Start x) b e = begins x (slice_get a.pending x) (slice_get a.queues x) refl b e
    acts (mark.Run x) b e = handles x (slice_get a.pending x) refl b e
    acts (mark.Out x) b e = makes x (slice_get a.pending x) refl b e

  one : (m : Mark) (o : Option Atomic) → ((a : Atomic) → o ≡ Some a → AreFitting s a) → (b : Atomic) → option_and_then (λ t. act s.system events t m) o ≡ Some b → AreFitting s b
  one m None fit b e = absurd (none-some b e)
  one m (Some a) fit b e = acts a (fit a refl) m b e

  all_acts : (ms : List Mark) (o : Option Atomic) → ((a : Atomic) → o ≡ Some a → AreFitting s a) → (b : Atomic) → fold (λ s' m. option_and_then (λ t. act s.system events t m) s') o ms ≡ Some b → AreFitting s b
  all_acts [] o fit b e = fit b e
  all_acts (m ∷ ms) o fit b e = all_acts ms (option_and_then (λ t. act s.system events t m) o) (one m o fit) b e

  pub replay_fits : (ms : List Mark) (a : Atomic) → replay s.system events ms ≡ Some a → AreFitting s a
  replay_fits ms a e = all_acts ms (Some (start s.system)) (λ b h. subst (AreFitting s) (same_Some (start s.system) b h) start_fits) a e

pub setting_keeps : (arch : Arch) → IsWellNumbered arch → IsTyped arch → KeepsTypes (setting_of arch)
setting_keeps arch numbered typed =
    let k = keeps_types arch numbered typed in
    record { zeros = k.zeros; first_message = k.first_message; delivered = k.delivered; has_monitor = k.has_monitor; after_fits = k.after_fits; sent_fit = k.sent_fit }

-- each output of a replay fits its type
pub outputs_fit : (arch : Arch) (events : Events) → IsWellNumbered arch → IsTyped arch → Fit arch events → (ms : List Mark) (a : Atomic) → replay (setting_of arch).system events ms ≡ Some a
    → OutputsFit (setting_of arch) a.outputs
outputs_fit arch events numbered typed fit ms a e =
    let fits : Fits (setting_of arch) events = record { kinds = fit.kinds; depths = fit.depths; messages = brings_fitting arch events typed fit } in
    (replay_fits (setting_of arch) events (setting_keeps arch numbered typed) fits ms a e).outputs
