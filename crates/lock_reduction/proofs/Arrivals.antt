-- What an entry of the record does to the machine, and to the replay beside it.
use Rattle.std.proofs.Common.{◌≡◌, ◌∙◌, ℕ, suc, ◌+◌, ℤ, Bool, true, false, List, [], ◌∷◌, ◌++◌, map, fold, length, cond, Option, Some, None, refl, sym, ap, ap₂, subst, add-one, slice_get, slice_set, slice_index, slice_index_or}
use Rattle.std.specs.Prelude.{All}
use Rattle.std.proofs.lemmas.List.{map-set, map-append, length-map}
use Rattle.std.proofs.lemmas.List.Elements.{All-append, All-cons, All-nil, All-head, All-tail}
use Rattle.tower_types.specs.Value.{Value, flat}
use Rattle.tower_syntax.specs.Arrival.{is_full}
use Rattle.tower_meaning.specs.Atomic.{Atomic}
use Rattle.tower_meaning.specs.Atomic as meaning
use Rattle.task_code.specs.Machine.{Lock, Machine, queue}
use Rattle.task_code.specs.Machine as machine
use Rattle.task_alone.specs.Setting.{Setting}
use Rattle.task_alone.proofs.Lists.{after_set, get_or_map, all_of_queue}

-- each waiting message fits its source
abbrev pub QueuedFit : Setting → List (List Value) → Type 0
QueuedFit s qs = (x : ℕ) (q : List Value) → slice_get qs x ≡ Some q → All (λ v. s.fits_message x v ≡ true) q

-- the queues and the lost numbers agree, and nothing else has changed
pub record Received (s : Setting) (m m' : Machine) (a a' : Atomic) : Type 0 where
  pub queues : m'.queues ≡ map (map flat) a'.queues
  pub lost : m'.lost ≡ a'.lost
  pub fit : QueuedFit s a'.queues
  pub tasks : m'.tasks ≡ m.tasks
  pub locks : m'.locks ≡ m.locks
  pub place : m'.place ≡ m.place
  pub pending : a'.pending ≡ a.pending
  pub monitors : a'.monitors ≡ a.monitors
  pub outputs : a'.outputs ≡ a.outputs
  pub record_place : a'.place ≡ a.place

one_more : (qs : List (List Value)) (x : ℕ) (v : Value) → slice_set (map (map flat) qs) x (slice_index_or (map (map flat) qs) x [] ++ flat v ∷ []) ≡ map (map flat) (slice_set qs x (slice_index_or qs x [] ++ v ∷ []))
one_more qs x v =
    ap (λ q. slice_set (map (map flat) qs) x (q ++ flat v ∷ [])) (get_or_map (map flat) qs x refl)
    ∙ ap (slice_set (map (map flat) qs) x) (sym (map-append flat (slice_index_or qs x []) (v ∷ [])))
    ∙ sym (map-set (map flat) qs x (slice_index_or qs x [] ++ v ∷ []))

module _ (s : Setting) (depths : List (Option ℕ)) (same : depths ≡ s.system.depths) where
  abbrev dropped : Machine → ℕ → Machine
  dropped m x = record m { lost = slice_set m.lost x (suc (slice_index m.lost x)) }

  abbrev queued : Machine → ℕ → List ℤ → Machine
  queued m x ws = record m { queues = slice_set m.queues x (queue m x ++ ws ∷ []) }

  abbrev dropped_there : Atomic → ℕ → Atomic
  dropped_there a x = record a { lost = slice_set a.lost x (slice_index a.lost x + 1) }

  abbrev queued_there : Atomic → ℕ → Value → Atomic
  queued_there a x v = record a { queues = slice_set a.queues x (slice_index_or a.queues x [] ++ v ∷ []) }

  module _ (m : Machine) (a : Atomic) (x : ℕ) (v : Value) (q : m.queues ≡ map (map flat) a.queues) (l : m.lost ≡ a.lost) (fit : QueuedFit s a.queues) (now : s.fits_message x v ≡ true) where
    either : (full : Bool) → Received s m (cond full (dropped m x) (queued m x (flat v))) a (cond full (dropped_there a x) (queued_there a x v))
    either true = record {
      queues = q;
      lost = ap (λ n. slice_set n x (suc (slice_index n x))) l ∙ ap (slice_set a.lost x) (sym (add-one (slice_index a.lost x)));
      fit = fit;
      tasks = refl;
      locks = refl;
      place = refl;
      pending = refl;
      monitors = refl;
      outputs = refl;
      record_place = refl;
    }
    either false = record {
      queues = ap (λ qs. slice_set qs x (slice_index_or qs x [] ++ flat v ∷ [])) q ∙ one_more a.queues x v;
      lost = l;
      fit = after_set (λ y qu. All (λ v. s.fits_message y v ≡ true) qu) a.queues x (slice_index_or a.queues x [] ++ v ∷ []) fit
          (All-append (λ v. s.fits_message x v ≡ true) (slice_index_or a.queues x []) (v ∷ [])
          (all_of_queue (λ v. s.fits_message x v ≡ true) a.queues x (fit x))
          (All-cons (λ v. s.fits_message x v ≡ true) v [] now (All-nil (λ v. s.fits_message x v ≡ true))));
      tasks = refl;
      locks = refl;
      place = refl;
      pending = refl;
      monitors = refl;
      outputs = refl;
      record_place = refl;
    }

    as_long : length (queue m x) ≡ length (slice_index_or a.queues x [])
    as_long = ap (λ qs. length (slice_index_or qs x [])) q ∙ ap length (get_or_map (map flat) a.queues x refl) ∙ length-map (slice_index_or a.queues x []) flat

    as_full : is_full (slice_index_or depths x None) (length (queue m x)) ≡ is_full (slice_index_or s.system.depths x None) (length (slice_index_or a.queues x []))
    as_full = ap₂ (λ d n. is_full (slice_index_or d x None) n) same as_long

    one : Received s m (machine.bring depths m (x, flat v)) a (meaning.bring s.system a (x, v))
    one = subst (λ full. Received s m (cond full (dropped m x) (queued m x (flat v))) a (meaning.bring s.system a (x, v))) (sym as_full)
        (either (is_full (slice_index_or s.system.depths x None) (length (slice_index_or a.queues x []))))

  nothing : (m : Machine) (a : Atomic) → m.queues ≡ map (map flat) a.queues → m.lost ≡ a.lost → QueuedFit s a.queues → Received s m m a a
  nothing m a q l fit = record { queues = q; lost = l; fit = fit; tasks = refl; locks = refl; place = refl; pending = refl; monitors = refl; outputs = refl; record_place = refl }

  then_so : (m m' m'' : Machine) (a a' a'' : Atomic) → Received s m m' a a' → Received s m' m'' a' a'' → Received s m m'' a a''
  then_so m m' m'' a a' a'' f g = record {
    queues = g.queues;
    lost = g.lost;
    fit = g.fit;
    tasks = g.tasks ∙ f.tasks;
    locks = g.locks ∙ f.locks;
    place = g.place ∙ f.place;
    pending = g.pending ∙ f.pending;
    monitors = g.monitors ∙ f.monitors;
    outputs = g.outputs ∙ f.outputs;
    record_place = g.record_place ∙ f.record_place;
  }

  pub all_received : (bs : List (ℕ × Value)) (m : Machine) (a : Atomic) → m.queues ≡ map (map flat) a.queues → m.lost ≡ a.lost → QueuedFit s a.queues → All (λ b. s.fits_message b.0 b.1 ≡ true) bs → Received s m (fold (machine.bring depths) m (map (λ b. (b.0, flat b.1)) bs)) a (fold (meaning.bring s.system) a bs)
  all_received [] m a q l fit now = nothing m a q l fit
  all_received (b ∷ bs) m a q l fit now =
      let f = one m a b.0 b.1 q l fit (All-head (λ b. s.fits_message b.0 b.1 ≡ true) b bs now) in
      let m' : Machine = machine.bring depths m (b.0, flat b.1) in
      let a' : Atomic = meaning.bring s.system a b in
      then_so m m' _ a a' _ f (all_received bs m' a' f.queues f.lost f.fit (All-tail (λ b. s.fits_message b.0 b.1 ≡ true) b bs now))
