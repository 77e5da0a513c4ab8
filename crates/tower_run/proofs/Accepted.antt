-- What an accepted system gives to a program of its shape, and to its runs.
use Rattle.std.proofs.Common.{◌≡◌, ◌∙◌, ℕ, zero, suc, ◌<◌, ◌≤◌, true, false, is_some, List, [], ◌∷◌, ◌++◌, length, map, All, Option, Some, None, refl, sym, ap, subst, arith, slice_get, slice_index}
use Rattle.std.specs.Prelude.{nat_lt}
use Rattle.std.proofs.lemmas.List.{length-map}
use Rattle.std.proofs.lemmas.List.Elements.{All-cons, All-nil, All-head, All-tail}
use Rattle.std.proofs.lemmas.Bool.{false≢true}
use Rattle.std.proofs.lemmas.Bool.Decides.{nat_tests}
use Rattle.std.proofs.lemmas.Option.{same_Some, none-some, get_or_from_slice_get, slice_get_within}
use Rattle.tower_types.specs.declared.scalar.Scalar.TheVariants.{I64}
use Rattle.tower_types.specs.Ty.{Ty, Fields, scalar, shapes_of, shape_of, table_of, words, depth, depth_of_all}
use Rattle.tower_types.specs.Value.{Value, flat, fits}
use Rattle.tower_types.proofs.Flat.{both, length-flat}
use Rattle.tower_syntax.specs.declared.arch.SourceKind.{SourceKind}
use Rattle.tower_syntax.specs.declared.arch.SourceKind.TheVariants as kind
use Rattle.tower_syntax.specs.declared.arch.On.TheVariants as on
use Rattle.tower_syntax.specs.declared.arch.Listener.TheVariants as to
use Rattle.tower_syntax.specs.Arch.{Arch, Source, Monitor, Entry, tick, signal, Events}
use Rattle.tower_syntax.specs.Graph.{output}
use Rattle.tower_syntax.specs.WellNumbered.{has_depth, IsNumberedSource}
use Rattle.tower_syntax.specs.Typed.{HasItsMessage}
use Rattle.tower_syntax.specs.Weights.{states_of, monitor_words}
use Rattle.tower_meaning.specs.Atomic.{Fit, FitsSource}
use Rattle.tower_meaning.specs.Atomic.{FitsEntry as EntryFits}
use Rattle.task_code.specs.declared.program.Task.{Task}
use Rattle.task_code.specs.Program.{Program}
use Rattle.task_code.specs.Fits.{IsDepth, FitsKind, FitsSignal, FitsEntry, Fits}
use Rattle.lock_reduction.specs.Shaped.{Shaped, priority_and_words}
use Rattle.task_alone.specs.SettingOf.{setting_of}
use Rattle.task_alone.proofs.Lists.{get_map, get_unmap, get_within, all_at}
use Rattle.arch_types.specs.Outline.{each}
use Rattle.arch_types.proofs.Lists.{AllOf, all_left, all_right, each_of, looked}
use Rattle.arch_checks.specs.Kept.{IsSomeDepth}
use Rattle.arch_checks.specs.Sizes.{types_of, types_of_fields, bound_types, shapes}
use Rattle.arch_checks.specs.Laws.{IsSafe}
use Rattle.arch_checks.specs.Offences.{IsAccepted}
use Rattle.arch_checks.proofs.Accepted.{safe}
use Rattle.arch_checks.proofs.Lists.{map_all}
use Rattle.arch_checks.proofs.Goods.{wide_types, shallow_types}
use Rattle.arch_checks.proofs.Values.{low_value}
use Rattle.task_machine.specs.State.{State}
use Rattle.tower_report.specs.MarkText.{output_shape}
use Rattle.tower_report.specs.ValueText.{shapes_in, shapes_depth, shapes_words}
use Rattle.tower_run.specs.Pieces.{IsMessage, IsFitMonitor}
use Rattle.tower_run.proofs.Replays.{OutputsFit}

depth_is : (d : Option ℕ) → IsSomeDepth d → IsDepth d
depth_is None h = tt
depth_is (Some n) h = h

no_depth : (d : Option ℕ) → is_some d ≡ false → d ≡ None
no_depth None e = refl
no_depth (Some n) e = absurd (false≢true (sym e))

each_part : {X Y : Type 0} (P : Y → Type 0) (of : X → List Y) (xs : List X) → AllOf P (each of xs) → AllOf (λ x. AllOf P (of x)) xs
each_part P of [] h = tt
each_part P of (x ∷ xs) h = (all_left P (of x) (each of xs) h, each_part P of xs (all_right P (of x) (each of xs) h))

is_less : (m n : ℕ) → nat_lt m n ≡ true → m < n
is_less m n e = grind (arith, nat_tests)

module _ (arch : Arch) where
  abbrev IsLow : Ty → Type 0
  IsLow t = depth (shape_of arch.records t) ≤ 32

  low_fields : (fields : Fields) → AllOf IsLow (types_of_fields fields) → depth_of_all (shapes_of (map (λ f. shape_of arch.records f.1) fields)) ≤ 32
  low_fields [] h = omega arith
  low_fields (f ∷ fields) h = let r = low_fields fields h.1 in omega (arith, h.0, r)

  module _ (safe_arch : IsSafe arch) where
    low_types : AllOf IsLow (types_of arch)
    low_types =
        map_all (λ s. depth s ≤ 32) (shape_of arch.records) (types_of arch)
        (all_right (λ s. depth s ≤ 32) (table_of arch.records) (map (shape_of arch.records) (types_of arch))
        (each_of (λ s. depth s ≤ 32) (shapes arch) (shallow_types arch safe_arch safe_arch.numbers)))

    abbrev in_sources : List Ty
    in_sources = map (λ s. s.message) arch.sources

    abbrev in_channels : List Ty
    in_channels = map (λ c. c.message) arch.channels

    abbrev in_monitors : List Ty
    in_monitors = each (λ m. types_of_fields m.states) arch.monitors

    abbrev in_handlers : List Ty
    in_handlers = each bound_types arch.handlers

    not_handlers : AllOf IsLow (in_sources ++ in_channels ++ in_monitors)
    not_handlers = all_left IsLow (in_sources ++ in_channels ++ in_monitors) in_handlers low_types

    low_source : (x : ℕ) (q : Source) → slice_get arch.sources x ≡ Some q → IsLow q.message
    low_source x q e =
        at x arch.sources (map_all IsLow (λ s. s.message) arch.sources (all_left IsLow in_sources in_channels (all_left IsLow (in_sources ++ in_channels) in_monitors not_handlers))) e
      where
        at : (i : ℕ) (ss : List Source) → AllOf (λ s. IsLow s.message) ss → slice_get ss i ≡ Some q → IsLow q.message
        at i [] h e = absurd (none-some q e)
        at zero (s ∷ ss) h e = subst (λ z. IsLow z.message) (same_Some s q e) h.0
        at (suc i) (s ∷ ss) h e = at i ss h.1 e

    pub low_states : (m : ℕ) → shapes_depth (shapes_in arch.records (states_of arch m)) ≤ 32
    low_states m =
        low_fields (states_of arch m)
        (looked (λ fs. AllOf IsLow (types_of_fields fs)) (λ x. x.states) arch.monitors m []
        (each_part IsLow (λ m. types_of_fields m.states) arch.monitors (all_right IsLow (in_sources ++ in_channels) in_monitors not_handlers)) tt)

    pub low_output : (o : ℕ) → depth (output_shape arch o) ≤ 32
    low_output o = (wide_types arch safe_arch safe_arch.numbers).shallow (on.Channel (output arch o).channel)

    -- an output of the replay is a message with its words
    message_fits : (o : ℕ × Value) → (setting_of arch).fits_item (to.Output o.0, o.1) ≡ true → IsMessage arch (o.0, flat o.1)
    message_fits o h =
        let two = both (nat_lt o.0 (length arch.outputs)) (fits (output_shape arch o.0) o.1) h in
        record { exists = is_less o.0 (length arch.outputs) two.0; shallow = low_output o.0; whole = length-flat (output_shape arch o.0) o.1 two.1 }

    pub messages_fit : (os : List (ℕ × Value)) → OutputsFit (setting_of arch) os → All (IsMessage arch) (map (λ o. (o.0, flat o.1)) os)
    messages_fit [] h = All-nil (IsMessage arch)
    messages_fit (o ∷ os) h =
        let P : ℕ × Value → Type 0 = λ o. (setting_of arch).fits_item (to.Output o.0, o.1) ≡ true in
        All-cons (IsMessage arch) (o.0, flat o.1) (map (λ o. (o.0, flat o.1)) os) (message_fits o (All-head P o os h)) (messages_fit os (All-tail P o os h))

    module _ (p : Program) (shaped : Shaped arch p) where
      pub tasks_count : length p.tasks ≡ length arch.sources
      tasks_count = sym (length-map p.tasks (λ (t : Task). (t.priority, t.message))) ∙ ap length shaped.tasks ∙ length-map arch.sources (priority_and_words arch)

      pub monitors_count : length arch.monitors ≡ length p.monitors
      monitors_count = sym (ap length shaped.monitors ∙ length-map arch.monitors (monitor_words arch))

      -- the words of a task's messages are those of its source
      message_words : (x : ℕ) (q : Source) (t : Task) → slice_get arch.sources x ≡ Some q → slice_get p.tasks x ≡ Some t → t.message ≡ words (shape_of arch.records q.message)
      message_words x q t e f =
          let one = get_map (λ (t : Task). (t.priority, t.message)) p.tasks x t f in
          let two = get_map (priority_and_words arch) arch.sources x q e in
          let same : (t.priority, t.message) ≡ priority_and_words arch q = same_Some (t.priority, t.message) (priority_and_words arch q) (sym one ∙ ap (λ l. slice_get l x) shaped.tasks ∙ two) in
          ap (λ (z : ℕ × ℕ). z.1) same

      one_word : (x : ℕ) (q : Source) (t : Task) → slice_get arch.sources x ≡ Some q → slice_get p.tasks x ≡ Some t → q.message ≡ scalar I64 → t.message ≡ 1
      one_word x q t e f h = message_words x q t e f ∙ ap (λ m. words (shape_of arch.records m)) h

      kind_fits : (x : ℕ) (q : Source) (t : Task) → slice_get arch.sources x ≡ Some q → slice_get p.tasks x ≡ Some t → (k : SourceKind) → HasItsMessage arch q k → is_some q.depth ≡ has_depth arch.version k → IsSomeDepth q.depth → FitsKind k t q.depth
      kind_fits x q t e f kind.Init h d n = (one_word x q t e f h, no_depth q.depth d)
      kind_fits x q t e f (kind.Period ms) h d n = (one_word x q t e f h.0, depth_is q.depth n)
      kind_fits x q t e f kind.Signal h d n = depth_is q.depth n

      -- a monitor has the words of its states
      monitor_whole : (m : ℕ) → m < length arch.monitors → slice_index p.monitors m ≡ shapes_words (shapes_in arch.records (states_of arch m))
      monitor_whole m less =
          let there = get_within arch.monitors m less in
          let mapped : slice_get p.monitors m ≡ Some (monitor_words arch there.0) = ap (λ l. slice_get l m) shaped.monitors ∙ get_map (monitor_words arch) arch.monitors m there.0 there.1 in
          let states : states_of arch m ≡ there.0.states = get_or_from_slice_get (map (λ (x : Monitor). x.states) arch.monitors) m there.0.states [] (get_map (λ (x : Monitor). x.states) arch.monitors m there.0 there.1) in
          get_or_from_slice_get p.monitors m (monitor_words arch there.0) 0 mapped ∙ ap (λ fs. shapes_words (shapes_in arch.records fs)) (sym states)

      pub fit_monitor : (s : State) → s.program ≡ p → (m : ℕ) → m < length arch.monitors → IsFitMonitor arch s m
      fit_monitor s e m less = record {
        exists = less;
        monitors = monitors_count ∙ ap (λ (q : Program). length q.monitors) (sym e);
        shallow = low_states m;
        whole = ap (λ (q : Program). slice_index q.monitors m) e ∙ monitor_whole m less;
      }

      module _ (events : Events) (fit : Fit arch events) where
        source_fits : (x : ℕ) (k : SourceKind) (t : Task) (d : Option ℕ) → slice_get events.kinds x ≡ Some k → slice_get p.tasks x ≡ Some t → slice_get events.depths x ≡ Some d → FitsKind k t d
        source_fits x k t d has_kind has_task has_depth_at =
            let r = get_unmap (λ (s : Source). s.kind) arch.sources x k (ap (λ l. slice_get l x) (sym fit.kinds) ∙ has_kind) in
            let q : Source = r.0 in
            let there : slice_get arch.sources x ≡ Some q = r.1 in
            let depth_at : q.depth ≡ d = same_Some q.depth d (sym (get_map (λ (s : Source). s.depth) arch.sources x q there) ∙ ap (λ l. slice_get l x) (sym fit.depths) ∙ has_depth_at) in
            let fine : FitsKind q.kind t q.depth = kind_fits x q t there has_task q.kind (all_at (λ s. HasItsMessage arch s s.kind) arch.sources x q safe_arch.typed.sources there) (all_at (IsNumberedSource arch) arch.sources x q safe_arch.numbered.sources there).depth (all_at (λ s. IsSomeDepth s.depth) arch.sources x q safe_arch.numbers.depths there) in
            subst (λ j. FitsKind j t d) r.2 (subst (λ j. FitsKind q.kind t j) depth_at fine)

        signal_fits : (x : ℕ) (v : Value) (o : Option Source) → slice_get arch.sources x ≡ o → FitsSource arch v o → FitsSignal v (slice_get (map (λ s. s.kind) arch.sources) x) (slice_get p.tasks x)
        signal_fits x v None e h = absurd h
        signal_fits x v (Some q) e h =
            let kind_at : slice_get (map (λ (s : Source). s.kind) arch.sources) x ≡ Some kind.Signal = get_map (λ (s : Source). s.kind) arch.sources x q e ∙ ap Some h.0 in
            let there = get_within p.tasks x (subst (λ n. x < n) (sym tasks_count) (slice_get_within arch.sources x q e)) in
            let low : depth (shape_of arch.records q.message) ≤ 32 = low_source x q e in
            let below : depth (shape_of arch.records q.message) ≤ 32 → Rattle.tower_types.specs.Value.value_depth v ≤ 32 = λ l. (let b = low_value (shape_of arch.records q.message) v h.1 in omega (arith, l, b)) in
            subst (λ o. FitsSignal v o (slice_get p.tasks x)) (sym kind_at) (subst (λ o. FitsSignal v (Some kind.Signal) o) (sym there.1)
            (length-flat (shape_of arch.records q.message) v h.1 ∙ sym (message_words x q there.0 e there.1), below low))

        entries_fit : (es : List Entry) → All (EntryFits arch) es → All (FitsEntry (map (λ s. s.kind) arch.sources) p.tasks) es
        entries_fit [] h = All-nil (FitsEntry (map (λ s. s.kind) arch.sources) p.tasks)
        entries_fit (tick ∷ es) h = All-cons (FitsEntry (map (λ s. s.kind) arch.sources) p.tasks) tick es tt (entries_fit es (All-tail (EntryFits arch) tick es h))
        entries_fit (signal x v ∷ es) h =
            All-cons (FitsEntry (map (λ s. s.kind) arch.sources) p.tasks) (signal x v) es (signal_fits x v (slice_get arch.sources x) refl (All-head (EntryFits arch) (signal x v) es h)) (entries_fit es (All-tail (EntryFits arch) (signal x v) es h))

        -- the record fits the program
        pub events_fit : Fits p events
        events_fit = record {
          tasks = tasks_count ∙ sym (length-map arch.sources (λ (s : Source). s.kind)) ∙ ap length (sym fit.kinds);
          depths = ap length fit.depths ∙ length-map arch.sources (λ (s : Source). s.depth) ∙ sym (length-map arch.sources (λ (s : Source). s.kind)) ∙ ap length (sym fit.kinds);
          sources = source_fits;
          entries = subst (λ ks. All (FitsEntry ks p.tasks) events.entries) (sym fit.kinds) (entries_fit events.entries fit.entries);
        }

pub accepted_is_safe : (bs : List ℕ) (arch : Arch) → IsAccepted bs arch → IsSafe arch
accepted_is_safe bs arch h = safe bs arch h
