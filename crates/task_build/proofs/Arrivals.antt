-- An event record that fits an accepted system fits its program.
use Rattle.std.proofs.Common.{◌≡◌, ◌∙◌, ℕ, zero, suc, ◌+◌, ◌≤◌, false, is_some, List, [], ◌∷◌, length, map, All, Option, Some, None, refl, sym, ap, subst, arith, slice_get}
use Rattle.std.proofs.lemmas.List.{length-map}
use Rattle.std.proofs.lemmas.List.Elements.{All-cons, All-nil, All-head, All-tail}
use Rattle.std.proofs.lemmas.Bool.{false≢true}
use Rattle.std.proofs.lemmas.Option.{same_Some, none-some}
use Rattle.tower_types.specs.declared.scalar.Scalar.TheVariants.{I64}
use Rattle.tower_types.specs.Ty.{scalar, shape_in, shape_of, table_of, words, depth}
use Rattle.tower_types.specs.Value.{Value, value_depth}
use Rattle.tower_types.proofs.Flat.{length-flat}
use Rattle.tower_syntax.specs.declared.arch.SourceKind.{SourceKind}
use Rattle.tower_syntax.specs.declared.arch.SourceKind.TheVariants as kind
use Rattle.tower_syntax.specs.declared.arch.On.TheVariants as on
use Rattle.tower_syntax.specs.Arch.{Arch, Source, Entry, tick, signal, Events}
use Rattle.tower_syntax.specs.WellNumbered.{has_depth, IsNumberedSource}
use Rattle.tower_syntax.specs.Typed.{HasItsMessage}
use Rattle.tower_syntax.specs.Weights.{message_words}
use Rattle.tower_meaning.specs.Atomic.{Fit, FitsSource, FitsEntry as EntryFits}
use Rattle.task_code.specs.declared.program.Task.{Task}
use Rattle.task_code.specs.Fits.{IsDepth, FitsKind, FitsSignal, FitsEntry, Fits}
use Rattle.task_build.specs.CodeOf.{task_of, tasks_from, code_of}
use Rattle.task_alone.proofs.Lists.{get_map, get_unmap, all_at}
use Rattle.arch_types.proofs.Lists.{each_element}
use Rattle.arch_checks.specs.Laws.{IsSafe}
use Rattle.arch_checks.specs.Offences.{IsAccepted}
use Rattle.arch_checks.proofs.Accepted.{safe}
use Rattle.arch_checks.proofs.Values.{low_value}
use Rattle.arch_types.specs.Ranged.{IsSomeDepth}
use Rattle.arch_checks.specs.Kept.{KeepsNumbers}
use Rattle.arch_checks.proofs.Goods.{IsLow, low_sources}
use Rattle.task_build.proofs.Typing.{message_is}

-- ---- the tasks of sources

task_at : (arch : Arch) (sources : List Source) (s x : ℕ) (q : Source) → slice_get sources x ≡ Some q → slice_get (tasks_from arch s sources) x ≡ Some (task_of arch (s + x) q)
task_at arch [] s x q e = absurd (none-some q e)
task_at arch (r ∷ sources) s zero q e = let z : s ≡ s + 0 = omega arith in ap (λ a. Some (task_of arch a r)) z ∙ ap (λ b. Some (task_of arch (s + 0) b)) (same_Some r q e)
task_at arch (r ∷ sources) s (suc x) q e = let z : suc s + x ≡ s + suc x = omega arith in task_at arch sources (suc s) x q e ∙ ap (λ a. Some (task_of arch a q)) z

pub task_there : (arch : Arch) (x : ℕ) (q : Source) → slice_get arch.sources x ≡ Some q → slice_get (code_of arch).tasks x ≡ Some (task_of arch x q)
task_there arch x q e = let z : 0 + x ≡ x = omega arith in task_at arch arch.sources 0 x q e ∙ ap (λ a. Some (task_of arch a q)) z

tasks_count : (arch : Arch) (sources : List Source) (s : ℕ) → length (tasks_from arch s sources) ≡ length sources
tasks_count arch [] s = refl
tasks_count arch (q ∷ sources) s = let r : length (tasks_from arch (suc s) sources) ≡ length sources = tasks_count arch sources (suc s) in ap suc r

depth_is : (d : Option ℕ) → IsSomeDepth d → IsDepth d
depth_is None h = tt
depth_is (Some n) h = h

no_depth : (d : Option ℕ) → is_some d ≡ false → d ≡ None
no_depth None e = refl
no_depth (Some n) e = absurd (false≢true (sym e))

module _ (arch : Arch) (safe_arch : IsSafe arch) (keeps : KeepsNumbers arch) (events : Events) (fit : Fit arch events) where
  one_word : (x : ℕ) (q : Source) → slice_get arch.sources x ≡ Some q → q.message ≡ scalar I64 → message_words arch (on.Source x) ≡ 1
  one_word x q e h = message_is arch x q e ∙ ap (λ t. words (shape_in (table_of arch.records) t)) h

  kind_fits : (x : ℕ) (q : Source) → slice_get arch.sources x ≡ Some q → (k : SourceKind) → q.kind ≡ k → HasItsMessage arch q k → is_some q.depth ≡ has_depth arch.version k → IsSomeDepth q.depth → FitsKind k (task_of arch x q) q.depth
  kind_fits x q e kind.Init is h d n = (one_word x q e h, no_depth q.depth d)
  kind_fits x q e (kind.Period ms) is h d n = (one_word x q e h.0, depth_is q.depth n)
  kind_fits x q e kind.Signal is h d n = depth_is q.depth n

  source_fits : (x : ℕ) (k : SourceKind) (t : Task) (depth : Option ℕ) → slice_get events.kinds x ≡ Some k → slice_get (code_of arch).tasks x ≡ Some t → slice_get events.depths x ≡ Some depth → FitsKind k t depth
  source_fits x k t d has_kind has_task has_depth_at =
      let r = get_unmap (λ s. s.kind) arch.sources x k (ap (λ l. slice_get l x) (sym fit.kinds) ∙ has_kind) in
      let q : Source = r.0 in
      let there : slice_get arch.sources x ≡ Some q = r.1 in
      let task_is : task_of arch x q ≡ t = same_Some (task_of arch x q) t (sym (task_there arch x q there) ∙ has_task) in
      let depth_at : q.depth ≡ d = same_Some q.depth d (sym (get_map (λ s. s.depth) arch.sources x q there) ∙ ap (λ l. slice_get l x) (sym fit.depths) ∙ has_depth_at) in
      let fine : FitsKind q.kind (task_of arch x q) q.depth = kind_fits x q there q.kind refl (all_at (λ s. HasItsMessage arch s s.kind) arch.sources x q safe_arch.typed.sources there) (all_at (IsNumberedSource arch) arch.sources x q safe_arch.numbered.sources there).depth (all_at (λ s. IsSomeDepth s.depth) arch.sources x q keeps.depths there) in
      subst (λ j. FitsKind j t d) r.2 (subst (λ j. FitsKind q.kind t j) depth_at (subst (λ j. FitsKind q.kind j q.depth) task_is fine))

  signal_fits : (x : ℕ) (v : Value) (o : Option Source) → slice_get arch.sources x ≡ o → FitsSource arch v o → FitsSignal v (slice_get (map (λ s. s.kind) arch.sources) x) (slice_get (code_of arch).tasks x)
  signal_fits x v None e h = absurd h
  signal_fits x v (Some q) e h =
      let kind_at : slice_get (map (λ s. s.kind) arch.sources) x ≡ Some kind.Signal = get_map (λ s. s.kind) arch.sources x q e ∙ ap Some h.0 in
      let low : depth (shape_of arch.records q.message) ≤ 32 = all_at (λ s. IsLow arch safe_arch keeps s.message) arch.sources x q (each_element (λ s. IsLow arch safe_arch keeps s.message) arch.sources (low_sources arch safe_arch keeps)) e in
      let below : value_depth v ≤ depth (shape_of arch.records q.message) = low_value (shape_of arch.records q.message) v h.1 in
      subst (λ o. FitsSignal v o (slice_get (code_of arch).tasks x)) (sym kind_at) (subst (λ o. FitsSignal v (Some kind.Signal) o) (sym (task_there arch x q e))
      (length-flat (shape_of arch.records q.message) v h.1 ∙ sym (message_is arch x q e), omega (arith, low, below)))

  entries_fit : (es : List Entry) → All (EntryFits arch) es → All (FitsEntry (map (λ s. s.kind) arch.sources) (code_of arch).tasks) es
  entries_fit [] h = All-nil (FitsEntry (map (λ s. s.kind) arch.sources) (code_of arch).tasks)
  entries_fit (tick ∷ es) h = All-cons (FitsEntry (map (λ s. s.kind) arch.sources) (code_of arch).tasks) tick es tt (entries_fit es (All-tail (EntryFits arch) tick es h))
  entries_fit (signal x v ∷ es) h =
      All-cons (FitsEntry (map (λ s. s.kind) arch.sources) (code_of arch).tasks) (signal x v) es (signal_fits x v (slice_get arch.sources x) refl (All-head (EntryFits arch) (signal x v) es h)) (entries_fit es (All-tail (EntryFits arch) (signal x v) es h))

  pub events_fit : Fits (code_of arch) events
  events_fit = record {
    tasks = tasks_count arch arch.sources 0 ∙ sym (length-map arch.sources (λ s. s.kind)) ∙ ap length (sym fit.kinds);
    depths = ap length fit.depths ∙ length-map arch.sources (λ s. s.depth) ∙ sym (length-map arch.sources (λ s. s.kind)) ∙ ap length (sym fit.kinds);
    sources = source_fits;
    entries = subst (λ ks. All (FitsEntry ks (code_of arch).tasks) events.entries) (sym fit.kinds) (entries_fit events.entries fit.entries);
  }

pub accepted_fit : (bs : List ℕ) (arch : Arch) → IsAccepted bs arch → (events : Events) → Fit arch events → Fits (code_of arch) events
accepted_fit bs arch accepted events fit = let s : IsSafe arch = safe bs arch accepted in events_fit arch s s.numbers events fit
