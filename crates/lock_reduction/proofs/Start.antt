-- The invariant at the start, and along a whole run.
use Rattle.std.proofs.Common.{◌≡◌, ◌∙◌, ℕ, ◌<◌, ℤ, pos, true, List, [], ◌∷◌, length, map, replicate, Option, Some, None, refl, sym, ap, subst, slice_get}
use Rattle.std.specs.Prelude.{All}
use Rattle.std.proofs.lemmas.List.{length-map}
use Rattle.std.proofs.lemmas.List.Elements.{All-cons, All-nil}
use Rattle.std.proofs.lemmas.Option.{same_Some, none-some, slice_get_within}
use Rattle.tower_types.specs.Value.{word, flat}
use Rattle.tower_syntax.specs.declared.arch.SourceKind.{SourceKind}
use Rattle.tower_syntax.specs.declared.arch.SourceKind.TheVariants as kind
use Rattle.tower_syntax.specs.Arch.{Events}
use Rattle.tower_meaning.specs.Atomic.{Atomic, start}
use Rattle.tower_meaning.specs.Atomic as meaning
use Rattle.task_code.specs.declared.program.Task.{Task}
use Rattle.task_code.specs.Program.{Program}
use Rattle.task_code.specs.Own.{first_own}
use Rattle.task_code.specs.Machine.{Free, HeldBy, first_queue}
use Rattle.task_code.specs.Run.{Run, Step, step, steps_from, first_run, reached}
use Rattle.task_alone.specs.Setting.{Setting, KeepsTypes, IsFor, Fits}
use Rattle.task_alone.specs.Alone.{RunsAlone}
use Rattle.lock_reduction.proofs.Arrivals.{QueuedFit}
use Rattle.lock_reduction.proofs.Kept.{empty_within}
use Rattle.task_alone.proofs.Lists.{get_map, get_unmap, get_within}
use Rattle.lock_reduction.proofs.Invariant.{TaskFits, Invariant}
use Rattle.lock_reduction.proofs.Turns.{step_keeps, unlike, same_words}

same_queues : (ks : List SourceKind) → map first_queue ks ≡ map (map flat) (map meaning.first_queue ks)
same_queues [] = refl
same_queues (kind.Init ∷ ks) = ap (λ l. ((pos 0 ∷ []) ∷ []) ∷ l) (same_queues ks)
same_queues (kind.Period ms ∷ ks) = ap (λ l. [] ∷ l) (same_queues ks)
same_queues (kind.Signal ∷ ks) = ap (λ l. [] ∷ l) (same_queues ks)

module _ (s : Setting) (p : Program) (events : Events) (keeps_types : KeepsTypes s) (for : IsFor s p) (alone : RunsAlone s p) (fits : Fits s events) where
  start_fits : (x : ℕ) (t : Task) → slice_get p.tasks x ≡ Some t → TaskFits s p x t (first_run p events) (start s.system)
  start_fits x t e =
      let source = get_within s.system.kinds x (subst (λ n. x < n) for.tasks (slice_get_within p.tasks x t e)) in
      record {
        own = first_own t;
        items = [];
        handed = word (pos 0);
        count = 0;
        has_own = get_map first_own p.tasks x t e;
        has_items = get_map (λ (k : SourceKind). []) s.system.kinds x source.0 source.1;
        has_count = get_map (λ (t : Task). 0) p.tasks x t e;
        safe = alone x t e;
        items_fit = All-nil (λ i. s.fits_item i ≡ true);
        within = empty_within t.buffers;
        lock_fits = tt;
      }

  start_locks : map (λ n. Free (replicate n (pos 0))) p.monitors ≡ map Free (map flat s.system.zeros)
  start_locks = each p.monitors ∙ ap (map Free) for.monitors
    where
      each : (ns : List ℕ) → map (λ n. Free (replicate n (pos 0))) ns ≡ map Free (map (λ n. replicate n (pos 0)) ns)
      each [] = refl
      each (n ∷ ns) = ap (λ l. Free (replicate n (pos 0)) ∷ l) (each ns)

  start_free : (m : ℕ) (ws : List ℤ) → slice_get (map (λ n. Free (replicate n (pos 0))) p.monitors) m ≡ Some (Free ws) → slice_get (map flat s.system.zeros) m ≡ Some ws
  start_free m ws e =
      let f = get_unmap Free (map flat s.system.zeros) m (Free ws) (ap (λ l. slice_get l m) (sym start_locks) ∙ e) in
      f.1 ∙ ap Some (same_words f.0 ws f.2)

  none_held : (m x : ℕ) → slice_get (map (λ n. Free (replicate n (pos 0))) p.monitors) m ≡ Some (HeldBy x) → ⊥
  none_held m x e =
      let f = get_unmap (λ n. Free (replicate n (pos 0))) p.monitors m (HeldBy x) e in
      unlike x (replicate f.0 (pos 0)) (sym f.2)

  start_queued : QueuedFit s (map meaning.first_queue s.system.kinds)
  start_queued x q e =
      let f = get_unmap meaning.first_queue s.system.kinds x q e in
      subst (All (λ v. s.fits_message x v ≡ true)) f.2 (by f.0 f.1)
    where
      by : (k : SourceKind) → slice_get s.system.kinds x ≡ Some k → All (λ v. s.fits_message x v ≡ true) (meaning.first_queue k)
      by kind.Init is = All-cons (λ v. s.fits_message x v ≡ true) (word (pos 0)) [] (keeps_types.first_message x is) (All-nil (λ v. s.fits_message x v ≡ true))
      by (kind.Period ms) is = All-nil (λ v. s.fits_message x v ≡ true)
      by kind.Signal is = All-nil (λ v. s.fits_message x v ≡ true)

  starts : Invariant s p events (first_run p events) (start s.system)
  starts = record {
    replayed = refl;
    outputs = refl;
    queues = ap (map first_queue) fits.kinds ∙ same_queues s.system.kinds;
    lost = ap (map (λ k. 0)) fits.kinds;
    place = refl;
    tasks = start_fits;
    free = start_free;
    held = λ m x e. absurd (none_held m x e);
    lock_count = ap length start_locks ∙ length-map (map flat s.system.zeros) Free ∙ length-map s.system.zeros flat;
    task_count = length-map p.tasks first_own;
    last = tt;
    values_fit = keeps_types.zeros;
    queued_fit = start_queued;
  }

  runs_keep : (steps : List Step) (o : Option Run) → ((r : Run) → o ≡ Some r → (a : Atomic) × Invariant s p events r a) → (r' : Run) → steps_from p events o steps ≡ Some r' → (a' : Atomic) × Invariant s p events r' a'
  runs_keep [] o k r' e = k r' e
  runs_keep (z ∷ steps) None k r' e = absurd (none-some r' e)
  runs_keep (z ∷ steps) (Some r) k r' e =
      let now = k r refl in
      runs_keep steps (step p events r z) (step_keeps s p events keeps_types for fits r now.0 now.1 z) r' e

  pub reached_keeps : (steps : List Step) (r : Run) → reached p events steps ≡ Some r → (a : Atomic) × Invariant s p events r a
  reached_keeps steps r e =
      runs_keep steps (Some (first_run p events)) (λ r' h. (start s.system, subst (λ r. Invariant s p events r (start s.system)) (same_Some (first_run p events) r' h) starts)) r e
