-- Whom the ceiling rule names of the ready tasks is named as the bounds see it.
use Rattle.std.proofs.Common.{◌≡◌, ◌∙◌, ◌<◌, ℕ, true, map, filter, List, length, Option, Some, None, refl, sym, ap, arith, slice_index, slice_index_or}
use Rattle.std.specs.Prelude.{max, is_some}
use Rattle.tower_syntax.specs.Arch.{Arch, Events}
use Rattle.tower_syntax.specs.WellNumbered.{IsWellNumbered}
use Rattle.tower_meaning.specs.Atomic.{Fit}
use Rattle.task_code.specs.Program.{Program}
use Rattle.task_code.specs.Own.{held_monitor}
use Rattle.task_code.specs.Standing.{Standing, IsStuck, IsIdle, IsWaiting, IsReady, standing, is_ready}
use Rattle.task_code.specs.Run.{Run}
use Rattle.task_code.specs.Policy.{priorities}
use Rattle.task_code.specs.Ceiling.{raised, active_priority, is_holder, source_priority, ceilings, ceiling}
use Rattle.lock_reduction.specs.Reduce.{Sound}
use Rattle.channel_graph.proofs.Members.{In, filter_has, has_filter, number_below, below_number}
use Rattle.ceiling_law.specs.ByPolicy.{named_ready}
use Rattle.ceiling_law.proofs.Foremost.{IsForemost}
use Rattle.ceiling_law.proofs.Named.{ready_is, ceiling_at, same_priorities, same_count, goes, numbers, named_is}
use Rattle.stretch_law.specs.Machine as bounds
use Rattle.stretch_law.specs.Machine.{Tasks, active_of, active}
use Rattle.stretch_law.specs.Rules.{IsHolder, Named}
use Rattle.stretch_law.specs.Facts.{Facts}
use Rattle.bound_law.specs.Seen.{tasks_of, see, standing_as, machine_of}
use Rattle.bound_law.proofs.HasFacts.{TouchesDue, Reached, holds_list}

as_ready : (s : Standing) → standing_as s ≡ bounds.IsReady → is_ready s ≡ true
as_ready IsStuck e = cc
as_ready IsIdle e = cc
as_ready (IsWaiting m) e = cc
as_ready IsReady e = refl

is_holder_of : (h : Option ℕ) → is_some h ≡ true → IsHolder h
is_holder_of None e = cc
is_holder_of (Some m) e = tt

of_is_holder : (h : Option ℕ) → IsHolder h → is_some h ≡ true
of_is_holder None e = absurd e
of_is_holder (Some m) e = refl

module _ (arch : Arch) (p : Program) (events : Events) (numbered : IsWellNumbered arch) (sound : Sound arch p) (fit : Fit arch events) (there : TouchesDue arch p events) where
  abbrev T : Tasks
  T = tasks_of arch

  module _ (facts : Facts T Run (machine_of p events) (Reached p events)) (r : Run) (g : Reached p events r) where
    abbrev holds : List (Option ℕ)
    holds = map held_monitor r.machine.tasks

    abbrev f : ℕ → ℕ
    f = active_priority (priorities p) (ceilings arch) holds

    abbrev ready : List ℕ
    ready = filter (goes arch p events numbered sound fit g.0 r g.1) (numbers arch p events numbered sound fit g.0 r g.1)

    in_tasks : (x : ℕ) → x < length arch.sources → x < length p.tasks
    in_tasks x l = omega (arith, l, same_count arch p sound)

    raised_same : (n : ℕ) (o : Option ℕ) → ((m : ℕ) → o ≡ Some m → m < length arch.monitors) → raised (ceilings arch) n o ≡ active_of T n o
    raised_same n None k = refl
    raised_same n (Some m) k = ap (max n) (ceiling_at arch m (k m refl))

    holds_same : (x : ℕ) → x < length arch.sources → slice_index_or holds x None ≡ (see p r x).holds
    holds_same x l = holds_list arch p events sound fit there r g x (in_tasks x l)

    active_same : (x : ℕ) → x < length arch.sources → f x ≡ active T x (see p r x)
    active_same x l =
        ap (raised (ceilings arch) (slice_index (priorities p) x)) (holds_same x l)
        ∙ ap (λ ps. raised (ceilings arch) (slice_index ps x) (see p r x).holds) (same_priorities arch p sound)
        ∙ raised_same (source_priority arch x) (see p r x).holds (λ m e. (facts.holder r x m g l e).inside)

    ready_in : (y : ℕ) → y < length arch.sources → standing_as (standing p events r.machine y) ≡ bounds.IsReady → In y ready
    ready_in y l e =
        has_filter (goes arch p events numbered sound fit g.0 r g.1) (numbers arch p events numbered sound fit g.0 r g.1) y
        (below_number (length p.tasks) y (in_tasks y l)) (as_ready (standing p events r.machine y) e)

    pub named : (n k x : ℕ) → named_ready (ceiling arch p) p events r.machine k ≡ Some x → Named T n Run (machine_of p events) r x
    named n k x e =
        let c : IsForemost f (is_holder holds) ready x = named_is arch p events numbered sound fit g.0 r g.1 k x e in
        let is = filter_has (goes arch p events numbered sound fit g.0 r g.1) (numbers arch p events numbered sound fit g.0 r g.1) x c.given in
        let l : x < length arch.sources = omega (arith, number_below (length p.tasks) x is.0, same_count arch p sound) in
        record {
          inside = l;
          ready = ap standing_as (ready_is (standing p events r.machine x) is.1);
          greatest = λ y m w. omega (arith, active_same x l, active_same y m, c.greatest y (ready_in y m w));
          holder_first = λ y m w same k.
              is_holder_of (see p r x).holds (sym (ap is_some (holds_same x l))
              ∙ c.preferred y (ready_in y m w) (active_same y m ∙ same ∙ sym (active_same x l)) (ap is_some (holds_same y m) ∙ of_is_holder (see p r y).holds k));
        }
