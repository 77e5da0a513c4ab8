-- The text of steps says the marks that they make.
use Rattle.std.proofs.Common.{◌≡◌, ◌<◌, ◌≤◌, ℕ, ◌+◌, List, [], ◌∷◌, ◌++◌, map, length, Option, Some, None, refl, sym, ap, ◌∙◌, arith, append_assoc, append-nil, slice_get}
use Rattle.std.specs.List.{flat_map}
use Rattle.std.proofs.lemmas.Option.{none-some, slice_get_within}
use Rattle.tower_syntax.specs.declared.event.Mark.{Mark}
use Rattle.tower_syntax.specs.declared.event.Mark.TheVariants as mark
use Rattle.tower_syntax.specs.Arch.{Arch, Entry, Events}
use Rattle.arch_types.proofs.Lists.{AllOf}
use Rattle.task_code.specs.declared.program.Task.{Task}
use Rattle.task_code.specs.Program.{Program}
use Rattle.task_code.specs.Own.{Own}
use Rattle.task_code.specs.Does.{Does, Stuck, Private, Takes, Locks, Unlocks, Writes}
use Rattle.task_code.specs.Machine.{Machine, next_does, task_does}
use Rattle.task_code.specs.Standing.{Standing, IsStuck, IsIdle, IsWaiting, IsReady, standing, standing_of}
use Rattle.task_code.specs.Run.{Run, mark_of, written_by, turned, if_ready, came, step, steps_from}
use Rattle.task_code.specs.Plan.{Planned, goes, comes, step_of, instructions}
use Rattle.tower_report.specs.Bytes.{Bytes}
use Rattle.tower_report.specs.MarkText.{IsMarkOf, mark_line, out_line}
use Rattle.tower_report.specs.RunText.{does_text, step_text, steps_text}
use Rattle.event_record.specs.Order.{instruction_limit}
use Rattle.declared_names.specs.Laws.{HasNames}
use Rattle.run_order.proofs.Says.{Says, says_none, says_both, says_then, says_each}
use Rattle.run_order.proofs.Marks.{mark_said, marks_said}
use Rattle.run_order.proofs.Ends.{out_said}

-- ---- which steps are defined

ready_by : (s : Standing) (r r2 : Run) → if_ready s r ≡ Some r2 → (s ≡ IsReady) × (r ≡ r2)
ready_by IsReady r r2 h = (refl, cc)
ready_by IsStuck r r2 h = absurd (none-some r2 h)
ready_by IsIdle r r2 h = absurd (none-some r2 h)
ready_by (IsWaiting m) r r2 h = absurd (none-some r2 h)

-- a ready task exists
within_by : (p : Program) (events : Events) (m : Machine) (x : ℕ) (t : Option Task) (own : Option Own) → slice_get p.tasks x ≡ t → standing_of p events m x (task_does p t own) ≡ IsReady → x < length p.tasks
within_by p events m x None own e h = cc
within_by p events m x (Some t) own e h = slice_get_within p.tasks x t e

ready_within : (p : Program) (events : Events) (m : Machine) (x : ℕ) → standing p events m x ≡ IsReady → x < length p.tasks
ready_within p events m x h = within_by p events m x (slice_get p.tasks x) (slice_get m.tasks x) refl h

came_by : (events : Events) (r r2 : Run) (e : Option Entry) → came events r e ≡ Some r2 → r2.marks ≡ r.marks ++ mark.Arrive ∷ []
came_by events r r2 None h = absurd (none-some r2 h)
came_by events r r2 (Some e) h = sym (some_marks _ r2 h)
  where
    some_marks : (q r2 : Run) → Some q ≡ Some r2 → q.marks ≡ r2.marks
    some_marks q r2 h = let e : q ≡ r2 = cc in ap (λ q. q.marks) e

from_none : (p : Program) (events : Events) (ss : List Planned) (r : Run) → steps_from p events None (map step_of ss) ≡ Some r → ⊥
from_none p events [] r h = none-some r h
from_none p events (s ∷ ss) r h = none-some r h

-- ---- what they say

-- the text says what the second run has more marks than the first
pub record SaysMore (arch : Arch) (t : Bytes) (r r2 : Run) : Type 0 where
  pub marks : List Mark
  pub are : r2.marks ≡ r.marks ++ marks
  pub says : Says arch t marks

module _ (arch : Arch) (names : HasNames arch) (p : Program) (events : Events) (few : length p.tasks ≤ length arch.sources) where
  marks_are_of : (x : ℕ) (d : Does) → x < length arch.sources → AllOf (IsMarkOf arch) (mark_of x d)
  marks_are_of x Stuck h = tt
  marks_are_of x (Private own) h = tt
  marks_are_of x (Takes f) h = (h, tt)
  marks_are_of x (Locks k f) h = tt
  marks_are_of x (Unlocks held own) h = (h, tt)
  marks_are_of x (Writes o ws own) h = (h, tt)

  does_said : (n x : ℕ) (d : Does) → n ≤ instruction_limit → x < length arch.sources → Says arch (does_text arch n x d) (mark_of x d)
  does_said n x d small h =
      says_then arch (flat_map (mark_line arch n) (mark_of x d)) (flat_map (out_line arch) (written_by d)) (mark_of x d)
      (marks_said arch n small names (mark_of x d) (marks_are_of x d h)) (says_each arch (out_line arch) (out_said arch names) (written_by d))

  step_said : (n : ℕ) (s : Planned) (r r2 : Run) → n + instructions (s ∷ []) ≤ instruction_limit → step p events r (step_of s) ≡ Some r2 → SaysMore arch (step_text arch p r.machine n s) r r2
  step_said n (goes k x) r r2 small h =
      let d = next_does p r.machine x in
      let q = ready_by (standing p events r.machine x) (turned r x d) r2 h in
      let within = ready_within p events r.machine x q.0 in
      record {
        marks = mark_of x d;
        are = ap (λ q. q.marks) (sym q.1);
        says = does_said (n + 1) x d (omega (arith, small)) (omega (arith, within, few));
      }
  step_said n comes r r2 small h = record {
    marks = mark.Arrive ∷ [];
    are = came_by events r r2 (slice_get events.entries r.machine.place) h;
    says = mark_said arch n (omega (arith, small)) names mark.Arrive tt;
  }

  -- what the steps after one say
  abbrev Behind : List Planned → Run → Type 0
  Behind ss last = (n : ℕ) (r : Run) → n + instructions ss ≤ instruction_limit → steps_from p events (Some r) (map step_of ss) ≡ Some last → SaysMore arch (steps_text arch p events n (Some r) ss) r last

  one_more : (s : Planned) (ss : List Planned) → instructions (s ∷ ss) ≡ instructions (s ∷ []) + instructions ss
  one_more (goes k x) ss = omega arith
  one_more comes ss = omega arith

  next_said : (n : ℕ) (s : Planned) (ss : List Planned) (r last : Run) (o : Option Run) → Behind ss last → n + instructions (s ∷ ss) ≤ instruction_limit → step p events r (step_of s) ≡ o → steps_from p events o (map step_of ss) ≡ Some last → SaysMore arch (step_text arch p r.machine n s ++ steps_text arch p events (n + instructions (s ∷ [])) o ss) r last
  next_said n s ss r last None behind small e h = absurd (from_none p events ss last h)
  next_said n s ss r last (Some r2) behind small e h =
      let more = one_more s ss in
      let here = step_said n s r r2 (omega (arith, small, more)) e in
      let rest = behind (n + instructions (s ∷ [])) r2 (omega (arith, small, more)) h in
      record {
        marks = here.marks ++ rest.marks;
        are = rest.are ∙ ap (λ ms. ms ++ rest.marks) here.are ∙ append_assoc r.marks here.marks rest.marks;
        says = says_both arch (step_text arch p r.machine n s) (steps_text arch p events (n + instructions (s ∷ [])) (Some r2) ss) here.marks rest.marks here.says rest.says;
      }

  pub steps_said : (ss : List Planned) (last : Run) → Behind ss last
  steps_said [] last n r small h = record {
    marks = [];
    are = (let e : r ≡ last = cc in ap (λ q. q.marks) (sym e)) ∙ sym (append-nil r.marks);
    says = says_none arch;
  }
  steps_said (s ∷ ss) last n r small h = next_said n s ss r last (step p events r (step_of s)) (steps_said ss last) small refl h
