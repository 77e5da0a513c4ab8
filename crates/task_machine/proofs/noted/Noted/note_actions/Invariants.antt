use Rattle.std.proofs.Common.{◌≡◌, ℕ, ◌<◌, ◌≤◌}
use Rattle.task_machine.specs.Noted.{HasPlaces, IsNoted, IsInNone}
use Rattle.task_machine.proofs.noted.Noted.note_actions.Given as goal

abbrev pub invariant-loop-x : goal.invariant-loop-x
invariant-loop-x l = record {
  places : HasPlaces l.running l.self;
  done : (y : ℕ) → y < l.x → IsNoted l.running l.self y;
  ahead : (y : ℕ) → l.x ≤ y → IsInNone l.self y;
  clear : l.self.clear ≡ l.initial.self.clear;
}
