-- The instructions of a run, core by core.
use Rattle.std.specs.Prelude.{◌≡◌, ℕ, ◌≤◌, List, map, sum, Some}
use Rattle.tower_syntax.specs.Arch.{Events}
use Rattle.task_code.specs.Program.{Program}
use Rattle.task_code.specs.Run.{Run, reached}
use Rattle.task_code.specs.Plan.{Planned, step_of, instructions}
use Rattle.task_code.specs.Tally.{core_counts}

-- on however many cores, each instruction of a run is on one of them
abbrev pub CoresAddUp : Type 0
CoresAddUp =
    (cores : ℕ) (p : Program) (events : Events) (steps : List Planned) (r : Run) → 1 ≤ cores → reached p events (map step_of steps) ≡ Some r
    → sum (core_counts cores p events steps) ≡ instructions steps
