-- Whom the rules name, worked out.
use Rattle.std.specs.Prelude.{◌≡◌, ℕ, List, [], ◌∷◌, Bool, true, false, Option, Some, None}
use Rattle.tower_syntax.specs.Flight.{flight}
use Rattle.task_code.specs.Ceiling.{ceiling_names, ceilings}
use Rattle.task_code.specs.Cores.{cores_names, core_at}

-- four tasks, and two monitors with these ceilings
abbrev pub by_ceiling : List Bool → List (Option ℕ) → ℕ → Option ℕ
by_ceiling ready holds k = ceiling_names (5 ∷ 200 ∷ 200 ∷ 9 ∷ []) (200 ∷ 9 ∷ []) ready holds k

abbrev pub on : ℕ → List Bool → ℕ → Option ℕ
on cores ready k = cores_names (5 ∷ 200 ∷ 200 ∷ 9 ∷ []) cores ready (None ∷ None ∷ None ∷ None ∷ []) k

abbrev pub everyone : List Bool
everyone = true ∷ true ∷ true ∷ true ∷ []

abbrev pub held_by_none : List (Option ℕ)
held_by_none = None ∷ None ∷ None ∷ None ∷ []

pub record WorkedCeilings : Type 0 where
  -- where none holds a monitor, the most urgent, in turn
  pub first : by_ceiling everyone held_by_none 0 ≡ Some 1
  pub second : by_ceiling everyone held_by_none 1 ≡ Some 2
  pub first_again : by_ceiling everyone held_by_none 2 ≡ Some 1
  -- a holder that is raised goes before others of its active priority
  pub raised : by_ceiling everyone (Some 0 ∷ None ∷ None ∷ None ∷ []) 0 ≡ Some 0
  pub raised_only : by_ceiling everyone (Some 0 ∷ None ∷ None ∷ None ∷ []) 1 ≡ Some 0
  -- one that is raised to less is left behind, and goes first among those
  pub less : by_ceiling everyone (Some 1 ∷ None ∷ None ∷ None ∷ []) 1 ≡ Some 2
  pub less_first : by_ceiling (true ∷ false ∷ false ∷ true ∷ []) (Some 1 ∷ None ∷ None ∷ None ∷ []) 1 ≡ Some 0
  -- a ceiling below the holder's priority does not lower it, and it goes before its like
  pub not_lowered : by_ceiling everyone (None ∷ None ∷ Some 1 ∷ None ∷ []) 0 ≡ Some 2
  pub nobody : by_ceiling (false ∷ false ∷ false ∷ false ∷ []) held_by_none 3 ≡ None
  -- gyro is touched by boot, fuse by fast, ctl by cmd, life by slow, and by none that is more urgent
  pub of_flight : ceilings flight ≡ 250 ∷ 200 ∷ 160 ∷ 100 ∷ []

pub record WorkedCores : Type 0 where
  -- the order is 1, 2, 3, 0
  pub one : on 1 everyone 1 ≡ Some 1
  pub two : on 2 everyone 1 ≡ Some 2
  pub two_again : on 2 everyone 2 ≡ Some 1
  pub three : on 3 everyone 2 ≡ Some 3
  pub last : on 64 everyone 3 ≡ Some 0
  pub around : on 64 everyone 4 ≡ Some 1
  -- of fewer tasks than cores
  pub few : on 3 (true ∷ false ∷ false ∷ true ∷ []) 1 ≡ Some 0
  pub few_again : on 3 (true ∷ false ∷ false ∷ true ∷ []) 2 ≡ Some 3
  pub nobody : on 2 (false ∷ false ∷ false ∷ false ∷ []) 1 ≡ None
  pub core : core_at (5 ∷ 200 ∷ 200 ∷ 9 ∷ []) 3 everyone 5 ≡ 2
  pub core_of_few : core_at (5 ∷ 200 ∷ 200 ∷ 9 ∷ []) 3 (true ∷ false ∷ false ∷ true ∷ []) 5 ≡ 1
