-- No expression or place of a system is high: what its instructions have on the operand stack at once is bounded.
use Rattle.std.specs.Prelude.{◌≤◌, All}
use Rattle.tower_syntax.specs.Tree.{Stmt, bind, local, set, copy, branch, loop, emit, Stmts, no_stmts, stmt}
use Rattle.tower_syntax.specs.Arch.{Arch}
use Rattle.tower_syntax.specs.WellNumbered.{height, place_height}
use Rattle.arch_types.specs.Body.{greatest_height}

-- each outermost expression and place of a statement is at most so high
abbrev mutual
  pub IsLow : Stmt → Type 0
  IsLow (bind b e) = height e ≤ greatest_height
  IsLow (local b) = Unit {0}
  IsLow (set p e) = (place_height p ≤ greatest_height) × (height e ≤ greatest_height)
  IsLow (copy p q) = (place_height p ≤ greatest_height) × (place_height q ≤ greatest_height)
  IsLow (branch e a b) = (height e ≤ greatest_height) × AreLow a × AreLow b
  IsLow (loop b n body) = AreLow body
  IsLow (emit k e) = height e ≤ greatest_height

  pub AreLow : Stmts → Type 0
  AreLow no_stmts = Unit {0}
  AreLow (stmt s ss) = IsLow s × AreLow ss

abbrev pub IsShallow : Arch → Type 0
IsShallow arch = All (λ h. All (λ b. AreLow b.stmts) h.callbacks) arch.handlers
