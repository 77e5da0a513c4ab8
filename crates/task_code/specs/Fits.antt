-- Which event records a program can run on.
use Rattle.std.specs.Prelude.{◌≡◌, ℕ, ◌≤◌, List, length, All, Option, Some, None, slice_get}
use Rattle.tower_types.specs.Value.{Value, flat, value_depth}
use Rattle.tower_syntax.specs.declared.arch.SourceKind.{SourceKind}
use Rattle.tower_syntax.specs.declared.arch.SourceKind.TheVariants as kind
use Rattle.tower_syntax.specs.Arch.{Entry, tick, signal, Events}
use Rattle.task_code.specs.declared.program.Task.{Task}
use Rattle.task_code.specs.Program.{Program}

abbrev pub IsDepth : Option ℕ → Type 0
IsDepth None = Unit {0}
IsDepth (Some depth) = (1 ≤ depth) × (depth ≤ 64)

-- the message of an initialisation or a period is one word, and no initialisation has a depth
abbrev pub FitsKind : SourceKind → Task → Option ℕ → Type 0
FitsKind kind.Init t depth = (t.message ≡ 1) × (depth ≡ None)
FitsKind (kind.Period ms) t depth = (t.message ≡ 1) × IsDepth depth
FitsKind kind.Signal t depth = IsDepth depth

-- a signal with this value comes to a source of this kind with this task
abbrev pub FitsSignal : Value → Option SourceKind → Option Task → Type 0
FitsSignal v (Some kind.Signal) (Some t) = (length (flat v) ≡ t.message) × (value_depth v ≤ 32)
FitsSignal v _ _ = ⊥

abbrev pub FitsEntry : List SourceKind → List Task → Entry → Type 0
FitsEntry kinds tasks tick = Unit {0}
FitsEntry kinds tasks (signal x v) = FitsSignal v (slice_get kinds x) (slice_get tasks x)

pub record Fits (p : Program) (events : Events) : Type 0 where
  pub tasks : length p.tasks ≡ length events.kinds
  pub depths : length events.depths ≡ length events.kinds
  pub sources : (x : ℕ) (k : SourceKind) (t : Task) (depth : Option ℕ) → slice_get events.kinds x ≡ Some k → slice_get p.tasks x ≡ Some t → slice_get events.depths x ≡ Some depth → FitsKind k t depth
  pub entries : All (FitsEntry events.kinds p.tasks) events.entries
