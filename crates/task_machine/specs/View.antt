-- The state that a running machine's parts stand for.
use Rattle.std.specs.Prelude.{ℕ, ℤ, List, [], map, take, drop, Option, Some, None, slice_get, ◌<◌, length}
use Rattle.tower_syntax.specs.declared.event.Events.{Events as EventsValue}
use Rattle.task_code.specs.Program.{Program}
use Rattle.task_code.specs.Own.{Own}
use Rattle.task_code.specs.Machine.{Lock, Machine}
use Rattle.task_machine.specs.Queue.{Queue, waiting, lost}
use Rattle.tower_syntax.specs.View.{events_of}
use Rattle.task_machine.specs.Kept.{IsKept}
use Rattle.task_machine.specs.State.{State, Turned}
use Rattle.task_machine.specs.declared.running.Turn.{Turn}
use Rattle.task_machine.specs.declared.running.Piece.{Piece}

abbrev pub own_words : Option Own → List ℤ
own_words None = []
own_words (Some own) = own.words

abbrev pub piece_of : Option Own → Option Piece → Option (ℕ × List ℤ)
piece_of own None = None
piece_of own (Some p) = Some (p.output, take p.words (drop p.at (own_words own)))

abbrev pub turned_of : List Own → Option Turn → Option Turned
turned_of owns None = None
turned_of owns (Some t) = Some (record { task = t.task; visible = t.visible; wrote = piece_of (slice_get owns t.task) t.wrote })

abbrev pub machine_of : List Own → List Lock → List Queue → ℕ → Machine
machine_of owns locks qs place = record { tasks = owns; locks = locks; queues = map waiting qs; lost = map lost qs; place = place }

abbrev pub state_of : Program → EventsValue → Machine → List Own → Option Turn → State
state_of p events m owns turn = record { program = p; events = events; machine = m; last = turned_of owns turn }

-- what an output got names an output
abbrev pub IsPiece : Program → Option Piece → Type 0
IsPiece p None = Unit {0}
IsPiece p (Some piece) = piece.output < length p.outputs

-- and the last step was one of a task that is there
abbrev pub IsLast : Program → Option Turn → Type 0
IsLast p None = Unit {0}
IsLast p (Some turn) = (turn.task < length p.tasks) × IsPiece p turn.wrote

-- what a running machine keeps
pub record IsRunning (p : Program) (events : EventsValue) (owns : List Own) (locks : List Lock) (qs : List Queue) (messages : List (List ℤ)) (held : List (Option ℕ)) (k place : ℕ) (turn : Option Turn) : Type 0 where
  pub kept : IsKept p (events_of events) owns locks qs messages held k place
  pub known : IsLast p turn
