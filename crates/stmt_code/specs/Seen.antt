-- What the program's values about places stand for.
use Rattle.std.specs.Prelude.{Bool}
use Rattle.tower_syntax.specs.Tree.{no_steps}
use Rattle.tower_syntax.specs.declared.body.PlaceStep.{PlaceStep as StepValue}
use Rattle.channel_graph.specs.Stepped.{step_of}
use Rattle.stmt_code.specs.Layout.{Base, private, monitor, moves}
use Rattle.stmt_code.specs.Body.{Moved, SentMessage}
use Rattle.stmt_code.specs.declared.moved.Base.{Base as BaseValue}
use Rattle.stmt_code.specs.declared.moved.Base.TheVariants as base
use Rattle.stmt_code.specs.declared.moved.Moved.{Moved as MovedValue}
use Rattle.stmt_code.specs.declared.moved.SentMessage.{SentMessage as SentValue}

abbrev pub base_of : BaseValue → Base
base_of (base.Private a) = private a
base_of (base.Monitor m a) = monitor m a

abbrev pub moved_of : MovedValue → Moved
moved_of m = record { moving = m.moving; base = base_of m.base; span = m.span; index = m.index }

abbrev pub message_seen : SentValue → SentMessage
message_seen m = record { scratch = m.scratch; buffer = m.buffer; width = m.width }

-- is the step an index that moves
abbrev pub step_moves : StepValue → Bool
step_moves step = moves (step_of step no_steps)
