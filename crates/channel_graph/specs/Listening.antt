-- The handlers and outputs of a system, by what they are attached to.
use Rattle.std.specs.Prelude.{◌<◌, length}
use Rattle.tower_syntax.specs.declared.arch.On.{On}
use Rattle.tower_syntax.specs.declared.arch.On.TheVariants as on
use Rattle.tower_syntax.specs.declared.arch.Listener.{Listener}
use Rattle.tower_syntax.specs.declared.arch.Listener.TheVariants as to
use Rattle.tower_syntax.specs.Arch.{Arch}
use Rattle.tower_syntax.specs.Graph.{handler, output}

-- the source or channel that a handler or output names
abbrev pub attached : Arch → Listener → On
attached arch (to.Handler h) = (handler arch h).on
attached arch (to.Output o) = on.Channel (output arch o).channel

-- there is such a handler or output
abbrev pub Exists : Arch → Listener → Type 0
Exists arch (to.Handler h) = h < length arch.handlers
Exists arch (to.Output o) = o < length arch.outputs
