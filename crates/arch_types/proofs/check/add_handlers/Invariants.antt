use Rattle.std.proofs.Common.{map, take}
use Rattle.tower_syntax.specs.NamedView.{named_part_of}
use Rattle.tower_syntax.specs.View.{handler_of}
use Rattle.arch_types.specs.Outline.{written_of}
use Rattle.arch_types.specs.Turns.{handled}
use Rattle.arch_types.proofs.Turned.{Turned}
use Rattle.arch_types.proofs.check.add_handlers.Given as goal

abbrev pub invariant-loop-part : goal.invariant-loop-part
invariant-loop-part l = Turned named_part_of (written_of l.monitor) (handled l.system) (map handler_of l.initial.made) (take l.part-index l.parts) (map handler_of l.made)
