use Rattle.std.proofs.Common.{[], map, take}
use Rattle.tower_syntax.specs.NamedView.{named_hpart_of}
use Rattle.tower_syntax.specs.View.{body_of}
use Rattle.arch_types.specs.Outline.{callback_of}
use Rattle.arch_types.specs.Seen.{known_at_entry}
use Rattle.arch_types.specs.Turns.{bodied}
use Rattle.arch_types.proofs.Turned.{Turned}
use Rattle.arch_types.proofs.check.check_bodies.Given as goal

abbrev pub invariant-loop-part : goal.invariant-loop-part
invariant-loop-part l = Turned named_hpart_of callback_of (bodied (known_at_entry l.system l.scope)) [] (take l.part-index l.parts) (map body_of l.made)
