use Rattle.std.proofs.Common.{◌≡◌, ◌++◌, map, take}
use Rattle.task_code.specs.Piece.{listed, joined}
use Rattle.emit_code.specs.Delivery.{item_code}
use Rattle.emit_code.specs.Framed.{entries_in}
use Rattle.emit_code.proofs.delivery.add_items.Given as goal

abbrev pub invariant-loop-listener : goal.invariant-loop-listener
invariant-loop-listener l = l.code ≡ l.initial.code ++ listed (joined (map (item_code (entries_in l.frames) l.out.counter l.out.buffer l.out.scratch l.out.width) (take l.listener-index l.listeners)))
