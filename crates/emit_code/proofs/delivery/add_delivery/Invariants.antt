use Rattle.std.proofs.Common.{◌≡◌, ◌++◌, length, take}
use Rattle.tower_syntax.specs.Graph.{handler}
use Rattle.task_code.specs.Piece.{listed}
use Rattle.emit_code.specs.Delivery.{entry_of, delivery_code}
use Rattle.emit_code.specs.Framed.{entries_in}
use Rattle.emit_code.proofs.delivery.add_delivery.Given as goal

abbrev pub invariant-loop-k : goal.invariant-loop-k
invariant-loop-k l =
    l.code ≡ l.initial.code ++ listed (delivery_code l.arch (entries_in l.frames) (entry_of (entries_in l.frames) l.handler).frame (length l.initial.code) 0 (take l.k (handler l.arch l.handler).emitters))
