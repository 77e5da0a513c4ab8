use Rattle.std.proofs.Common.{◌≡◌, ◌++◌}
use Rattle.task_code.specs.Piece.{listed}
use Rattle.emit_code.specs.Delivery.{words_got}
use Rattle.emit_code.proofs.delivery.add_words.Given as goal

abbrev pub invariant-loop-j : goal.invariant-loop-j
invariant-loop-j l = l.code ≡ l.initial.code ++ listed (words_got l.out.counter l.out.buffer l.to 0 l.j)
