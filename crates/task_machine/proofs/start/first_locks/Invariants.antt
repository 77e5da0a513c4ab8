use Rattle.std.proofs.Common.{◌≡◌, replicate, pos, map, take}
use Rattle.task_code.specs.Machine.{Free}
use Rattle.task_machine.proofs.start.first_locks.Given as goal

abbrev pub invariant-loop-words : goal.invariant-loop-words
invariant-loop-words l = l.locks.items ≡ map (λ n. Free (replicate n (pos 0))) (take l.words-index l.monitors)
