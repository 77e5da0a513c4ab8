use Rattle.std.proofs.Common.{◌≡◌, map, take}
use Rattle.task_code.specs.Own.{empty_buffer}
use Rattle.task_machine.proofs.start.first_buffers.Given as goal

abbrev pub invariant-loop-buffer : goal.invariant-loop-buffer
invariant-loop-buffer l = l.filled.items ≡ map empty_buffer (take l.buffer-index l.buffers)
