use Rattle.std.proofs.Common.{◌≡◌, ◌++◌, drop}
use Rattle.task_listing.specs.Lines.{texts}
use Rattle.task_listing.specs.Listing.{buffer_text}
use Rattle.task_listing.proofs.writing.put_buffers.Given as goal

abbrev pub invariant-loop-buffer : goal.invariant-loop-buffer
invariant-loop-buffer l = l.out.items ++ texts buffer_text (drop l.buffer-index l.buffers) ≡ l.initial.out.items ++ texts buffer_text l.buffers
