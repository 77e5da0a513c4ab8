use Rattle.task_listing.specs.Listing.{buffer_text}
use Rattle.task_listing.proofs.Texts.{texts_next, texts_all}
use Rattle.task_listing.proofs.writing.put_buffers.Goals as goal

pub loop-buffer-preserved : goal.loop-buffer-preserved
loop-buffer-preserved c = texts_next buffer_text c.args.buffers.now c.loop-buffer.buffer-index _ _ _ _ c.loop-buffer-test.true c.loop-buffer.invariant c.in_ok-put_buffer.ensures

pub returns : goal.returns
returns c = texts_all buffer_text c.args.buffers.now c.loop-buffer.buffer-index _ _ c.loop-buffer-test.false c.loop-buffer.invariant
