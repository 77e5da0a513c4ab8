use Rattle.std.proofs.Common.{arith}
use Rattle.channel_graph.specs.Table.{frame_of}
use Rattle.channel_graph.proofs.size.source_memory.Goals as goal

pub returns : goal.returns
returns c =
    let handlers = c.in_ok-handlers.ensures (frame_of c.args.arch.now) c.requires.frames in
    omega (arith, handlers, c.words_on.ensures, c.saturating_add-message.ensures, c.saturating_add.ensures)
