use Rattle.std.proofs.Common.{◌<◌, length}
use Rattle.tower_syntax.specs.View.{emitter_of}
use Rattle.channel_graph.proofs.Sized.{each_view}
use Rattle.stmt_code.proofs.framing.lay_messages.Goals as goal

pub words_on-requires : goal.words_on-requires
words_on-requires c =
    each_view (λ e. e.channel < length c.args.arch.now.channels) emitter_of c.args.emitters.now c.loop-emitter.emitter-index c.emitter-item.result c.requires c.loop-emitter-test.true c.emitter-item.is
