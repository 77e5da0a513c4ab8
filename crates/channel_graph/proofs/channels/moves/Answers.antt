use Rattle.std.proofs.Common.{◌≡◌, length, ap, arith}
use Rattle.std.proofs.lemmas.List.{length-map}
use Rattle.tower_syntax.specs.declared.arch.On.TheVariants as on
use Rattle.tower_syntax.specs.View.{channel_of}
use Rattle.tower_syntax.specs.Weights.{message_words}
use Rattle.channel_graph.specs.Table.{channel_move}
use Rattle.channel_graph.proofs.Tables.{table_more, table_end}
use Rattle.channel_graph.proofs.channels.moves.Goals as goal

pub loop-c-preserved : goal.loop-c-preserved
loop-c-preserved c =
    let here = c.move_weight.ensures (message_words c.args.arch.now (on.Channel c.loop-c.c)) c.words_on-words.ensures in
    table_more c.loop-c.c (channel_move c.args.arch.now) c.loop-c.moves c.push.new.self c.move_weight.result c.loop-c.invariant c.in_ok-push.ensures.ok here

pub returns : goal.returns
returns c =
    let end : c.loop-c.c ≡ length c.args.arch.now.channels = omega (arith, c.loop-c-test.false, ap length c.channels-c-end.ensures.value, length-map c.channels-c-end.result.now channel_of) in
    table_end c.loop-c.c (length c.args.arch.now.channels) (channel_move c.args.arch.now) c.loop-c.moves end c.loop-c.invariant
