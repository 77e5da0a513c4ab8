use Rattle.std.proofs.Common.{arith}
use Rattle.channel_graph.specs.Table.{code_of, nothing}
use Rattle.channel_graph.proofs.code_weight.source_code.Goals as goal

pub returns : goal.returns
returns c =
    let handlers = c.in_ok-handlers.ensures (code_of c.args.arch.now) c.requires.codes in
    let messages = c.source_weight.ensures nothing c.requires.costs in
    omega (arith, handlers, messages, c.saturating_add-messages.ensures, c.saturating_add.ensures)
