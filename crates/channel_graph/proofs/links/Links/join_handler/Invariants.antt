use Rattle.std.proofs.Common.{◌≡◌, length}
use Rattle.channel_graph.proofs.links.Links.join_handler.Given as goal

abbrev pub invariant-loop-emitter : goal.invariant-loop-emitter
invariant-loop-emitter l = length l.self.back.items ≡ length l.fn.self.back.items
