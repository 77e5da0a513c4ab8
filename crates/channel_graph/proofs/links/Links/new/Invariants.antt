use Rattle.std.proofs.Common.{◌≡◌, ◌+◌, length}
use Rattle.channel_graph.proofs.links.Links.new.Given as goal

abbrev pub invariant-loop-k : goal.invariant-loop-k
invariant-loop-k l = length l.links.back.items ≡ length l.arch.handlers + length l.arch.channels
