use Rattle.std.proofs.Common.{◌≡◌, take, filter}
use Rattle.tower_syntax.specs.Graph.{hears}
use Rattle.channel_graph.proofs.listening.subscribers.Given as goal

abbrev pub invariant-loop-listener : goal.invariant-loop-listener
invariant-loop-listener l = l.found.items ≡ filter (hears l.arch l.on) (take l.listener-index l.listener-items)
