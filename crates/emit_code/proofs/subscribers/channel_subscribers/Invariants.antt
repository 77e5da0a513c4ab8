use Rattle.std.proofs.Common.{take}
use Rattle.emit_code.specs.Heard.{AreHeardAmong}
use Rattle.emit_code.proofs.subscribers.channel_subscribers.Given as goal

abbrev pub invariant-loop-listener : goal.invariant-loop-listener
invariant-loop-listener l = AreHeardAmong l.arch (take l.listener-index l.listener-items) l.heard.items
