use Rattle.std.proofs.Common.{◌≡◌, ℕ, length}
use Rattle.channel_graph.specs.Table.{IsTable, further}
use Rattle.channel_graph.proofs.delivery.round.Given as goal

abbrev pub invariant-loop-h : goal.invariant-loop-h
invariant-loop-h l =
    (length l.after ≡ l.h)
    × ((f : ℕ → ℕ) → IsTable (length l.arch.handlers) f l.before → IsTable l.h (further l.arch f) l.after)
