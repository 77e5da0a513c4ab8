use Rattle.std.proofs.Common.{◌≡◌, ℕ, [], length, get_or}
use Rattle.emit_code.proofs.subscribers.silence.Given as goal

abbrev pub invariant-loop-c : goal.invariant-loop-c
invariant-loop-c l = (length l.heard.items ≡ l._c) × ((d : ℕ) → get_or l.heard.items d [] ≡ [])
