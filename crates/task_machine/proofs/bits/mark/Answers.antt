use Rattle.std.proofs.Common.{◌≡◌, ◌+◌, ◌*◌, ◌<◌, length, arith, ◌∙◌}
use Rattle.task_machine.proofs.BitWords.{bit_in_word}
use Rattle.task_machine.proofs.bits.mark.Goals as goal

pub mark_word-requires : goal.mark_word-requires
mark_word-requires c = λ i h e.
    let b = c.requires (64 * c.loop-k.k + i) (bit_in_word c.args.bits.now c.loop-k.k i h ∙ e) in
    let n = c.loop-k.invariant.count in
    let g : 64 * c.loop-k.k + i < length c.loop-k.ready.items = omega (arith, b, n) in
    g
