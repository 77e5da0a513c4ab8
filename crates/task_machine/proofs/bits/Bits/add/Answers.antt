use Rattle.std.proofs.Common.{◌≡◌, ◌<◌, ◌/◌, ◌%◌, length, arith, ap, ◌∙◌}
use Rattle.std.specs.Prelude.{slice_index}
use Rattle.std.specs.Int.{bit_at, w64}
use Rattle.std.proofs.lemmas.Nat.Bits.{bit_at_set_same, bit_at_set_other}
use Rattle.task_machine.proofs.Brought.{index_any}
use Rattle.task_machine.proofs.BitWords.{bit_here, bit_there}
use Rattle.task_machine.proofs.bits.Bits.add.Goals as goal

pub returns-clause-here : goal.returns-clause-here
returns-clause-here c =
    let words = c.self.inside.words.items in
    let within : c.args.t / 64 < length words = rw (← c.self.view_is) at c.requires in
    bit_here words c.args.t _ within ∙ bit_at_set_same w64 c.index_mut.result.now (c.args.t % 64) (omega arith)

pub returns-clause-others : goal.returns-clause-others
returns-clause-others c = λ y o.
    let words = c.self.inside.words.items in
    let within : c.args.t / 64 < length words = rw (← c.self.view_is) at c.requires in
    let was : c.index_mut.result.now ≡ slice_index words (c.args.t / 64) = c.index_mut.ensures.value ∙ index_any words (c.args.t / 64) _ 0 within in
    rw (← c.self.view_is) (bit_there words c.args.t _ within (λ i h apart.
    bit_at_set_other w64 c.index_mut.result.now (c.args.t % 64) (omega arith) i apart ∙ ap (λ w. bit_at w i) was) y o)
