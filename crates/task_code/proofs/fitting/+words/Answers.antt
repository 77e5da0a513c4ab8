use Rattle.std.proofs.Common.{◌≡◌, ℤ, ◌^◌, ◌-◌, min, length, ap, subst, arith, length-append}
use Rattle.tower_types.specs.Value.{flat}
use Rattle.tower_types.specs.View.{value_of}
use Rattle.tower_types.proofs.Parts.{flat_all_more}
use Rattle.task_code.proofs.fitting.+words.Goals as goal

pub words_of_all-loop-v-preserved : goal.words_of_all-loop-v-preserved
words_of_all-loop-v-preserved t c =
    let more = ap length (flat_all_more c.args.vs.now c.loop-v.v-index c.v-item.result c.loop-v-test.true) in
    let here = subst (λ v. c.words_of-words.result ≡ min (2 ^ 64 - 1) (length (flat (value_of v)))) c.v-item.is c.words_of-words.ensures in
    omega (arith, length-append {A = ℤ}, more, here, c.loop-v.invariant, c.saturating_add-sum.ensures)
