use Rattle.std.proofs.Common.{◌≡◌, ℕ, ◌<◌, length, Some, slice_get, slice_set, arith, sym, ap, ◌∙◌, inl, inr}
use Rattle.std.proofs.Math.ListN.{length-set}
use Rattle.std.proofs.lemmas.Bool.{cases_eq}
use Rattle.task_machine.specs.Noted.{ready_by}
use Rattle.task_machine.proofs.Kept.{get_set_same, get_set_other}
use Rattle.task_machine.proofs.noted.stand_all.Goals as goal

pub loop-x-preserved : goal.loop-x-preserved
loop-x-preserved c =
    let flags = c.loop-x.ready.items in
    let x = c.loop-x.x in
    let flag = ready_by c.args.clear c.args.running.now x in
    let within : x < length flags = let n = c.loop-x.invariant.count in omega (arith, n) in
    rw c.stand.ensures (record {
      each = λ y h. elim (cases_eq y x) [
        | inl same ↦ rw same (get_set_same flags x flag within)
        | inr o ↦ get_set_other flags x y flag o ∙ c.loop-x.invariant.each y (omega (arith, h, o))
      ];
      count = length-set flags x flag ∙ c.loop-x.invariant.count;
    })
