use Rattle.std.proofs.Common.{◌≡◌, ℕ, ◌<◌, length, Some, true, false, slice_get, slice_set, arith, sym, ap, ◌∙◌, inl, inr}
use Rattle.std.proofs.Math.ListN.{length-set}
use Rattle.std.proofs.lemmas.Bool.{cases_eq}
use Rattle.task_machine.specs.Arriving.{reaches}
use Rattle.task_machine.specs.Noted.{ready_by}
use Rattle.task_machine.proofs.Kept.{get_set_same, get_set_other}
use Rattle.task_machine.proofs.noted.stand_reached.Goals as goal
use Rattle.task_machine.proofs.noted.stand_reached.Goals.{then-is_reached, else-is_reached}

pub loop-x-preserved : goal.loop-x-preserved
loop-x-preserved c =
    let x = c.loop-x.x in
    let inv = c.loop-x.invariant in
    let flags = c.loop-x.ready.items in
    let flag = ready_by c.args.clear c.args.running.now x in
    let within : x < length flags = let n = c.loop-x.invariant.count in omega (arith, n) in
    elim c.if-is_reached.branch [
      | then-is_reached w ↦
          let is : reaches (Some c.args.arrival) c.args.running.now x ≡ true = sym w.if-is_reached.ensures in
          rw (w.ready-is, w.stand.ensures) (record {
            reached = λ y h r. elim (cases_eq y x) [
              | inl same ↦ rw same (get_set_same flags x flag within)
              | inr o ↦ get_set_other flags x y flag o ∙ inv.reached y (omega (arith, h, o)) r
            ];
            others = λ y r. elim (cases_eq y x) [
              | inl same ↦ let a : true ≡ false = sym is ∙ ap (reaches (Some c.args.arrival) c.args.running.now) (sym same) ∙ r in cc
              | inr o ↦ get_set_other flags x y flag o ∙ inv.others y r
            ];
            count = length-set flags x flag ∙ inv.count;
          })
      | else-is_reached w ↦
          let is : reaches (Some c.args.arrival) c.args.running.now x ≡ false = sym w.if-is_reached.ensures in
          rw w.ready-is (record {
            reached = λ y h r. elim (cases_eq y x) [
              | inl same ↦ let a : true ≡ false = sym r ∙ ap (reaches (Some c.args.arrival) c.args.running.now) same ∙ is in cc
              | inr o ↦ inv.reached y (omega (arith, h, o)) r
            ];
            others = inv.others;
            count = inv.count;
          })
    ]
