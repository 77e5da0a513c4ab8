use Rattle.std.proofs.Common.{◌≡◌, ◌+◌, ◌<◌, Bool, not, [], ◌∷◌, ◌++◌, length, map, ap, sym, ◌∙◌, arith, add-one}
use Rattle.std.proofs.Math.ListN.{length-set}
use Rattle.std.proofs.lemmas.List.{take_more_set}
use Rattle.task_code.specs.Standing.{Standing, is_idle}
use Rattle.task_machine.specs.State.{standing_in}
use Rattle.task_machine.proofs.Numbers.{over, over_more, map_onto}
use Rattle.tower_run.proofs.waits.note_busy.Goals as goal

pub loop-x-preserved : goal.loop-x-preserved
loop-x-preserved c =
    let busy = c.loop-x.busy.items in
    let x = c.loop-x.x in
    let stands = standing_in c.args.machine.now in
    let is_busy = λ (st : Standing). not (is_idle st) in
    let within : x < length busy = omega (arith, c.loop-x-test.true, c.requires.tasks, c.loop-x.invariant.count) in
    let flag : not c.is_idle.result ≡ is_busy (stands x) = ap not c.is_idle.ensures ∙ ap is_busy c.standing-standing.ensures in
    let more : map is_busy (over stands (x + 1)) ≡ map is_busy (over stands x) ++ is_busy (stands x) ∷ [] =
    rw add-one (ap (map is_busy) (over_more stands x) ∙ map_onto is_busy (over stands x) (stands x ∷ [])) in
    record {
      noted = take_more_set busy x (not c.is_idle.result) within ∙ ap (λ r. r ++ not c.is_idle.result ∷ []) c.loop-x.invariant.noted
          ∙ ap (λ (b : Bool). map is_busy (over stands x) ++ b ∷ []) flag ∙ sym more;
      count = length-set busy x (not c.is_idle.result) ∙ c.loop-x.invariant.count;
    }
