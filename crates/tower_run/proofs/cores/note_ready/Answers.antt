use Rattle.std.proofs.Common.{◌≡◌, ◌+◌, ◌<◌, Bool, [], ◌∷◌, ◌++◌, length, map, ap, sym, ◌∙◌, arith, add-one}
use Rattle.std.proofs.Math.ListN.{length-set}
use Rattle.std.proofs.lemmas.List.{take_more_set}
use Rattle.task_code.specs.Standing.{is_ready}
use Rattle.task_machine.specs.State.{standing_in}
use Rattle.task_machine.proofs.Numbers.{over, over_more, map_onto}
use Rattle.tower_run.proofs.cores.note_ready.Goals as goal

pub loop-x-preserved : goal.loop-x-preserved
loop-x-preserved c =
    let flags = c.loop-x.flags.items in
    let x = c.loop-x.x in
    let stands = standing_in c.args.machine.now in
    let within : x < length flags = omega (arith, c.loop-x-test.true, c.requires.tasks, c.loop-x.invariant.count) in
    let flag : c.is_ready.result ≡ is_ready (stands x) = c.is_ready.ensures ∙ ap is_ready c.standing-standing.ensures in
    let more : map is_ready (over stands (x + 1)) ≡ map is_ready (over stands x) ++ is_ready (stands x) ∷ [] =
    rw add-one (ap (map is_ready) (over_more stands x) ∙ map_onto is_ready (over stands x) (stands x ∷ [])) in
    record {
      noted = take_more_set flags x c.is_ready.result within ∙ ap (λ r. r ++ c.is_ready.result ∷ []) c.loop-x.invariant.noted
          ∙ ap (λ (b : Bool). map is_ready (over stands x) ++ b ∷ []) flag ∙ sym more;
      count = length-set flags x c.is_ready.result ∙ c.loop-x.invariant.count;
    }
