use Rattle.std.proofs.Common.{◌≡◌, ◌<◌, true, false, length, ap, sym, ◌∙◌, add-one}
use Rattle.task_code.specs.Standing.{is_idle}
use Rattle.task_machine.specs.State.{standing_in}
use Rattle.task_machine.proofs.Combinators.{both_true}
use Rattle.task_machine.proofs.Numbers.{all_more, all_fails}
use Rattle.task_machine.proofs.noted.Noted.are_idle.Goals as goal

pub returns-then-not-is_idle : goal.returns-then-not-is_idle
returns-then-not-is_idle c =
    let stands = standing_in c.args.running.now in
    let within : c.loop-x.x < length c.args.running.now.program.tasks = rw (← c.sources-x-end.ensures.tasks) c.loop-x-test.true in
    let fails : is_idle (stands c.loop-x.x) ≡ false = sym (c.is_idle.ensures ∙ ap is_idle c.standing.ensures) ∙ c.if-not-is_idle.true in
    sym (all_fails stands is_idle (length c.args.running.now.program.tasks) c.loop-x.x within fails)

pub loop-x-preserved : goal.loop-x-preserved
loop-x-preserved c =
    let stands = standing_in c.args.running.now in
    let passes : is_idle (stands c.loop-x.x) ≡ true = sym (c.is_idle.ensures ∙ ap is_idle c.standing.ensures) ∙ c.if-not-is_idle.false in
    rw add-one (all_more stands is_idle c.loop-x.x ∙ both_true _ _ c.loop-x.invariant passes)
