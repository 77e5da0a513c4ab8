use Rattle.std.proofs.Common.{◌≡◌, ◌≤◌, length, ap, None, cond, Some, arith}
use Rattle.std.proofs.lemmas.Bool.{le-ltb}
use Rattle.event_record.specs.declared.choices.ChoiceKind.TheVariants.{Many}
use Rattle.event_record.specs.ChoiceLine.{judge_choice, over_choices}
use Rattle.event_record.proofs.Walks.{adds_none}
use Rattle.event_record.proofs.choices.add_line.Goals as goal

pub returns-in-Ok-None-clause-added : goal.returns-in-Ok-None-clause-added
returns-in-Ok-None-clause-added c =
    let done = c.args.choices.now.items in
    let few : length done ≤ 1000000 = omega (arith, c.args.choices.now.ok.0) in
    let none : over_choices (length done) ≡ None = ap (λ b. cond b (Some Many) None) (le-ltb 1000000 (length done) few) in
    adds_none over_choices done (judge_choice c.args.line.now) none (rw c.in-Ok-None.field-0-is at c.in-Ok-None.ensures)
