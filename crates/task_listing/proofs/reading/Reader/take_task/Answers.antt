use Rattle.std.proofs.Common.{◌∙◌, ap, sym}
use Rattle.task_listing.specs.declared.reading.Stage.TheVariants as stage
use Rattle.task_listing.specs.FewWords.{listed}
use Rattle.task_listing.specs.Reading.{awaits_of, state_of, opened}
use Rattle.task_listing.proofs.Taken.{task_taken}
use Rattle.task_listing.proofs.reading.Reader.take_task.Goals as goal

pub returns-in_ok-close-in-Ok : goal.returns-in_ok-close-in-Ok
returns-in_ok-close-in-Ok c =
    let ks = awaits_of (stage.TaskLines 0 0 c.args.left) in
    task_taken ks (state_of c.args.self.now) _ c.args.line (listed c.args.words) c.in-Ok.numbers (sym c.task_line.ensures ∙ c.in-Ok.is)
    (c.open.ensures ∙ ap (λ s. opened ks s c.args.line c.in-Ok.numbers) c.in_ok-close-in-Ok.ensures)
