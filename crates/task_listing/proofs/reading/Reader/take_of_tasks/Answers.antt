use Rattle.std.proofs.Common.{◌∙◌, ap, arith}
use Rattle.task_listing.specs.declared.kind.Kind.TheVariants as kind
use Rattle.task_listing.specs.FewWords.{listed}
use Rattle.task_listing.specs.Reading.{awaits_of}
use Rattle.task_listing.proofs.Taken.{takes_any, awaits_buffers, awaits_code, awaits_tasks}
use Rattle.task_listing.proofs.reading.Reader.take_of_tasks.Goals as goal

pub returns-then-buffers-gt0 : goal.returns-then-buffers-gt0
returns-then-buffers-gt0 c =
    takes_any kind.Buffer _ c.args.self.now c.take_buffer.new.self c.args.line (listed c.args.words) c.take_buffer.result (ap awaits_of c.requires ∙ awaits_buffers _ _ _ (omega (arith, c.if-buffers-gt0.true))) c.take_buffer.ensures

pub returns-then-code-gt0 : goal.returns-then-code-gt0
returns-then-code-gt0 c =
    takes_any kind.Instruction _ c.args.self.now c.take_instr.new.self c.args.line (listed c.args.words) c.take_instr.result (ap awaits_of c.requires ∙ awaits_code _ _ _ (omega (arith, c.if-buffers-gt0.false)) (omega (arith, c.if-code-gt0.true))) c.take_instr.ensures

pub returns-then-tasks-gt0 : goal.returns-then-tasks-gt0
returns-then-tasks-gt0 c =
    takes_any kind.Task _ c.args.self.now c.take_task.new.self c.args.line (listed c.args.words) c.take_task.result (ap awaits_of c.requires ∙ awaits_tasks _ _ _ (omega (arith, c.if-buffers-gt0.false)) (omega (arith, c.if-code-gt0.false)) (omega (arith, c.if-tasks-gt0.true))) c.take_task.ensures
