use Rattle.std.proofs.Common.{◌∙◌, ap, sym}
use Rattle.task_listing.specs.Reading.{awaits_of, is_empty}
use Rattle.task_listing.proofs.Taken.{monitors_left, outputs_left, tasks_left}
use Rattle.task_listing.proofs.reading.Reader.is_done.Goals as goal

pub returns-in-MonitorLines : goal.returns-in-MonitorLines
returns-in-MonitorLines c = sym (ap (λ s. is_empty (awaits_of s)) c.in-MonitorLines.is ∙ monitors_left _)

pub returns-in-OutputLines : goal.returns-in-OutputLines
returns-in-OutputLines c = sym (ap (λ s. is_empty (awaits_of s)) c.in-OutputLines.is ∙ outputs_left _)

pub returns-in-TaskLines : goal.returns-in-TaskLines
returns-in-TaskLines c = sym (ap (λ s. is_empty (awaits_of s)) c.in-TaskLines.is ∙ tasks_left _ _ _)
