use Rattle.std.proofs.Common.{◌≡◌, ◌∙◌, ap, sym, true, rules}
use Rattle.std.specs.Prelude.{codes, bytes_eq}
use Rattle.task_listing.specs.FewWords.{listed}
use Rattle.task_listing.specs.Answers.{both, count, priority, task_line}
use Rattle.task_listing.proofs.Taken.{task_six}
use Rattle.task_listing.proofs.reading.task_line.Goals as goal

pub returns-then-eq : goal.returns-then-eq
returns-then-eq c =
    let t : bytes_eq c.in-Six.word.now (codes "task") ≡ true = search rules in
    c.task_numbers.ensures
    ∙ ap (λ x. both (priority c.in-Six.first.now) (both x c.counts-then-eq.result)) c.counts.ensures
    ∙ ap (λ x. both (priority c.in-Six.first.now) (both (both (count c.in-Six.message.now) (count c.in-Six.room.now)) x)) c.counts-then-eq.ensures
    ∙ task_six c.in-Six.word.now c.in-Six.first.now c.in-Six.message.now c.in-Six.room.now c.in-Six.buffers.now c.in-Six.code.now t
    ∙ ap (λ ws. task_line (listed ws)) (sym c.in-Six.is)
