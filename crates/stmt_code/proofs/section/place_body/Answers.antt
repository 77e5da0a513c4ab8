use Rattle.std.proofs.Common.{◌∙◌, take, ap}
use Rattle.task_code.proofs.Grown.{taken_back}
use Rattle.stmt_code.proofs.section.place_body.Goals as goal

pub returns-in-Err-clause-err : goal.returns-in-Err-clause-err
returns-in-Err-clause-err c =
    c.shorten.ensures ∙ ap (λ n. take n c.add_section.new.code) c.place-start.ensures ∙ taken_back c.args.code.now c.add_section.new.code c.add_section.ensures.keeps
