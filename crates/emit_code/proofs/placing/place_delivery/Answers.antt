use Rattle.std.proofs.Common.{◌∙◌, ap, take}
use Rattle.task_code.proofs.Grown.{taken_back}
use Rattle.emit_code.proofs.placing.place_delivery.Goals as goal

pub returns-in-Err-clause-err : goal.returns-in-Err-clause-err
returns-in-Err-clause-err c =
    c.shorten.ensures ∙ ap (λ n. take n c.add_delivery.new.code) c.place-start.ensures ∙ taken_back c.args.code.now c.add_delivery.new.code c.add_delivery.ensures.keeps
