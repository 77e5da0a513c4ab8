use Rattle.std.proofs.Common.{ap, length, take, arith, ◌∙◌}
use Rattle.std.proofs.lemmas.List.{length-append}
use Rattle.task_code.specs.Piece.{listed}
use Rattle.task_code.specs.Emission.{emission}
use Rattle.task_code.proofs.Grown.{taken_back, length-emission}
use Rattle.task_code.proofs.emitting.emission.Goals as goal

pub returns-in-Ok-clause-few : goal.returns-in-Ok-clause-few
returns-in-Ok-clause-few c =
    let more = listed (emission c.args.scratch c.args.buffer c.args.width) in
    omega (arith, ap length c.in-Ok.ensures.ok, length-append c.args.code.now more, length-emission c.args.scratch c.args.buffer c.args.width)

pub returns-in-Err-clause-err : goal.returns-in-Err-clause-err
returns-in-Err-clause-err c =
    c.shorten.ensures ∙ ap (λ n. take n c.add_emission.new.code) c.place-start.ensures ∙ taken_back c.args.code.now c.add_emission.new.code c.add_emission.ensures.keeps
