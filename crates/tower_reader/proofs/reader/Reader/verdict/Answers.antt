use Rattle.std.proofs.Common.{ap, sym, ◌∙◌, Err}
use Rattle.tower_reader.specs.declared.fault.ReadFault.TheVariants as fault
use Rattle.tower_reader.proofs.Standing.{long_verdict, is_long, never_fails}
use Rattle.tower_reader.proofs.reader.Reader.verdict.Goals as goal

pub returns-in-Long-clause-gives : goal.returns-in-Long-clause-gives
returns-in-Long-clause-gives c = λ bs h. long_verdict bs (is_long c.args.self bs c.in-Long.is h) ∙ ap (λ n. Err (fault.Long n)) (sym c.from.ensures)

pub returns-in-Long-clause-told : goal.returns-in-Long-clause-told
returns-in-Long-clause-told c = λ bs f h v.
    let l = long_verdict bs (is_long c.args.self bs c.in-Long.is h) in
    let n = c.from.ensures in
    cc

pub returns-in-Failed-clause-told : goal.returns-in-Failed-clause-told
returns-in-Failed-clause-told c = λ bs f h v. ap Err (never_fails c.args.self bs f c.in-Failed.is h)
