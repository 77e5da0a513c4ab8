use Rattle.std.proofs.Common.{◌≡◌, ◌∙◌, ap, rules}
use Rattle.std.specs.Prelude.{not, decimal}
use Rattle.tower_report.proofs.Puts.{Puts-none, Puts-same, Puts-answer}
use Rattle.tower_report.proofs.Lookups.{none_lost, some_lost}
use Rattle.tower_report.proofs.ends.put_lost.Goals as goal

pub returns-then-is_none : goal.returns-then-is_none
returns-then-is_none g c =
    let none = c.is_none.ensures ∙ ap not c.if-is_none.true in
    let e = none_lost c.args.arch.now c.args.x c.args.n _ c.source-source.ensures.value c.source-source.ensures.numbered none in
    Puts-same e (Puts-none _ _ _)

pub returns : goal.returns
returns g c =
    let some = c.is_none.ensures ∙ ap not c.if-is_none.false in
    let digits : c.as_bytes-number.result.now ≡ decimal c.args.n = search rules in
    let e = some_lost c.args.arch.now c.args.x c.args.n _ _ _ c.source-source.ensures.value c.source-source.ensures.numbered some c.bytes.ensures.value digits in
    Puts-answer c.answer.ensures (Puts-same e c.put_line.ensures)
