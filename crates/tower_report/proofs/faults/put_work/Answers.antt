use Rattle.std.proofs.Common.{◌≡◌, [], ◌∷◌, rules}
use Rattle.std.specs.Prelude.{codes, decimal}
use Rattle.tower_report.proofs.Puts.{Puts-same}
use Rattle.tower_report.proofs.Parts.{same_two}
use Rattle.tower_report.proofs.faults.put_work.Goals as goal

pub returns : goal.returns
returns g c =
    let number : c.as_bytes-number.result.now ≡ decimal c.args.cost = search rules in
    Puts-same (same_two (codes "refused:" ∷ codes "work" ∷ []) _ _ _ _ c.bytes.ensures.value number) c.put_line.ensures
