use Rattle.std.proofs.Common.{◌≡◌, [], ◌∷◌, rules}
use Rattle.std.specs.Prelude.{codes, decimal}
use Rattle.tower_report.proofs.Puts.{Puts-same}
use Rattle.tower_report.proofs.Parts.{same_three}
use Rattle.tower_report.proofs.faults.put_size.Goals as goal

pub returns : goal.returns
returns g c =
    let count : c.as_bytes-count.result.now ≡ decimal c.args.count = search rules in
    let limit : c.as_bytes-limit.result.now ≡ decimal c.args.limit = search rules in
    Puts-same (same_three (codes "refused:" ∷ codes "size" ∷ []) _ _ _ _ _ _ c.what_text.ensures count limit) c.put_line.ensures
