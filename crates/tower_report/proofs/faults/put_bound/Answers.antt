use Rattle.std.proofs.Common.{◌≡◌, [], ◌∷◌, rules}
use Rattle.std.specs.Prelude.{codes, decimal}
use Rattle.tower_report.proofs.Puts.{Puts-same}
use Rattle.tower_report.proofs.Parts.{same_four}
use Rattle.tower_report.proofs.faults.put_bound.Goals as goal

pub returns : goal.returns
returns g c =
    let most : c.as_bytes-most.result.now ≡ decimal c.args.most = search rules in
    let bound : c.as_bytes-bound.result.now ≡ decimal c.args.bound = search rules in
    Puts-same (same_four (codes "refused:" ∷ codes "bound" ∷ []) _ _ _ _ _ _ _ _ c.bytes.ensures.value c.bytes-2.ensures.value most bound) c.put_line.ensures
