use Rattle.tower_types.proofs.Kept.{kept_depth}
use Rattle.tower_types.proofs.records.Records.record_depth.Goals as goal

pub returns : goal.returns
returns c = kept_depth c.self.inside.records c.as_slice.result.now c.args.self.now c.args.r _ c.self.view_is c.as_slice.ensures c.self.invariant c.requires
