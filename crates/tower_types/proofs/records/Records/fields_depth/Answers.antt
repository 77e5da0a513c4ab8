use Rattle.std.proofs.Common.{arith}
use Rattle.tower_types.specs.Ty.{table_of}
use Rattle.tower_types.proofs.Kept.{type_at, depths_more}
use Rattle.tower_types.proofs.records.Records.fields_depth.Goals as goal

pub depth-requires : goal.depth-requires
depth-requires c = type_at _ _ _ _ c.requires c.loop-ty-test.true c.loop-ty-item.is

pub loop-ty-preserved : goal.loop-ty-preserved
loop-ty-preserved c =
    omega (arith, depths_more (table_of c.args.self.now) _ _ _ c.loop-ty-test.true c.loop-ty-item.is)
