use Rattle.std.proofs.Common.{arith}
use Rattle.tower_types.specs.Ty.{table_of}
use Rattle.tower_types.proofs.Kept.{type_at, words_more}
use Rattle.tower_types.proofs.records.Records.fields_words.Goals as goal

pub words-requires : goal.words-requires
words-requires c = type_at _ _ _ _ c.requires c.loop-ty-test.true c.loop-ty-item.is

pub loop-ty-preserved : goal.loop-ty-preserved
loop-ty-preserved c =
    omega (arith, words_more (table_of c.args.self.now) _ _ _ c.loop-ty-test.true c.loop-ty-item.is)
