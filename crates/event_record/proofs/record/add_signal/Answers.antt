use Rattle.tower_types.specs.View.{ty_of}
use Rattle.event_record.proofs.NestingHeight.{among_by_height}
use Rattle.event_record.proofs.record.add_signal.Goals as goal

pub value_of-requires : goal.value_of-requires
value_of-requires c = among_by_height c.args.arch.now.records c.records.result.now (ty_of c.source-source.result.now.message) c.records.ensures.value c.source-source.ensures.numbered.message
