use Rattle.tower_syntax.specs.RawView.{raw_item_of}
use Rattle.tower_gen.specs.File.{output_item}
use Rattle.tower_gen.proofs.Drawing.{grows}
use Rattle.tower_gen.proofs.items.add_outputs.Goals as goal

pub loop-i-preserved : goal.loop-i-preserved
loop-i-preserved c = grows raw_item_of output_item c.loop-i.i c.args.items.now c.loop-i.items c.push.new.self c.in_ok-next.next c.in_ok-push.ensures.ok c.in_ok-next.ensures c.loop-i.invariant
