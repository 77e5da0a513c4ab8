use Rattle.task_listing.specs.Listing.{instr_text}
use Rattle.task_listing.proofs.Texts.{texts_next, texts_all}
use Rattle.task_listing.proofs.writing.put_code.Goals as goal

pub loop-instr-preserved : goal.loop-instr-preserved
loop-instr-preserved c = texts_next instr_text c.args.code.now c.loop-instr.instr-index _ _ _ _ c.loop-instr-test.true c.loop-instr.invariant c.in_ok-put_instr.ensures

pub returns : goal.returns
returns c = texts_all instr_text c.args.code.now c.loop-instr.instr-index _ _ c.loop-instr-test.false c.loop-instr.invariant
