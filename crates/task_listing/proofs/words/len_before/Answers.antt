use Rattle.task_listing.specs.FewWords.{is_other}
use Rattle.task_listing.proofs.Prefixes.{run_ends}
use Rattle.task_listing.proofs.words.len_before.Goals as goal

pub returns-clause-len : goal.returns-clause-len
returns-clause-len c = run_ends (is_other c.args.byte) c.args.text.now c.loop-i.i c.loop-i-test.false c.loop-i.invariant
