use Rattle.std.proofs.Common.{rules}
use Rattle.task_listing.specs.Spelling.{natural}
use Rattle.task_listing.specs.Writing.{after_blank}
use Rattle.task_listing.proofs.Texts.{texts_next, texts_all, numbers_line}
use Rattle.task_listing.proofs.writing.put_numbers.Goals as goal

pub loop-number-preserved : goal.loop-number-preserved
loop-number-preserved c = texts_next (λ n. after_blank (natural n)) c.args.numbers.now c.loop-number.number-index _ _ _ _ c.loop-number-test.true c.loop-number.invariant c.in_ok-put_number.ensures

pub returns : goal.returns
returns c =
    let all = texts_all (λ n. after_blank (natural n)) c.args.numbers.now c.loop-number.number-index _ _ c.loop-number-test.false c.loop-number.invariant in
    numbers_line c.args.out.now.items c.args.word.now c.args.numbers.now c.loop-number.out.items _ (search rules) c.in_ok-push.ensures.items
