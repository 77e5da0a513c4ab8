use Rattle.std.proofs.Common.{rules, ◌≤◌, ◌++◌, sym, take, drop, length, arith, length-take}
use Rattle.tower_top.proofs.FileFacts.{long_told, next_told, went_well}
use Rattle.tower_top.proofs.file.read_on.Goals as goal

pub loop-pieces-preserved : goal.loop-pieces-preserved
loop-pieces-preserved g c =
    let before = c.loop-pieces.invariant in
    let piece = take c.in-Got.n (c.next.new.room ++ drop c.min-want.result c.loop-pieces.room) in
    let fits : c.in-Got.n ≤ length c.next.new.room = omega (arith, c.in-Got.ensures.fits, c.next.auto.room) in
    let taken = went_well c.take.result (sym c.if-is_err.ensures.negation) c.take.ensures.counts in
    record {
      read = (before.read.0 ++ piece, next_told _ _ _ before.read.0 _ _ c.in-Got.n fits before.read.1 c.in-Got.ensures.takes, went_well c.take.result (sym c.if-is_err.ensures.negation) c.take.ensures.stands before.read.0 before.read.2);
      stays_open = search rules;
      calm = search rules;
      blames_none = search rules;
      holds = search rules;
      few = omega (arith, taken, length-take c.in-Got.n (c.next.new.room ++ drop c.min-want.result c.loop-pieces.room), c.in-Got.ensures.fits, length-take c.min-want.result c.loop-pieces.room, c.min-want.ensures);
    }

pub returns-clause-long : goal.returns-clause-long
returns-clause-long g c =
    let r = c.loop-pieces.invariant.read in
    long_told _ _ r.0 r.1 (let k = r.2.counts in let t = c.loop-pieces-test.false in omega arith)
