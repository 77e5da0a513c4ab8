use Rattle.std.proofs.Common.{◌≡◌, ◌+◌, rules}
use Rattle.task_build.proofs.Pushed.{words_passed-more}
use Rattle.task_build.proofs.heads.add_words.Goals as goal

pub loop-j-preserved : goal.loop-j-preserved
loop-j-preserved c =
    let source : c.in_ok-source.source ≡ c.args.from + c.loop-j.j = search rules in
    let there : c.in_ok-address.address ≡ c.args.to + c.loop-j.j = search rules in
    words_passed-more c.args.from c.args.to c.loop-j.j c.in_ok-source.source c.in_ok-address.address c.args.code.now c.loop-j.code c.push.new.self c.push-in-loop-j.new.self c.loop-j.invariant c.in_ok-push.ensures.ok c.in_ok-push-2.ensures.ok source there
