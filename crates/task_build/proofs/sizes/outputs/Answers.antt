use Rattle.std.proofs.Common.{◌<◌, [], length, ap, arith}
use Rattle.std.proofs.lemmas.List.{length-map}
use Rattle.tower_syntax.specs.declared.arch.On.TheVariants as on
use Rattle.tower_syntax.specs.View.{output_of}
use Rattle.tower_syntax.specs.Arch.{Output}
use Rattle.tower_syntax.specs.Weights.{message_words}
use Rattle.task_build.proofs.Pushed.{mapped_more, got}
use Rattle.task_build.proofs.sizes.outputs.Goals as goal

pub loop-o-preserved : goal.loop-o-preserved
loop-o-preserved c =
    let arch = c.args.arch.now in
    let o = c.loop-o.o in
    let x = output_of c.output.result.now in
    let within : o < length arch.outputs = omega (arith, c.loop-o-test.true, ap length c.outputs-o-end.ensures.value, length-map c.outputs-o-end.result.now output_of) in
    mapped_more (λ (z : Output). message_words arch (on.Channel z.channel)) arch.outputs o x [] c.loop-o.counts c.push.new.self c.in_ok-count.count within (got arch.outputs o x c.output.ensures.value) c.loop-o.invariant c.in_ok-push.ensures.ok c.in_ok-count.ensures
