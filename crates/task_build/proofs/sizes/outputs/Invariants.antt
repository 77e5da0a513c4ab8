use Rattle.std.proofs.Common.{◌≡◌, map, take}
use Rattle.tower_syntax.specs.declared.arch.On.TheVariants as on
use Rattle.tower_syntax.specs.Weights.{message_words}
use Rattle.task_build.proofs.sizes.outputs.Given as goal

abbrev pub invariant-loop-o : goal.invariant-loop-o
invariant-loop-o l = l.counts ≡ map (λ o. message_words l.arch (on.Channel o.channel)) (take l.o l.arch.outputs)
