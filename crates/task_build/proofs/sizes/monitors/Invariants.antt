use Rattle.std.proofs.Common.{◌≡◌, map, take}
use Rattle.tower_syntax.specs.Weights.{monitor_words}
use Rattle.task_build.proofs.sizes.monitors.Given as goal

abbrev pub invariant-loop-m : goal.invariant-loop-m
invariant-loop-m l = l.counts ≡ map (monitor_words l.arch) (take l.m l.arch.monitors)
