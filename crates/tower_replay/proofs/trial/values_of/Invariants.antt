use Rattle.std.proofs.Common.{◌≡◌, map, take}
use Rattle.tower_types.specs.View.{value_of}
use Rattle.tower_replay.proofs.trial.values_of.Given as goal

abbrev pub invariant-loop-m : goal.invariant-loop-m
invariant-loop-m l = map value_of l.values.items ≡ take l.m l.state.state.monitors
