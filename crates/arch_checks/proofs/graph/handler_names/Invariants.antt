use Rattle.std.proofs.Common.{◌≡◌, map, take}
use Rattle.arch_checks.specs.Offences.{handler_name}
use Rattle.arch_checks.proofs.graph.handler_names.Given as goal

abbrev pub invariant-loop-h : goal.invariant-loop-h
invariant-loop-h l = l.names ≡ map (handler_name l.arch) (take l.h-index l.handlers)
