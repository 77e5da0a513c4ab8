use Rattle.std.proofs.Common.{take}
use Rattle.thread_split.specs.Plans.{AreWorkedOn}
use Rattle.thread_split.proofs.plan.worked_on.Given as goal

abbrev pub invariant-loop-h : goal.invariant-loop-h
invariant-loop-h l = AreWorkedOn l.arch (take l.h-index l.handlers) l.marks.items
