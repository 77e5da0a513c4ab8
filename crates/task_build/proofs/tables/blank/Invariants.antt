use Rattle.std.proofs.Common.{◌≡◌, replicate, None}
use Rattle.task_build.proofs.tables.blank.Given as goal

abbrev pub invariant-loop-h : goal.invariant-loop-h
invariant-loop-h l = (l.frames ≡ replicate l._h None) × (l.entries ≡ replicate l._h 0)
