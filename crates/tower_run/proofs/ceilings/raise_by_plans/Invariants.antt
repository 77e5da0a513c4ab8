use Rattle.std.proofs.Common.{◌≡◌, take, fold, length}
use Rattle.tower_run.specs.Ceilings.{raised_by}
use Rattle.tower_run.proofs.ceilings.raise_by_plans.Given as goal

abbrev pub invariant-loop-plan : goal.invariant-loop-plan
invariant-loop-plan l = record {
  raised : l.ceilings.items ≡ fold raised_by l.initial.ceilings.items (take l.plan-index l.plans);
  long : length l.ceilings.items ≡ length l.initial.ceilings.items;
}
