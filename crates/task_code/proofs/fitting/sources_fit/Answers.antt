use Rattle.std.proofs.Common.{refl, arith, below_more}
use Rattle.std.proofs.lemmas.Option.{slice_get_within}
use Rattle.task_code.proofs.Fitted.{denies, affirms, kind_here, kind_there}
use Rattle.task_code.proofs.fitting.sources_fit.Goals as goal

pub loop-i-init : goal.loop-i-init
loop-i-init c = λ x h k t d a b e. absurd (omega arith)

pub returns-then-not-fits_kind : goal.returns-then-not-fits_kind
returns-then-not-fits_kind c =
    denies (λ each. c.if-not-fits_kind.ensures.1 (kind_there c.args.kinds.now c.args.tasks.now c.args.depths.now c.loop-i.i c.index-tasks-i.result _ _ c.loop-i-test.true (omega arith) (omega arith) c.index-tasks-i.is each))

pub loop-i-preserved : goal.loop-i-preserved
loop-i-preserved c =
    below_more _ _ c.loop-i.invariant (kind_here c.args.kinds.now c.args.tasks.now c.args.depths.now c.loop-i.i c.index-tasks-i.result _ _ (c.if-not-fits_kind.ensures.0 refl) c.index-tasks-i.is)

pub returns : goal.returns
returns c =
    affirms (λ x k t d a b e. c.loop-i.invariant x (omega (arith, slice_get_within c.args.kinds.now x k a, c.loop-i-test.false)) k t d a b e)
