use Rattle.arch_types.proofs.Listed.{parts_begin, parts_more, parts_listed, parts_counted}
use Rattle.arch_types.proofs.listeners.add_parts.Goals as goal

pub loop-part-init : goal.loop-part-init
loop-part-init c = parts_begin _ _ _ _

pub loop-part-preserved : goal.loop-part-preserved
loop-part-preserved c = parts_more _ _ _ _ _ _ _ _ _ _ c.part-item.is c.loop-part-test.true c.loop-part.invariant c.in_ok-number.ensures.listeners c.in_ok-number.ensures.number

pub returns-clause-listeners : goal.returns-clause-listeners
returns-clause-listeners c = parts_listed _ _ _ _ _ _ _ c.loop-part-test.false c.loop-part.invariant

pub returns-clause-number : goal.returns-clause-number
returns-clause-number c = parts_counted _ _ _ _ _ _ _ c.loop-part-test.false c.loop-part.invariant
