use Rattle.std.proofs.Common.{subst}
use Rattle.std.specs.Prelude.{IfOk, IfErr, All}
use Rattle.event_record.specs.Order.{SpellsOrder, IsOrderFault, NamesSource}
use Rattle.event_record.proofs.order.read_order.Goals as goal

pub returns-clause-ok : goal.returns-clause-ok
returns-clause-ok c = subst (λ a. IfOk c.marks_for.result (λ m. SpellsOrder a c.args.bytes.now m.items)) c.arch.ensures.value c.marks_for.ensures.ok

pub returns-clause-sources : goal.returns-clause-sources
returns-clause-sources c = subst (λ a. IfOk c.marks_for.result (λ m. All (NamesSource a) m.items)) c.arch.ensures.value c.marks_for.ensures.sources

pub returns-clause-fault : goal.returns-clause-fault
returns-clause-fault c = subst (λ a. IfErr c.marks_for.result (IsOrderFault a c.args.bytes.now)) c.arch.ensures.value c.marks_for.ensures.fault
