use Rattle.std.proofs.Common.{subst}
use Rattle.std.specs.Prelude.{IfOk, IfErr}
use Rattle.std.proofs.lemmas.Result.{IfOk-weaker}
use Rattle.tower_syntax.specs.View.{events_of}
use Rattle.tower_meaning.specs.Atomic.{Fit}
use Rattle.event_record.specs.Record.{SpellsRecord, IsRecordFault}
use Rattle.event_record.proofs.RecordFit.{record_fits}
use Rattle.event_record.proofs.record.read_record.Goals as goal

pub returns-clause-ok : goal.returns-clause-ok
returns-clause-ok c = subst (λ a. IfOk c.events_for.result (λ e. SpellsRecord a c.args.bytes.now (events_of e))) c.arch.ensures.value c.events_for.ensures.ok

pub returns-clause-fit : goal.returns-clause-fit
returns-clause-fit c = subst (λ a. IfOk c.events_for.result (λ e. Fit a (events_of e))) c.arch.ensures.value (IfOk-weaker c.events_for.result _ _ (λ e s. record_fits c.arch.result.now c.args.bytes.now (events_of e) s) c.events_for.ensures.ok)

pub returns-clause-fault : goal.returns-clause-fault
returns-clause-fault c = subst (λ a. IfErr c.events_for.result (IsRecordFault a c.args.bytes.now)) c.arch.ensures.value c.events_for.ensures.fault
