use Rattle.std.proofs.Common.{◌≡◌, ◌≤◌, length, arith}
use Rattle.std.proofs.lemmas.Result.{IfOk-weaker, IfErr-weaker}
use Rattle.event_record.specs.Format.{byte_limit}
use Rattle.event_record.specs.Order.{order_format}
use Rattle.event_record.proofs.Exact.{long_first}
use Rattle.event_record.proofs.OrderRead.{order_spelled, order_told, order_names}
use Rattle.event_record.proofs.order.marks_for.Goals as goal

pub returns-then-bytes-gt-BYTE_LIMIT-clause-fault : goal.returns-then-bytes-gt-BYTE_LIMIT-clause-fault
returns-then-bytes-gt-BYTE_LIMIT-clause-fault c = long_first (order_format c.args.arch.now) c.args.bytes.now c.if-bytes-gt-BYTE_LIMIT.true

pub returns-clause-ok : goal.returns-clause-ok
returns-clause-ok c = IfOk-weaker c.marks_of.result _ _ (λ all w. order_spelled c.args.arch.now c.args.bytes.now all.items (omega arith) w) c.marks_of.ensures.ok

pub returns-clause-sources : goal.returns-clause-sources
returns-clause-sources c = IfOk-weaker c.marks_of.result _ _ (λ all w. order_names c.args.arch.now c.args.bytes.now all.items (order_spelled c.args.arch.now c.args.bytes.now all.items (omega arith) w)) c.marks_of.ensures.ok

pub returns-clause-fault : goal.returns-clause-fault
returns-clause-fault c = IfErr-weaker c.marks_of.result _ _ (λ f w. order_told c.args.arch.now c.args.bytes.now f (omega arith) w) c.marks_of.ensures.fault
