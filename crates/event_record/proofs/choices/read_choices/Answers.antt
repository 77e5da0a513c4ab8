use Rattle.std.proofs.Common.{◌≡◌, ◌≤◌, length, arith}
use Rattle.std.proofs.lemmas.Result.{IfOk-weaker, IfErr-weaker}
use Rattle.event_record.specs.Format.{byte_limit}
use Rattle.event_record.specs.Choices.{choices_format}
use Rattle.event_record.proofs.Exact.{long_first}
use Rattle.event_record.proofs.ChoicesRead.{choices_spelled, choices_told, choices_in_range}
use Rattle.event_record.proofs.choices.read_choices.Goals as goal

pub returns-then-bytes-gt-BYTE_LIMIT-clause-fault : goal.returns-then-bytes-gt-BYTE_LIMIT-clause-fault
returns-then-bytes-gt-BYTE_LIMIT-clause-fault c = long_first choices_format c.args.bytes.now c.if-bytes-gt-BYTE_LIMIT.true

pub returns-clause-ok : goal.returns-clause-ok
returns-clause-ok c = IfOk-weaker c.choices_of.result _ _ (λ all w. choices_spelled c.args.bytes.now all.items (omega arith) w) c.choices_of.ensures.ok

pub returns-clause-range : goal.returns-clause-range
returns-clause-range c = IfOk-weaker c.choices_of.result _ _ (λ all w. choices_in_range c.args.bytes.now all.items (choices_spelled c.args.bytes.now all.items (omega arith) w)) c.choices_of.ensures.ok

pub returns-clause-fault : goal.returns-clause-fault
returns-clause-fault c = IfErr-weaker c.choices_of.result _ _ (λ f w. choices_told c.args.bytes.now f (omega arith) w) c.choices_of.ensures.fault
