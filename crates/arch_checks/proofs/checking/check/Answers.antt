use Rattle.arch_checks.specs.Faults.{of_read}
use Rattle.arch_checks.proofs.Told.{exit_told, read_told}
use Rattle.arch_checks.proofs.checking.check.Goals as goal

pub returns-in_err-raw-clause-fault : goal.returns-in_err-raw-clause-fault
returns-in_err-raw-clause-fault c =
    let bs = c.args.bytes.now in
    let f = c.in_err-raw.field-0.0 in
    exit_told bs c.from_residual.result (of_read f) c.from_residual.ensures.1 (read_told bs f c.in_err-raw.ensures.fault)
