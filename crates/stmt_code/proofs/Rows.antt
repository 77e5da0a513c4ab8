-- The instructions of some emissions, computed.
use Rattle.std.proofs.Common.{refl}
use Rattle.stmt_code.specs.WorkedEmissions.{WorkedEmissions}

pub worked : WorkedEmissions
worked = record { name = refl; part = refl; state = refl; moving = refl; number = refl }
