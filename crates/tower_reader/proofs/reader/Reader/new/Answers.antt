use Rattle.std.proofs.Common.{refl, arith}
use Rattle.tower_reader.proofs.Standing.{begun}
use Rattle.tower_reader.proofs.reader.Reader.new.Goals as goal

pub returns : goal.returns
returns c = begun _ refl c.new.ensures.stands c.new-2.ensures c.new.ensures.nested (omega (arith, c.in_ok-reserve.ensures.ok))
