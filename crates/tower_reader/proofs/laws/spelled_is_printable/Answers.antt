use Rattle.tower_reader.proofs.SpelledPrints.{spelled_is_printable, spelled_prints_as_written}
use Rattle.tower_reader.proofs.laws.spelled_is_printable.Goals as goal

pub returns-clause-printable : goal.returns-clause-printable
returns-clause-printable c = spelled_is_printable

pub returns-clause-as_written : goal.returns-clause-as_written
returns-clause-as_written c = spelled_prints_as_written
