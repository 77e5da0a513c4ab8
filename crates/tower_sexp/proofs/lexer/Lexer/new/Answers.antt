use Rattle.std.proofs.Common.{rules}
use Rattle.tower_sexp.proofs.Ends.{begun_stands}
use Rattle.tower_sexp.proofs.lexer.Lexer.new.Goals as goal

pub returns-clause-stands : goal.returns-clause-stands
returns-clause-stands c = begun_stands _ (search rules)
