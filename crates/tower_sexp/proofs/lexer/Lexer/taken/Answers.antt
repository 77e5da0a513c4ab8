use Rattle.tower_sexp.proofs.Ends.{taken_all}
use Rattle.tower_sexp.proofs.lexer.Lexer.taken.Goals as goal

pub returns-clause-text : goal.returns-clause-text
returns-clause-text c = λ bs h. taken_all c.args.self.now bs h
