use Rattle.std.proofs.Common.{ap, sym}
use Rattle.tower_sexp.specs.Standing.{count_unclosed}
use Rattle.tower_sexp.specs.WholeTokens.{depth_behind}
use Rattle.tower_sexp.proofs.Depth.{fed_depth, fed_few}
use Rattle.tower_sexp.proofs.Ends.{fed, counted}
use Rattle.tower_sexp.proofs.lexer.Lexer.feed.Goals as goal

pub returns-in-Some-clause-stands : goal.returns-in-Some-clause-stands
returns-in-Some-clause-stands c = λ _ bs h. (counted c.args.self.now bs c.args.byte c.args.out.now.items c.in-Some.field-0 c.in-Some.is h).0

pub returns-in-Some-clause-put : goal.returns-in-Some-clause-put
returns-in-Some-clause-put c = λ _ bs h. (counted c.args.self.now bs c.args.byte c.args.out.now.items c.in-Some.field-0 c.in-Some.is h).1

pub returns-in-Ok-clause-stands : goal.returns-in-Ok-clause-stands
returns-in-Ok-clause-stands c = λ _ bs h. (fed c.args.self.now c.read_byte.new.self bs c.args.byte c.args.out.now.items c.read_byte.new.out.items c.in-None.is c.in-Ok.ensures.state c.in-Ok.ensures.put h).0

pub returns-in-Ok-clause-put : goal.returns-in-Ok-clause-put
returns-in-Ok-clause-put c = λ _ bs h. (fed c.args.self.now c.read_byte.new.self bs c.args.byte c.args.out.now.items c.read_byte.new.out.items c.in-None.is c.in-Ok.ensures.state c.in-Ok.ensures.put h).1

pub returns-in-Some-clause-nested : goal.returns-in-Some-clause-nested
returns-in-Some-clause-nested c = λ _ e l. sym (ap (depth_behind (count_unclosed c.args.self.now)) e)

pub returns-in-Ok-clause-few : goal.returns-in-Ok-clause-few
returns-in-Ok-clause-few c = λ _ l. fed_few c.args.self.now c.read_byte.new.self c.args.byte c.in-Ok.ensures.state l

pub returns-in-Ok-clause-nested : goal.returns-in-Ok-clause-nested
returns-in-Ok-clause-nested c = λ _ e l. fed_depth c.args.self.now c.read_byte.new.self c.args.byte c.args.out.now.items c.read_byte.new.out.items c.in-Ok.ensures.state c.in-Ok.ensures.put e l
