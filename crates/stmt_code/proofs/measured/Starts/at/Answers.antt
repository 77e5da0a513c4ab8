use Rattle.std.proofs.Common.{sym}
use Rattle.stmt_code.proofs.Begun.{none_there}
use Rattle.stmt_code.proofs.measured.Starts.at.Goals as goal

pub returns-in-None : goal.returns-in-None
returns-in-None c = sym (none_there c.args.self.now.starts c.args.k c.args.self.now.end (sym c.in-None.ensures.value))
