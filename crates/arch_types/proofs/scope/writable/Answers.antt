use Rattle.std.proofs.Common.{sym, false}
use Rattle.arch_types.proofs.Looked.{missing}
use Rattle.arch_types.proofs.scope.writable.Goals as goal

pub returns-in-None : goal.returns-in-None
returns-in-None c = rw c.in-Binder.is (sym (missing c.args.bound.now.writable c.in-Binder.b false c.in-None.ensures.value))
