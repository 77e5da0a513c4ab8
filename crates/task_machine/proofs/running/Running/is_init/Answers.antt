use Rattle.std.proofs.Common.{sym, refl}
use Rattle.tower_syntax.specs.declared.arch.SourceKind.TheVariants as kind
use Rattle.task_machine.proofs.Lists.{get_none}
use Rattle.task_machine.proofs.running.Running.is_init.Goals as goal

pub returns-in-None : goal.returns-in-None
returns-in-None c =
    let e = rw c.as_slice.ensures at c.in-None.ensures in
    let h = get_none c.self.inside.events.kinds c.args.x kind.Signal (sym e) in
    rw (← c.self.view_is, h) refl
