use Rattle.std.proofs.Common.{◌≡◌, [], sym}
use Rattle.arch_types.proofs.Looked.{looked_at, not_there}
use Rattle.tower_types.specs.View.{fields_of}
use Rattle.tower_syntax.specs.View.{monitor_of}
use Rattle.arch_types.specs.Seen.{states_in}
use Rattle.arch_types.proofs.scope.state_type.Goals as goal

pub returns-in-Some : goal.returns-in-Some
returns-in-Some c =
    let e : states_in c.args.system.now c.args.m ≡ fields_of c.in-Some.monitor.now.states = looked_at (λ x. x.states) monitor_of c.args.system.now.monitors c.args.m [] c.in-Some.monitor.now c.in-Some.ensures.value in
    rw (e, sym c.as_slice.ensures) c.field_type.ensures

pub returns-in-None : goal.returns-in-None
returns-in-None c =
    let e : states_in c.args.system.now c.args.m ≡ [] = not_there (λ x. x.states) monitor_of c.args.system.now.monitors c.args.m [] c.in-None.ensures.value in
    rw e c.no_type.ensures
