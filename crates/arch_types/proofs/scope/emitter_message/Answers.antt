use Rattle.arch_types.proofs.Looked.{looked_at, not_there}
use Rattle.tower_syntax.specs.View.{arch_of, emitter_of}
use Rattle.tower_syntax.specs.declared.arch.On.TheVariants as on
use Rattle.arch_types.specs.File.{message_on}
use Rattle.arch_types.proofs.scope.emitter_message.Goals as goal

pub returns-in-Some : goal.returns-in-Some
returns-in-Some c = rw (looked_at (λ e. message_on (arch_of c.args.system.now) (on.Channel e.channel)) emitter_of _ _ _ _ c.in-Some.ensures.value) c.message_on.ensures

pub returns-in-None : goal.returns-in-None
returns-in-None c = rw (not_there (λ e. message_on (arch_of c.args.system.now) (on.Channel e.channel)) emitter_of _ _ _ c.in-None.ensures.value) c.no_type.ensures
