use Rattle.arch_types.proofs.Looked.{looked_at, not_there}
use Rattle.tower_syntax.specs.View.{source_of, channel_of}
use Rattle.arch_types.proofs.scope.message_on.Goals as goal

pub returns-in-Some : goal.returns-in-Some
returns-in-Some c = rw (c.in-Source.is, looked_at (λ x. x.message) source_of _ _ _ _ c.in-Some.ensures.value) c.of.ensures

pub returns-in-None : goal.returns-in-None
returns-in-None c = rw (c.in-Source.is, not_there (λ x. x.message) source_of _ _ _ c.in-None.ensures.value) c.no_type.ensures

pub returns-in-Some-get : goal.returns-in-Some-get
returns-in-Some-get c = rw (c.in-Channel.is, looked_at (λ x. x.message) channel_of _ _ _ _ c.in-Some-get.ensures.value) c.of-in-Some-get.ensures

pub returns-in-None-get : goal.returns-in-None-get
returns-in-None-get c = rw (c.in-Channel.is, not_there (λ x. x.message) channel_of _ _ _ c.in-None-get.ensures.value) c.no_type-in-None-get.ensures
