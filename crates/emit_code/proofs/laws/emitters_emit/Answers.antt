use Rattle.emit_code.proofs.laws.emitters_emit.Goals as goal
use Rattle.emit_code.proofs.EmitterEmits.{emitter_emits}

pub returns : goal.returns
returns c = emitter_emits
