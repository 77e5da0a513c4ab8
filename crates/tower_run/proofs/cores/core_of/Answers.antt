use Rattle.std.proofs.Common.{length, sym, ap, ◌∙◌}
use Rattle.tower_run.proofs.Ready.{ready_length}
use Rattle.tower_run.proofs.cores.core_of.Goals as goal

pub returns-clause-busy : goal.returns-clause-busy
returns-clause-busy c = ap length c.note_ready.ensures ∙ ready_length c.args.machine.now ∙ sym c.requires.busy
