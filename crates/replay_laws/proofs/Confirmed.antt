-- What a replay says of the runs of a sound program.
use Rattle.std.proofs.Common.{◌≡◌, ◌∙◌, ℕ, Option, Some, None, sym, ap}
use Rattle.std.proofs.lemmas.Option.{none-some}
use Rattle.tower_syntax.specs.Arch.{Arch}
use Rattle.tower_meaning.specs.Replayed.{Replayed}
use Rattle.tower_meaning.specs.System.{system_of}
use Rattle.tower_meaning.proofs.Replayed.{replayed_comes_to}
use Rattle.task_code.specs.Program.{Program}
use Rattle.lock_reduction.specs.Reduce.{Sound}
use Rattle.replay_laws.specs.Laws.{IsConfirmed, ReplayConfirms, ReplayConfirmsPrograms, MisfitsIn, MisfitRefutes}
use Rattle.task_build.specs.CodeOf.{code_of}
use Rattle.task_build.proofs.Closing.{sound}

pub confirms : ReplayConfirms
confirms arch p sound events steps r fit e =
    let g = sound.agrees events steps r fit e in
    record {
      state = g.0;
      comes_to = (replayed_comes_to (system_of arch) events r.marks (record { state = g.0; misfit = None })).1 g.1.replayed;
      outputs = g.1.outputs;
      monitors = g.1.monitors;
      queues = g.1.queues;
      lost = g.1.lost;
    }

pub refutes : MisfitRefutes
refutes arch p m is_sound =
    let c = confirms arch p is_sound m.events m.steps m.run m.fit m.runs in
    none-some m.number (sym (ap (λ (t : Replayed). t.misfit) c.comes_to) ∙ m.misfits)

pub confirms_programs : ReplayConfirmsPrograms
confirms_programs bs arch accepted = confirms arch (code_of arch) (sound bs arch accepted)
