use Rattle.std.proofs.Common.{ap, ◌∙◌}
use Rattle.tower_reader.specs.Table.{atoms_at}
use Rattle.tower_reader.specs.View.{frame_of}
use Rattle.tower_reader.proofs.Told.{no_atoms, atom_soiled}
use Rattle.tower_reader.proofs.frame.Frame.enter.Goals as goal

pub returns-in_ok-part-in-Known-clause-told : goal.returns-in_ok-part-in-Known-clause-told
returns-in_ok-part-in-Known-clause-told c = λ h. c.take_in.ensures.told (atom_soiled _ c.args.at c.args.text.now _ c.atom_found-found.ensures (c.atoms_at-atoms.ensures ∙ ap atoms_at c.slot.ensures ∙ no_atoms (frame_of c.args.self.now) h))
