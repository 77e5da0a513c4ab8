use Rattle.aadl_profile.proofs.TextRows.{worked_texts}
use Rattle.aadl_profile.proofs.laws.worked_texts.Goals as goal

pub returns : goal.returns
returns c = worked_texts
