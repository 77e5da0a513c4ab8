use Rattle.arch_checks.proofs.WorkedSystems.{worked_systems, worked_bounds, worked_links, worked_weights}
use Rattle.arch_checks.proofs.laws.worked_systems.Goals as goal

pub returns-clause-systems : goal.returns-clause-systems
returns-clause-systems c = worked_systems

pub returns-clause-bounds : goal.returns-clause-bounds
returns-clause-bounds c = worked_bounds

pub returns-clause-links : goal.returns-clause-links
returns-clause-links c = worked_links

pub returns-clause-weights : goal.returns-clause-weights
returns-clause-weights c = worked_weights
