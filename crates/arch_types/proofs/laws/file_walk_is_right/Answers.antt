use Rattle.arch_types.proofs.FileWalk.{file_walk_is_right}
use Rattle.arch_types.proofs.laws.file_walk_is_right.Goals as goal

pub returns : goal.returns
returns c = file_walk_is_right
