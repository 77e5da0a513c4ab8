use Rattle.std.proofs.Common.{◌≡◌, drop}
use Rattle.tower_reader.specs.Machine.{run}
use Rattle.tower_reader.specs.View.{frames_of}
use Rattle.tower_reader.proofs.lists.Lists.read_tokens.Given as goal

abbrev pub invariant-loop-token : goal.invariant-loop-token
invariant-loop-token l = record {
  read : run (drop l.token-index l.tokens) (frames_of l.self) ≡ run l.tokens (frames_of l.initial.self);
  first : l.token-index ≡ 0 → frames_of l.self ≡ frames_of l.initial.self;
}
