use Rattle.std.proofs.Common.{refl}
use Rattle.arch_types.proofs.laws.worked_file.Goals as goal

pub returns : goal.returns
returns c = record {
  same = refl;
  other = refl;
  counting = refl;
}
