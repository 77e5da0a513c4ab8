-- A worked system: a record, an init source and a signal of version 2, an output, and a monitor with three states.
use Rattle.std.specs.Prelude.{[], ◌∷◌, Some, None, codes}
use Rattle.tower_types.specs.declared.scalar.Scalar.TheVariants.{Bool, I32, I64, Ix, U32}
use Rattle.tower_types.specs.Ty.{Fields, scalar, array, rec}
use Rattle.tower_syntax.specs.declared.arch.SourceKind.TheVariants.{Init, Signal}
use Rattle.tower_syntax.specs.declared.arch.Listener.TheVariants.{Output}
use Rattle.tower_syntax.specs.Arch.{Arch}

abbrev pub fix : Fields
fix = (codes "lat", scalar I32) ∷ (codes "lon", scalar I32) ∷ []

abbrev pub states : Fields
states = (codes "ring", array 2 (rec 0)) ∷ (codes "pos", scalar (Ix 4)) ∷ (codes "on", scalar Bool) ∷ []

abbrev pub worked : Arch
worked = record {
  version = 2;
  name = codes "nav";
  records = fix ∷ [];
  record_names = codes "fix" ∷ [];
  sources =
      record { name = codes "boot"; kind = Init; priority = 9; message = scalar I64; depth = None }
      ∷ record { name = codes "gps"; kind = Signal; priority = 3; message = rec 0; depth = Some 2 }
      ∷ [];
  channels = record { name = codes "log"; message = scalar U32 } ∷ [];
  outputs = record { name = codes "seen"; channel = 0 } ∷ [];
  monitors = record { name = codes "track"; states = states } ∷ [];
  handlers = [];
  listeners = Output 0 ∷ [];
}
