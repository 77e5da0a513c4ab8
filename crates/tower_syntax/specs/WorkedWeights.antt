-- Weights of small systems, source by source.
use Rattle.std.specs.Prelude.{◌≡◌, ℕ, List, [], ◌∷◌, map}
use Rattle.tower_syntax.specs.Arch.{Arch}
use Rattle.tower_syntax.specs.Examples.{clock, cyc}
use Rattle.tower_syntax.specs.Flight.{flight}
use Rattle.tower_syntax.specs.Weights.{cost, memory, code, source_numbers}

abbrev pub costs : Arch → List ℕ
costs arch = map (cost arch) (source_numbers arch)

pub record WorkedWeights : Type 0 where
  pub clock_costs : costs clock ≡ 216 ∷ []
  pub clock_memory : memory clock ≡ 132
  pub clock_code : code clock ≡ 216
  -- a cycle that no source reaches adds nothing
  pub cyc_costs : costs cyc ≡ 64 ∷ []
  pub cyc_memory : memory cyc ≡ 65
  pub cyc_code : code cyc ≡ 64
  pub flight_costs : costs flight ≡ 206 ∷ 564 ∷ 1070 ∷ 432 ∷ 312 ∷ 212 ∷ []
  pub flight_memory : memory flight ≡ 952
  pub flight_code : code flight ≡ 2482
