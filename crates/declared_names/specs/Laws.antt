-- What an accepted file says of its names.
use Rattle.std.specs.Prelude.{◌≢◌, ℕ, List, map}
use Rattle.std.specs.List.{All, AllPairs}
use Rattle.tower_types.specs.Ty.{Name}
use Rattle.tower_syntax.specs.Arch.{Arch}
use Rattle.tower_syntax.specs.Words.{IsName}
use Rattle.arch_checks.specs.Offences.{IsAccepted}

abbrev pub source_names : Arch → List Name
source_names arch = map (λ s. s.name) arch.sources

-- they are names, and the sources are told apart by theirs
pub record HasNames (arch : Arch) : Type 0 where
  pub sources : All IsName (source_names arch)
  pub apart : AllPairs (λ a b. a ≢ b) (source_names arch)
  pub channels : All (λ c. IsName c.name) arch.channels
  pub outputs : All (λ o. IsName o.name) arch.outputs
  pub monitors : All (λ m. IsName m.name) arch.monitors
  pub states : All (λ m. All (λ s. IsName s.0) m.states) arch.monitors

abbrev pub AcceptedFilesHaveNames : Type 0
AcceptedFilesHaveNames = (bs : List ℕ) (arch : Arch) → IsAccepted bs arch → HasNames arch
