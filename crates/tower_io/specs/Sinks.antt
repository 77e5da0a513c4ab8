-- What a sink's call says, by its answer, and how the bytes that it has taken grow.
use Rattle.std.specs.Prelude.{◌≡◌, ℕ, Option, List, ◌++◌, Some, ⊤}
use Rattle.tower_io.specs.declared.answers.Put.{Put}
use Rattle.tower_io.specs.declared.answers.Put.TheVariants.{Done, Failed}

-- where the old bytes are told, the new ones are told, and are the old ones and then `bytes`
pub record Adds (old new : Option (List ℕ)) (bytes : List ℕ) : Type 0 where
  pub added : (told : List ℕ) → old ≡ Some told → new ≡ Some (told ++ bytes)

-- a first part of `bytes` was added
pub record AddsPrefix (old new : Option (List ℕ)) (bytes : List ℕ) : Type 0 where
  pub part : List ℕ
  pub rest : List ℕ
  pub whole : bytes ≡ part ++ rest
  pub adds : Adds old new part

abbrev pub OnDone : Put → Type 0 → Type 0
OnDone Done P = P
OnDone Failed P = ⊤

abbrev pub OnPutFailed : Put → Type 0 → Type 0
OnPutFailed Done P = ⊤
OnPutFailed Failed P = P
