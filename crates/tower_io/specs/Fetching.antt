-- What a fetch says, by its answer.
use Rattle.std.specs.Prelude.{⊤}
use Rattle.tower_io.specs.declared.answers.Fetch.{Fetch}
use Rattle.tower_io.specs.declared.answers.Fetch.TheVariants.{Done, Long, Failed, NoMemory}

abbrev pub OnFetched : Fetch → Type 0 → Type 0
OnFetched Done P = P
OnFetched Long P = ⊤
OnFetched Failed P = ⊤
OnFetched NoMemory P = ⊤

abbrev pub OnLong : Fetch → Type 0 → Type 0
OnLong Done P = ⊤
OnLong Long P = P
OnLong Failed P = ⊤
OnLong NoMemory P = ⊤

-- neither the text nor its first bytes came
abbrev pub OnNotFetched : Fetch → Type 0 → Type 0
OnNotFetched Done P = ⊤
OnNotFetched Long P = ⊤
OnNotFetched Failed P = P
OnNotFetched NoMemory P = P

abbrev pub OnFetchFailed : Fetch → Type 0 → Type 0
OnFetchFailed Done P = ⊤
OnFetchFailed Long P = ⊤
OnFetchFailed Failed P = P
OnFetchFailed NoMemory P = ⊤

abbrev pub UnlessFetchFailed : Fetch → Type 0 → Type 0
UnlessFetchFailed Done P = P
UnlessFetchFailed Long P = P
UnlessFetchFailed Failed P = ⊤
UnlessFetchFailed NoMemory P = P
