-- A shelf in memory, with the numbers of the calls that are to fail.
use Rattle.std.specs.Prelude.{ℕ, ◌==◌, min, Bool, ◌||◌, List, [], length, drop, unwrap_or, is_none, if◌then◌else◌}
use Rattle.std.specs.List.{list_any}
use Rattle.tower_io.specs.declared.answers.Begin.{Begin}
use Rattle.tower_io.specs.declared.answers.Begin.TheVariants.{Begun, Failed}
use Rattle.tower_io.specs.declared.answers.Next.{Next}
use Rattle.tower_io.specs.declared.answers.Next.TheVariants.{Got, End, Failed as NextFailed}
use Rattle.tower_io.specs.Faults.{one_more}
use Rattle.tower_io.specs.Texts.{Entry, Library, text_of, sure_text_of, shut, begun}

pub record MemoryShelf : Type 0 where
  pub library : Library
  -- the numbers of the calls that are to fail
  pub fails : List ℕ
  -- the number of the next call
  pub calls : ℕ
  -- how many bytes a call gives at most
  pub piece : ℕ
  pub blamed : List ℕ
  pub faults : ℕ

-- the shelf on which no call was made
abbrev pub fresh : List Entry → List ℕ → MemoryShelf
fresh entries fails = record {
  library = shut entries;
  fails = fails;
  calls = 0;
  piece = 18446744073709551615;
  blamed = [];
  faults = 0;
}

-- whether the next call is one of those that are to fail
abbrev pub is_to_fail : MemoryShelf → Bool
is_to_fail s = list_any (λ k. k == s.calls) s.fails

-- the shelf with no text open
abbrev pub closed : MemoryShelf → MemoryShelf
closed s = record s { library = shut s.library.entries }

-- the shelf after one more fault, at this name
abbrev pub faulted : MemoryShelf → List ℕ → MemoryShelf
faulted s name = record (closed s) { blamed = name; faults = one_more s.faults }

-- the shelf after one more call
abbrev pub counted : MemoryShelf → MemoryShelf
counted s = record s { calls = one_more s.calls }

-- what a `begin` with this name answers where the name can be copied, and the shelf after it
abbrev pub begin_of : MemoryShelf → List ℕ → Begin × MemoryShelf
begin_of s name =
    let entries = s.library.entries in
    if is_to_fail s || is_none (text_of entries name)
    then (Failed, counted (faulted s name))
    else (Begun, counted (record s { library = begun entries name (sure_text_of entries name) }))

-- what a `next` with this much room answers, and the shelf after it
abbrev pub next_of : MemoryShelf → ℕ → Next × MemoryShelf
next_of s room =
    let left = s.library.left in
    let n = min (min room s.piece) (length left) in
    if is_to_fail s then (NextFailed, counted (faulted s (unwrap_or s.library.opened [])))
    else if length left == 0 then (End, counted (closed s))
    else (Got n, counted (record s { library = record s.library { left = drop n left } }))
