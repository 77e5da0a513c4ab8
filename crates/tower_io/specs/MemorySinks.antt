-- A sink in memory, with the numbers of the puts that are to fail.
use Rattle.std.specs.Prelude.{ℕ, ◌-◌, ◌/◌, ◌==◌, min, nat_le, Bool, List, [], ◌++◌, length, take, if◌then◌else◌}
use Rattle.std.specs.List.{list_any}
use Rattle.tower_io.specs.declared.answers.Put.{Put}
use Rattle.tower_io.specs.declared.answers.Put.TheVariants.{Done, Failed}
use Rattle.tower_io.specs.Faults.{one_more}

pub record MemorySink : Type 0 where
  pub bytes : List ℕ
  -- how many bytes still fit
  pub room : ℕ
  -- the numbers of the puts that are to fail
  pub fails : List ℕ
  -- the number of the next put
  pub puts : ℕ
  pub faults : ℕ

-- the sink on which no put was made
abbrev pub fresh : ℕ → List ℕ → MemorySink
fresh room fails = record { bytes = []; room = room; fails = fails; puts = 0; faults = 0 }

-- whether the next put is one of those that are to fail
abbrev pub is_to_fail : MemorySink → Bool
is_to_fail s = list_any (λ k. k == s.puts) s.fails

-- the sink with these bytes written
abbrev pub wrote : MemorySink → List ℕ → MemorySink
wrote s bytes = record s { bytes = s.bytes ++ bytes; room = s.room - length bytes }

-- the sink after one more fault, before which these bytes were written
abbrev pub faulted : MemorySink → List ℕ → MemorySink
faulted s bytes = record (wrote s bytes) { faults = one_more s.faults }

-- the sink after one more put
abbrev pub counted : MemorySink → MemorySink
counted s = record s { puts = one_more s.puts }

-- what a put of this piece answers, and the sink after it
abbrev pub put_of : MemorySink → List ℕ → Put × MemorySink
put_of s piece =
    if length piece == 0 then (Done, counted s)
    else if is_to_fail s then (Failed, counted (faulted s (take (min (length piece) s.room / 2) piece)))
    else if nat_le (length piece) s.room then (Done, counted (wrote s piece))
    else (Failed, counted (faulted s (take s.room piece)))
