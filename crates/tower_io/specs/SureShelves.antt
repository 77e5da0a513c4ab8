-- A shelf in memory that never fails: an absent name is an empty text.
use Rattle.std.specs.Prelude.{ℕ, ◌==◌, min, length, drop, if◌then◌else◌}
use Rattle.tower_io.specs.declared.answers.Next.{Next}
use Rattle.tower_io.specs.declared.answers.Next.TheVariants.{Got, End}
use Rattle.tower_io.specs.Texts.{Library, shut}

-- what a `next` with this much room answers, and the library after it
abbrev pub sure_next_of : Library → ℕ → Next × Library
sure_next_of s room =
    let n = min room (length s.left) in
    if length s.left == 0 then (End, shut s.entries) else (Got n, record s { left = drop n s.left })
