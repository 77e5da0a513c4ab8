-- The parts of a line, as they are written one after another.
use Rattle.std.specs.Prelude.{List, ◌∷◌}
use Rattle.task_listing.specs.Lines.{Bytes, texts}
use Rattle.task_listing.specs.Spelling.{Word, text}

abbrev pub after_blank : Word → Bytes
after_blank w = 32 ∷ text w

-- words, each behind a blank
abbrev pub spaced : List Word → Bytes
spaced ws = texts after_blank ws
