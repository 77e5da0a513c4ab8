-- Sorts of bytes, of which a text may begin with a run.
use Rattle.std.specs.Prelude.{ℕ, Bool, not, ◌==◌}
use Rattle.event_record.specs.declared.run.Sort.{Sort}
use Rattle.event_record.specs.declared.run.Sort.TheVariants as sort
use Rattle.event_record.specs.Lines.{is_blank}
use Rattle.event_record.specs.Tokens.{is_atom, class_of}

abbrev pub is_of : Sort → ℕ → Bool
is_of sort.Line b = not (b == 10)
is_of sort.Word b = not (is_blank b)
is_of sort.Blank b = is_blank b
is_of sort.Atom b = is_atom (class_of b)
