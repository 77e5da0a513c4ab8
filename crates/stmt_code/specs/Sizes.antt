-- The words of names.
use Rattle.std.specs.Prelude.{ℕ, List, map}
use Rattle.tower_types.specs.Ty.{Fields, words, shape_in, table_of}
use Rattle.tower_syntax.specs.Arch.{Arch}

abbrev pub words_of_fields : Arch → Fields → List ℕ
words_of_fields arch fields = map (λ f. words (shape_in (table_of arch.records) f.1)) fields
