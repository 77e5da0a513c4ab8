use Rattle.std.proofs.Common.{◌≡◌, ◌++◌, ◌+◌, drop, map, sum}
use Rattle.tower_types.specs.View.{fields_of}
use Rattle.stmt_code.specs.FrameOf.{laid}
use Rattle.stmt_code.specs.Sizes.{words_of_fields}
use Rattle.stmt_code.proofs.framing.lay_names.Given as goal

abbrev pub invariant-loop-ty : goal.invariant-loop-ty
invariant-loop-ty l =
    (l.addresses ++ laid l.end (words_of_fields l.arch (fields_of (drop l.ty-index l.fields))) ≡ laid l.initial.end (words_of_fields l.arch (fields_of l.fields)))
    × (l.end + sum (words_of_fields l.arch (fields_of (drop l.ty-index l.fields))) ≡ l.initial.end + sum (words_of_fields l.arch (fields_of l.fields)))
