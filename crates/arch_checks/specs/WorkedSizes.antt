-- Worked counts: types of a system, and type nodes of a text.
use Rattle.std.specs.Prelude.{◌≡◌, ℕ, pos, [], ◌∷◌}
use Rattle.tower_types.specs.declared.scalar.Scalar.TheVariants.{U8, I32}
use Rattle.tower_syntax.specs.RawTree.{Id, Link, RawType, word, array, RawStmts, no_stmts, stmt, local, bind, cast, lit, Raw, channel, monitor, handler, state, callback}
use Rattle.tower_syntax.specs.declared.named.Target.TheVariants as target
use Rattle.tower_syntax.specs.Flight.{flight}
use Rattle.arch_checks.specs.Sizes.{deepest, widest}
use Rattle.arch_checks.specs.TypeNodes.{type_nodes, deepest_written, widest_written}

abbrev id : ℕ → Id
id at = record { at = at; name = [] }

abbrev pairs : RawType Link
pairs = array 0 2 (array 1 2049 (word 2 U8))

abbrev number : RawType Link
number = word 6 I32

-- a handler whose callback has a local of arrays, and a cast
abbrev body : RawStmts Link
body = stmt (local 3 (id 4) pairs) (stmt (bind 5 (id 7) (cast 8 number (lit 9 U8 (pos 1)))) no_stmts)

abbrev text : Raw Link
text = record {
  at = 0;
  version = 1;
  name = id 1;
  items = channel 2 (id 3) (word 4 U8)
      ∷ monitor 5 (id 6) (state 7 (id 8) pairs ∷ handler 9 (id 10) (record { at = 11; target = target.Channel 0 }) (callback 12 (id 13) body ∷ []) ∷ [])
      ∷ [];
}

abbrev pub WorkedSizes : Type 0
WorkedSizes =
    -- a record of two numbers is 2 deep, and four numbers are the widest
    (deepest flight ≡ 2)
    × (widest flight ≡ 4)
    -- of arrays those inside count too
    × (type_nodes text ≡ word 4 U8 ∷ pairs ∷ array 1 2049 (word 2 U8) ∷ word 2 U8 ∷ pairs ∷ array 1 2049 (word 2 U8) ∷ word 2 U8 ∷ number ∷ [])
    × (deepest_written text ≡ 3)
    × (widest_written text ≡ 4098)
