-- How much a system has of each thing that has a limit.
use Rattle.std.specs.Prelude.{◌≡◌, ℕ, max, List, [], ◌∷◌, ◌++◌, map, length}
use Rattle.tower_types.specs.Ty.{Ty, Fields, Shape, shape_in, table_of, words, depth}
use Rattle.tower_syntax.specs.Arch.{Arch, Handler}
use Rattle.tower_syntax.specs.Weights.{memory, code}
use Rattle.arch_types.specs.Outline.{each}
use Rattle.channel_graph.specs.Chain.{IsChain}
use Rattle.arch_checks.specs.declared.fault.What.{What}
use Rattle.arch_checks.specs.declared.fault.What.TheVariants as what

abbrev pub types_of_fields : Fields → List Ty
types_of_fields fields = map (λ f. f.1) fields

-- the types of all names that the callbacks of a handler bind
abbrev pub bound_types : Handler → List Ty
bound_types h = each (λ b. types_of_fields b.binders) h.callbacks

-- The types of all messages, states and bound names. With the records these are all that count: the type of a record's
-- field is part of the record, and that of a cast is a scalar.
abbrev pub types_of : Arch → List Ty
types_of arch =
    map (λ s. s.message) arch.sources ++ map (λ c. c.message) arch.channels
    ++ each (λ m. types_of_fields m.states) arch.monitors ++ each bound_types arch.handlers

-- the shapes of all records and types, used or not
abbrev pub shapes : Arch → List Shape
shapes arch =
    let table = table_of arch.records in
    table ++ map (shape_in table) (types_of arch)

-- the greatest of some numbers, and 0 of none
abbrev pub greatest : List ℕ → ℕ
greatest [] = 0
greatest (n ∷ ns) = max n (greatest ns)

abbrev pub deepest : Arch → ℕ
deepest arch = greatest (map depth (shapes arch))

abbrev pub widest : Arch → ℕ
widest arch = greatest (map words (shapes arch))

-- the system has so much of it
abbrev pub Counts : Arch → What → ℕ → Type 0
Counts arch what.Sources n = n ≡ length arch.sources
Counts arch what.Channels n = n ≡ length arch.channels
Counts arch what.Outputs n = n ≡ length arch.outputs
Counts arch what.Monitors n = n ≡ length arch.monitors
Counts arch what.Handlers n = n ≡ length arch.handlers
Counts arch what.Records n = n ≡ length arch.records
Counts arch what.Depth n = n ≡ deepest arch
Counts arch what.Words n = n ≡ widest arch
Counts arch what.Chain n = IsChain arch n
Counts arch what.Memory n = n ≡ memory arch
Counts arch what.Code n = n ≡ code arch
