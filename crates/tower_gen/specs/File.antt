-- The generated files, each a tree without offsets: 32 periods, 16 channels, 4 outputs and 64 monitors, as a function of
-- what is drawn.
use Rattle.std.specs.Prelude.{ℕ, ◌+◌, ◌*◌, ◌-◌, ◌/◌, ◌%◌, nat_lt, if◌then◌else◌, List, [], ◌∷◌, ◌++◌, map, codes, decimal, pos, None}
use Rattle.tower_types.specs.declared.scalar.Scalar.TheVariants.{U32, Ix}
use Rattle.tower_types.specs.declared.scalar.BinOp.TheVariants.{Add, Mul}
use Rattle.tower_types.specs.Ty.{Name}
use Rattle.tower_syntax.specs.RawTree.{Id, word, array, RawPlace, root, index, RawExpr, read, lit, bin, cast, RawStmts, set, loop, emit, no_stmts, stmt, RawHpart, emitter, callback, RawPart, state, handler, RawItem, period, channel, output, monitor, Raw}
use Rattle.tower_syntax.specs.Graph.{numbers_before}
use Rattle.tower_gen.specs.Draws.{Drawn}

-- 0, 1, up to n - 1
abbrev pub upto : ℕ → List ℕ
upto n = numbers_before n []

abbrev pub called : Name → Id
called n = record { at = 0; name = n }

abbrev pub period_name : ℕ → Name
period_name i = codes "p" ++ decimal i

abbrev pub channel_name : ℕ → Name
channel_name i = codes "c" ++ decimal i

abbrev pub output_name : ℕ → Name
output_name i = codes "o" ++ decimal i

abbrev pub monitor_name : ℕ → Name
monitor_name i = codes "m" ++ decimal i

abbrev pub handler_name : ℕ → Name
handler_name i = codes "h" ++ decimal i

abbrev pub own : Name → RawPlace Id
own n = root (called n)

-- the place of a handler among the 32 behind the first ones: its layer, and its place there
abbrev pub layer : ℕ → ℕ
layer i = (i - 32) / 8

abbrev pub within : ℕ → ℕ
within i = (i - 32) % 8

-- the channel that a handler behind the first 32 hears
abbrev pub heard : ℕ → ℕ
heard i = 4 * layer i + within i % 4

-- the channel that a handler of one of the first 56 monitors emits on
abbrev pub told : ℕ → ℕ
told i = if nat_lt i 32 then i % 4 else 4 * layer i + 4 + within i / 2

abbrev pub source_use : ℕ → Name
source_use i = if nat_lt i 32 then period_name i else channel_name (heard i)

abbrev pub message : ℕ → RawExpr Id
message i = if nat_lt i 32 then cast 0 (word 0 U32) (read (own (codes "x"))) else read (own (codes "x"))

abbrev pub emitter_on : ℕ → RawHpart Id
emitter_on c = emitter 0 (called (codes "e")) (called (channel_name c)) 1

abbrev pub emitters : ℕ → List (RawHpart Id)
emitters i = if nat_lt i 56 then emitter_on (told i) ∷ [] else []

abbrev pub emits : ℕ → RawStmts Id
emits i = if nat_lt i 56 then stmt (emit 0 (called (codes "e")) (read (own (codes "a")))) no_stmts else no_stmts

-- the statements of the handler of monitor i, with the factor k
abbrev pub body_with : ℕ → ℕ → RawStmts Id
body_with k i =
    stmt (set 0 (index 0 (own (codes "v")) (read (own (codes "pos")))) (message i))
    (stmt (set 0 (own (codes "pos")) (bin 0 Add (read (own (codes "pos"))) (lit 0 (Ix 8) (pos 1))))
    (stmt (loop 0 (called (codes "i")) 8
    (stmt (set 0 (own (codes "a")) (bin 0 Add (bin 0 Mul (read (own (codes "a"))) (lit 0 U32 (pos k))) (read (index 0 (own (codes "v")) (read (own (codes "i"))))))) no_stmts))
    (emits i)))

abbrev pub body : Drawn → ℕ → RawStmts Id
body d i = body_with (d.factor i) i

abbrev pub period_with : ℕ → ℕ → ℕ → RawItem Id
period_with ms priority i = period 0 (called (period_name i)) ms priority None

abbrev pub period_item : Drawn → ℕ → RawItem Id
period_item d i = period_with (d.ms i) (d.priority i) i

abbrev pub channel_item : ℕ → RawItem Id
channel_item i = channel 0 (called (channel_name i)) (word 0 U32)

abbrev pub output_item : ℕ → RawItem Id
output_item i = output 0 (called (output_name i)) (called (channel_name (12 + i)))

abbrev pub callback_with : ℕ → ℕ → RawHpart Id
callback_with k i = callback 0 (called (codes "x")) (body_with k i)

abbrev pub hparts_with : ℕ → ℕ → List (RawHpart Id)
hparts_with k i = emitters i ++ callback_with k i ∷ []

abbrev pub hparts : Drawn → ℕ → List (RawHpart Id)
hparts d i = hparts_with (d.factor i) i

abbrev pub handler_with : ℕ → ℕ → RawPart Id
handler_with k i = handler 0 (called (handler_name i)) (called (source_use i)) (hparts_with k i)

abbrev pub parts_with : ℕ → ℕ → List (RawPart Id)
parts_with k i =
    state 0 (called (codes "a")) (word 0 U32)
    ∷ state 0 (called (codes "v")) (array 0 8 (word 0 U32))
    ∷ state 0 (called (codes "pos")) (word 0 (Ix 8))
    ∷ handler_with k i
    ∷ []

abbrev pub parts : Drawn → ℕ → List (RawPart Id)
parts d i = parts_with (d.factor i) i

-- monitor i, whose handler has the factor k
abbrev pub monitor_with : ℕ → ℕ → RawItem Id
monitor_with k i = monitor 0 (called (monitor_name i)) (parts_with k i)

abbrev pub monitor_item : Drawn → ℕ → RawItem Id
monitor_item d i = monitor_with (d.factor i) i

-- the items that nothing is drawn for
abbrev pub channel_items : List (RawItem Id)
channel_items = map channel_item (upto 16)

abbrev pub output_items : List (RawItem Id)
output_items = map output_item (upto 4)

-- the file
abbrev pub made : Drawn → Raw Id
made d = record {
  at = 0;
  version = 1;
  name = called (codes "gen");
  items = map (period_item d) (upto 32) ++ channel_items ++ output_items ++ map (monitor_item d) (upto 64);
}
