-- Small files as raw trees. No offset is of interest here, so each is 0.
use Rattle.std.specs.Prelude.{ℕ, pos, negsuc, true, false, List, [], ◌∷◌, codes, Some, None}
use Rattle.tower_types.specs.declared.scalar.Scalar.{Scalar}
use Rattle.tower_types.specs.declared.scalar.Scalar.TheVariants.{Bool, U8, U16, U32, U64, I8, I16, I32, I64, Ix}
use Rattle.tower_types.specs.declared.scalar.BinOp.TheVariants.{Add, Sub, Mul, Div, Rem, And, Or, Xor, Eq, Less, LessEq, Both, Either}
use Rattle.tower_types.specs.declared.scalar.UnOp.TheVariants.{Not, Neg}
use Rattle.tower_types.specs.Ty.{Name}
use Rattle.tower_syntax.specs.RawTree.{Id, RawType, word, rec, array, RawPlace, root, get, index, RawExpr, truth, read, lit, un, bin, choose, cast, bind, local, set, copy, branch, loop, emit, no_stmts, RawField, emitter, callback, state, handler, RawItem, fields, init, period, signal, channel, output, monitor, Raw}
use Rattle.tower_syntax.specs.RawView.{raw_stmts_of}

abbrev pub called : Name → Id
called w = record { at = 0; name = w }

abbrev pub of : Scalar → RawType Id
of s = word 0 s

abbrev pub place : Name → RawPlace Id
place w = root (called w)

abbrev pub value : Name → RawExpr Id
value w = read (place w)

abbrev pub field : Name → RawType Id → RawField Id
field w t = record { at = 0; name = called w; ty = t }

abbrev pub file : ℕ → Name → List (RawItem Id) → Raw Id
file version w items = record { at = 0; version = version; name = called w; items = items }

abbrev pub none : Raw Id
none = file 1 (codes "none") []

abbrev pub clock : Raw Id
clock = file 1 (codes "clock") (
    period 0 (called (codes "beat")) 10 5 None ∷
    monitor 0 (called (codes "count")) (
    state 0 (called (codes "n")) (of U32) ∷
    handler 0 (called (codes "tick")) (called (codes "beat")) (
    callback 0 (called (codes "t")) (raw_stmts_of (
    set 0 (place (codes "n")) (bin 0 Add (value (codes "n")) (lit 0 U32 (pos 1))) ∷ [])) ∷ []) ∷ []) ∷ [])

-- of version 2
abbrev pub burst : Raw Id
burst = file 2 (codes "burst") (
    signal 0 (called (codes "s")) (of U8) 1 (Some 2) ∷
    monitor 0 (called (codes "m")) (
    state 0 (called (codes "x")) (of U8) ∷
    handler 0 (called (codes "h")) (called (codes "s")) (
    callback 0 (called (codes "v")) (raw_stmts_of (
    set 0 (place (codes "x")) (bin 0 Add (value (codes "x")) (value (codes "v"))) ∷ [])) ∷ []) ∷ []) ∷ [])

-- every operation and statement, some of them badly typed
abbrev pub every : Raw Id
every = file 1 (codes "every") (
    fields 0 (called (codes "r")) (field (codes "f") (array 0 3 (of Bool)) ∷ []) ∷
    monitor 0 (called (codes "m")) (
    state 0 (called (codes "x")) (of I8) ∷
    state 0 (called (codes "z")) (rec (called (codes "r"))) ∷
    handler 0 (called (codes "h")) (called (codes "s")) (
    callback 0 (called (codes "v")) (raw_stmts_of (
    bind 0 (called (codes "a")) (choose 0 (un 0 Not (bin 0 Eq (un 0 Neg (value (codes "x"))) (lit 0 I8 (negsuc 127)))) (truth 0 true) (read (get 0 (place (codes "z")) (called (codes "f"))))) ∷
    bind 0 (called (codes "b")) (bin 0 Div (lit 0 (Ix 4) (pos 3)) (bin 0 Rem (lit 0 (Ix 4) (pos 0)) (lit 0 (Ix 4) (pos 1)))) ∷
    branch 0 (bin 0 Both (bin 0 Either (value (codes "a")) (truth 0 false)) (bin 0 Less (bin 0 Sub (value (codes "x")) (value (codes "x"))) (bin 0 Mul (value (codes "x")) (value (codes "x"))))) 0 no_stmts 0 (raw_stmts_of (
    copy 0 (index 0 (get 0 (place (codes "z")) (called (codes "f"))) (value (codes "b"))) (place (codes "q")) ∷ [])) ∷
    bind 0 (called (codes "c")) (bin 0 And (bin 0 Or (lit 0 U8 (pos 1)) (lit 0 U16 (pos 2))) (bin 0 Xor (lit 0 U64 (pos 18446744073709551615)) (lit 0 I64 (negsuc 9223372036854775807)))) ∷
    loop 0 (called (codes "i")) 65536 (raw_stmts_of (
    bind 0 (called (codes "d")) (bin 0 LessEq (cast 0 (of I16) (lit 0 I16 (pos 5))) (lit 0 I32 (pos 0))) ∷ [])) ∷ [])) ∷ []) ∷ []) ∷ [])

abbrev pub flight : Raw Id
flight = file 1 (codes "flight") (
    fields 0 (called (codes "att")) (field (codes "roll") (of I32) ∷ field (codes "pitch") (of I32) ∷ []) ∷
    init 0 (called (codes "boot")) 250 ∷
    period 0 (called (codes "fast")) 1 200 None ∷
    period 0 (called (codes "mid")) 5 150 None ∷
    period 0 (called (codes "slow")) 20 100 None ∷
    signal 0 (called (codes "gps")) (rec (called (codes "att"))) 180 None ∷
    signal 0 (called (codes "cmd")) (of I32) 160 None ∷
    channel 0 (called (codes "rate")) (of I32) ∷
    channel 0 (called (codes "pose")) (rec (called (codes "att"))) ∷
    channel 0 (called (codes "motor")) (of I32) ∷
    channel 0 (called (codes "beat")) (of U8) ∷
    output 0 (called (codes "pwm")) (called (codes "motor")) ∷
    output 0 (called (codes "radio")) (called (codes "beat")) ∷
    monitor 0 (called (codes "gyro")) (
    state 0 (called (codes "raw")) (of I32) ∷
    handler 0 (called (codes "gyro_init")) (called (codes "boot")) (
    callback 0 (called (codes "t")) (raw_stmts_of (
    set 0 (place (codes "raw")) (lit 0 I32 (pos 100)) ∷ [])) ∷ []) ∷
    handler 0 (called (codes "sample")) (called (codes "fast")) (
    emitter 0 (called (codes "e")) (called (codes "rate")) 1 ∷
    callback 0 (called (codes "t")) (raw_stmts_of (
    set 0 (place (codes "raw")) (bin 0 Add (value (codes "raw")) (cast 0 (of I32) (value (codes "t")))) ∷
    emit 0 (called (codes "e")) (value (codes "raw")) ∷ [])) ∷ []) ∷ []) ∷
    monitor 0 (called (codes "fuse")) (
    state 0 (called (codes "now")) (rec (called (codes "att"))) ∷
    state 0 (called (codes "hist")) (array 0 4 (of I32)) ∷
    state 0 (called (codes "pos")) (of (Ix 4)) ∷
    handler 0 (called (codes "on_rate")) (called (codes "rate")) (
    callback 0 (called (codes "w")) (raw_stmts_of (
    set 0 (index 0 (place (codes "hist")) (value (codes "pos"))) (value (codes "w")) ∷
    set 0 (place (codes "pos")) (bin 0 Add (value (codes "pos")) (lit 0 (Ix 4) (pos 1))) ∷ [])) ∷ []) ∷
    handler 0 (called (codes "on_gps")) (called (codes "gps")) (
    callback 0 (called (codes "p")) (raw_stmts_of (
    copy 0 (place (codes "now")) (place (codes "p")) ∷ [])) ∷ []) ∷
    handler 0 (called (codes "publish")) (called (codes "mid")) (
    emitter 0 (called (codes "e")) (called (codes "pose")) 1 ∷
    callback 0 (called (codes "t")) (raw_stmts_of (
    local 0 (called (codes "sum")) (of I32) ∷
    loop 0 (called (codes "i")) 4 (raw_stmts_of (
    set 0 (place (codes "sum")) (bin 0 Add (value (codes "sum")) (read (index 0 (place (codes "hist")) (value (codes "i"))))) ∷ [])) ∷
    set 0 (get 0 (place (codes "now")) (called (codes "roll"))) (bin 0 Div (value (codes "sum")) (lit 0 I32 (pos 4))) ∷
    emit 0 (called (codes "e")) (value (codes "now")) ∷ [])) ∷ []) ∷ []) ∷
    monitor 0 (called (codes "ctl")) (
    state 0 (called (codes "goal")) (of I32) ∷
    handler 0 (called (codes "on_cmd")) (called (codes "cmd")) (
    callback 0 (called (codes "v")) (raw_stmts_of (
    set 0 (place (codes "goal")) (value (codes "v")) ∷ [])) ∷ []) ∷
    handler 0 (called (codes "steer")) (called (codes "pose")) (
    emitter 0 (called (codes "e")) (called (codes "motor")) 1 ∷
    callback 0 (called (codes "p")) (raw_stmts_of (
    emit 0 (called (codes "e")) (bin 0 Sub (value (codes "goal")) (read (get 0 (place (codes "p")) (called (codes "roll"))))) ∷ [])) ∷ []) ∷ []) ∷
    monitor 0 (called (codes "life")) (
    state 0 (called (codes "n")) (of U8) ∷
    handler 0 (called (codes "alive")) (called (codes "slow")) (
    emitter 0 (called (codes "e")) (called (codes "beat")) 1 ∷
    callback 0 (called (codes "t")) (raw_stmts_of (
    set 0 (place (codes "n")) (bin 0 Add (value (codes "n")) (lit 0 U8 (pos 1))) ∷
    emit 0 (called (codes "e")) (value (codes "n")) ∷ [])) ∷ []) ∷ []) ∷ [])
