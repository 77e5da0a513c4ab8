-- Files with what their names come to. Each row has its text, so the offsets are those of a text that is read.
use Rattle.std.specs.Prelude.{ℕ, ◌≡◌, true, List, [], ◌∷◌, codes, Option, Some, None}
use Rattle.tower_types.specs.declared.scalar.Scalar.TheVariants.{U8}
use Rattle.tower_types.specs.Ty.{Name}
use Rattle.tower_syntax.specs.RawTree.{Id, Link, RawType, RawStmt, RawStmts, stmt, word, rec, array, root, get, index, truth, read, cast, bind, local, set, copy, branch, loop, emit, no_stmts, RawField, emitter, callback, state, handler, RawItem, fields, init, signal, channel, output, monitor, Raw}
use Rattle.tower_syntax.specs.declared.named.Target.{Target}
use Rattle.tower_syntax.specs.declared.named.Target.TheVariants as target
use Rattle.arch_names.specs.declared.fault.Sort.TheVariants.{Record, Source, Channel, SourceOrChannel, Output, Monitor}
use Rattle.arch_names.specs.declared.fault.NameFault.{NameFault}
use Rattle.arch_names.specs.declared.fault.NameFault.TheVariants.{Twice, Unknown, Kind}
use Rattle.arch_names.specs.Sites.{sites}
use Rattle.arch_names.specs.Linked.{linked}
use Rattle.arch_names.specs.Walk.{first, meant}

abbrev pub name : ℕ → Name → Id
name at w = record { at = at; name = w }

abbrev pub field : {U : Type 0} → ℕ → Id → RawType U → RawField U
field at x t = record { at = at; name = x; ty = t }

abbrev pub file : {U : Type 0} → Id → List (RawItem U) → Raw U
file x items = record { at = 0; version = 1; name = x; items = items }

abbrev pub link : ℕ → Target → Link
link at t = record { at = at; target = t }

abbrev pub stmts_of : {U : Type 0} → List (RawStmt U) → RawStmts U
stmts_of [] = no_stmts
stmts_of (s ∷ ss) = stmt s (stmts_of ss)

abbrev pub fault_of : Raw Id → Option NameFault
fault_of raw = first (sites raw)

-- (tower t (signal a u8 1) (channel a u8) (monitor m (handler h zz (emitter e q 1) (callback v (emit e true)))))
abbrev pub two_sorts : Raw Id
two_sorts = file (name 7 (codes "t")) (signal 9 (name 17 (codes "a")) (word 19 U8) 1 None ∷ channel 25 (name 34 (codes "a")) (word 36 U8) ∷ monitor 40 (name 49 (codes "m")) (handler 51 (name 60 (codes "h")) (name 62 (codes "zz")) (emitter 65 (name 74 (codes "e")) (name 76 (codes "q")) 1 ∷ callback 81 (name 91 (codes "v")) (stmts_of (emit 93 (name 99 (codes "e")) (truth 101 true) ∷ [])) ∷ []) ∷ []) ∷ [])

-- (tower t (init a 1) (channel a u8) (init a 2))
abbrev pub thrice : Raw Id
thrice = file (name 7 (codes "t")) (init 9 (name 15 (codes "a")) 1 ∷ channel 20 (name 29 (codes "a")) (word 31 U8) ∷ init 35 (name 41 (codes "a")) 2 ∷ [])

-- (tower t (init h 1) (monitor m (handler h h)))
abbrev pub handler_of_one_set : Raw Id
handler_of_one_set = file (name 7 (codes "t")) (init 9 (name 15 (codes "h")) 1 ∷ monitor 20 (name 29 (codes "m")) (handler 31 (name 40 (codes "h")) (name 42 (codes "h")) [] ∷ []) ∷ [])

-- (tower h (init i 1) (monitor m (state m u8) (handler h i)))
abbrev pub sets_apart : Raw Id
sets_apart = file (name 7 (codes "h")) (init 9 (name 15 (codes "i")) 1 ∷ monitor 20 (name 29 (codes "m")) (state 31 (name 38 (codes "m")) (word 40 U8) ∷ handler 44 (name 53 (codes "h")) (name 55 (codes "i")) [] ∷ []) ∷ [])

-- (tower t (record r (field f u8) (field g u8) (field f u8)))
abbrev pub two_fields : Raw Id
two_fields = file (name 7 (codes "t")) (fields 9 (name 17 (codes "r")) (field 19 (name 26 (codes "f")) (word 28 U8) ∷ field 32 (name 39 (codes "g")) (word 41 U8) ∷ field 45 (name 52 (codes "f")) (word 54 U8) ∷ []) ∷ [])

-- (tower t (record r (field f s)) (record s (field g u8)))
abbrev pub later_record : Raw Id
later_record = file (name 7 (codes "t")) (fields 9 (name 17 (codes "r")) (field 19 (name 26 (codes "f")) (rec (name 28 (codes "s"))) ∷ []) ∷ fields 32 (name 40 (codes "s")) (field 42 (name 49 (codes "g")) (word 51 U8) ∷ []) ∷ [])

-- (tower t (record r (field f (array 2 r))))
abbrev pub record_in_itself : Raw Id
record_in_itself = file (name 7 (codes "t")) (fields 9 (name 17 (codes "r")) (field 19 (name 26 (codes "f")) (array 28 2 (rec (name 37 (codes "r")))) ∷ []) ∷ [])

-- (tower t (channel c u8) (record r (field f c)))
abbrev pub field_of_a_channel : Raw Id
field_of_a_channel = file (name 7 (codes "t")) (channel 9 (name 18 (codes "c")) (word 20 U8) ∷ fields 24 (name 32 (codes "r")) (field 34 (name 41 (codes "f")) (rec (name 43 (codes "c"))) ∷ []) ∷ [])

-- (tower t (record r (field f u8)) (record s (field g r)) (signal k s 1))
abbrev pub earlier_record : Raw Id
earlier_record = file (name 7 (codes "t")) (fields 9 (name 17 (codes "r")) (field 19 (name 26 (codes "f")) (word 28 U8) ∷ []) ∷ fields 33 (name 41 (codes "s")) (field 43 (name 50 (codes "g")) (rec (name 52 (codes "r"))) ∷ []) ∷ signal 56 (name 64 (codes "k")) (rec (name 66 (codes "s"))) 1 None ∷ [])

-- (tower t (signal k c 1) (channel c u8))
abbrev pub type_of_a_channel : Raw Id
type_of_a_channel = file (name 7 (codes "t")) (signal 9 (name 17 (codes "k")) (rec (name 19 (codes "c"))) 1 None ∷ channel 24 (name 33 (codes "c")) (word 35 U8) ∷ [])

-- (tower t (output o i) (init i 1))
abbrev pub output_of_a_source : Raw Id
output_of_a_source = file (name 7 (codes "t")) (output 9 (name 17 (codes "o")) (name 19 (codes "i")) ∷ init 22 (name 28 (codes "i")) 1 ∷ [])

-- (tower t (init i 1) (record r (field f u8)) (monitor m (handler h i (emitter e r 1))))
abbrev pub emitter_of_a_record : Raw Id
emitter_of_a_record = file (name 7 (codes "t")) (init 9 (name 15 (codes "i")) 1 ∷ fields 20 (name 28 (codes "r")) (field 30 (name 37 (codes "f")) (word 39 U8) ∷ []) ∷ monitor 44 (name 53 (codes "m")) (handler 55 (name 64 (codes "h")) (name 66 (codes "i")) (emitter 68 (name 77 (codes "e")) (name 79 (codes "r")) 1 ∷ []) ∷ []) ∷ [])

-- (tower t (monitor m (handler h m)))
abbrev pub handler_on_a_monitor : Raw Id
handler_on_a_monitor = file (name 7 (codes "t")) (monitor 9 (name 18 (codes "m")) (handler 20 (name 29 (codes "h")) (name 31 (codes "m")) [] ∷ []) ∷ [])

-- (tower t (monitor m (handler h o)) (output o c) (channel c u8))
abbrev pub handler_on_an_output : Raw Id
handler_on_an_output = file (name 7 (codes "t")) (monitor 9 (name 18 (codes "m")) (handler 20 (name 29 (codes "h")) (name 31 (codes "o")) [] ∷ []) ∷ output 35 (name 43 (codes "o")) (name 45 (codes "c")) ∷ channel 48 (name 57 (codes "c")) (word 59 U8) ∷ [])

-- (tower t (init i 1) (monitor m (state x u8) (handler h i (callback v (let a x) (set x a)))))
abbrev pub let_then_use : Raw Id
let_then_use = file (name 7 (codes "t")) (init 9 (name 15 (codes "i")) 1 ∷ monitor 20 (name 29 (codes "m")) (state 31 (name 38 (codes "x")) (word 40 U8) ∷ handler 44 (name 53 (codes "h")) (name 55 (codes "i")) (callback 57 (name 67 (codes "v")) (stmts_of (bind 69 (name 74 (codes "a")) (read (root (name 76 (codes "x")))) ∷ set 79 (root (name 84 (codes "x"))) (read (root (name 86 (codes "a")))) ∷ [])) ∷ []) ∷ []) ∷ [])

-- (tower t (init i 1) (monitor m (state x u8) (handler h i (callback v (let a a)))))
abbrev pub let_in_its_value : Raw Id
let_in_its_value = file (name 7 (codes "t")) (init 9 (name 15 (codes "i")) 1 ∷ monitor 20 (name 29 (codes "m")) (state 31 (name 38 (codes "x")) (word 40 U8) ∷ handler 44 (name 53 (codes "h")) (name 55 (codes "i")) (callback 57 (name 67 (codes "v")) (stmts_of (bind 69 (name 74 (codes "a")) (read (root (name 76 (codes "a")))) ∷ [])) ∷ []) ∷ []) ∷ [])

-- (tower t (init i 1) (monitor m (state x u8) (handler h i (callback v (let v zz)))))
abbrev pub callback_name_again : Raw Id
callback_name_again = file (name 7 (codes "t")) (init 9 (name 15 (codes "i")) 1 ∷ monitor 20 (name 29 (codes "m")) (state 31 (name 38 (codes "x")) (word 40 U8) ∷ handler 44 (name 53 (codes "h")) (name 55 (codes "i")) (callback 57 (name 67 (codes "v")) (stmts_of (bind 69 (name 74 (codes "v")) (read (root (name 76 (codes "zz")))) ∷ [])) ∷ []) ∷ []) ∷ [])

-- (tower t (init i 1) (monitor m (state x u8) (handler h i (callback v (if true (then (let a x)) (else (set x a)))))))
abbrev pub end_of_then : Raw Id
end_of_then = file (name 7 (codes "t")) (init 9 (name 15 (codes "i")) 1 ∷ monitor 20 (name 29 (codes "m")) (state 31 (name 38 (codes "x")) (word 40 U8) ∷ handler 44 (name 53 (codes "h")) (name 55 (codes "i")) (callback 57 (name 67 (codes "v")) (stmts_of (branch 69 (truth 73 true) 78 (stmts_of (bind 84 (name 89 (codes "a")) (read (root (name 91 (codes "x")))) ∷ [])) 95 (stmts_of (set 101 (root (name 106 (codes "x"))) (read (root (name 108 (codes "a")))) ∷ [])) ∷ [])) ∷ []) ∷ []) ∷ [])

-- (tower t (init i 1) (monitor m (state x u8) (handler h i (callback v (for k 3 (let a x)) (set x (cast u8 k))))))
abbrev pub for_name_behind : Raw Id
for_name_behind = file (name 7 (codes "t")) (init 9 (name 15 (codes "i")) 1 ∷ monitor 20 (name 29 (codes "m")) (state 31 (name 38 (codes "x")) (word 40 U8) ∷ handler 44 (name 53 (codes "h")) (name 55 (codes "i")) (callback 57 (name 67 (codes "v")) (stmts_of (loop 69 (name 74 (codes "k")) 3 (stmts_of (bind 78 (name 83 (codes "a")) (read (root (name 85 (codes "x")))) ∷ [])) ∷ set 89 (root (name 94 (codes "x"))) (cast 96 (word 102 U8) (read (root (name 105 (codes "k"))))) ∷ [])) ∷ []) ∷ []) ∷ [])

-- (tower t (init i 1) (monitor m (state x u8) (handler h i (callback v (for k 3 (for k 2))))))
abbrev pub for_in_for : Raw Id
for_in_for = file (name 7 (codes "t")) (init 9 (name 15 (codes "i")) 1 ∷ monitor 20 (name 29 (codes "m")) (state 31 (name 38 (codes "x")) (word 40 U8) ∷ handler 44 (name 53 (codes "h")) (name 55 (codes "i")) (callback 57 (name 67 (codes "v")) (stmts_of (loop 69 (name 74 (codes "k")) 3 (stmts_of (loop 78 (name 83 (codes "k")) 2 no_stmts ∷ [])) ∷ [])) ∷ []) ∷ []) ∷ [])

-- (tower t (init i 1) (monitor m (state x u8) (handler h i (callback v (if true (then (let a x)) (else (let a x))) (local a u8) (copy a x)))))
abbrev pub again_behind : Raw Id
again_behind = file (name 7 (codes "t")) (init 9 (name 15 (codes "i")) 1 ∷ monitor 20 (name 29 (codes "m")) (state 31 (name 38 (codes "x")) (word 40 U8) ∷ handler 44 (name 53 (codes "h")) (name 55 (codes "i")) (callback 57 (name 67 (codes "v")) (stmts_of (branch 69 (truth 73 true) 78 (stmts_of (bind 84 (name 89 (codes "a")) (read (root (name 91 (codes "x")))) ∷ [])) 95 (stmts_of (bind 101 (name 106 (codes "a")) (read (root (name 108 (codes "x")))) ∷ [])) ∷ local 113 (name 120 (codes "a")) (word 122 U8) ∷ copy 126 (root (name 132 (codes "a"))) (root (name 134 (codes "x"))) ∷ [])) ∷ []) ∷ []) ∷ [])

-- (tower t (init i 1) (monitor m (handler h i (callback v (set x x))) (state x u8)))
abbrev pub later_state : Raw Id
later_state = file (name 7 (codes "t")) (init 9 (name 15 (codes "i")) 1 ∷ monitor 20 (name 29 (codes "m")) (handler 31 (name 40 (codes "h")) (name 42 (codes "i")) (callback 44 (name 54 (codes "v")) (stmts_of (set 56 (root (name 61 (codes "x"))) (read (root (name 63 (codes "x")))) ∷ [])) ∷ []) ∷ state 68 (name 75 (codes "x")) (word 77 U8) ∷ []) ∷ [])

-- (tower t (init i 1) (monitor m (handler h i (callback v (let x true))) (state x u8)))
abbrev pub later_state_shadowed : Raw Id
later_state_shadowed = file (name 7 (codes "t")) (init 9 (name 15 (codes "i")) 1 ∷ monitor 20 (name 29 (codes "m")) (handler 31 (name 40 (codes "h")) (name 42 (codes "i")) (callback 44 (name 54 (codes "v")) (stmts_of (bind 56 (name 61 (codes "x")) (truth 63 true) ∷ [])) ∷ []) ∷ state 71 (name 78 (codes "x")) (word 80 U8) ∷ []) ∷ [])

-- (tower t (init i 1) (monitor m (handler h i (callback x)) (state x u8) (state x u8)))
abbrev pub callback_named_as_a_state : Raw Id
callback_named_as_a_state = file (name 7 (codes "t")) (init 9 (name 15 (codes "i")) 1 ∷ monitor 20 (name 29 (codes "m")) (handler 31 (name 40 (codes "h")) (name 42 (codes "i")) (callback 44 (name 54 (codes "x")) no_stmts ∷ []) ∷ state 58 (name 65 (codes "x")) (word 67 U8) ∷ state 71 (name 78 (codes "x")) (word 80 U8) ∷ []) ∷ [])

-- (tower t (channel c u8) (init i 1) (monitor m (handler h i (callback v (emit e v)) (emitter e c 1))))
abbrev pub later_emitter : Raw Id
later_emitter = file (name 7 (codes "t")) (channel 9 (name 18 (codes "c")) (word 20 U8) ∷ init 24 (name 30 (codes "i")) 1 ∷ monitor 35 (name 44 (codes "m")) (handler 46 (name 55 (codes "h")) (name 57 (codes "i")) (callback 59 (name 69 (codes "v")) (stmts_of (emit 71 (name 77 (codes "e")) (read (root (name 79 (codes "v")))) ∷ [])) ∷ emitter 83 (name 92 (codes "e")) (name 94 (codes "c")) 1 ∷ []) ∷ []) ∷ [])

-- (tower t (channel e u8) (init i 1) (monitor m (handler h i (callback v (emit e v)))))
abbrev pub emit_of_a_channel : Raw Id
emit_of_a_channel = file (name 7 (codes "t")) (channel 9 (name 18 (codes "e")) (word 20 U8) ∷ init 24 (name 30 (codes "i")) 1 ∷ monitor 35 (name 44 (codes "m")) (handler 46 (name 55 (codes "h")) (name 57 (codes "i")) (callback 59 (name 69 (codes "v")) (stmts_of (emit 71 (name 77 (codes "e")) (read (root (name 79 (codes "v")))) ∷ [])) ∷ []) ∷ []) ∷ [])

-- (tower t (init i 1) (monitor m (state x u8) (handler h i (callback v (set (at (get x zz) q) true)))))
abbrev pub get_is_passed_over : Raw Id
get_is_passed_over = file (name 7 (codes "t")) (init 9 (name 15 (codes "i")) 1 ∷ monitor 20 (name 29 (codes "m")) (state 31 (name 38 (codes "x")) (word 40 U8) ∷ handler 44 (name 53 (codes "h")) (name 55 (codes "i")) (callback 57 (name 67 (codes "v")) (stmts_of (set 69 (index 74 (get 78 (root (name 83 (codes "x"))) (name 85 (codes "zz"))) (read (root (name 89 (codes "q"))))) (truth 92 true) ∷ [])) ∷ []) ∷ []) ∷ [])

-- (tower t (init i 1) (record r (field f u8)) (init j 2) (channel c r) (monitor m (state x u8) (handler h j (emitter e c 1) (emitter g c 1) (callback v (for k 2 (let a x)) (if true (then (let a v)) (else (local b r))) (let d x) (set y d) (emit g y))) (state y u8)))
abbrev pub numbers : Raw Id
numbers = file (name 7 (codes "t")) (init 9 (name 15 (codes "i")) 1 ∷ fields 20 (name 28 (codes "r")) (field 30 (name 37 (codes "f")) (word 39 U8) ∷ []) ∷ init 44 (name 50 (codes "j")) 2 ∷ channel 55 (name 64 (codes "c")) (rec (name 66 (codes "r"))) ∷ monitor 69 (name 78 (codes "m")) (state 80 (name 87 (codes "x")) (word 89 U8) ∷ handler 93 (name 102 (codes "h")) (name 104 (codes "j")) (emitter 106 (name 115 (codes "e")) (name 117 (codes "c")) 1 ∷ emitter 122 (name 131 (codes "g")) (name 133 (codes "c")) 1 ∷ callback 138 (name 148 (codes "v")) (stmts_of (loop 150 (name 155 (codes "k")) 2 (stmts_of (bind 159 (name 164 (codes "a")) (read (root (name 166 (codes "x")))) ∷ [])) ∷ branch 170 (truth 174 true) 179 (stmts_of (bind 185 (name 190 (codes "a")) (read (root (name 192 (codes "v")))) ∷ [])) 196 (stmts_of (local 202 (name 209 (codes "b")) (rec (name 211 (codes "r"))) ∷ [])) ∷ bind 216 (name 221 (codes "d")) (read (root (name 223 (codes "x")))) ∷ set 226 (root (name 231 (codes "y"))) (read (root (name 233 (codes "d")))) ∷ emit 236 (name 242 (codes "g")) (read (root (name 244 (codes "y")))) ∷ [])) ∷ []) ∷ state 249 (name 256 (codes "y")) (word 258 U8) ∷ []) ∷ [])

-- and with its links: binders count over the callback, states over the monitor
abbrev pub numbers_linked : Raw Link
numbers_linked = file (name 7 (codes "t")) (init 9 (name 15 (codes "i")) 1 ∷ fields 20 (name 28 (codes "r")) (field 30 (name 37 (codes "f")) (word 39 U8) ∷ []) ∷ init 44 (name 50 (codes "j")) 2 ∷ channel 55 (name 64 (codes "c")) (rec (link 66 (target.Record 0))) ∷ monitor 69 (name 78 (codes "m")) (state 80 (name 87 (codes "x")) (word 89 U8) ∷ handler 93 (name 102 (codes "h")) (link 104 (target.Source 1)) (emitter 106 (name 115 (codes "e")) (link 117 (target.Channel 0)) 1 ∷ emitter 122 (name 131 (codes "g")) (link 133 (target.Channel 0)) 1 ∷ callback 138 (name 148 (codes "v")) (stmts_of (loop 150 (name 155 (codes "k")) 2 (stmts_of (bind 159 (name 164 (codes "a")) (read (root (link 166 (target.State 0)))) ∷ [])) ∷ branch 170 (truth 174 true) 179 (stmts_of (bind 185 (name 190 (codes "a")) (read (root (link 192 (target.Param)))) ∷ [])) 196 (stmts_of (local 202 (name 209 (codes "b")) (rec (link 211 (target.Record 0))) ∷ [])) ∷ bind 216 (name 221 (codes "d")) (read (root (link 223 (target.State 0)))) ∷ set 226 (root (link 231 (target.State 1))) (read (root (link 233 (target.Binder 4)))) ∷ emit 236 (link 242 (target.Emitter 1)) (read (root (link 244 (target.State 1)))) ∷ [])) ∷ []) ∷ state 249 (name 256 (codes "y")) (word 258 U8) ∷ []) ∷ [])

-- (tower t (channel c u8) (init i 1) (monitor m (handler h i (emitter e c 1) (emitter e c 2))))
abbrev pub two_emitters : Raw Id
two_emitters = file (name 7 (codes "t")) (channel 9 (name 18 (codes "c")) (word 20 U8) ∷ init 24 (name 30 (codes "i")) 1 ∷ monitor 35 (name 44 (codes "m")) (handler 46 (name 55 (codes "h")) (name 57 (codes "i")) (emitter 59 (name 68 (codes "e")) (name 70 (codes "c")) 1 ∷ emitter 75 (name 84 (codes "e")) (name 86 (codes "c")) 2 ∷ []) ∷ []) ∷ [])

-- (tower t (monitor m (state x u8) (state x u8)))
abbrev pub two_states : Raw Id
two_states = file (name 7 (codes "t")) (monitor 9 (name 18 (codes "m")) (state 20 (name 27 (codes "x")) (word 29 U8) ∷ state 33 (name 40 (codes "x")) (word 42 U8) ∷ []) ∷ [])

-- (tower t (init i 1) (monitor m (handler h i (callback v (let a true) (local a u8)))))
abbrev pub local_of_a_let : Raw Id
local_of_a_let = file (name 7 (codes "t")) (init 9 (name 15 (codes "i")) 1 ∷ monitor 20 (name 29 (codes "m")) (handler 31 (name 40 (codes "h")) (name 42 (codes "i")) (callback 44 (name 54 (codes "v")) (stmts_of (bind 56 (name 61 (codes "a")) (truth 63 true) ∷ local 69 (name 76 (codes "a")) (word 78 U8) ∷ [])) ∷ []) ∷ []) ∷ [])

-- (tower t (init i 1) (monitor m (handler h i (callback v (for k 3 (let k true))))))
abbrev pub let_in_its_for : Raw Id
let_in_its_for = file (name 7 (codes "t")) (init 9 (name 15 (codes "i")) 1 ∷ monitor 20 (name 29 (codes "m")) (handler 31 (name 40 (codes "h")) (name 42 (codes "i")) (callback 44 (name 54 (codes "v")) (stmts_of (loop 56 (name 61 (codes "k")) 3 (stmts_of (bind 65 (name 70 (codes "k")) (truth 72 true) ∷ [])) ∷ [])) ∷ []) ∷ []) ∷ [])

-- (tower t (output o c) (init i 1) (init i 2))
abbrev pub unknown_before_twice : Raw Id
unknown_before_twice = file (name 7 (codes "t")) (output 9 (name 17 (codes "o")) (name 19 (codes "c")) ∷ init 22 (name 28 (codes "i")) 1 ∷ init 33 (name 39 (codes "i")) 2 ∷ [])

-- (tower t (init i 1) (output o i) (init i 2))
abbrev pub kind_before_twice : Raw Id
kind_before_twice = file (name 7 (codes "t")) (init 9 (name 15 (codes "i")) 1 ∷ output 20 (name 28 (codes "o")) (name 30 (codes "i")) ∷ init 33 (name 39 (codes "i")) 2 ∷ [])

-- (tower t (record r (field f u8)) (record s (field f r)) (channel c u8) (channel d s) (monitor m (state x u8) (handler h c (emitter e c 1) (emitter g d 1) (callback v (for k 2 (let a x) (set x a)) (emit g v)) (callback v (let a x) (set x a))) (handler k d (emitter e d 1) (callback v (emit e v)))) (monitor n (state y u8) (state x u8) (handler l c (callback v (copy x y)))))
abbrev pub numbers_anew : Raw Id
numbers_anew = file (name 7 (codes "t")) (fields 9 (name 17 (codes "r")) (field 19 (name 26 (codes "f")) (word 28 U8) ∷ []) ∷ fields 33 (name 41 (codes "s")) (field 43 (name 50 (codes "f")) (rec (name 52 (codes "r"))) ∷ []) ∷ channel 56 (name 65 (codes "c")) (word 67 U8) ∷ channel 71 (name 80 (codes "d")) (rec (name 82 (codes "s"))) ∷ monitor 85 (name 94 (codes "m")) (state 96 (name 103 (codes "x")) (word 105 U8) ∷ handler 109 (name 118 (codes "h")) (name 120 (codes "c")) (emitter 122 (name 131 (codes "e")) (name 133 (codes "c")) 1 ∷ emitter 138 (name 147 (codes "g")) (name 149 (codes "d")) 1 ∷ callback 154 (name 164 (codes "v")) (stmts_of (loop 166 (name 171 (codes "k")) 2 (stmts_of (bind 175 (name 180 (codes "a")) (read (root (name 182 (codes "x")))) ∷ set 185 (root (name 190 (codes "x"))) (read (root (name 192 (codes "a")))) ∷ [])) ∷ emit 196 (name 202 (codes "g")) (read (root (name 204 (codes "v")))) ∷ [])) ∷ callback 208 (name 218 (codes "v")) (stmts_of (bind 220 (name 225 (codes "a")) (read (root (name 227 (codes "x")))) ∷ set 230 (root (name 235 (codes "x"))) (read (root (name 237 (codes "a")))) ∷ [])) ∷ []) ∷ handler 242 (name 251 (codes "k")) (name 253 (codes "d")) (emitter 255 (name 264 (codes "e")) (name 266 (codes "d")) 1 ∷ callback 271 (name 281 (codes "v")) (stmts_of (emit 283 (name 289 (codes "e")) (read (root (name 291 (codes "v")))) ∷ [])) ∷ []) ∷ []) ∷ monitor 297 (name 306 (codes "n")) (state 308 (name 315 (codes "y")) (word 317 U8) ∷ state 321 (name 328 (codes "x")) (word 330 U8) ∷ handler 334 (name 343 (codes "l")) (name 345 (codes "c")) (callback 347 (name 357 (codes "v")) (stmts_of (copy 359 (root (name 365 (codes "x"))) (root (name 367 (codes "y"))) ∷ [])) ∷ []) ∷ []) ∷ [])

-- and with its links: each record has its fields, each monitor its states, each handler its emitters, each callback its names; each list begins at 0
abbrev pub numbers_anew_linked : Raw Link
numbers_anew_linked = file (name 7 (codes "t")) (fields 9 (name 17 (codes "r")) (field 19 (name 26 (codes "f")) (word 28 U8) ∷ []) ∷ fields 33 (name 41 (codes "s")) (field 43 (name 50 (codes "f")) (rec (link 52 (target.Record 0))) ∷ []) ∷ channel 56 (name 65 (codes "c")) (word 67 U8) ∷ channel 71 (name 80 (codes "d")) (rec (link 82 (target.Record 1))) ∷ monitor 85 (name 94 (codes "m")) (state 96 (name 103 (codes "x")) (word 105 U8) ∷ handler 109 (name 118 (codes "h")) (link 120 (target.Channel 0)) (emitter 122 (name 131 (codes "e")) (link 133 (target.Channel 0)) 1 ∷ emitter 138 (name 147 (codes "g")) (link 149 (target.Channel 1)) 1 ∷ callback 154 (name 164 (codes "v")) (stmts_of (loop 166 (name 171 (codes "k")) 2 (stmts_of (bind 175 (name 180 (codes "a")) (read (root (link 182 (target.State 0)))) ∷ set 185 (root (link 190 (target.State 0))) (read (root (link 192 (target.Binder 1)))) ∷ [])) ∷ emit 196 (link 202 (target.Emitter 1)) (read (root (link 204 (target.Param)))) ∷ [])) ∷ callback 208 (name 218 (codes "v")) (stmts_of (bind 220 (name 225 (codes "a")) (read (root (link 227 (target.State 0)))) ∷ set 230 (root (link 235 (target.State 0))) (read (root (link 237 (target.Binder 0)))) ∷ [])) ∷ []) ∷ handler 242 (name 251 (codes "k")) (link 253 (target.Channel 1)) (emitter 255 (name 264 (codes "e")) (link 266 (target.Channel 1)) 1 ∷ callback 271 (name 281 (codes "v")) (stmts_of (emit 283 (link 289 (target.Emitter 0)) (read (root (link 291 (target.Param)))) ∷ [])) ∷ []) ∷ []) ∷ monitor 297 (name 306 (codes "n")) (state 308 (name 315 (codes "y")) (word 317 U8) ∷ state 321 (name 328 (codes "x")) (word 330 U8) ∷ handler 334 (name 343 (codes "l")) (link 345 (target.Channel 0)) (callback 347 (name 357 (codes "v")) (stmts_of (copy 359 (root (link 365 (target.State 1))) (root (link 367 (target.State 0))) ∷ [])) ∷ []) ∷ []) ∷ [])

abbrev pub WorkedNames : Type 0
WorkedNames =
    (fault_of two_sorts ≡ Some (Twice 34 17)) ×
    (fault_of thrice ≡ Some (Twice 29 15)) ×
    (fault_of handler_of_one_set ≡ Some (Twice 40 15)) ×
    (fault_of sets_apart ≡ None) ×
    (fault_of two_fields ≡ Some (Twice 52 26)) ×
    (fault_of later_record ≡ Some (Unknown 28)) ×
    (fault_of record_in_itself ≡ Some (Unknown 37)) ×
    (fault_of field_of_a_channel ≡ Some (Unknown 43)) ×
    (fault_of earlier_record ≡ None) ×
    (fault_of type_of_a_channel ≡ Some (Kind 19 Record Channel)) ×
    (fault_of output_of_a_source ≡ Some (Kind 19 Channel Source)) ×
    (fault_of emitter_of_a_record ≡ Some (Kind 79 Channel Record)) ×
    (fault_of handler_on_a_monitor ≡ Some (Kind 31 SourceOrChannel Monitor)) ×
    (fault_of handler_on_an_output ≡ Some (Kind 31 SourceOrChannel Output)) ×
    (fault_of let_then_use ≡ None) ×
    (fault_of let_in_its_value ≡ Some (Unknown 76)) ×
    (fault_of callback_name_again ≡ Some (Twice 74 67)) ×
    (fault_of end_of_then ≡ Some (Unknown 108)) ×
    (fault_of for_name_behind ≡ Some (Unknown 105)) ×
    (fault_of for_in_for ≡ Some (Twice 83 74)) ×
    (fault_of again_behind ≡ None) ×
    (fault_of later_state ≡ None) ×
    (fault_of later_state_shadowed ≡ Some (Twice 61 78)) ×
    (fault_of callback_named_as_a_state ≡ Some (Twice 54 65)) ×
    (fault_of later_emitter ≡ None) ×
    (fault_of emit_of_a_channel ≡ Some (Unknown 77)) ×
    (fault_of get_is_passed_over ≡ Some (Unknown 89)) ×
    (fault_of numbers ≡ None) ×
    (linked meant numbers ≡ numbers_linked) ×
    (fault_of two_emitters ≡ Some (Twice 84 68)) ×
    (fault_of two_states ≡ Some (Twice 40 27)) ×
    (fault_of local_of_a_let ≡ Some (Twice 76 61)) ×
    (fault_of let_in_its_for ≡ Some (Twice 70 61)) ×
    (fault_of unknown_before_twice ≡ Some (Unknown 19)) ×
    (fault_of kind_before_twice ≡ Some (Kind 30 Channel Source)) ×
    (fault_of numbers_anew ≡ None) ×
    (linked meant numbers_anew ≡ numbers_anew_linked)
