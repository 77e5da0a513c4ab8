-- The rows of the type table, right and wrong at each child, and a whole file with its fault.
use Rattle.std.specs.Prelude.{◌≡◌, ℕ, pos, List, [], ◌∷◌, codes, Option, Some, None, Result, Ok, Err, true}
use Rattle.tower_types.specs.declared.scalar.Scalar.{Scalar}
use Rattle.tower_types.specs.declared.scalar.Scalar.TheVariants as is
use Rattle.tower_types.specs.declared.scalar.BinOp.{BinOp}
use Rattle.tower_types.specs.declared.scalar.BinOp.TheVariants as op
use Rattle.tower_types.specs.declared.scalar.UnOp.{UnOp}
use Rattle.tower_types.specs.declared.scalar.UnOp.TheVariants as un_op
use Rattle.tower_types.specs.Ty.{Ty, scalar, array, rec as record_type}
use Rattle.tower_syntax.specs.declared.named.Target.TheVariants as target
use Rattle.tower_syntax.specs.RawTree.{Id, Link, word, RawPlace, root, get, index, RawExpr, truth, read, lit, un, bin, choose, cast, RawStmt, bind, set, copy, loop, emit, no_stmts, stmt, RawHpart, callback, RawPart, state, handler, RawItem, period, signal, monitor, Raw}
use Rattle.arch_types.specs.declared.fault.Want.{Want}
use Rattle.arch_types.specs.declared.fault.Want.TheVariants as want
use Rattle.arch_types.specs.declared.fault.TypeFault.{TypeFault}
use Rattle.arch_types.specs.declared.fault.TypeFault.TheVariants as fault
use Rattle.arch_types.specs.Outline.{outline, handlers_of}
use Rattle.arch_types.specs.Walk.{Known, TypedExpr, typed, walked}
use Rattle.arch_types.specs.Turns.{in_turn, handled}
use Rattle.arch_types.specs.Worked.{fault_of}

-- a record r with a field f of type u16; states of types u16, r, (array 4 u8), bool and (ix 4); names of types u16,
-- which may be written, and (ix 4), which may not; and an emitter of u8
abbrev pub around : Known
around = record {
  names = codes "r" ∷ [];
  records = ((codes "f", scalar is.U16) ∷ []) ∷ [];
  message = scalar is.I64;
  states = (codes "x", scalar is.U16) ∷ (codes "s", record_type 0) ∷ (codes "a", array 4 (scalar is.U8)) ∷ (codes "b", scalar is.Bool) ∷ (codes "n", scalar (is.Ix 4)) ∷ [];
  emitters = scalar is.U8 ∷ [];
  binders = (codes "l", scalar is.U16) ∷ (codes "i", scalar (is.Ix 4)) ∷ [];
  writable = true ∷ Rattle.std.specs.Prelude.false ∷ [];
}

abbrev pub state_at : ℕ → ℕ → RawPlace Link
state_at at k = root (record { at = at; target = target.State k })

abbrev pub name_at : ℕ → ℕ → RawPlace Link
name_at at b = root (record { at = at; target = target.Binder b })

-- the states, each read at this offset
abbrev pub x : ℕ → RawExpr Link
x at = read (state_at at 0)

abbrev pub s : ℕ → RawExpr Link
s at = read (state_at at 1)

abbrev pub a : ℕ → RawExpr Link
a at = read (state_at at 2)

abbrev pub b : ℕ → RawExpr Link
b at = read (state_at at 3)

abbrev pub n : ℕ → RawExpr Link
n at = read (state_at at 4)

abbrev pub field_of : RawPlace Link → ℕ → RawExpr Link
field_of p name = read (get 0 p (record { at = 9; name = name ∷ [] }))

abbrev pub element : RawPlace Link → RawExpr Link → RawExpr Link
element p e = read (index 0 p e)

abbrev pub two : BinOp → RawExpr Link → RawExpr Link → RawExpr Link
two o e f = bin 0 o e f

abbrev pub one : UnOp → RawExpr Link → RawExpr Link
one o e = un 0 o e

abbrev pub type_in : Result TypedExpr TypeFault → Result Ty TypeFault
type_in (Ok t) = Ok t.ty
type_in (Err f) = Err f

abbrev pub told : RawExpr Link → Result Ty TypeFault
told e = type_in (typed around e)

abbrev pub is_a : Scalar → Result Ty TypeFault
is_a t = Ok (scalar t)

abbrev pub wrong : ℕ → Want → List ℕ → Result Ty TypeFault
wrong at w found = Err (fault.Mismatch at w found)

abbrev pub said : RawStmt Link → Option TypeFault
said t = fault_of (walked around t)

abbrev pub mismatch : ℕ → Want → List ℕ → Option TypeFault
mismatch at w found = Some (fault.Mismatch at w found)

pub record WorkedTable : Type 0 where
  -- literals
  pub literal : told (lit 3 is.U8 (pos 255)) ≡ is_a is.U8
  pub too_great : told (lit 3 is.U8 (pos 256)) ≡ Err (fault.Range 3)
  pub past_size : told (lit 3 (is.Ix 4) (pos 4)) ≡ Err (fault.Range 3)
  -- fields and elements
  pub field : told (field_of (state_at 1 1) 102) ≡ is_a is.U16
  pub no_field : told (field_of (state_at 1 1) 103) ≡ Err (fault.Field 9)
  pub no_record : told (field_of (state_at 1 0) 102) ≡ wrong 1 want.Record (codes "u16")
  pub at_index : told (element (state_at 1 2) (n 2)) ≡ is_a is.U8
  pub no_array : told (element (state_at 1 0) (n 2)) ≡ wrong 1 want.Array (codes "u16")
  pub other_size : told (element (state_at 1 2) (lit 2 (is.Ix 5) (pos 0))) ≡ wrong 2 (want.Exactly (codes "(ix 4)")) (codes "(ix 5)")
  pub no_index : told (element (state_at 1 2) (lit 2 is.U8 (pos 0))) ≡ wrong 2 (want.Exactly (codes "(ix 4)")) (codes "u8")
  -- sums and products
  pub sum : told (two op.Add (x 1) (x 2)) ≡ is_a is.U16
  pub product : told (two op.Mul (n 1) (lit 2 (is.Ix 4) (pos 0))) ≡ is_a (is.Ix 4)
  pub difference_of_truths : told (two op.Sub (b 1) (b 2)) ≡ wrong 1 want.Number (codes "bool")
  pub quotient_of_others : told (two op.Div (x 1) (lit 2 is.U8 (pos 1))) ≡ wrong 2 (want.Exactly (codes "u16")) (codes "u8")
  pub rest_of_arrays : told (two op.Rem (a 1) (a 2)) ≡ wrong 1 want.Number (codes "(array 4 u8)")
  pub child_first : told (two op.Add (truth 1 true) (lit 2 is.U8 (pos 256))) ≡ Err (fault.Range 2)
  -- bits
  pub bits : told (two op.And (x 1) (x 2)) ≡ is_a is.U16
  pub signed_bits : told (two op.Or (lit 1 is.I8 (pos 1)) (lit 2 is.I8 (pos 1))) ≡ wrong 1 want.Unsigned (codes "i8")
  pub index_bits : told (two op.Xor (n 1) (n 2)) ≡ wrong 1 want.Unsigned (codes "(ix 4)")
  -- comparisons
  pub equal : told (two op.Eq (b 1) (b 2)) ≡ is_a is.Bool
  pub equal_records : told (two op.Eq (s 1) (s 2)) ≡ wrong 1 want.Scalar (codes "r")
  pub less : told (two op.Less (x 1) (x 2)) ≡ is_a is.Bool
  pub less_truths : told (two op.LessEq (b 1) (b 2)) ≡ wrong 1 want.Number (codes "bool")
  -- truths
  pub both : told (two op.Both (b 1) (x 2)) ≡ wrong 2 (want.Exactly (codes "bool")) (codes "u16")
  pub either : told (two op.Either (x 1) (b 2)) ≡ wrong 1 (want.Exactly (codes "bool")) (codes "u16")
  pub not : told (one un_op.Not (x 1)) ≡ wrong 1 (want.Exactly (codes "bool")) (codes "u16")
  pub negated : told (one un_op.Neg (n 1)) ≡ is_a (is.Ix 4)
  pub negated_truth : told (one un_op.Neg (b 1)) ≡ wrong 1 want.Number (codes "bool")
  -- choices
  pub chosen : told (choose 0 (b 1) (x 2) (x 3)) ≡ is_a is.U16
  pub other_test : told (choose 0 (x 1) (s 2) (x 3)) ≡ wrong 1 (want.Exactly (codes "bool")) (codes "u16")
  pub chosen_records : told (choose 0 (b 1) (s 2) (s 3)) ≡ wrong 2 want.Scalar (codes "r")
  pub chosen_others : told (choose 0 (b 1) (x 2) (b 3)) ≡ wrong 3 (want.Exactly (codes "u16")) (codes "bool")
  -- casts
  pub casted : told (cast 0 (word 1 is.I8) (x 2)) ≡ is_a is.I8
  pub to_truth : told (cast 0 (word 1 is.Bool) (x 2)) ≡ wrong 1 want.Number (codes "bool")
  pub of_truth : told (cast 0 (word 1 is.I8) (b 2)) ≡ wrong 2 want.Number (codes "bool")
  -- statements
  pub let_record : said (bind 0 (record { at = 1; name = [] }) (s 2)) ≡ mismatch 2 want.Scalar (codes "r")
  pub set_name : said (set 0 (name_at 1 0) (x 2)) ≡ None
  pub set_loop_name : said (set 0 (name_at 1 1) (n 2)) ≡ Some (fault.NotPlace 1)
  pub set_record : said (set 0 (state_at 1 1) (s 2)) ≡ mismatch 1 want.Scalar (codes "r")
  pub set_other : said (set 0 (state_at 1 0) (b 2)) ≡ mismatch 2 (want.Exactly (codes "u16")) (codes "bool")
  pub copy_record : said (copy 0 (state_at 1 1) (state_at 2 1)) ≡ None
  pub copy_other : said (copy 0 (state_at 1 1) (state_at 2 2)) ≡ mismatch 2 (want.Exactly (codes "r")) (codes "(array 4 u8)")
  pub copy_to_loop_name : said (copy 0 (name_at 1 1) (state_at 2 4)) ≡ Some (fault.NotPlace 1)
  pub emit_other : said (emit 0 (record { at = 1; target = target.Emitter 0 }) (x 2)) ≡ mismatch 2 (want.Exactly (codes "u8")) (codes "u16")
  -- a loop's name counts to its number of turns
  pub in_loop : said (loop 0 (record { at = 1; name = [] }) 3 (stmt (set 2 (state_at 3 4) (read (name_at 4 2))) no_stmts)) ≡ mismatch 4 (want.Exactly (codes "(ix 4)")) (codes "(ix 3)")

-- ---- (tower t (signal s MESSAGE 1) (monitor m (state x STATE) (handler h s (callback v (set x v)))))

abbrev pub id : ℕ → List ℕ → Id
id at name = record { at = at; name = name }

abbrev pub set_message : RawStmt Link
set_message = set 75 (state_at 80 0) (read (root (record { at = 82; target = target.Param })))

abbrev pub the_callback : RawHpart Link
the_callback = callback 63 (id 73 (codes "v")) (stmt set_message no_stmts)

abbrev pub the_handler : RawPart Link
the_handler = handler 50 (id 59 (codes "h")) (record { at = 61; target = target.Source 0 }) (the_callback ∷ [])

abbrev pub the_state : Scalar → RawPart Link
the_state held = state 36 (id 43 (codes "x")) (word 45 held)

abbrev pub the_signal : Scalar → RawItem Link
the_signal message = signal 9 (id 17 (codes "s")) (word 19 message) 1 None

abbrev pub the_monitor : Scalar → RawItem Link
the_monitor held = monitor 25 (id 34 (codes "m")) (the_state held ∷ the_handler ∷ [])

abbrev pub file_of : Scalar → Scalar → Raw Link
file_of message held = record { at = 0; version = 1; name = id 7 (codes "t"); items = the_signal message ∷ the_monitor held ∷ [] }

-- ---- a file with one monitor, whose handler counts how often its period came

abbrev pub count_more : RawExpr Link
count_more = bin 185 op.Add (read (state_at 188 0)) (lit 190 is.U32 (pos 1))

abbrev pub set_count : RawStmt Link
set_count = set 178 (state_at 183 0) count_more

abbrev pub the_beat : RawItem Link
the_beat = period 96 (id 104 (codes "beat")) 10 5 None

abbrev pub the_tick : RawPart Link
the_tick = handler 147 (id 156 (codes "tick")) (record { at = 161; target = target.Source 0 }) (callback 166 (id 176 (codes "t")) (stmt set_count no_stmts) ∷ [])

abbrev pub the_count : RawItem Link
the_count = monitor 116 (id 125 (codes "count")) (state 131 (id 138 (codes "n")) (word 140 is.U32) ∷ the_tick ∷ [])

abbrev pub clock : Raw Link
clock = record { at = 83; version = 1; name = id 90 (codes "clock"); items = the_beat ∷ the_count ∷ [] }

abbrev pub file_fault : {A : Type 0} → Result A TypeFault → Option TypeFault
file_fault (Ok hs) = None
file_fault (Err f) = Some f

abbrev pub said_of : Raw Link → Option TypeFault
said_of raw = file_fault (in_turn (handled (outline raw)) (handlers_of raw))

pub record WorkedFile : Type 0 where
  pub same : said_of (file_of is.U8 is.U8) ≡ None
  pub other : said_of (file_of is.U8 is.U16) ≡ mismatch 82 (want.Exactly (codes "u16")) (codes "u8")
  pub counting : said_of clock ≡ None
