-- Texts with their trees and faults, computed.
use Rattle.std.specs.Prelude.{◌≡◌, ℕ, zero, suc, pos, List, [], ◌∷◌, ◌++◌, codes, Result, Ok, Err, Some, None}
use Rattle.tower_types.specs.declared.scalar.Scalar.TheVariants.{U8, U32, Ix}
use Rattle.tower_types.specs.declared.scalar.BinOp.TheVariants.{Add}
use Rattle.tower_types.specs.Ty.{Name}
use Rattle.tower_syntax.specs.RawTree.{Id, word, rec, array, root, read, lit, bin, set, no_stmts, stmt, callback, state, handler, RawItem, period, signal, channel, monitor, Raw}
use Rattle.tower_reader.specs.declared.fault.ReadFault.{ReadFault}
use Rattle.tower_reader.specs.declared.fault.ReadFault.TheVariants.{Byte, Unopened, Nest, Unclosed, Empty, Form, Number, Length}
use Rattle.tower_reader.specs.Verdict.{verdict}

abbrev at : ℕ → Name → Id
at n w = record { at = n; name = w }

abbrev file : ℕ → ℕ → Name → List (RawItem Id) → Result (Raw Id) ReadFault
file version n w items = Ok (record { at = 0; version = version; name = at n w; items = items })

abbrev clock : List ℕ
clock = codes "(tower clock (period beat 10 5) (monitor count (state n u32) (handler tick beat (callback t (set n (+ n (u32 1)))))))"

abbrev clock_tree : Result (Raw Id) ReadFault
clock_tree = file 1 7 (codes "clock") (
    period 13 (at 21 (codes "beat")) 10 5 None ∷
    monitor 32 (at 41 (codes "count")) (
    state 47 (at 54 (codes "n")) (word 56 U32) ∷
    handler 61 (at 70 (codes "tick")) (at 75 (codes "beat")) (
    callback 80 (at 90 (codes "t")) (stmt (
    set 92 (root (at 97 (codes "n"))) (bin 99 Add (read (root (at 102 (codes "n")))) (lit 104 U32 (pos 1)))) no_stmts) ∷ []) ∷ []) ∷ [])

abbrev lefts : ℕ → List ℕ
lefts zero = []
lefts (suc n) = 40 ∷ lefts n

-- trees, with the offsets of all nodes
pub record WorkedTrees : Type 0 where
  pub none : verdict (codes "(tower a)") ≡ file 1 7 (codes "a") []
  pub comments : verdict (codes ";(\n (tower a) ;)") ≡ Ok (record { at = 4; version = 1; name = at 11 (codes "a"); items = [] })
  pub version : verdict (codes "(tower2 a (signal s u8 1 2))") ≡ file 2 8 (codes "a") (signal 10 (at 18 (codes "s")) (word 20 U8) 1 (Some 2) ∷ [])
  pub types : verdict (codes "(tower a (channel c (array 4096 (ix 65536))) (channel d c))") ≡ file 1 7 (codes "a") (channel 9 (at 18 (codes "c")) (array 20 4096 (word 32 (Ix 65536))) ∷ channel 45 (at 54 (codes "d")) (rec (at 56 (codes "c"))) ∷ [])
  pub clock : verdict clock ≡ clock_tree

-- faults of the tokens
pub record WorkedTokens : Type 0 where
  pub unclosed : verdict (codes "(tower a") ≡ Err (Unclosed 0)
  pub unopened : verdict (codes "(tower a))") ≡ Err (Unopened 9)
  pub byte : verdict (codes "(tower " ++ 0xC3 ∷ 0xA9 ∷ codes ")") ≡ Err (Byte 7)
  pub empty : verdict [] ≡ Err Empty
  pub blanks : verdict (codes " \t\r\n;a") ≡ Err Empty
  pub nested : verdict (lefts 256) ≡ Err (Unclosed 255)
  pub nested_deeper : verdict (lefts 257) ≡ Err (Nest 256)

-- faults of the forms
pub record WorkedForms : Type 0 where
  pub item : verdict (codes "(tower a (tick 1))") ≡ Err (Form 9)
  pub depth : verdict (codes "(tower a (signal s u8 1 2))") ≡ Err (Form 9)
  pub no_depth : verdict (codes "(tower2 a (signal s u8 1))") ≡ Err (Form 10)
  pub second : verdict (codes "(tower a) b") ≡ Err (Form 10)
  pub no_list : verdict (codes "tower") ≡ Err (Form 0)
  pub no_head : verdict (codes "(tower a ())") ≡ Err (Form 9)
  pub list_head : verdict (codes "((tower) a)") ≡ Err (Form 0)
  pub no_name : verdict (codes "(tower a_)") ≡ Err (Form 7)
  pub word : verdict (codes "(tower u8)") ≡ Err (Form 7)
  pub list_for_atom : verdict (codes "(tower a (init (b) 1))") ≡ Err (Form 15)
  pub no_fields : verdict (codes "(tower a (record r))") ≡ Err (Form 9)
  pub one_word : verdict (codes "(tower a (record (field f u8)))") ≡ Err (Form 9)
  pub field_first : verdict (codes "(tower a (record (field f u8) (field g u8)))") ≡ Err (Form 17)
  -- a form that comes behind a number, and the first of two
  pub before_number : verdict (codes "(tower a (init b 256) c)") ≡ Err (Form 22)
  pub first : verdict (codes "(tower a (init b) c)") ≡ Err (Form 9)

-- faults of numbers and names
pub record WorkedNumbers : Type 0 where
  pub great : verdict (codes "(tower a (period p 99999999999999999999 1))") ≡ Err (Number 19)
  pub length : verdict (codes "(tower a (channel c (array 4097 u8)))") ≡ Err (Number 27)
  pub depth : verdict (codes "(tower2 a (signal s u8 1 0))") ≡ Err (Number 25)
  pub zero_first : verdict (codes "(tower a (init b 00))") ≡ Err (Number 17)
  pub minus_zero : verdict (codes "(tower a (init b -0))") ≡ Err (Number 17)
  pub plus : verdict (codes "(tower a (init b +1))") ≡ Err (Number 17)
  pub minus : verdict (codes "(tower a (init b -))") ≡ Err (Number 17)
  pub no_digits : verdict (codes "(tower a (init b c))") ≡ Err (Number 17)
  pub name : verdict (codes "(tower aaaaaaaaaabbbbbbbbbbccccccccccddddddddddeeeeeeeeeeffffffffffggggg (init b 1))") ≡ Err (Length 7)
  pub before_length : verdict (codes "(tower aaaaaaaaaabbbbbbbbbbccccccccccddddddddddeeeeeeeeeeffffffffffggggg (init b 256))") ≡ Err (Number 81)
