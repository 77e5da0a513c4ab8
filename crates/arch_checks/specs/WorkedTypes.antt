-- Texts with their first faults by types, and texts without one.
use Rattle.std.specs.Prelude.{ℕ, zero, suc, List, ◌++◌, codes}
use Rattle.arch_types.specs.declared.fault.Want.TheVariants as want
use Rattle.arch_checks.specs.declared.fault.Fault.TheVariants as fault
use Rattle.arch_checks.specs.Offences.{IsFault}
use Rattle.arch_checks.specs.WorkedFaults.{HasSystem}

-- Statements of a callback, from the offset 200 on. Its message v is an i64, its emitter e takes a u8, and the states have
-- the types that are written.
abbrev pub callback : List ℕ → List ℕ
callback statements =
    codes "(tower examples (record r (field f u16)) (init i 1) (channel c u8) "
    ++ codes "(monitor m (state x u16) (state s r) (state a (array 4 u8)) (state b bool) (state n (ix 4)) (handler h i (emitter e c 9) (callback v "
    ++ statements ++ codes "))))"

-- literals
pub record WorkedLiterals : Type 0 where
  pub greatest : HasSystem (callback (codes "(let q (u8 255))"))
  pub too_great : IsFault (callback (codes "(let q (u8 256))")) (fault.Range 207)
  pub below_zero : IsFault (callback (codes "(let q (u16 -1))")) (fault.Range 207)
  pub least : HasSystem (callback (codes "(let q (i8 -128))"))
  pub too_small : IsFault (callback (codes "(let q (i8 -129))")) (fault.Range 207)
  pub past_size : IsFault (callback (codes "(let q (ix 4 4))")) (fault.Range 207)

-- fields and elements
pub record WorkedPlaces : Type 0 where
  pub field : HasSystem (callback (codes "(let q (get s f))"))
  pub no_field : IsFault (callback (codes "(let q (get s g))")) (fault.Field 214)
  pub no_record : IsFault (callback (codes "(let q (get x f))")) (fault.Mismatch 212 want.Record (codes "u16"))
  pub element : HasSystem (callback (codes "(let q (at a n))"))
  pub no_array : IsFault (callback (codes "(let q (at x n))")) (fault.Mismatch 211 want.Array (codes "u16"))
  pub other_size : IsFault (callback (codes "(let q (at a (ix 5 0)))")) (fault.Mismatch 213 (want.Exactly (codes "(ix 4)")) (codes "(ix 5)"))
  pub no_index : IsFault (callback (codes "(let q (at a (u8 0)))")) (fault.Mismatch 213 (want.Exactly (codes "(ix 4)")) (codes "u8"))

-- sums and products
pub record WorkedSums : Type 0 where
  pub sum : HasSystem (callback (codes "(let q (+ x x))"))
  pub product : HasSystem (callback (codes "(let q (* n (ix 4 0)))"))
  pub difference_of_truths : IsFault (callback (codes "(let q (- b b))")) (fault.Mismatch 210 want.Number (codes "bool"))
  pub quotient_of_others : IsFault (callback (codes "(let q (/ x (u8 1)))")) (fault.Mismatch 212 (want.Exactly (codes "u16")) (codes "u8"))
  pub rest_of_arrays : IsFault (callback (codes "(let q (% a a))")) (fault.Mismatch 210 want.Number (codes "(array 4 u8)"))
  pub child_first : IsFault (callback (codes "(let q (+ true (u8 256)))")) (fault.Range 215)

-- bits
pub record WorkedBits : Type 0 where
  pub bits : HasSystem (callback (codes "(let q (& x x))"))
  pub signed_bits : IsFault (callback (codes "(let q (| (i8 1) (i8 1)))")) (fault.Mismatch 210 want.Unsigned (codes "i8"))
  pub index_bits : IsFault (callback (codes "(let q (^ n n))")) (fault.Mismatch 210 want.Unsigned (codes "(ix 4)"))

-- comparisons
pub record WorkedComparisons : Type 0 where
  pub equal_truths : HasSystem (callback (codes "(let q (= b b))"))
  pub equal_records : IsFault (callback (codes "(let q (= s s))")) (fault.Mismatch 210 want.Scalar (codes "r"))
  pub less : HasSystem (callback (codes "(set b (< x x))"))
  pub less_truths : IsFault (callback (codes "(let q (<= b b))")) (fault.Mismatch 211 want.Number (codes "bool"))

-- truths
pub record WorkedTruths : Type 0 where
  pub both : IsFault (callback (codes "(let q (and b x))")) (fault.Mismatch 214 (want.Exactly (codes "bool")) (codes "u16"))
  pub either : IsFault (callback (codes "(let q (or x b))")) (fault.Mismatch 211 (want.Exactly (codes "bool")) (codes "u16"))
  pub no_truth : IsFault (callback (codes "(let q (not x))")) (fault.Mismatch 212 (want.Exactly (codes "bool")) (codes "u16"))
  pub negated : HasSystem (callback (codes "(set n (neg n))"))
  pub negated_truth : IsFault (callback (codes "(let q (neg b))")) (fault.Mismatch 212 want.Number (codes "bool"))

-- choices and casts
pub record WorkedChoices : Type 0 where
  pub chosen : HasSystem (callback (codes "(set x (cond b x x))"))
  pub other_test : IsFault (callback (codes "(let q (cond x s x))")) (fault.Mismatch 213 (want.Exactly (codes "bool")) (codes "u16"))
  pub chosen_records : IsFault (callback (codes "(let q (cond b s s))")) (fault.Mismatch 215 want.Scalar (codes "r"))
  pub chosen_others : IsFault (callback (codes "(let q (cond b x b))")) (fault.Mismatch 217 (want.Exactly (codes "u16")) (codes "bool"))
  pub casted : HasSystem (callback (codes "(let q (cast i8 x))"))
  pub to_a_truth : IsFault (callback (codes "(let q (cast bool x))")) (fault.Mismatch 213 want.Number (codes "bool"))
  pub to_a_record : IsFault (callback (codes "(let q (cast r x))")) (fault.Mismatch 213 want.Number (codes "r"))
  pub of_a_truth : IsFault (callback (codes "(let q (cast i8 b))")) (fault.Mismatch 216 want.Number (codes "bool"))

-- bindings and sets
pub record WorkedSets : Type 0 where
  pub let_of_a_record : IsFault (callback (codes "(let q s)")) (fault.Mismatch 207 want.Scalar (codes "r"))
  pub set_of_a_local : HasSystem (callback (codes "(local l u16) (set l x)"))
  pub set_of_a_let : IsFault (callback (codes "(let l x) (set l x)")) (fault.NotPlace 215)
  pub set_of_a_loop : IsFault (callback (codes "(for k 4 (set k n))")) (fault.NotPlace 214)
  pub set_of_the_message : IsFault (callback (codes "(set v (u8 1))")) (fault.NotPlace 205)
  pub message_of_a_child : IsFault (callback (codes "(set v (u8 256))")) (fault.Range 207)
  pub set_of_a_record : IsFault (callback (codes "(set s s)")) (fault.Mismatch 205 want.Scalar (codes "r"))
  pub set_of_another : IsFault (callback (codes "(set x b)")) (fault.Mismatch 207 (want.Exactly (codes "u16")) (codes "bool"))

-- copies, emissions, loops and branches
pub record WorkedCopies : Type 0 where
  pub copy_of_a_record : HasSystem (callback (codes "(copy s s)"))
  pub copy_of_a_child : IsFault (callback (codes "(copy v (get s zz))")) (fault.Field 215)
  pub copy_of_another : IsFault (callback (codes "(copy s a)")) (fault.Mismatch 208 (want.Exactly (codes "r")) (codes "(array 4 u8)"))
  pub copy_to_a_loop : IsFault (callback (codes "(for k 4 (copy k n))")) (fault.NotPlace 215)
  pub emit_of_another : IsFault (callback (codes "(emit e x)")) (fault.Mismatch 208 (want.Exactly (codes "u8")) (codes "u16"))
  pub count_of_a_loop : IsFault (callback (codes "(for k 3 (set n k))")) (fault.Mismatch 216 (want.Exactly (codes "(ix 4)")) (codes "(ix 3)"))
  pub test_of_a_branch : IsFault (callback (codes "(if x (then) (else))")) (fault.Mismatch 204 (want.Exactly (codes "bool")) (codes "u16"))
  pub branch_before_test : IsFault (callback (codes "(if x (then (set x b)) (else))")) (fault.Mismatch 219 (want.Exactly (codes "u16")) (codes "bool"))

-- heights: `neg` so many times round x, between these

abbrev pub negs : ℕ → List ℕ
negs zero = codes "x"
negs (suc n) = codes "(neg " ++ negs n ++ codes ")"

abbrev pub high : ℕ → List ℕ → List ℕ → List ℕ
high n front behind =
    codes "(tower heights (init i 1) (monitor m (state x u16) (state b bool) (handler h i (callback v "
    ++ front ++ negs n ++ behind ++ codes "))))"

pub record WorkedHeights : Type 0 where
  pub height_24 : HasSystem (high 23 (codes "(set x ") (codes ")"))
  pub height_25 : IsFault (high 24 (codes "(set x ") (codes ")")) (fault.Deep 98 25)
  pub hides_no_fault : IsFault (high 24 (codes "(set b ") (codes ")")) (fault.Mismatch 98 (want.Exactly (codes "bool")) (codes "u16"))
  pub high_test : IsFault (high 24 (codes "(if ") (codes " (then (set x b)) (else))")) (fault.Deep 95 25)
  pub high_branch : IsFault (high 24 (codes "(if x (then (set x ") (codes ")) (else))")) (fault.Mismatch 95 (want.Exactly (codes "bool")) (codes "u16"))

-- whole files
pub record WorkedFiles : Type 0 where
  pub other_message : IsFault (codes "(tower t (signal s u8 1) (monitor m (state x u16) (handler h s (callback v (set x v)))))") (fault.Mismatch 82 (want.Exactly (codes "u16")) (codes "u8"))
  -- a type that is called as a want is no want
  pub called_number : IsFault (codes "(tower t (record number (field f u8)) (init i 1) (channel c number) (monitor m (handler h i (emitter e c 1) (callback v (emit e v)))))") (fault.Mismatch 128 (want.Exactly (codes "number")) (codes "i64"))
  -- the first in the text, over all handlers
  pub first_handler : IsFault (codes "(tower t (init i 1) (monitor m (state x u8) (handler h i (callback v (set x v)) (callback w (set x true))) (handler k i (callback v (set x true)))))") (fault.Mismatch 76 (want.Exactly (codes "u8")) (codes "i64"))
