-- Worked statements: what they become, or what is wrong with them.
use Rattle.std.specs.Prelude.{◌≡◌, ℕ, zero, suc, [], ◌∷◌, codes, Option, Some, None, Ok, Err, Result, true, false}
use Rattle.tower_types.specs.declared.scalar.Scalar.TheVariants as is
use Rattle.tower_types.specs.declared.scalar.BinOp.TheVariants as op
use Rattle.tower_types.specs.declared.scalar.UnOp.TheVariants.{Neg}
use Rattle.tower_types.specs.Ty.{scalar}
use Rattle.tower_syntax.specs.declared.named.Target.TheVariants as target
use Rattle.tower_syntax.specs.RawTree.{Link, RawPlace, root, RawExpr, truth, read, lit, un, bin, RawStmt, set, branch, no_stmts, stmt}
use Rattle.arch_types.specs.declared.fault.Want.TheVariants as want
use Rattle.arch_types.specs.declared.fault.TypeFault.{TypeFault}
use Rattle.arch_types.specs.declared.fault.TypeFault.TheVariants as fault
use Rattle.arch_types.specs.declared.high.High.{High}
use Rattle.arch_types.specs.Walk.{Known, Walked, walked}

-- a message of type u8 and a state of type u16
abbrev pub seen : Known
seen = record {
  names = [];
  records = [];
  message = scalar is.U8;
  states = (codes "x", scalar is.U16) ∷ [];
  emitters = [];
  binders = [];
  writable = [];
}

abbrev pub x_at : ℕ → RawPlace Link
x_at at = root (record { at = at; target = target.State 0 })

abbrev pub v_at : ℕ → RawPlace Link
v_at at = root (record { at = at; target = target.Param })

-- (set x v), (set v (u8 256)), (set v (u8 1)), (+ true (u8 256))
abbrev pub set_other : RawStmt Link
set_other = set 75 (x_at 80) (read (v_at 82))

abbrev pub set_message : ℕ → RawStmt Link
set_message n = set 75 (v_at 80) (lit 82 is.U8 (Rattle.std.specs.Prelude.pos n))

abbrev pub sum_of_truth : RawStmt Link
sum_of_truth = set 75 (x_at 80) (bin 82 op.Add (truth 85 true) (lit 90 is.U8 (Rattle.std.specs.Prelude.pos 256)))

-- so many times `neg` round the state
abbrev pub negs : ℕ → RawExpr Link
negs zero = read (x_at 90)
negs (suc n) = un 82 Neg (negs n)

abbrev pub set_negs : ℕ → RawStmt Link
set_negs n = set 75 (x_at 80) (negs n)

-- a test of a wrong type with a fault in a branch, and with none
abbrev pub if_other : RawStmt Link → RawStmt Link
if_other s = branch 70 (read (x_at 71)) 73 (stmt s no_stmts) 99 no_stmts

abbrev pub fault_of : Result Walked TypeFault → Option TypeFault
fault_of (Ok w) = None
fault_of (Err f) = Some f

abbrev pub high_of : Result Walked TypeFault → Option High
high_of (Ok w) = w.high
high_of (Err f) = None

pub record WorkedTypes : Type 0 where
  pub mismatch : fault_of (walked seen set_other) ≡ Some (fault.Mismatch 82 (want.Exactly (codes "u16")) (codes "u8"))
  -- a fault in a child hides the node's own
  pub range_first : fault_of (walked seen (set_message 256)) ≡ Some (fault.Range 82)
  pub not_a_place : fault_of (walked seen (set_message 1)) ≡ Some (fault.NotPlace 80)
  pub literal_first : fault_of (walked seen sum_of_truth) ≡ Some (fault.Range 90)
  -- 24 is not too high, and 25 is
  pub high_enough : high_of (walked seen (set_negs 23)) ≡ None
  pub too_high : high_of (walked seen (set_negs 24)) ≡ Some (record { at = 82; depth = 25 })
  -- the test's own type is asked only where no fault is in a branch
  pub in_branch : fault_of (walked seen (if_other set_other)) ≡ Some (fault.Mismatch 82 (want.Exactly (codes "u16")) (codes "u8"))
  pub at_test : fault_of (walked seen (if_other (set_negs 1))) ≡ Some (fault.Mismatch 71 (want.Exactly (codes "bool")) (codes "u16"))
  pub test_before_high : fault_of (walked seen (if_other (set_negs 24))) ≡ Some (fault.Mismatch 71 (want.Exactly (codes "bool")) (codes "u16"))
