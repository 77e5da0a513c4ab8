-- A printed file read again, computed, and files that are not alike.
use Rattle.std.specs.Prelude.{◌≡◌, ℕ, List, [], ◌∷◌, codes, Ok, Some}
use Rattle.tower_types.specs.Ty.{Name}
use Rattle.tower_types.specs.declared.scalar.Scalar.TheVariants.{U8, U16}
use Rattle.tower_types.specs.declared.scalar.BinOp.TheVariants.{Add}
use Rattle.tower_syntax.specs.RawTree.{Id, word, root, read, bin, set, no_stmts, stmt, callback, state, handler, RawItem, init, signal, channel, monitor, Raw}
use Rattle.tower_syntax.specs.RawExamples.{called, of, file, burst}
use Rattle.tower_syntax.specs.Form.{text}
use Rattle.tower_syntax.specs.Printed.{raw_form}
use Rattle.tower_reader.specs.Alike.{IsAlike}
use Rattle.tower_reader.specs.Verdict.{verdict}

abbrev at : ℕ → Name → Id
at n w = record { at = n; name = w }

-- `burst` with the offsets of its line
abbrev burst_again : Raw Id
burst_again = record {
  at = 0;
  version = 2;
  name = at 8 (codes "burst");
  items =
      signal 14 (at 22 (codes "s")) (word 24 U8) 1 (Some 2) ∷
      monitor 32 (at 41 (codes "m")) (
      state 43 (at 50 (codes "x")) (word 52 U8) ∷
      handler 56 (at 65 (codes "h")) (at 67 (codes "s")) (
      callback 69 (at 79 (codes "v")) (stmt (
      set 81 (root (at 86 (codes "x"))) (bin 88 Add (read (root (at 91 (codes "x")))) (read (root (at 93 (codes "v")))))) no_stmts) ∷ []) ∷ []) ∷ [];
}

abbrev one : List (RawItem Id) → Raw Id
one items = file 1 (codes "a") items

abbrev boot : ℕ → RawItem Id
boot n = init 0 (called (codes "b")) n

pub record WorkedPrinted : Type 0 where
  pub again : verdict (text (raw_form burst)) ≡ Ok burst_again
  pub alike : IsAlike burst burst_again
  pub other_name : IsAlike (one []) (file 1 (codes "b") []) → ⊥
  pub other_version : IsAlike (one []) (file 2 (codes "a") []) → ⊥
  pub other_number : IsAlike (one (boot 1 ∷ [])) (one (boot 2 ∷ [])) → ⊥
  pub other_order : IsAlike (one (boot 1 ∷ boot 2 ∷ [])) (one (boot 2 ∷ boot 1 ∷ [])) → ⊥
  pub one_more : IsAlike (one (boot 1 ∷ [])) (one (boot 1 ∷ boot 2 ∷ [])) → ⊥
  pub other_type : IsAlike (one (channel 0 (called (codes "b")) (of U8) ∷ [])) (one (channel 0 (called (codes "b")) (of U16) ∷ [])) → ⊥
  pub other_depth : IsAlike (file 2 (codes "a") (signal 0 (called (codes "b")) (of U8) 1 (Some 1) ∷ [])) (file 2 (codes "a") (signal 0 (called (codes "b")) (of U8) 1 (Some 2) ∷ [])) → ⊥
