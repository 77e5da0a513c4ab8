-- The reader of tokens has one list more than are unclosed.
use Rattle.std.proofs.Common.{◌≡◌, ℕ, ◌+◌, ◌-◌, List, [], ◌∷◌, length, arith}
use Rattle.tower_sexp.specs.declared.token.Token.{Token}
use Rattle.tower_sexp.specs.declared.token.Token.TheVariants as token
use Rattle.tower_sexp.specs.WholeTokens.{depth_behind}
use Rattle.tower_reader.specs.Machine.{Frame, step, run}

pub run_nested : (ts : List Token) (fs : List Frame) (n : ℕ) → length fs ≡ n + 1 → length (run ts fs) ≡ depth_behind n ts + 1
run_nested [] fs n e = e
run_nested (token.Left at ∷ ts) [] n e = absurd (omega arith)
run_nested (token.Left at ∷ ts) (f ∷ fs) n e = run_nested ts (step (token.Left at) (f ∷ fs)) (n + 1) (omega (arith, e))
run_nested (token.Right at ∷ ts) [] n e = absurd (omega arith)
run_nested (token.Right at ∷ ts) (f ∷ []) n e = run_nested ts (f ∷ []) (n - 1) (omega (arith, e))
run_nested (token.Right at ∷ ts) (f ∷ g ∷ fs) n e = run_nested ts (step (token.Right at) (f ∷ g ∷ fs)) (n - 1) (omega (arith, e))
run_nested (token.Atom at w ∷ ts) [] n e = absurd (omega arith)
run_nested (token.Atom at w ∷ ts) (f ∷ fs) n e = run_nested ts (step (token.Atom at w) (f ∷ fs)) n e
