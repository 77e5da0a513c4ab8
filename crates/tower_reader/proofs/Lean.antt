-- The reader of tokens keeps no part of a list in which something was found.
use Rattle.std.proofs.Common.{◌≡◌, ℕ, List, [], ◌∷◌, ◌++◌, length, Bool, true, false, cond, refl}
use Rattle.tower_sexp.specs.declared.token.Token.{Token}
use Rattle.tower_sexp.specs.declared.token.Token.TheVariants as token
use Rattle.tower_reader.specs.declared.found.Found.{Found}
use Rattle.tower_reader.specs.declared.frame.Heading.{Heading}
use Rattle.tower_reader.specs.declared.frame.Heading.TheVariants as heading
use Rattle.tower_reader.specs.Part.{Part}
use Rattle.tower_reader.specs.Machine.{merged, is_clean, kept, IsLean, Frame, AllLean, taken_by, entered_by, step, run}

kept_by : (c : Bool) (ps : List Part) → c ≡ false → length (cond c ps []) ≡ 0
kept_by true ps e = cc
kept_by false ps e = refl

kept_lean : (o : Found) (ps : List Part) → IsLean o (length (kept o ps))
kept_lean o ps e = kept_by (is_clean o) ps e

abbrev Lean : Frame → Type 0
Lean f = IsLean f.found (length f.parts)

taken_lean : (h : Heading) (p : Part) (o : Found) (f : Frame) → Lean f → Lean (taken_by h p o f)
taken_lean heading.Fresh p o f l = l
taken_lean heading.Unknown p o f l = l
taken_lean (heading.Known r) p o f l = kept_lean (merged f.found o) (f.parts ++ p ∷ [])

entered_lean : (h : Heading) (at : ℕ) (w : List ℕ) (f : Frame) → Lean f → Lean (entered_by h at w f)
entered_lean heading.Fresh at w f l = l
entered_lean heading.Unknown at w f l = l
entered_lean (heading.Known r) at w f l = taken_lean f.heading _ _ f l

step_lean : (t : Token) (fs : List Frame) → AllLean fs → AllLean (step t fs)
step_lean (token.Left at) [] l = tt
step_lean (token.Left at) (f ∷ fs) l = (λ e. refl, l)
step_lean (token.Right at) [] l = tt
step_lean (token.Right at) (f ∷ []) l = l
step_lean (token.Right at) (f ∷ g ∷ fs) l = (taken_lean g.heading _ _ g l.1.0, l.1.1)
step_lean (token.Atom at w) [] l = tt
step_lean (token.Atom at w) (f ∷ fs) l = (entered_lean f.heading at w f l.0, l.1)

pub run_lean : (ts : List Token) (fs : List Frame) → AllLean fs → AllLean (run ts fs)
run_lean [] fs l = l
run_lean (t ∷ ts) fs l = run_lean ts (step t fs) (step_lean t fs l)
