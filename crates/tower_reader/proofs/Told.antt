-- Where a text with a fault ends, the innermost list is the file, and no memory is wanted.
use Rattle.std.proofs.Common.{◌≡◌, ℕ, zero, suc, List, [], ◌∷◌, Bool, true, false, ◌&&◌, inl, inr, refl, ap, sym, ◌∙◌, subst}
use Rattle.tower_sexp.specs.declared.token.Token.{Token}
use Rattle.tower_sexp.specs.declared.token.Token.TheVariants as token
use Rattle.tower_sexp.specs.WholeTokens.{EndsInAtom}
use Rattle.tower_reader.specs.declared.found.Found.{Found}
use Rattle.tower_reader.specs.declared.frame.Heading.{Heading}
use Rattle.tower_reader.specs.declared.frame.Heading.TheVariants as heading
use Rattle.tower_reader.specs.declared.table.Atoms.{Atoms}
use Rattle.tower_reader.specs.declared.table.Atoms.TheVariants as atoms
use Rattle.tower_reader.specs.declared.table.Row.TheVariants as row
use Rattle.tower_reader.specs.Table.{atoms_at, place_at}
use Rattle.tower_reader.specs.Part.{Part}
use Rattle.tower_reader.specs.Reading.{atom_offences}
use Rattle.tower_reader.specs.Machine.{merged, firsts, is_clean, Frame, IsFile, bottom, slot, slot_by, taken_by, entered_by, entered, step, run}
use Rattle.tower_reader.proofs.Kept.{clean_merged}

file_atoms : (n : ℕ) → atoms_at (place_at row.File n) ≡ atoms.None
file_atoms zero = refl
file_atoms (suc n) = refl

-- no atom may stand in the file
pub no_atoms : (f : Frame) → IsFile f → atoms_at (slot f) ≡ atoms.None
no_atoms f h = ap (λ g. atoms_at (slot_by g f.count)) h ∙ file_atoms f.count

pub atom_soiled : (a : Atoms) (at : ℕ) (w : List ℕ) (o : Found) → o ≡ firsts (atom_offences a at w) → a ≡ atoms.None → is_clean o ≡ false
atom_soiled a at w o e n = ap is_clean (e ∙ ap (λ a. firsts (atom_offences a at w)) n)

and_false : (b : Bool) → (b && false) ≡ false
and_false true = refl
and_false false = refl

pub merged_soiled : (a b : Found) → is_clean b ≡ false → is_clean (merged a b) ≡ false
merged_soiled a b h = clean_merged a b ∙ ap (λ x. is_clean a && x) h ∙ and_false (is_clean a)

-- the outermost of some lists is the file
abbrev Based : Frame → List Frame → Type 0
Based f [] = IsFile f
Based f (g ∷ fs) = Based g fs

abbrev AllBased : List Frame → Type 0
AllBased [] = ⊥
AllBased (f ∷ fs) = Based f fs

taken_file : (h : Heading) (p : Part) (o : Found) (f : Frame) → h ≡ heading.Known row.File → IsFile f → IsFile (taken_by h p o f)
taken_file heading.Fresh p o f e k = cc
taken_file heading.Unknown p o f e k = k
taken_file (heading.Known r) p o f e k = k

entered_file : (h : Heading) (at : ℕ) (w : List ℕ) (f : Frame) → h ≡ heading.Known row.File → IsFile f → IsFile (entered_by h at w f)
entered_file heading.Fresh at w f e k = cc
entered_file heading.Unknown at w f e k = k
entered_file (heading.Known r) at w f e k = taken_file f.heading _ _ f k k

based_on : (f g : Frame) (fs : List Frame) → (IsFile f → IsFile g) → Based f fs → Based g fs
based_on f g [] k h = k h
based_on f g (x ∷ fs) k h = h

step_based : (t : Token) (f : Frame) (fs : List Frame) → Based f fs → AllBased (step t (f ∷ fs))
step_based (token.Left at) f fs h = h
step_based (token.Right at) f [] h = h
step_based (token.Right at) f (g ∷ fs) h = based_on g _ fs (λ k. taken_file g.heading _ _ g k k) h
step_based (token.Atom at w) f fs h = based_on f (entered at w f) fs (λ k. entered_file f.heading at w f k k) h

run_based : (ts : List Token) (fs : List Frame) → AllBased fs → AllBased (run ts fs)
run_based [] fs h = h
run_based (t ∷ ts) [] h = absurd h
run_based (t ∷ ts) (f ∷ fs) h = run_based ts (step t (f ∷ fs)) (step_based t f fs h)

alone : (f g x : Frame) (fs : List Frame) → Based f fs → g ∷ fs ≡ x ∷ [] → IsFile f
alone f g x fs h e = let k : fs ≡ [] = cc in subst (Based f) k h

-- where an atom, or nothing, leaves one list alone, this is the file
pub file_alone : (us ts : List Token) (f x : Frame) (fs : List Frame) → f ∷ fs ≡ run us (bottom ∷ []) → EndsInAtom [] ts → run ts (f ∷ fs) ≡ x ∷ [] → IsFile f
file_alone us ts f x fs e a h =
    let b : Based f fs = subst AllBased (sym e) (run_based us (bottom ∷ []) refl) in
    elim a [
      | inl k ↦ alone f f x fs b (sym (ap (λ ts. run ts (f ∷ fs)) k) ∙ h)
      | inr k ↦ alone f (entered k.0 k.1 f) x fs b (sym (ap (λ ts. run ts (f ∷ fs)) k.2) ∙ h)
    ]
