-- Parts that are not kept make no difference.
use Rattle.std.proofs.Common.{◌≡◌, ℕ, ◌+◌, List, [], ◌∷◌, ◌++◌, Bool, true, false, cond, ◌&&◌, Option, Some, None, refl, ap, ◌∙◌}
use Rattle.std.specs.Prelude.{is_none}
use Rattle.tower_reader.specs.declared.found.Found.{Found}
use Rattle.tower_reader.specs.declared.frame.Heading.{Heading}
use Rattle.tower_reader.specs.declared.frame.Heading.TheVariants as heading
use Rattle.tower_reader.specs.declared.table.Row.{Row}
use Rattle.tower_reader.specs.Part.{Part, nothing, build}
use Rattle.tower_reader.specs.Machine.{or_else, merged, is_clean, kept, kept_part, counted, Frame, taken_by, taken_in}
use Rattle.tower_reader.specs.Verdict.{by_form, by_found}

none_else : (a b : Option ℕ) → is_none (or_else a b) ≡ is_none a && is_none b
none_else None b = refl
none_else (Some x) b = refl

mixed : (x y z u v w : Bool) → ((x && u) && (y && v)) && (z && w) ≡ ((x && y) && z) && ((u && v) && w)
mixed false y z u v w = refl
mixed true false z true v w = refl
mixed true false z false v w = refl
mixed true true false false v w = refl
mixed true true false true false w = refl
mixed true true false true true w = refl
mixed true true true u v w = refl

-- nothing was found in two nodes where nothing was found in either
pub clean_merged : (a b : Found) → is_clean (merged a b) ≡ is_clean a && is_clean b
clean_merged a b = (λ i. (none_else a.form b.form i && none_else a.number b.number i) && none_else a.length b.length i) ∙ mixed (is_none a.form) (is_none a.number) (is_none a.length) (is_none b.form) (is_none b.number) (is_none b.length)

before_by : (m c d : Bool) (ps : List Part) (p : Part) → m ≡ c && d → cond m (cond c ps [] ++ p ∷ []) [] ≡ cond m (ps ++ p ∷ []) []
before_by false c d ps p e = refl
before_by true true d ps p e = refl
before_by true false d ps p e = cc

pub kept_before : (o x : Found) (ps : List Part) (p : Part) → kept (merged o x) (kept o ps ++ p ∷ []) ≡ kept (merged o x) (ps ++ p ∷ [])
kept_before o x ps p = before_by (is_clean (merged o x)) (is_clean o) (is_clean x) ps p (clean_merged o x)

last_by : (m c d : Bool) (ps : List Part) (p : Part) → m ≡ c && d → cond m (ps ++ cond d p nothing ∷ []) [] ≡ cond m (ps ++ p ∷ []) []
last_by false c d ps p e = refl
last_by true c true ps p e = refl
last_by true true false ps p e = cc
last_by true false false ps p e = cc

kept_last : (o x : Found) (ps : List Part) (p : Part) → kept (merged o x) (ps ++ kept_part x p ∷ []) ≡ kept (merged o x) (ps ++ p ∷ [])
kept_last o x ps p = last_by (is_clean (merged o x)) (is_clean o) (is_clean x) ps p (clean_merged o x)

taken_kept_by : (h : Heading) (p : Part) (o : Found) (f : Frame) → taken_by h (kept_part o p) o f ≡ taken_by h p o f
taken_kept_by heading.Fresh p o f = refl
taken_kept_by heading.Unknown p o f = refl
taken_kept_by (heading.Known r) p o f = ap (λ ps. record f { count = counted (f.count + 1); parts = ps; found = merged f.found o }) (kept_last f.found o f.parts p)

pub taken_kept : (p : Part) (o : Found) (f : Frame) → taken_in (kept_part o p) o f ≡ taken_in p o f
taken_kept p o f = taken_kept_by f.heading p o f

built_by : (c : Bool) (r : Row) (at : ℕ) (ps : List Part) → cond c (build r at (cond c ps [])) nothing ≡ cond c (build r at ps) nothing
built_by true r at ps = refl
built_by false r at ps = refl

pub built_kept : (o : Found) (r : Row) (at : ℕ) (ps : List Part) → kept_part o (build r at (kept o ps)) ≡ kept_part o (build r at ps)
built_kept o r at ps = built_by (is_clean o) r at ps

form_by : (f n l : Option ℕ) (ps : List Part) → by_form f n l (cond ((is_none f && is_none n) && is_none l) ps []) ≡ by_form f n l ps
form_by (Some at) n l ps = refl
form_by None (Some at) l ps = refl
form_by None None (Some at) ps = refl
form_by None None None ps = refl

pub found_kept : (o : Found) (ps : List Part) → by_found o (kept o ps) ≡ by_found o ps
found_kept o ps = form_by o.form o.number o.length ps
