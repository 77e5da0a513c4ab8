-- What is found in a longer set of names.
use Rattle.std.proofs.Common.{◌≡◌, Bool, true, false, cond, List, [], ◌∷◌, ◌++◌, Option, Some, None, refl, sym, ap, ◌∙◌, true≢false, is_some}
use Rattle.std.specs.Option.{option_or}
use Rattle.std.specs.Map.{lookup}
use Rattle.std.specs.Cmp.Lexicographic.{bytes_decides}
use Rattle.tower_types.specs.Ty.{Name}
use Rattle.arch_names.specs.declared.names.Declared.{Declared}
use Rattle.arch_names.specs.Names.{Names, same, find}

pub lookup-append : {K X : Type 0} (test : K → Bool) (es fs : List (K × X)) → lookup test (es ++ fs) ≡ option_or (lookup test es) (lookup test fs)
lookup-append test [] fs = refl
lookup-append test (e ∷ es) fs = by (test e.0) (lookup-append test es fs)
  where
    by : (b : Bool) → lookup test (es ++ fs) ≡ option_or (lookup test es) (lookup test fs) → cond b (Some e.1) (lookup test (es ++ fs)) ≡ option_or (cond b (Some e.1) (lookup test es)) (lookup test fs)
    by true h = refl
    by false h = h

pub find-append : {T : Type 0} (es fs : Names T) (n : Name) → find (es ++ fs) n ≡ option_or (find es n) (find fs n)
find-append es fs n = lookup-append (same n) es fs

-- a second declaration changes nothing
pub find_present : {T : Type 0} (es : Names T) (x : Name) (d : Declared T) → is_some (find es x) ≡ true → find es ≡ find (es ++ (x, d) ∷ [])
find_present {T} es x d there = let h : (n : Name) → find es n ≡ find (es ++ (x, d) ∷ []) n = λ n. by n (find es n) refl ∙ sym (find-append es ((x, d) ∷ []) n) in λ i n. h n i
  where
    other : (n : Name) (b : Bool) → same n x ≡ b → find es n ≡ None → option_or {T = Declared T} None (cond b (Some d) None) ≡ None
    other n false e none = refl
    other n true e none = absurd (true≢false (sym there ∙ ap (λ k. is_some (find es k)) (sym ((bytes_decides n x).0 e)) ∙ ap is_some none))

    by : (n : Name) (r : Option (Declared T)) → find es n ≡ r → find es n ≡ option_or (find es n) (find ((x, d) ∷ []) n)
    by n (Some y) e = e ∙ sym (ap (λ r. option_or r (find ((x, d) ∷ []) n)) e)
    by n None e = e ∙ sym (ap (λ r. option_or r (find ((x, d) ∷ []) n)) e ∙ other n (same n x) refl e)
