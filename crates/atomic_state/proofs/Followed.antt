-- Lists of items in the making.
use Rattle.std.proofs.Common.{◌≡◌, ◌∙◌, ℕ, zero, suc, ◌+◌, ◌<◌, ◌≤◌, min, List, [], ◌∷◌, ◌++◌, length, map, drop, get_or, flat_map, refl, ap, sym, subst, arith, append_assoc, append-nil}
use Rattle.std.proofs.Math.Seq.{drop-length}
use Rattle.std.proofs.lemmas.List.{length-drop}
use Rattle.tower_types.specs.Value.{Value}
use Rattle.tower_types.specs.View.{value_of}
use Rattle.tower_types.specs.declared.value.Value.{Value as ValueValue}
use Rattle.tower_syntax.specs.declared.arch.Listener.{Listener}
use Rattle.tower_syntax.specs.declared.arch.Emitter.{Emitter as EmitterValue}
use Rattle.tower_syntax.specs.declared.arch.On.TheVariants as on
use Rattle.tower_syntax.specs.Arch.{Arch}
use Rattle.tower_syntax.specs.Graph.{subs}
use Rattle.tower_syntax.specs.View.{emitter_of}
use Rattle.tower_meaning.specs.System.{Item, items, follow_from}
use Rattle.atomic_state.proofs.Lists.{left_of}

-- what stands, with what is still to come, is the start with the whole
abbrev pub IsAdded : {A B : Type 0} → (A → List B) → List A → List B → ℕ → List B → Type 0
IsAdded f xs start i now = now ++ flat_map f (drop i xs) ≡ start ++ flat_map f xs

pub one_added : {A B : Type 0} (f : A → List B) (xs : List A) (start now then' : List B) (i : ℕ) (x : A) → i < length xs → x ≡ get_or xs i x → then' ≡ now ++ f x → IsAdded f xs start i now → IsAdded f xs start (i + 1) then'
one_added f xs start now then' i x lt read e h =
    ap (λ l. l ++ flat_map f (drop (i + 1) xs)) e ∙ append_assoc now (f x) (flat_map f (drop (i + 1) xs)) ∙ sym (ap (λ ys. now ++ flat_map f ys) (left_of xs i x lt read)) ∙ h

pub all_added : {A B : Type 0} (f : A → List B) (xs : List A) (start now : List B) (i : ℕ) → i ≡ length xs → IsAdded f xs start i now → now ≡ start ++ flat_map f xs
all_added f xs start now i end h = sym (append-nil now) ∙ sym (ap (λ ys. now ++ flat_map f ys) (ap (λ j. drop j xs) end ∙ drop-length xs)) ∙ h

pub each_one : {A B : Type 0} (g : A → B) (xs : List A) → flat_map (λ x. g x ∷ []) xs ≡ map g xs
each_one g [] = refl
each_one g (x ∷ xs) = ap (λ l. g x ∷ l) (each_one g xs)

pub of_map : {A B C : Type 0} (f : B → List C) (g : A → B) (xs : List A) → flat_map (λ x. f (g x)) xs ≡ flat_map f (map g xs)
of_map f g [] = refl
of_map f g (x ∷ xs) = ap (λ l. f (g x) ++ l) (of_map f g xs)

-- ---- what follows

abbrev pub IsFollowed : Arch → List EmitterValue → List (List ValueValue) → ℕ → List Item → Type 0
IsFollowed arch es ls i now = now ++ follow_from arch (map emitter_of (drop i es)) (map (map value_of) (drop i ls)) ≡ follow_from arch (map emitter_of es) (map (map value_of) ls)

pub one_followed : (arch : Arch) (es : List EmitterValue) (ls : List (List ValueValue)) (i : ℕ) (now then' : List Item) (e : EmitterValue) (l : List ValueValue)
    → i < length es → i < length ls → e ≡ get_or es i e → l ≡ get_or ls i l → then' ≡ now ++ flat_map (items arch (on.Channel e.channel)) (map value_of l)
    → IsFollowed arch es ls i now → IsFollowed arch es ls (i + 1) then'
one_followed arch es ls i now then' e l lt lt' read read' made h =
    let rest = follow_from arch (map emitter_of (drop (i + 1) es)) (map (map value_of) (drop (i + 1) ls)) in
    ap (λ k. k ++ rest) made ∙ append_assoc now _ rest
    ∙ sym (ap (λ ds. now ++ follow_from arch (map emitter_of ds) (map (map value_of) (drop i ls))) (left_of es i e lt read)
    ∙ ap (λ ks. now ++ follow_from arch (map emitter_of (e ∷ drop (i + 1) es)) (map (map value_of) ks)) (left_of ls i l lt' read'))
    ∙ h

none_behind : (arch : Arch) (es : List EmitterValue) (ls : List (List ValueValue)) (i : ℕ) → i ≡ min (length es) (length ls) → follow_from arch (map emitter_of (drop i es)) (map (map value_of) (drop i ls)) ≡ []
none_behind arch es ls i end =
    by (drop i es) (drop i ls) (omega (arith, length-drop i es, length-drop i ls))
  where
    by : (ds : List EmitterValue) (ks : List (List ValueValue)) → min (length ds) (length ks) ≡ 0 → follow_from arch (map emitter_of ds) (map (map value_of) ks) ≡ []
    by [] ks e = refl
    by (d ∷ ds) [] e = refl
    by (d ∷ ds) (k ∷ ks) e = absurd (omega arith)

pub all_followed : (arch : Arch) (es : List EmitterValue) (ls : List (List ValueValue)) (i : ℕ) (now : List Item) → i ≡ min (length es) (length ls) → IsFollowed arch es ls i now
    → now ≡ follow_from arch (map emitter_of es) (map (map value_of) ls)
all_followed arch es ls i now end h = sym (append-nil now) ∙ sym (ap (λ l. now ++ l) (none_behind arch es ls i end)) ∙ h
