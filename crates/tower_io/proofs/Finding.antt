-- The first file with a name, by its index and by its text.
use Rattle.std.proofs.Common.{◌≡◌, ℕ, ◌+◌, ◌-◌, ◌<◌, ◌≤◌, suc, Bool, true, false, cond, List, [], ◌∷◌, Option, None, Some, map, length, slice_get, string_bytes, unwrap_or, is_some, IfSome, arith, refl, sym, ap, ◌∙◌, position, subst}
use Rattle.std.specs.List.{position_from}
use Rattle.std.specs.Str.{bytes_eq}
use Rattle.std.proofs.lemmas.Iterator.Adapters.{position_from-zero}
use Rattle.tower_io.specs.Readings.{File, entry_of, text_or_empty, text_at}
use Rattle.tower_io.specs.Texts.{text_of}

-- whether the file has the name
abbrev pub has_name : List ℕ → File → Bool
has_name name file = bytes_eq (string_bytes file.0) name

-- where the first file is at index k, the index that was found has this text, and none was found where there is no text
abbrev Found : List File → ℕ → Option (List ℕ) → Option ℕ → Type 0
Found files k text None = text ≡ None
Found files k text (Some i) = (k ≤ i) × (i < k + length files) × (text ≡ Some (text_or_empty (slice_get files (i - k))))

Found_later : (file : File) (files : List File) (k : ℕ) (text : Option (List ℕ)) (r : Option ℕ) → Found files (k + 1) text r → Found (file ∷ files) k text r
Found_later file files k text None h = h
Found_later file files k text (Some i) h =
    let e : i - k ≡ suc (i - (k + 1)) = omega arith in
    (omega arith, omega arith, h.2 ∙ ap (λ o. Some (text_or_empty o)) (sym (ap (slice_get (file ∷ files)) e)))

Found_here : (file : File) (files : List File) (k : ℕ) → Found (file ∷ files) k (Some file.1.items) (Some k)
Found_here file files k =
    let e : k - k ≡ 0 = omega arith in
    (omega arith, omega arith, ap (λ o. Some (text_or_empty o)) (sym (ap (slice_get (file ∷ files)) e)))

Found_from : (files : List File) (name : List ℕ) (k : ℕ) → Found files k (text_of (map entry_of files) name) (position_from (has_name name) k files)
Found_from [] name k = refl
Found_from (file ∷ files) name k =
    elim (has_name name file) as (λ b. Found (file ∷ files) k (cond b (Some file.1.items) (text_of (map entry_of files) name)) (cond b (Some k) (position_from (has_name name) (k + 1) files))) [
      | true ↦ Found_here file files k
      | false ↦ Found_later file files k _ _ (Found_from files name (k + 1))
    ]

Found_text : (files : List File) (text : Option (List ℕ)) (r : Option ℕ) → Found files 0 text r
    → (IfSome r (λ i. i < length files)) × (text_at files r ≡ unwrap_or text []) × (is_some r ≡ is_some text)
Found_text files text None h = (tt, ap (λ t. unwrap_or t []) (sym h), ap is_some (sym h))
Found_text files text (Some i) h =
    let e : i - 0 ≡ i = omega arith in
    (omega arith, ap (λ k. text_or_empty (slice_get files k)) (sym e) ∙ ap (λ t. unwrap_or t []) (sym h.2), ap is_some (sym h.2))

-- the text at the first index is the text of the first entry
pub position_text : (files : List File) (name : List ℕ) (r : Option ℕ) → r ≡ position (has_name name) files
    → (IfSome r (λ i. i < length files)) × (text_at files r ≡ unwrap_or (text_of (map entry_of files) name) []) × (is_some r ≡ is_some (text_of (map entry_of files) name))
position_text files name r is =
    Found_text files _ r (subst (Found files 0 (text_of (map entry_of files) name)) (sym (is ∙ position_from-zero (has_name name) files)) (Found_from files name 0))
