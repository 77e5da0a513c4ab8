-- Texts of items, put one after another.
use Rattle.std.proofs.Common.{◌≡◌, ℕ, ◌+◌, ◌<◌, ◌≤◌, List, [], ◌∷◌, ◌++◌, length, map, drop, get_or, refl, sym, ap, ◌∙◌, append_assoc, append-nil}
use Rattle.std.specs.List.{join_with_byte}
use Rattle.std.proofs.lemmas.List.{drop_more, drop_all}
use Rattle.task_listing.specs.Lines.{Bytes, texts}
use Rattle.task_listing.specs.Spelling.{Word, letters, natural, text, written, with_numbers}
use Rattle.task_listing.specs.Writing.{after_blank, spaced}

-- one more item
pub texts_next : {A : Type 0} (f : A → Bytes) (xs : List A) (i : ℕ) (d : A) (out new whole : Bytes) → i < length xs → out ++ texts f (drop i xs) ≡ whole → new ≡ out ++ f (get_or xs i d) → new ++ texts f (drop (i + 1) xs) ≡ whole
texts_next f xs i d out new whole h before e =
    ap (λ l. l ++ texts f (drop (i + 1) xs)) e
    ∙ append_assoc out (f (get_or xs i d)) (texts f (drop (i + 1) xs))
    ∙ ap (λ l. out ++ texts f l) (sym (drop_more xs i d h))
    ∙ before

-- all items
pub texts_all : {A : Type 0} (f : A → Bytes) (xs : List A) (i : ℕ) (out whole : Bytes) → length xs ≤ i → out ++ texts f (drop i xs) ≡ whole → out ≡ whole
texts_all f xs i out whole h before = sym (append-nil out) ∙ ap (λ l. out ++ texts f l) (sym (drop_all i xs h)) ∙ before

texts_map : (ns : List ℕ) → texts (λ n. after_blank (natural n)) ns ≡ spaced (map natural ns)
texts_map [] = refl
texts_map (n ∷ ns) = ap (λ l. after_blank (natural n) ++ l) (texts_map ns)

spaced_is : (w : Bytes) (ws : List Word) → w ++ spaced ws ≡ join_with_byte 32 (w ∷ map text ws)
spaced_is w [] = append-nil w
spaced_is w (v ∷ vs) = ap (λ l. w ++ (32 ∷ l)) (spaced_is (text v) vs)

-- a line is its first word, the others behind blanks, and LF
pub line_is : (w : Bytes) (ws : List Word) → w ++ (spaced ws ++ 10 ∷ []) ≡ written (letters w ∷ ws)
line_is w ws = sym (append_assoc w (spaced ws) (10 ∷ [])) ∙ ap (λ l. l ++ 10 ∷ []) (spaced_is w ws)

-- a word and numbers were put, and LF
pub numbers_line : (start w : Bytes) (ns : List ℕ) (before new : Bytes) → before ≡ (start ++ w) ++ texts (λ n. after_blank (natural n)) ns → new ≡ before ++ 10 ∷ [] → new ≡ start ++ written (with_numbers w ns)
numbers_line start w ns before new e f =
    f ∙ ap (λ l. l ++ 10 ∷ []) (e ∙ append_assoc start w (texts (λ n. after_blank (natural n)) ns))
    ∙ append_assoc start (w ++ texts (λ n. after_blank (natural n)) ns) (10 ∷ [])
    ∙ ap (λ l. start ++ l) (append_assoc w (texts (λ n. after_blank (natural n)) ns) (10 ∷ []) ∙ ap (λ l. w ++ (l ++ 10 ∷ [])) (texts_map ns) ∙ line_is w (map natural ns))
