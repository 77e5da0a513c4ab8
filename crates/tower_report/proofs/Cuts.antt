-- The parts of a value's words.
use Rattle.std.proofs.Common.{◌≡◌, ℕ, zero, suc, ◌+◌, ◌*◌, ◌<◌, ◌≤◌, ℤ, List, [], ◌∷◌, length, map, take, drop, get_or, refl, ap, sym, ◌∙◌, arith}
use Rattle.std.proofs.lemmas.List.{drop-drop, length-drop, get_or-map, length-map}
use Rattle.std.proofs.Math.Nat.{mul-le-mul_right}
use Rattle.tower_types.specs.Ty.{Shape, shapes_of, words}
use Rattle.tower_report.specs.Bytes.{Bytes}
use Rattle.tower_report.specs.ValueText.{words_text, texts_of_words, cut, shapes_words}
use Rattle.tower_report.proofs.Shapes.{words_more, words_part}

-- ---- of an array

cut_length : (n width : ℕ) (ws : List ℤ) → length (cut n width ws) ≡ n
cut_length zero width ws = refl
cut_length (suc n) width ws = omega (arith, cut_length n width (drop width ws))

cut_at : (i n width : ℕ) (ws d : List ℤ) → i < n → ◌≡◌ {A = List ℤ} (get_or (cut n width ws) i d) (take width (drop (i * width) ws))
cut_at i zero width ws d h = absurd (omega arith)
cut_at zero (suc n) width ws d h = let none : 0 ≡ 0 * width = omega arith in ap (λ k. take width (drop k ws)) none
cut_at (suc i) (suc n) width ws d h =
    let more : width + i * width ≡ suc i * width = omega arith in
    cut_at i n width (drop width ws) d (omega arith) ∙ ap (take width) (drop-drop (i * width) width ws) ∙ ap (λ k. take width (drop k ws)) more

-- ---- of a record

texts_length : (ss : List Shape) (ws : List ℤ) → length (texts_of_words (shapes_of ss) ws) ≡ length ss
texts_length [] ws = refl
texts_length (s ∷ ss) ws = omega (arith, texts_length ss (drop (words s) ws))

text_at : (ss : List Shape) (ws : List ℤ) (i : ℕ) (d : Shape) (e : Bytes) → i < length ss → get_or (texts_of_words (shapes_of ss) ws) i e ≡ words_text (get_or ss i d) (take (words (get_or ss i d)) (drop (shapes_words (take i ss)) ws))
text_at [] ws i d e h = absurd (omega arith)
text_at (s ∷ ss) ws zero d e h = refl
text_at (s ∷ ss) ws (suc i) d e h =
    let t = get_or ss i d in
    text_at ss (drop (words s) ws) i d e (omega arith) ∙ ap (λ r. words_text t (take (words t) r)) (drop-drop (shapes_words (take i ss)) (words s) ws)

-- ---- the item that a loop over the elements is at

pub element_text : (s : Shape) (n i : ℕ) (ws rest : List ℤ) → i < n → rest ≡ drop (i * words s) ws → get_or (map (words_text s) (cut n (words s) ws)) i [] ≡ words_text s (take (words s) rest)
element_text s n i ws rest h at =
    let here : i < length (cut n (words s) ws) = omega (arith, cut_length n (words s) ws) in
    get_or-map (words_text s) (cut n (words s) ws) i [] [] here ∙ ap (words_text s) (cut_at i n (words s) ws [] h) ∙ ap (λ r. words_text s (take (words s) r)) (sym at)

pub elements_length : (s : Shape) (n : ℕ) (ws : List ℤ) → length (map (words_text s) (cut n (words s) ws)) ≡ n
elements_length s n ws = length-map (cut n (words s) ws) (words_text s) ∙ cut_length n (words s) ws

pub next_element : (i width : ℕ) (ws rest : List ℤ) → rest ≡ drop (i * width) ws → drop width rest ≡ drop ((i + 1) * width) ws
next_element i width ws rest at =
    let more : i * width + width ≡ (i + 1) * width = omega arith in
    ap (drop width) at ∙ drop-drop width (i * width) ws ∙ ap (λ k. drop k ws) more

-- as many words are left as the elements have that are to come
pub element_fits : (i n width : ℕ) (ws rest : List ℤ) → i < n → length ws ≡ n * width → rest ≡ drop (i * width) ws → width ≤ length rest
element_fits i n width ws rest h whole at =
    let last : (i + 1) * width ≤ n * width = mul-le-mul_right width (omega arith) in
    omega (arith, ap length at, length-drop (i * width) ws)

-- ---- the item that a loop over the fields is at

pub field_text : (ss : List Shape) (i : ℕ) (s : Shape) (ws rest : List ℤ) (e : Bytes) → i < length ss → get_or ss i s ≡ s → rest ≡ drop (shapes_words (take i ss)) ws → get_or (texts_of_words (shapes_of ss) ws) i e ≡ words_text s (take (words s) rest)
field_text ss i s ws rest e h here at =
    text_at ss ws i s e h ∙ ap (λ t. words_text t (take (words t) (drop (shapes_words (take i ss)) ws))) here ∙ ap (λ r. words_text s (take (words s) r)) (sym at)

pub fields_length : (ss : List Shape) (ws : List ℤ) → length (texts_of_words (shapes_of ss) ws) ≡ length ss
fields_length ss ws = texts_length ss ws

pub next_field : (ss : List Shape) (i : ℕ) (s : Shape) (ws rest : List ℤ) → i < length ss → get_or ss i s ≡ s → rest ≡ drop (shapes_words (take i ss)) ws → drop (words s) rest ≡ drop (shapes_words (take (i + 1) ss)) ws
next_field ss i s ws rest h here at =
    ap (drop (words s)) at ∙ drop-drop (words s) (shapes_words (take i ss)) ws ∙ ap (λ k. drop k ws) (sym (words_more ss i s h here))

pub field_fits : (ss : List Shape) (i : ℕ) (s : Shape) (ws rest : List ℤ) → i < length ss → get_or ss i s ≡ s → length ws ≡ shapes_words ss → rest ≡ drop (shapes_words (take i ss)) ws → words s ≤ length rest
field_fits ss i s ws rest h here whole at =
    omega (arith, ap length at, length-drop (shapes_words (take i ss)) ws, words_more ss i s h here, words_part (i + 1) ss)
