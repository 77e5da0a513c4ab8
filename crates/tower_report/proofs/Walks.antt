-- The line of a cycle, as it is put.
use Rattle.std.proofs.Common.{◌≡◌, ℕ, min, List, [], ◌∷◌, ◌++◌, take, length, sym, ap, ◌∙◌, arith, append_assoc, append-nil}
use Rattle.std.proofs.lemmas.List.{take_all}
use Rattle.std.specs.List.{flat_map}
use Rattle.std.proofs.lemmas.Grind.{flat_map-append}
use Rattle.tower_report.specs.Bytes.{Bytes, spaced, line}
use Rattle.tower_report.specs.FaultText.{round}

-- words, each after a blank
abbrev pub behind : List Bytes → Bytes
behind words = flat_map (λ x. 32 ∷ x) words

spaced_one : (w : Bytes) (more : List Bytes) → spaced (w ∷ more) ≡ w ++ behind more
spaced_one w [] = sym (append-nil w)
spaced_one w (x ∷ xs) = ap (λ t. w ++ (32 ∷ t)) (spaced_one x xs)

spaced_then : (w : Bytes) (ws more : List Bytes) → spaced (w ∷ (ws ++ more)) ≡ spaced (w ∷ ws) ++ behind more
spaced_then w [] more = spaced_one w more
spaced_then w (x ∷ xs) more = ap (λ t. w ++ (32 ∷ t)) (spaced_then x xs more) ∙ sym (append_assoc w (32 ∷ spaced (x ∷ xs)) (behind more))

pub cycle_line : (a b c : Bytes) (walk : List Bytes) → ((spaced (a ∷ b ∷ c ∷ []) ++ behind walk) ++ behind (take 1 walk)) ++ 10 ∷ [] ≡ line (a ∷ b ∷ c ∷ round walk)
cycle_line a b c walk =
    ap (λ t. t ++ 10 ∷ [])
    (append_assoc (spaced (a ∷ b ∷ c ∷ [])) (behind walk) (behind (take 1 walk))
    ∙ ap (λ t. spaced (a ∷ b ∷ c ∷ []) ++ t) (sym (flat_map-append (λ x. 32 ∷ x) walk (take 1 walk)))
    ∙ sym (spaced_then a (b ∷ c ∷ []) (round walk)))

-- the first of a list, where it has one
pub first_again : (walk : List Bytes) (k : ℕ) → k ≡ min (length walk) 1 → take k walk ≡ take 1 walk
first_again [] k e = take_all k [] (omega arith) ∙ sym (take_all 1 [] (omega arith))
first_again (x ∷ xs) k e = let one : k ≡ 1 = omega (arith, e) in ap (λ n. take n (x ∷ xs)) one
