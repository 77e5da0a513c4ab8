-- Lists of weights that grow or change.
use Rattle.std.proofs.Common.{◌≡◌, ℕ, ◌+◌, ◌<◌, List, [], ◌∷◌, ◌++◌, length, get_or, inl, inr, arith, sym, ◌∙◌, ap, subst}
use Rattle.std.proofs.lemmas.Bool.{cases_lt}
use Rattle.std.proofs.lemmas.List.{length-append, get_or_append_left}
use Rattle.std.proofs.Math.Seq.{get_or-append_seam}
use Rattle.tower_types.specs.Records.{saturated}
use Rattle.channel_graph.specs.Table.{IsTable}

-- one more number
pub table_more : (n : ℕ) (f : ℕ → ℕ) (xs ys : List ℕ) (x : ℕ) → IsTable n f xs → ys ≡ xs ++ x ∷ [] → x ≡ saturated (f n) → IsTable (n + 1) f ys
table_more n f xs ys x table grown here =
    subst (IsTable (n + 1) f) (sym grown) (record {
      each = omega (arith, length-append xs (x ∷ []), table.each);
      has = λ k below. elim (cases_lt k n) [
        | inl early ↦
            let inside : k < length xs = omega (arith, table.each) in
            get_or_append_left xs (x ∷ []) 0 k inside ∙ table.has k early
        | inr late ↦
            let at : length xs ≡ k = omega (arith, table.each) in
            let same : n ≡ k = omega (arith, table.each) in
            subst (λ j. get_or (xs ++ x ∷ []) j 0 ≡ saturated (f k)) at (get_or-append_seam xs x [] 0 ∙ here ∙ ap (λ m. saturated (f m)) same)
      ];
    })

-- the same function, or one that is equal
pub table_same : (n : ℕ) (f g : ℕ → ℕ) (xs : List ℕ) → IsTable n f xs → ((k : ℕ) → k < n → f k ≡ g k) → IsTable n g xs
table_same n f g xs table same = record { each = table.each; has = λ k below. table.has k below ∙ ap saturated (same k below) }

pub table_end : (m n : ℕ) (f : ℕ → ℕ) (xs : List ℕ) → m ≡ n → IsTable m f xs → IsTable n f xs
table_end m n f xs same table = subst (λ k. IsTable k f xs) same table
