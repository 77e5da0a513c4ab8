-- Laws of what is taken from the front of a text.
use Rattle.std.proofs.Common.{◌≡◌, ℕ, List, [], ◌++◌, Option, None, Some, IfSome, refl, sym, ap, ◌∙◌, append_assoc, append-nil, take, length}
use Rattle.std.proofs.Math.Seq.{take-append_seam}
use Rattle.tower_io.specs.Shelves.{Takes}

pub Takes_none : (old : Option (List ℕ)) → Takes old old []
Takes_none old = record { taken = λ text is. (text, is, refl) }

pub Takes_trans : (old mid new : Option (List ℕ)) (xs ys : List ℕ) → Takes old mid xs → Takes mid new ys → Takes old new (xs ++ ys)
Takes_trans old mid new xs ys first second = record {
  taken = λ text is.
      let a = first.taken text is in
      let b = second.taken a.0 a.1 in
      (b.0, b.1, a.2 ∙ ap (λ l. xs ++ l) b.2 ∙ sym (append_assoc xs ys b.0));
}

-- where nothing is left, all was taken
pub Takes_whole : (old new : Option (List ℕ)) (bytes : List ℕ) → Takes old new bytes → IfSome new (λ rest. rest ≡ []) → IfSome old (λ text. bytes ≡ text)
Takes_whole None new bytes takes end = tt
Takes_whole (Some text) new bytes takes end =
    let a = takes.taken text refl in
    let none : a.0 ≡ [] = (rw a.1 at end) in
    sym (a.2 ∙ ap (λ l. bytes ++ l) none ∙ append-nil bytes)

-- what was taken is the front of the text
pub Takes_front : (old new : Option (List ℕ)) (bytes : List ℕ) (n : ℕ) → Takes old new bytes → length bytes ≡ n → IfSome old (λ text. bytes ≡ take n text)
Takes_front None new bytes n takes long = tt
Takes_front (Some text) new bytes n takes long =
    let a = takes.taken text refl in
    sym (ap (take n) a.2 ∙ ap (λ k. take k (bytes ++ a.0)) (sym long) ∙ take-append_seam bytes a.0)
