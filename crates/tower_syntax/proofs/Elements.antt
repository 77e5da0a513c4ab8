-- What is kept of each element of a list is kept of the one that is read.
use Rattle.std.proofs.Common.{◌≡◌, ◌<◌, ℕ, List, length, map, slice_index_or, All, sym, ◌∙◌, ap, subst}
use Rattle.std.proofs.Math.ListN.{get_or-map}

pub kept : {X Y : Type 0} (P : Y → Type 0) (f : X → Y) (xs : List X) (ys : List Y) (k : ℕ) (x : X) → map f xs ≡ ys → All P ys → x ≡ slice_index_or xs k x → k < length ys → P (f x)
kept P f xs ys k x seen all read within =
    let e : slice_index_or ys k (f x) ≡ f x = ap (λ zs. slice_index_or zs k (f x)) (sym seen) ∙ get_or-map f xs k x ∙ ap f (sym read) in
    subst P e (all k (f x) within)
