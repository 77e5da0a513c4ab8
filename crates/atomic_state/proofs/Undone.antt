-- Changes that are taken back.
use Rattle.std.proofs.Common.{◌≡◌, ◌∙◌, ℕ, zero, suc, List, [], ◌∷◌, ◌++◌, refl, ap, sym}
use Rattle.tower_types.specs.Value.{Value, Values, word, parts, no_values, value, nth, with_nth, part, with_part}
use Rattle.tower_meaning.specs.Body.{part_at, with_part_at}
use Rattle.atomic_state.specs.declared.draft.Change.{Change}
use Rattle.atomic_state.specs.TreeView.{tree_of}
use Rattle.atomic_state.specs.DraftView.{undone}

nth_again : (vs : Values) (k : ℕ) (f : Value → Value) (w : Value) → f w ≡ nth vs k → with_nth (with_nth vs k w) k (f (nth (with_nth vs k w) k)) ≡ vs
nth_again no_values k f w e = refl
nth_again (value v vs) zero f w e = ap (λ u. value u vs) e
nth_again (value v vs) (suc k) f w e = ap (value v) (nth_again vs k f w e)

-- what stood at the end of a path, put there again
pub put_back : (ks : List ℕ) (new v : Value) → with_part_at ks (part_at ks v) (with_part_at ks new v) ≡ v
put_back [] new v = refl
put_back (k ∷ ks) new (word n) = refl
put_back (k ∷ ks) new (parts vs) =
    ap parts (nth_again vs k (with_part_at ks (part_at ks (nth vs k))) (with_part_at ks new (nth vs k)) (put_back ks new (nth vs k)))

pub undone_push : (cs : List Change) (c : Change) (v : Value) → undone v (cs ++ c ∷ []) ≡ undone (with_part_at c.path.items (tree_of c.old) v) cs
undone_push [] c v = refl
undone_push (d ∷ cs) c v = ap (with_part_at d.path.items (tree_of d.old)) (undone_push cs c v)

pub write_kept : (cs ds es : List Change) (c : Change) (path : List ℕ) (v w new : Value) → es ≡ ds ++ c ∷ [] → ds ≡ cs
    → w ≡ with_part_at path new v → tree_of c.old ≡ part_at path v → path ≡ c.path.items → undone w es ≡ undone v cs
write_kept cs ds es c path v w new e d is old p =
    ap (undone w) (e ∙ ap (λ l. l ++ c ∷ []) d) ∙ undone_push cs c w
    ∙ ap (λ u. undone u cs) (ap (λ ks. with_part_at ks (tree_of c.old) w) (sym p) ∙ ap (λ o. with_part_at path o w) old ∙ ap (with_part_at path (part_at path v)) is ∙ put_back path new v)

pub undone_pop : (cs ds : List Change) (c : Change) (path : List ℕ) (v w : Value) → cs ≡ ds ++ c ∷ [] → w ≡ with_part_at path (tree_of c.old) v → path ≡ c.path.items → undone w ds ≡ undone v cs
undone_pop cs ds c path v w e is p =
    ap (λ u. undone u ds) (is ∙ ap (λ ks. with_part_at ks (tree_of c.old) v) p) ∙ sym (undone_push ds c v) ∙ sym (ap (undone v) e)
