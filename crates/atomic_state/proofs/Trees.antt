-- Trees and their parts.
use Rattle.std.proofs.Common.{◌≡◌, ◌∙◌, ℕ, zero, suc, ◌<◌, ◌≤◌, List, [], ◌∷◌, ◌++◌, length, map, refl, ap, sym, arith, get_or, slice_set, pos, ℤ, ◌==◌, false, slice_index, slice_range, Vec, Global}
use native.Mathlib.Numerals.{unary_clauses}
use Rattle.std.proofs.Math.Seq.{take-length}
use Rattle.atomic_state.specs.declared.tree.Tree.TheVariants as tree
use Rattle.atomic_state.specs.declared.tree.Tree.TheOpen.{Tree-F}
use Rattle.atomic_state.specs.declared.tree.Tree.TheFolds.{fold-roll-Tree}
use Rattle.tower_types.specs.Value.{Value, Values, word, parts, values_of, no_values, value, nth, with_nth, part, with_part}
use Rattle.tower_meaning.specs.Body.{part_at, with_part_at}
use Rattle.atomic_state.specs.declared.tree.Tree.{Tree as TreeValue}
use Rattle.atomic_state.specs.TreeView.{tree_of, trees_of, tree_step}

abbrev listed : List TreeValue → Values
listed ts = values_of (map tree_of ts)

pub nth_of : (ts : List TreeValue) (k : ℕ) (t d : TreeValue) → k < length ts → t ≡ get_or ts k d → tree_of t ≡ nth (listed ts) k
nth_of [] k t d lt e = absurd (omega arith)
nth_of (x ∷ ts) zero t d lt e = ap tree_of e
nth_of (x ∷ ts) (suc k) t d lt e = nth_of ts k t d (omega arith) e

pub nth_none : (ts : List TreeValue) (k : ℕ) → length ts ≤ k → nth (listed ts) k ≡ word (pos 0)
nth_none [] k le = refl
nth_none (x ∷ ts) zero le = absurd (omega arith)
nth_none (x ∷ ts) (suc k) le = nth_none ts k (omega arith)

pub with_nth_of : (ts : List TreeValue) (k : ℕ) (t : TreeValue) → listed (slice_set ts k t) ≡ with_nth (listed ts) k (tree_of t)
with_nth_of [] k t = refl
with_nth_of (x ∷ ts) zero t = refl
with_nth_of (x ∷ ts) (suc k) t = ap (value (tree_of x)) (with_nth_of ts k t)

pub with_nth_none : (ts : List TreeValue) (k : ℕ) (w : Value) → length ts ≤ k → listed ts ≡ with_nth (listed ts) k w
with_nth_none [] k w le = refl
with_nth_none (x ∷ ts) zero w le = absurd (omega arith)
with_nth_none (x ∷ ts) (suc k) w le = ap (value (tree_of x)) (with_nth_none ts k w (omega arith))

-- what a tree is, by its variant
pub tree_of-Word : (n : ℤ) → tree_of (tree.Word n) ≡ word n
tree_of-Word n = ap tree_of (sym (tree.rolls-Word n)) ∙ fold-roll-Tree Value tree_step (Tree-F.Word n)

pub tree_of-Parts : (ts : Vec TreeValue Global) → tree_of (tree.Parts ts) ≡ trees_of ts.items
tree_of-Parts ts = ap tree_of (sym (tree.rolls-Parts ts)) ∙ fold-roll-Tree Value tree_step (Tree-F.Parts ts)

-- there is nothing in a number
pub part_nowhere : (ks : List ℕ) → part_at ks (word (pos 0)) ≡ word (pos 0)
part_nowhere [] = refl
part_nowhere (k ∷ ks) = part_nowhere ks

-- a path that is not empty has a first number
pub split : (path : List ℕ) → (length path == 0) ≡ false → path ≡ slice_index path 0 ∷ slice_range path 1 (length path)
split [] e = cc
split (k ∷ ks) e = simp unary_clauses (ap (λ l. k ∷ l) (sym (take-length ks)))

pub in_word : (path : List ℕ) (n m : ℤ) (was new : Value) → (length path == 0) ≡ false → was ≡ word n → m ≡ n → tree_of (tree.Word m) ≡ with_part_at path new was
in_word path n m was new e is same = tree_of-Word m ∙ ap word same ∙ sym (ap (with_part_at path new) is ∙ ap (λ p. with_part_at p new (word n)) (split path e))

pub from_word : (path : List ℕ) (n : ℤ) (was : Value) → (length path == 0) ≡ false → was ≡ word n → tree_of (tree.Word (pos 0)) ≡ part_at path was
from_word path n was e is = tree_of-Word (pos 0) ∙ sym (ap (part_at path) is ∙ ap (λ p. part_at p (word n)) (split path e) ∙ part_nowhere (slice_range path 1 (length path)))

pub in_parts : (path : List ℕ) (ts us : List TreeValue) (was new : Value) (t : TreeValue) → (length path == 0) ≡ false → was ≡ trees_of ts → tree_of t ≡ trees_of us
    → trees_of us ≡ with_part (slice_index path 0) (with_part_at (slice_range path 1 (length path)) new) (trees_of ts)
    → tree_of t ≡ with_part_at path new was
in_parts path ts us was new t e is made to = made ∙ to ∙ sym (ap (with_part_at path new) is ∙ ap (λ p. with_part_at p new (trees_of ts)) (split path e))

pub from_parts : (path : List ℕ) (ts : List TreeValue) (was old : Value) → (length path == 0) ≡ false → was ≡ trees_of ts
    → old ≡ part_at (slice_range path 1 (length path)) (part (slice_index path 0) (trees_of ts))
    → old ≡ part_at path was
from_parts path ts was old e is to = to ∙ sym (ap (part_at path) is ∙ ap (λ p. part_at p (trees_of ts)) (split path e))

pub set_in : (ts : List TreeValue) (k : ℕ) (t x : TreeValue) (path : List ℕ) (new : Value) → k < length ts → x ≡ get_or ts k x → tree_of t ≡ with_part_at path new (tree_of x)
    → trees_of (slice_set ts k t) ≡ with_part k (with_part_at path new) (trees_of ts)
set_in ts k t x path new lt is e =
    ap parts (with_nth_of ts k t ∙ ap (with_nth (listed ts) k) (e ∙ ap (with_part_at path new) (nth_of ts k x x lt is)))

pub got_from : (ts : List TreeValue) (k : ℕ) (x : TreeValue) (path : List ℕ) (old : Value) → k < length ts → x ≡ get_or ts k x → old ≡ part_at path (tree_of x) → old ≡ part_at path (part k (trees_of ts))
got_from ts k x path old lt is e = e ∙ ap (part_at path) (nth_of ts k x x lt is)

pub none_in : (ts : List TreeValue) (k : ℕ) (path : List ℕ) (new : Value) → length ts ≤ k → trees_of ts ≡ with_part k (with_part_at path new) (trees_of ts)
none_in ts k path new le = ap parts (with_nth_none ts k _ le)

pub none_from : (ts : List TreeValue) (k : ℕ) (path : List ℕ) → length ts ≤ k → tree_of (tree.Word (pos 0)) ≡ part_at path (part k (trees_of ts))
none_from ts k path le = tree_of-Word (pos 0) ∙ sym (ap (part_at path) (nth_none ts k le) ∙ part_nowhere path)
