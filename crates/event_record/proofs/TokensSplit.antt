-- The first token of a text.
use Rattle.std.proofs.Common.{◌≡◌, ℕ, ◌+◌, List, [], ◌∷◌, take, drop, Bool, true, false, cond, refl, ap, sym, ◌∙◌}
use Rattle.std.specs.List.{prefix_len}
use Rattle.event_record.specs.declared.run.Class.{Class}
use Rattle.event_record.specs.declared.run.Class.TheVariants as class
use Rattle.event_record.specs.declared.run.Sort.TheVariants as sort
use Rattle.event_record.specs.Lines.{Bytes}
use Rattle.event_record.specs.Tokens.{Token, atom, class_of, is_atom, is_at_atom, joined, atom_led, led, tokens}
use Rattle.event_record.specs.Runs.{is_of}
use Rattle.event_record.proofs.LinesSplit.{take_more, drop_more, rest_is}

abbrev atom_end : Bytes → ℕ
atom_end bs = prefix_len (is_of sort.Atom) bs

is_atom_only : (c : Class) → is_atom c ≡ true → c ≡ class.Atom
is_atom_only class.Atom h = refl
is_atom_only class.Blank h = cc
is_atom_only class.Left h = cc
is_atom_only class.Right h = cc
is_atom_only class.Stray h = cc

atom_none : (bs : Bytes) → is_at_atom bs ≡ false → atom_end bs ≡ 0
atom_none [] h = refl
atom_none (b ∷ bs) h = ap (λ c. cond c (1 + atom_end bs) 0) h

atom_alone : (b m : ℕ) (bs : Bytes) → m ≡ 0 → atom (b ∷ []) ∷ tokens bs ≡ atom (take (1 + m) (b ∷ bs)) ∷ tokens (drop (1 + m) (b ∷ bs))
atom_alone b m bs e = ap (λ m. atom (take (1 + m) (b ∷ bs)) ∷ tokens (drop (1 + m) (b ∷ bs))) (sym e)

atom_joined : (b m : ℕ) (bs : Bytes) → tokens bs ≡ atom (take m bs) ∷ tokens (drop m bs) → joined b (tokens bs) ≡ atom (take (1 + m) (b ∷ bs)) ∷ tokens (drop (1 + m) (b ∷ bs))
atom_joined b m bs h =
    ap (joined b) h
    ∙ ap (λ w. atom w ∷ tokens (drop m bs)) (sym (take_more m b bs))
    ∙ ap (λ r. atom (take (1 + m) (b ∷ bs)) ∷ tokens r) (sym (drop_more m b bs))

atom_by : (c : Bool) (b : ℕ) (bs : Bytes) → is_at_atom bs ≡ c → (is_at_atom bs ≡ true → tokens bs ≡ atom (take (atom_end bs) bs) ∷ tokens (drop (atom_end bs) bs))
    → atom_led c b (tokens bs) ≡ atom (take (1 + atom_end bs) (b ∷ bs)) ∷ tokens (drop (1 + atom_end bs) (b ∷ bs))
atom_by true b bs e ih = atom_joined b (atom_end bs) bs (ih e)
atom_by false b bs e ih = atom_alone b (atom_end bs) bs (atom_none bs e)

first_atom : (bs : Bytes) → is_at_atom bs ≡ true → tokens bs ≡ atom (take (prefix_len (is_of sort.Atom) bs) bs) ∷ tokens (drop (prefix_len (is_of sort.Atom) bs) bs)
first_atom [] h = cc
first_atom (b ∷ bs) h =
    let n = λ (c : Bool). cond c (1 + atom_end bs) 0 in
    ap (λ c. led c (is_at_atom bs) b (tokens bs)) (is_atom_only (class_of b) h)
    ∙ atom_by (is_at_atom bs) b bs refl (first_atom bs)
    ∙ ap (λ c. atom (take (n c) (b ∷ bs)) ∷ tokens (drop (n c) (b ∷ bs))) (sym h)

pub atom_whole : (bs : Bytes) (n : ℕ) → is_at_atom bs ≡ true → n ≡ prefix_len (is_of sort.Atom) bs → tokens bs ≡ atom (take n bs) ∷ tokens (drop n bs)
atom_whole bs n h e = first_atom bs h ∙ ap (λ n. atom (take n bs) ∷ tokens (drop n bs)) (sym e)
