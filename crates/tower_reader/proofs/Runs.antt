-- The reader of tokens reads the trees that they spell.
use Rattle.std.proofs.Common.{◌≡◌, ℕ, suc, ◌+◌, List, [], ◌∷◌, ◌++◌, Bool, true, false, cond, refl, ap, sym, ◌∙◌, append_assoc, append-nil, arith, Option, Some, None}
use Rattle.tower_sexp.specs.declared.token.Token.{Token}
use Rattle.tower_sexp.specs.declared.token.Token.TheVariants as token
use Rattle.tower_sexp.specs.Trees.{Tree, atom, list, Trees, no_trees, tree}
use Rattle.tower_sexp.specs.Trees.{Spells as TreesSpell, nothing as spells_nothing, an_atom, a_list}
use Rattle.tower_reader.specs.declared.table.Place.{Place}
use Rattle.tower_reader.specs.declared.table.Row.{Row}
use Rattle.tower_reader.specs.declared.found.Found.{Found}
use Rattle.tower_reader.specs.declared.frame.Heading.TheVariants as heading
use Rattle.tower_reader.specs.Table.{row_of, place_at, count_fits}
use Rattle.tower_reader.specs.Part.{Part, nothing, build}
use Rattle.tower_reader.specs.Spelled.{count, fitting}
use Rattle.tower_reader.specs.Faults.{Offence, form_at, number_at, length_at}
use Rattle.tower_reader.specs.Reading.{first_form, first_number, first_length, offences, offences_in, part_of, parts_of, at_row}
use Rattle.tower_reader.specs.Machine.{or_else, merged, firsts, clean, form_alone, kept, kept_part, counted, Frame, opened, slot, headed, taken_in, entered, closed, added, added_all, step, run}
use Rattle.tower_reader.proofs.Counts.{counted_more, place_counted, fits_counted}
use Rattle.tower_reader.proofs.Kept.{kept_before, taken_kept, built_kept}

form_append : (xs ys : List Offence) → first_form (xs ++ ys) ≡ or_else (first_form xs) (first_form ys)
form_append [] ys = refl
form_append (form_at a ∷ xs) ys = refl
form_append (number_at a ∷ xs) ys = form_append xs ys
form_append (length_at a ∷ xs) ys = form_append xs ys

number_append : (xs ys : List Offence) → first_number (xs ++ ys) ≡ or_else (first_number xs) (first_number ys)
number_append [] ys = refl
number_append (form_at a ∷ xs) ys = number_append xs ys
number_append (number_at a ∷ xs) ys = refl
number_append (length_at a ∷ xs) ys = number_append xs ys

length_append : (xs ys : List Offence) → first_length (xs ++ ys) ≡ or_else (first_length xs) (first_length ys)
length_append [] ys = refl
length_append (form_at a ∷ xs) ys = length_append xs ys
length_append (number_at a ∷ xs) ys = length_append xs ys
length_append (length_at a ∷ xs) ys = refl

firsts_append : (xs ys : List Offence) → firsts (xs ++ ys) ≡ merged (firsts xs) (firsts ys)
firsts_append xs ys = λ i. record { form = form_append xs ys i; number = number_append xs ys i; length = length_append xs ys i }

or_assoc : (a b c : Option ℕ) → or_else (or_else a b) c ≡ or_else a (or_else b c)
or_assoc None b c = refl
or_assoc (Some x) b c = refl

or_none : (a : Option ℕ) → or_else a None ≡ a
or_none None = refl
or_none (Some x) = refl

merged_assoc : (a b c : Found) → merged (merged a b) c ≡ merged a (merged b c)
merged_assoc a b c = λ i. record { form = or_assoc a.form b.form c.form i; number = or_assoc a.number b.number c.number i; length = or_assoc a.length b.length c.length i }

merged_clean : (a : Found) → merged a clean ≡ a
merged_clean a = λ i. record { form = or_none a.form i; number = or_none a.number i; length = or_none a.length i }

-- a frame whose row is known, behind so many children
abbrev pub known : Place → ℕ → Row → ℕ → List Part → Found → Frame
known p at r i ps o = record { place = p; at = at; heading = heading.Known r; count = counted i; parts = kept o ps; found = o }

-- the same, where a child comes at a place
abbrev behind : Place → Place → ℕ → Row → ℕ → List Part → Found → Tree → Frame
behind q p at r i ps o t = record { place = p; at = at; heading = heading.Known r; count = i; parts = kept (merged o (firsts (offences q t))) (ps ++ part_of q t ∷ []); found = merged o (firsts (offences q t)) }

added_by : (t : Tree) (p : Place) (at : ℕ) (r : Row) (i : ℕ) (ps : List Part) (o : Found) → added t (known p at r i ps o) ≡ behind (place_at r (counted i)) p at r (counted (counted i + 1)) (kept o ps) o t
added_by (atom a w) p at r i ps o = refl
added_by (list a ts) p at r i ps o = refl

added_known : (t : Tree) (p : Place) (at : ℕ) (r : Row) (i : ℕ) (ps : List Part) (o : Found) → added t (known p at r i ps o) ≡ known p at r (i + 1) (ps ++ part_of (place_at r i) t ∷ []) (merged o (firsts (offences (place_at r i) t)))
added_known t p at r i ps o =
    let o' = merged o (firsts (offences (place_at r i) t)) in
    added_by t p at r i ps o
    ∙ (λ j. behind (place_counted r i j) p at r (counted_more i j) (kept o ps) o t)
    ∙ ap (λ qs. record { place = p; at = at; heading = heading.Known r; count = counted (i + 1); parts = qs; found = o' }) (kept_before o (firsts (offences (place_at r i) t)) ps (part_of (place_at r i) t))

pub all_known : (ts : Trees) (p : Place) (at : ℕ) (r : Row) (i : ℕ) (ps : List Part) (o : Found) → added_all ts (known p at r i ps o) ≡ known p at r (i + count ts) (ps ++ parts_of r i ts) (merged o (firsts (offences_in r i ts)))
all_known no_trees p at r i ps o =
    let a : i ≡ i + 0 = omega arith in
    let b : ps ≡ ps ++ [] = sym (append-nil ps) in
    let c : o ≡ merged o clean = sym (merged_clean o) in
    λ j. known p at r (a j) (b j) (c j)
all_known (tree t ts) p at r i ps o =
    let a : (i + 1) + count ts ≡ i + suc (count ts) = omega arith in
    let b : (ps ++ part_of (place_at r i) t ∷ []) ++ parts_of r (i + 1) ts ≡ ps ++ part_of (place_at r i) t ∷ parts_of r (i + 1) ts = append_assoc ps _ _ in
    let c : merged (merged o (firsts (offences (place_at r i) t))) (firsts (offences_in r (i + 1) ts)) ≡ merged o (firsts (offences (place_at r i) t ++ offences_in r (i + 1) ts)) = merged_assoc o _ _ ∙ ap (merged o) (sym (firsts_append (offences (place_at r i) t) (offences_in r (i + 1) ts))) in
    ap (added_all ts) (added_known t p at r i ps o) ∙ all_known ts p at r (i + 1) _ _ ∙ (λ j. known p at r (a j) (b j) (c j))

abbrev unknown : Place → ℕ → Frame
unknown p at = record { place = p; at = at; heading = heading.Unknown; count = 0; parts = []; found = clean }

all_unknown : (ts : Trees) (p : Place) (at : ℕ) → added_all ts (unknown p at) ≡ unknown p at
all_unknown no_trees p at = refl
all_unknown (tree (atom a w) ts) p at = all_unknown ts p at
all_unknown (tree (list a us) ts) p at = all_unknown ts p at

abbrev pair : Part → Found → Part × Found
pair p o = (p, o)

-- what a node is read as, with no part where something was found
abbrev pub read_as : Place → Tree → Part × Found
read_as p t = pair (kept_part (firsts (offences p t)) (part_of p t)) (firsts (offences p t))

-- what a closed list of a row is, and what its node is read as
abbrev closed_as : ℕ → Row → Trees → Bool → Part × Found
closed_as at r ts b = cond b (pair (kept_part (firsts (offences_in r 0 ts)) (build r at (parts_of r 0 ts))) (firsts (offences_in r 0 ts))) (pair nothing (form_alone at))

abbrev row_read : ℕ → Trees → Option Row → Part × Found
row_read at ts o = pair (kept_part (firsts (at_row (form_at at ∷ []) (λ r. offences_in r 0 ts) o)) (at_row nothing (λ r. build r at (parts_of r 0 ts)) o)) (firsts (at_row (form_at at ∷ []) (λ r. offences_in r 0 ts) o))

fits_cases : (at : ℕ) (r : Row) (ts : Trees) (b : Bool) → closed_as at r ts b ≡ row_read at ts (cond b (Some r) None)
fits_cases at r ts true = refl
fits_cases at r ts false = refl

closed_known : (p : Place) (at : ℕ) (r : Row) (ts : Trees) → closed (known p at r (0 + count ts) (parts_of r 0 ts) (firsts (offences_in r 0 ts))) ≡ closed_as at r ts (count_fits r (count ts))
closed_known p at r ts =
    let o = firsts (offences_in r 0 ts) in
    let a : counted (0 + count ts) ≡ counted (count ts) = omega arith in
    let b : count_fits r (counted (0 + count ts)) ≡ count_fits r (count ts) = ap (count_fits r) a ∙ fits_counted r (count ts) in
    let c = built_kept o r at (parts_of r 0 ts) in
    λ j. cond (b j) (pair (c j) o) (pair nothing (form_alone at))

by_row : (o : Option Row) (p : Place) (at : ℕ) (ts : Trees) → closed (added_all ts (record (opened p at) { heading = headed o })) ≡ row_read at ts (fitting (count ts) o)
by_row None p at ts = ap closed (all_unknown ts p at)
by_row (Some r) p at ts = ap closed (all_known ts p at r 0 [] clean) ∙ closed_known p at r ts ∙ fits_cases at r ts (count_fits r (count ts))

closed_list : (ts : Trees) (p : Place) (at : ℕ) → closed (added_all ts (opened p at)) ≡ read_as p (list at ts)
closed_list no_trees p at = refl
closed_list (tree (list a us) ts) p at = ap closed (all_unknown ts p at)
closed_list (tree (atom a w) ts) p at = by_row (row_of p w) p at ts

pub run_append : (ts us : List Token) (fs : List Frame) → run (ts ++ us) fs ≡ run us (run ts fs)
run_append [] us fs = refl
run_append (t ∷ ts) us fs = run_append ts us (step t fs)

-- tokens that spell trees add them to the innermost list
pub run_spelled : {ts : Trees} {us : List Token} → TreesSpell ts us → (f : Frame) (fs : List Frame) → run us (f ∷ fs) ≡ added_all ts f ∷ fs
run_spelled spells_nothing f fs = refl
run_spelled (an_atom {at = at} {text = w} s) f fs = run_spelled s (entered at w f) fs
run_spelled (a_list {at = at} {items = items} {ts = ts} {vs = vs} {us = us} end inner s) f fs =
    run_append vs (token.Right end ∷ us) (opened (slot f) at ∷ f ∷ fs)
    ∙ ap (run (token.Right end ∷ us)) (run_spelled inner (opened (slot f) at) (f ∷ fs))
    ∙ ap (λ x. run us (taken_in x.0 x.1 f ∷ fs)) (closed_list items (slot f) at)
    ∙ ap (λ g. run us (g ∷ fs)) (taken_kept (part_of (slot f) (list at items)) (firsts (offences (slot f) (list at items))) f)
    ∙ run_spelled s (added (list at items) f) fs
