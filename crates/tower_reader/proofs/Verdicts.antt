-- The verdict is the tree that a text spells, or its fault.
use Rattle.std.proofs.Common.{◌≡◌, ◌⊎◌, inl, inr, ◌<◌, ◌≤◌, ℕ, List, [], ◌∷◌, ◌++◌, length, Bool, true, false, cond, nat_lt, Option, Some, None, Result, Ok, Err, refl, ap, sym, ◌∙◌, subst, arith}
use Rattle.std.specs.Prelude.{bytes_eq}
use Rattle.std.proofs.lemmas.Bool.{ltb-true, ltb-false}
use Rattle.tower_sexp.specs.declared.fault.SexpFault.{SexpFault}
use Rattle.tower_sexp.specs.declared.fault.SexpFault.TheVariants as token
use Rattle.tower_sexp.specs.Marks.{marks_of, tokens_of}
use Rattle.tower_sexp.specs.Faults.{IsFaultless}
use Rattle.tower_sexp.specs.Faults.{IsFault as IsTokenFault, Offends as TokenOffends, Precedes as TokenPrecedes}
use Rattle.tower_sexp.specs.FirstFault.{first_fault}
use Rattle.tower_sexp.specs.Trees.{Tree, atom, list, Trees, no_trees, tree}
use Rattle.tower_sexp.specs.declared.token.Token.{Token}
use Rattle.tower_sexp.specs.Trees.{Spells as TreesSpell, nothing as spells_nothing, an_atom, a_list}
use Rattle.tower_sexp.specs.Nesting.{trees_spelled}
use Rattle.tower_sexp.proofs.Firsts.{computed_is_fault, computed_is_faultless}
use Rattle.tower_sexp.proofs.Spelled.{faultless_spells, spelled_is}
use Rattle.tower_syntax.specs.RawTree.{Id, Raw}
use Rattle.tower_reader.specs.declared.fault.ReadFault.{ReadFault}
use Rattle.tower_reader.specs.declared.fault.ReadFault.TheVariants as fault
use Rattle.tower_reader.specs.declared.table.Place.TheVariants as place
use Rattle.tower_reader.specs.declared.table.Row.{Row}
use Rattle.tower_reader.specs.declared.table.Row.TheVariants as row
use Rattle.tower_reader.specs.Table.{head, row_of, count_fits}
use Rattle.tower_reader.specs.Part.{Part, nothing, a_tower, as_tower, build}
use Rattle.tower_reader.specs.Spelled.{Spells, Reads, byte_limit, count, fitting}
use Rattle.tower_reader.specs.Faults.{Offence, form_at, number_at, length_at, OffendsInText, TextOffends, rank, Precedes, IsFault}
use Rattle.tower_reader.specs.Reading.{offences, offences_in, part_of, parts_of, at_row, first_form, first_number, first_length}
use Rattle.tower_reader.specs.Machine.{firsts}
use Rattle.tower_reader.specs.Verdict.{fault_of, by_parts, by_form, by_found, by_tokens, verdict}
use Rattle.tower_reader.proofs.Exact.{complete, sound, one_part, Fitted, fitted, nil_left, nil_right}
use Rattle.tower_reader.proofs.Words.{found}
use Rattle.tower_reader.proofs.Offences.{Among, listed_in, offends_in}
use Rattle.tower_reader.proofs.Order.{AscendTo, text_order, form_least, number_least, length_least, no_form, no_number, form_there, number_there, length_there, none_at_all}

-- a text above the limit

long_precedes : (bs : List ℕ) (g : ReadFault) → TextOffends bs g → (g ≡ fault.Long byte_limit) ⊎ Precedes (fault.Long byte_limit) g
long_precedes bs (fault.Long limit) h = inl (ap fault.Long h.0)
long_precedes bs (fault.Byte at) h = inr (inl (omega arith))
long_precedes bs (fault.Unopened at) h = inr (inl (omega arith))
long_precedes bs (fault.Nest at) h = inr (inl (omega arith))
long_precedes bs (fault.Unclosed at) h = inr (inl (omega arith))
long_precedes bs fault.Empty h = inr (inl (omega arith))
long_precedes bs (fault.Form at) h = inr (inl (omega arith))
long_precedes bs (fault.Number at) h = inr (inl (omega arith))
long_precedes bs (fault.Length at) h = inr (inl (omega arith))
long_precedes bs fault.NoMemory h = absurd h

long_fault : (bs : List ℕ) → byte_limit < length bs → IsFault bs (fault.Long byte_limit)
long_fault bs h = record { offends = (refl, h); precedes = long_precedes bs }

-- a fault of the tokens

token_offends : (bs : List ℕ) (f : SexpFault) → TokenOffends (marks_of bs) f → TextOffends bs (fault_of f)
token_offends bs (token.Byte at) h = h
token_offends bs (token.Unopened at) h = h
token_offends bs (token.Nest at) h = h
token_offends bs (token.Unclosed at) h = h
token_offends bs token.Empty h = h
token_offends bs token.NoMemory h = h

token_before : (f g : SexpFault) → TokenPrecedes f g → Precedes (fault_of f) (fault_of g)
token_before (token.Byte a) (token.Byte b) h = elim h [ inl l ↦ absurd (omega (arith, l)) | inr k ↦ inr (refl, k.1) ]
token_before (token.Byte a) (token.Unopened b) h = elim h [ inl l ↦ absurd (omega (arith, l)) | inr k ↦ inr (refl, k.1) ]
token_before (token.Byte a) (token.Nest b) h = elim h [ inl l ↦ absurd (omega (arith, l)) | inr k ↦ inr (refl, k.1) ]
token_before (token.Byte a) (token.Unclosed b) h = inl (omega arith)
token_before (token.Byte a) token.Empty h = inl (omega arith)
token_before (token.Byte a) token.NoMemory h = inl (omega arith)
token_before (token.Unopened a) (token.Byte b) h = elim h [ inl l ↦ absurd (omega (arith, l)) | inr k ↦ inr (refl, k.1) ]
token_before (token.Unopened a) (token.Unopened b) h = elim h [ inl l ↦ absurd (omega (arith, l)) | inr k ↦ inr (refl, k.1) ]
token_before (token.Unopened a) (token.Nest b) h = elim h [ inl l ↦ absurd (omega (arith, l)) | inr k ↦ inr (refl, k.1) ]
token_before (token.Unopened a) (token.Unclosed b) h = inl (omega arith)
token_before (token.Unopened a) token.Empty h = inl (omega arith)
token_before (token.Unopened a) token.NoMemory h = inl (omega arith)
token_before (token.Nest a) (token.Byte b) h = elim h [ inl l ↦ absurd (omega (arith, l)) | inr k ↦ inr (refl, k.1) ]
token_before (token.Nest a) (token.Unopened b) h = elim h [ inl l ↦ absurd (omega (arith, l)) | inr k ↦ inr (refl, k.1) ]
token_before (token.Nest a) (token.Nest b) h = elim h [ inl l ↦ absurd (omega (arith, l)) | inr k ↦ inr (refl, k.1) ]
token_before (token.Nest a) (token.Unclosed b) h = inl (omega arith)
token_before (token.Nest a) token.Empty h = inl (omega arith)
token_before (token.Nest a) token.NoMemory h = inl (omega arith)
token_before (token.Unclosed a) (token.Byte b) h = elim h [ inl l ↦ absurd (omega (arith, l)) | inr k ↦ absurd (omega (arith, k.0)) ]
token_before (token.Unclosed a) (token.Unopened b) h = elim h [ inl l ↦ absurd (omega (arith, l)) | inr k ↦ absurd (omega (arith, k.0)) ]
token_before (token.Unclosed a) (token.Nest b) h = elim h [ inl l ↦ absurd (omega (arith, l)) | inr k ↦ absurd (omega (arith, k.0)) ]
token_before (token.Unclosed a) (token.Unclosed b) h = elim h [ inl l ↦ absurd (omega (arith, l)) | inr k ↦ inr (refl, k.1) ]
token_before (token.Unclosed a) token.Empty h = inl (omega arith)
token_before (token.Unclosed a) token.NoMemory h = inl (omega arith)
token_before token.Empty (token.Byte b) h = elim h [ inl l ↦ absurd (omega (arith, l)) | inr k ↦ absurd (omega (arith, k.0)) ]
token_before token.Empty (token.Unopened b) h = elim h [ inl l ↦ absurd (omega (arith, l)) | inr k ↦ absurd (omega (arith, k.0)) ]
token_before token.Empty (token.Nest b) h = elim h [ inl l ↦ absurd (omega (arith, l)) | inr k ↦ absurd (omega (arith, k.0)) ]
token_before token.Empty (token.Unclosed b) h = elim h [ inl l ↦ absurd (omega (arith, l)) | inr k ↦ absurd (omega (arith, k.0)) ]
token_before token.Empty token.Empty h = elim h [ inl l ↦ absurd (omega (arith, l)) | inr k ↦ absurd (omega (arith, k.1)) ]
token_before token.Empty token.NoMemory h = inl (omega arith)
token_before token.NoMemory (token.Byte b) h = elim h [ inl l ↦ absurd (omega (arith, l)) | inr k ↦ absurd (omega (arith, k.0)) ]
token_before token.NoMemory (token.Unopened b) h = elim h [ inl l ↦ absurd (omega (arith, l)) | inr k ↦ absurd (omega (arith, k.0)) ]
token_before token.NoMemory (token.Nest b) h = elim h [ inl l ↦ absurd (omega (arith, l)) | inr k ↦ absurd (omega (arith, k.0)) ]
token_before token.NoMemory (token.Unclosed b) h = elim h [ inl l ↦ absurd (omega (arith, l)) | inr k ↦ absurd (omega (arith, k.0)) ]
token_before token.NoMemory token.Empty h = elim h [ inl l ↦ absurd (omega (arith, l)) | inr k ↦ absurd (omega (arith, k.0)) ]
token_before token.NoMemory token.NoMemory h = elim h [ inl l ↦ absurd (omega (arith, l)) | inr k ↦ absurd (omega (arith, k.1)) ]

-- an offence of the tokens is the fault of the tokens, or it comes behind it
token_least : (bs : List ℕ) (f g : SexpFault) → IsTokenFault bs f → TokenOffends (marks_of bs) g → (fault_of g ≡ fault_of f) ⊎ Precedes (fault_of f) (fault_of g)
token_least bs f g h k = elim (h.precedes g k) [ inl e ↦ inl (ap fault_of e) | inr p ↦ inr (token_before f g p) ]

-- the kinds of tokens come before those of forms
token_rank : (bs : List ℕ) (f : SexpFault) → TokenOffends (marks_of bs) f → rank (fault_of f) < 4
token_rank bs (token.Byte at) h = omega arith
token_rank bs (token.Unopened at) h = omega arith
token_rank bs (token.Nest at) h = omega arith
token_rank bs (token.Unclosed at) h = omega arith
token_rank bs token.Empty h = omega arith
token_rank bs token.NoMemory h = absurd h

token_precedes : (bs : List ℕ) (f : SexpFault) (g : ReadFault) → length bs ≤ byte_limit → IsTokenFault bs f → TextOffends bs g → (g ≡ fault_of f) ⊎ Precedes (fault_of f) g
token_precedes bs f (fault.Long limit) l k h = absurd (omega (arith, h.1))
token_precedes bs f (fault.Byte at) l k h = token_least bs f (token.Byte at) k h
token_precedes bs f (fault.Unopened at) l k h = token_least bs f (token.Unopened at) k h
token_precedes bs f (fault.Nest at) l k h = token_least bs f (token.Nest at) k h
token_precedes bs f (fault.Unclosed at) l k h = token_least bs f (token.Unclosed at) k h
token_precedes bs f fault.Empty l k h = token_least bs f token.Empty k h
token_precedes bs f (fault.Form at) l k h = inr (inl (omega (arith, token_rank bs f k.offends)))
token_precedes bs f (fault.Number at) l k h = inr (inl (omega (arith, token_rank bs f k.offends)))
token_precedes bs f (fault.Length at) l k h = inr (inl (omega (arith, token_rank bs f k.offends)))
token_precedes bs f fault.NoMemory l k h = absurd h

pub token_fault : (bs : List ℕ) (f : SexpFault) → length bs ≤ byte_limit → IsTokenFault bs f → IsFault bs (fault_of f)
token_fault bs f l k = record { offends = token_offends bs f k.offends; precedes = λ g h. token_precedes bs f g l k h }

-- a text whose tokens have no fault

abbrev pub trees_of_text : List ℕ → Trees
trees_of_text bs = trees_spelled (tokens_of bs)

abbrev pub file_offences : List ℕ → List Offence
file_offences bs = offences_in row.File 0 (trees_of_text bs)

in_text : (bs : List ℕ) (o : Offence) → IsFaultless bs → Among o (file_offences bs) → OffendsInText bs o
in_text bs o f h = record { trees = trees_of_text bs; spelled = faultless_spells bs f; offends = offends_in row.File 0 (trees_of_text bs) o h }

of_text : (bs : List ℕ) (o : Offence) → OffendsInText bs o → Among o (file_offences bs)
of_text bs o h = subst (λ ts. Among o (offences_in row.File 0 ts)) (spelled_is h.trees (tokens_of bs) h.spelled) (listed_in row.File 0 h.trees o h.offends)

-- what is known of a text within the limit whose tokens have no fault
pub record Sound (bs : List ℕ) : Type 0 where
  pub within : length bs ≤ byte_limit
  pub faultless : IsFaultless bs

order : (bs : List ℕ) → Sound bs → (b : ℕ) × AscendTo 0 b (file_offences bs)
order bs s = text_order bs (trees_of_text bs) row.File (faultless_spells bs s.faultless)

form_before : (at x : ℕ) → (x ≡ at) ⊎ (at < x) → (fault.Form x ≡ fault.Form at) ⊎ Precedes (fault.Form at) (fault.Form x)
form_before at x h = elim h [ inl e ↦ inl (ap fault.Form e) | inr l ↦ inr (inr (refl, l)) ]

number_before : (at x : ℕ) → (x ≡ at) ⊎ (at < x) → (fault.Number x ≡ fault.Number at) ⊎ Precedes (fault.Number at) (fault.Number x)
number_before at x h = elim h [ inl e ↦ inl (ap fault.Number e) | inr l ↦ inr (inr (refl, l)) ]

length_before : (at x : ℕ) → (x ≡ at) ⊎ (at < x) → (fault.Length x ≡ fault.Length at) ⊎ Precedes (fault.Length at) (fault.Length x)
length_before at x h = elim h [ inl e ↦ inl (ap fault.Length e) | inr l ↦ inr (inr (refl, l)) ]

form_precedes : (bs : List ℕ) (at : ℕ) (g : ReadFault) → Sound bs → first_form (file_offences bs) ≡ Some at → TextOffends bs g → (g ≡ fault.Form at) ⊎ Precedes (fault.Form at) g
form_precedes bs at (fault.Long limit) s e h = absurd (omega (arith, h.1, s.within))
form_precedes bs at (fault.Byte x) s e h = absurd (s.faultless (token.Byte x) h)
form_precedes bs at (fault.Unopened x) s e h = absurd (s.faultless (token.Unopened x) h)
form_precedes bs at (fault.Nest x) s e h = absurd (s.faultless (token.Nest x) h)
form_precedes bs at (fault.Unclosed x) s e h = absurd (s.faultless (token.Unclosed x) h)
form_precedes bs at fault.Empty s e h = absurd (s.faultless token.Empty h)
form_precedes bs at (fault.Form x) s e h = let o = order bs s in form_before at x (form_least 0 o.0 at x (file_offences bs) o.1 e (of_text bs (form_at x) h))
form_precedes bs at (fault.Number x) s e h = inr (inl (omega arith))
form_precedes bs at (fault.Length x) s e h = inr (inl (omega arith))
form_precedes bs at fault.NoMemory s e h = absurd h

form_fault : (bs : List ℕ) (at : ℕ) → Sound bs → first_form (file_offences bs) ≡ Some at → IsFault bs (fault.Form at)
form_fault bs at s e = record { offends = in_text bs (form_at at) s.faultless (form_there (file_offences bs) at e); precedes = λ g h. form_precedes bs at g s e h }

number_precedes : (bs : List ℕ) (at : ℕ) (g : ReadFault) → Sound bs → first_form (file_offences bs) ≡ None → first_number (file_offences bs) ≡ Some at → TextOffends bs g → (g ≡ fault.Number at) ⊎ Precedes (fault.Number at) g
number_precedes bs at (fault.Long limit) s f e h = absurd (omega (arith, h.1, s.within))
number_precedes bs at (fault.Byte x) s f e h = absurd (s.faultless (token.Byte x) h)
number_precedes bs at (fault.Unopened x) s f e h = absurd (s.faultless (token.Unopened x) h)
number_precedes bs at (fault.Nest x) s f e h = absurd (s.faultless (token.Nest x) h)
number_precedes bs at (fault.Unclosed x) s f e h = absurd (s.faultless (token.Unclosed x) h)
number_precedes bs at fault.Empty s f e h = absurd (s.faultless token.Empty h)
number_precedes bs at (fault.Form x) s f e h = absurd (no_form (file_offences bs) x f (of_text bs (form_at x) h))
number_precedes bs at (fault.Number x) s f e h = let o = order bs s in number_before at x (number_least 0 o.0 at x (file_offences bs) o.1 e (of_text bs (number_at x) h))
number_precedes bs at (fault.Length x) s f e h = inr (inl (omega arith))
number_precedes bs at fault.NoMemory s f e h = absurd h

number_fault : (bs : List ℕ) (at : ℕ) → Sound bs → first_form (file_offences bs) ≡ None → first_number (file_offences bs) ≡ Some at → IsFault bs (fault.Number at)
number_fault bs at s f e = record { offends = in_text bs (number_at at) s.faultless (number_there (file_offences bs) at e); precedes = λ g h. number_precedes bs at g s f e h }

length_precedes : (bs : List ℕ) (at : ℕ) (g : ReadFault) → Sound bs → first_form (file_offences bs) ≡ None → first_number (file_offences bs) ≡ None → first_length (file_offences bs) ≡ Some at → TextOffends bs g → (g ≡ fault.Length at) ⊎ Precedes (fault.Length at) g
length_precedes bs at (fault.Long limit) s f n e h = absurd (omega (arith, h.1, s.within))
length_precedes bs at (fault.Byte x) s f n e h = absurd (s.faultless (token.Byte x) h)
length_precedes bs at (fault.Unopened x) s f n e h = absurd (s.faultless (token.Unopened x) h)
length_precedes bs at (fault.Nest x) s f n e h = absurd (s.faultless (token.Nest x) h)
length_precedes bs at (fault.Unclosed x) s f n e h = absurd (s.faultless (token.Unclosed x) h)
length_precedes bs at fault.Empty s f n e h = absurd (s.faultless token.Empty h)
length_precedes bs at (fault.Form x) s f n e h = absurd (no_form (file_offences bs) x f (of_text bs (form_at x) h))
length_precedes bs at (fault.Number x) s f n e h = absurd (no_number (file_offences bs) x n (of_text bs (number_at x) h))
length_precedes bs at (fault.Length x) s f n e h = let o = order bs s in length_before at x (length_least 0 o.0 at x (file_offences bs) o.1 e (of_text bs (length_at x) h))
length_precedes bs at fault.NoMemory s f n e h = absurd h

length_fault : (bs : List ℕ) (at : ℕ) → Sound bs → first_form (file_offences bs) ≡ None → first_number (file_offences bs) ≡ None → first_length (file_offences bs) ≡ Some at → IsFault bs (fault.Length at)
length_fault bs at s f n e = record { offends = in_text bs (length_at at) s.faultless (length_there (file_offences bs) at e); precedes = λ g h. length_precedes bs at g s f n e h }

-- an answer that says what the text is
abbrev pub Answers : List ℕ → Result (Raw Id) ReadFault → Type 0
Answers bs (Ok r) = Spells bs r
Answers bs (Err f) = IsFault bs f

nowhere : (t : Tree) → offences place.Nowhere t ≡ [] → ⊥
nowhere (atom at w) h = cc
nowhere (list at no_trees) h = cc
nowhere (list at (tree (atom a w) ts)) h = cc
nowhere (list at (tree (list a us) ts)) h = cc

-- a row of the place of a file makes a file
abbrev MakesTower : Row → Type 0
MakesTower r = (at : ℕ) (ps : List Part) → build r at ps ≡ a_tower (as_tower (build r at ps))

fitting_is : (n : ℕ) (o : Option Row) (r : Row) → fitting n o ≡ Some r → o ≡ Some r
fitting_is n None r h = cc
fitting_is n (Some q) r h = by (count_fits q n) h
  where
    by : (b : Bool) → cond b (Some q) None ≡ Some r → Some q ≡ Some r
    by true h = h
    by false h = cc

makes_tower : (w : List ℕ) (r : Row) → row_of place.Tower w ≡ Some r → MakesTower r
makes_tower w r h = (found MakesTower (λ r. bytes_eq (head r) w) (row.Tower ∷ row.Tower2 ∷ []) r ((λ at ps. refl), ((λ at ps. refl), tt)) h).0

tower_part : (t : Tree) → offences place.Tower t ≡ [] → part_of place.Tower t ≡ a_tower (as_tower (part_of place.Tower t))
tower_part (atom at w) h = cc
tower_part (list at no_trees) h = cc
tower_part (list at (tree (list a us) ts)) h = cc
tower_part (list at (tree (atom a w) ts)) h =
    let k : Fitted (fitting (count ts) (row_of place.Tower w)) ts = fitted (fitting (count ts) (row_of place.Tower w)) ts (form_at at) h in
    let e : part_of place.Tower (list at (tree (atom a w) ts)) ≡ build k.row at (parts_of k.row 0 ts) = ap (at_row nothing (λ r. build r at (parts_of r 0 ts))) k.is in
    let m : MakesTower k.row = makes_tower w k.row (fitting_is (count ts) (row_of place.Tower w) k.row k.is) in
    e ∙ m at (parts_of k.row 0 ts) ∙ ap (λ p. a_tower (as_tower p)) (sym e)

-- a file whose first node does not offend and has none behind it
spells_first : (bs : List ℕ) (t : Tree) (ts : Trees) → Sound bs → trees_of_text bs ≡ tree t ts → offences_in row.File 0 (tree t ts) ≡ [] → Spells bs (as_tower (part_of place.Tower t))
spells_first bs t no_trees s e h =
    let k : offences place.Tower t ≡ [] = nil_left _ _ h in
    record {
      within = s.within;
      faultless = s.faultless;
      node = t;
      spelled = subst (λ ts. TreesSpell ts (tokens_of bs)) e (faultless_spells bs s.faultless);
      reads = subst (Reads place.Tower t) (tower_part t k) (sound place.Tower t k);
    }
spells_first bs t (tree u us) s e h = absurd (nowhere u (nil_left _ _ (nil_right (offences place.Tower t) _ h)))

by_kinds : (bs : List ℕ) (ps : List Part) (f n l : Option ℕ) → Sound bs → first_form (file_offences bs) ≡ f → first_number (file_offences bs) ≡ n → first_length (file_offences bs) ≡ l → (file_offences bs ≡ [] → Answers bs (by_parts ps)) → Answers bs (by_form f n l ps)
by_kinds bs ps (Some at) n l s e g k h = form_fault bs at s e
by_kinds bs ps None (Some at) l s e g k h = number_fault bs at s e g
by_kinds bs ps None None (Some at) s e g k h = length_fault bs at s e g k
by_kinds bs ps None None None s e g k h = h (none_at_all (file_offences bs) e g k)

no_tokens : {ts : Trees} {us : List Token} → TreesSpell ts us → ts ≡ no_trees → us ≡ []
no_tokens spells_nothing e = refl
no_tokens (an_atom s) e = cc
no_tokens (a_list end inner s) e = cc

by_text : (bs : List ℕ) (ts : Trees) → Sound bs → trees_of_text bs ≡ ts → Answers bs (by_found (firsts (offences_in row.File 0 ts)) (parts_of row.File 0 ts))
by_text bs no_trees s e = absurd (s.faultless token.Empty (no_tokens (faultless_spells bs s.faultless) e))
by_text bs (tree t ts) s e =
    let os = ap (offences_in row.File 0) e in
    by_kinds bs (parts_of row.File 0 (tree t ts)) _ _ _ s (ap first_form os) (ap first_number os) (ap first_length os) (λ h. spells_first bs t ts s e (sym os ∙ h))

by_fault : (bs : List ℕ) (o : Option SexpFault) → length bs ≤ byte_limit → first_fault (marks_of bs) ≡ o → Answers bs (by_tokens o (trees_of_text bs))
by_fault bs (Some f) l e = token_fault bs f l (computed_is_fault bs f e)
by_fault bs None l e = by_text bs (trees_of_text bs) (record { within = l; faultless = computed_is_faultless bs e }) refl

by_size : (bs : List ℕ) (b : Bool) → nat_lt byte_limit (length bs) ≡ b → Answers bs (cond b (Err (fault.Long byte_limit)) (by_tokens (first_fault (marks_of bs)) (trees_of_text bs)))
by_size bs true e = long_fault bs (ltb-true byte_limit (length bs) e)
by_size bs false e = by_fault bs (first_fault (marks_of bs)) (ltb-false byte_limit (length bs) e) refl

-- the verdict says what the text is
pub verdict_answers : (bs : List ℕ) → Answers bs (verdict bs)
verdict_answers bs = by_size bs (nat_lt byte_limit (length bs)) refl

pub verdict_is : (bs : List ℕ) (v : Result (Raw Id) ReadFault) → verdict bs ≡ v → Answers bs v
verdict_is bs v e = subst (Answers bs) e (verdict_answers bs)

-- A text spells one tree or has one fault.

pub one_tree : (bs : List ℕ) (r q : Raw Id) → Spells bs r → Spells bs q → r ≡ q
one_tree bs r q s t =
    let e : tree s.node no_trees ≡ tree t.node no_trees = spelled_is _ _ s.spelled ∙ sym (spelled_is _ _ t.spelled) in
    let k : s.node ≡ t.node = cc in
    let p : a_tower r ≡ a_tower q = one_part place.Tower t.node _ _ (subst (λ n. Reads place.Tower n (a_tower r)) k s.reads) t.reads in
    cc

no_offence : (bs : List ℕ) (r : Raw Id) (o : Offence) → Spells bs r → OffendsInText bs o → ⊥
no_offence bs r o s h =
    let e : offences place.Tower s.node ++ [] ≡ [] = ap (λ os. os ++ []) (complete place.Tower s.node (a_tower r) s.reads).none in
    let k : file_offences bs ≡ [] = ap (offences_in row.File 0) (sym (spelled_is _ _ s.spelled)) ∙ e in
    subst (Among o) k (of_text bs o h)

pub not_both : (bs : List ℕ) (r : Raw Id) (f : ReadFault) → Spells bs r → TextOffends bs f → ⊥
not_both bs r (fault.Long limit) s h = omega (arith, h.1, s.within)
not_both bs r (fault.Byte x) s h = s.faultless (token.Byte x) h
not_both bs r (fault.Unopened x) s h = s.faultless (token.Unopened x) h
not_both bs r (fault.Nest x) s h = s.faultless (token.Nest x) h
not_both bs r (fault.Unclosed x) s h = s.faultless (token.Unclosed x) h
not_both bs r fault.Empty s h = s.faultless token.Empty h
not_both bs r (fault.Form x) s h = no_offence bs r (form_at x) s h
not_both bs r (fault.Number x) s h = no_offence bs r (number_at x) s h
not_both bs r (fault.Length x) s h = no_offence bs r (length_at x) s h
not_both bs r fault.NoMemory s h = h

never_both : (f g : ReadFault) → Precedes f g → Precedes g f → ⊥
never_both f g h k = elim h [ inl l ↦ elim k [ inl m ↦ omega (arith, l, m) | inr n ↦ omega (arith, l, n.0) ] | inr l ↦ elim k [ inl m ↦ omega (arith, l.0, m) | inr n ↦ omega (arith, l.1, n.1) ] ]

one_fault : (bs : List ℕ) (f g : ReadFault) → IsFault bs f → IsFault bs g → f ≡ g
one_fault bs f g h k = elim (h.precedes g k.offends) [ inl e ↦ sym e | inr l ↦ elim (k.precedes f h.offends) [ inl e ↦ e | inr m ↦ absurd (never_both f g l m) ] ]

spells_by : (bs : List ℕ) (r : Raw Id) (v : Result (Raw Id) ReadFault) → verdict bs ≡ v → Spells bs r → v ≡ Ok r
spells_by bs r (Ok q) e s = ap Ok (one_tree bs q r (verdict_is bs (Ok q) e) s)
spells_by bs r (Err f) e s = absurd (not_both bs r f s (verdict_is bs (Err f) e).offends)

pub spells_verdict : (bs : List ℕ) (r : Raw Id) → Spells bs r → verdict bs ≡ Ok r
spells_verdict bs r s = spells_by bs r (verdict bs) refl s

fault_by : (bs : List ℕ) (f : ReadFault) (v : Result (Raw Id) ReadFault) → verdict bs ≡ v → IsFault bs f → v ≡ Err f
fault_by bs f (Ok q) e h = absurd (not_both bs q f (verdict_is bs (Ok q) e) h.offends)
fault_by bs f (Err g) e h = ap Err (one_fault bs g f (verdict_is bs (Err g) e) h)

pub fault_verdict : (bs : List ℕ) (f : ReadFault) → IsFault bs f → verdict bs ≡ Err f
fault_verdict bs f h = fault_by bs f (verdict bs) refl h
