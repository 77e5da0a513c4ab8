-- Where parts begin that lie one behind the other.
use Rattle.std.proofs.Common.{◌≡◌, ◌∙◌, ℕ, zero, suc, ◌+◌, ◌<◌, List, [], ◌∷◌, ◌++◌, length, map, sum, None, slice_get, get_or, inl, inr, arith, refl, ap, sym, subst}
use Rattle.std.proofs.lemmas.Bool.{cases_lt}
use Rattle.std.proofs.lemmas.List.{length-append, get_or_append_left}
use Rattle.std.proofs.lemmas.Option.{none-some}
use Rattle.std.proofs.Math.Seq.{get_or-append_seam}
use Rattle.tower_types.specs.Ty.{Shape, Fields, Records, rec, words, shape_in, shape_of, shape_of_fields, table_of}
use Rattle.tower_syntax.specs.Arch.{Arch}
use Rattle.tower_syntax.specs.Weights.{field_shapes, states_of}
use Rattle.task_code.proofs.Lists.{cons_sum}
use Rattle.stmt_code.specs.declared.measured.Starts.{Starts}
use Rattle.stmt_code.specs.FrameOf.{laid}
use Rattle.stmt_code.specs.Sizes.{words_of_fields}
use Rattle.stmt_code.specs.Layout.{words_before, field_offset}
use Rattle.stmt_code.specs.Measured.{start_at, AreStarts, no_starts, AreRecordStarts, AreMonitorStarts}
use Rattle.stmt_code.proofs.Flats.{fields_of_list}

laid_at : (ss : List Shape) (a k : ℕ) → get_or (laid a (map words ss)) k (a + sum (map words ss)) ≡ a + words_before ss k
laid_at [] a k = refl
laid_at (s ∷ ss) a zero = omega arith
laid_at (s ∷ ss) a (suc k) =
    let whole : a + words s + sum (map words ss) ≡ a + sum (words s ∷ map words ss) = omega (arith, cons_sum (words s) (map words ss)) in
    let here : a + words s + words_before ss k ≡ a + (words s + words_before ss k) = omega arith in
    subst (λ end. get_or (laid (a + words s) (map words ss)) k end ≡ a + words s + words_before ss k) whole (laid_at ss (a + words s) k) ∙ here

words_of_shapes : (table : List Shape) (fields : Fields) → map (λ f. words (shape_in table f.1)) fields ≡ map words (field_shapes table fields)
words_of_shapes table [] = refl
words_of_shapes table (f ∷ fs) = ap (λ ns. words (shape_in table f.1) ∷ ns) (words_of_shapes table fs)

-- what is laid out from 0 on says where each part begins
pub starts_are : (arch : Arch) (fields : Fields) (s : Starts) → s.starts ≡ laid 0 (words_of_fields arch fields) → s.end ≡ 0 + sum (words_of_fields arch fields) → AreStarts (field_shapes (table_of arch.records) fields) s
starts_are arch fields s starts end k =
    let ss = field_shapes (table_of arch.records) fields in
    let same = words_of_shapes (table_of arch.records) fields in
    let starts_at : s.starts ≡ laid 0 (map words ss) = starts ∙ ap (laid 0) same in
    let end_at : s.end ≡ 0 + sum (map words ss) = end ∙ ap (λ ns. 0 + sum ns) same in
    let whole : 0 + words_before ss k ≡ words_before ss k = omega arith in
    (λ t. get_or (starts_at t) k (end_at t)) ∙ laid_at ss 0 k ∙ whole

-- the fields of a record
record_starts : (records : Records) (r : ℕ) (fields : Fields) (s : Starts) → shape_of records (rec r) ≡ shape_of_fields (table_of records) fields → AreStarts (field_shapes (table_of records) fields) s
    → (k : ℕ) → start_at s k ≡ field_offset k (shape_of records (rec r))
record_starts records r fields s shape starts k = starts k ∙ sym (fields_of_list (field_shapes (table_of records) fields) k) ∙ ap (field_offset k) (sym shape)

one_more : (P : ℕ → Starts → Type 0) (n : ℕ) (xs : List Starts) (x : Starts) → length xs ≡ n → ((r : ℕ) → r < n → P r (get_or xs r no_starts)) → P n x
    → (r : ℕ) → r < n + 1 → P r (get_or (xs ++ x ∷ []) r no_starts)
one_more P n xs x many has here r below = elim (cases_lt r n) [
  | inl early ↦ subst (P r) (sym (get_or_append_left xs (x ∷ []) no_starts r (omega (arith, many, early)))) (has r early)
  | inr late ↦
      let at : length xs ≡ r = omega (arith, many, late, below) in
      let last : P (length xs) x = subst (λ j. P j x) (sym many) here in
      subst (λ j. P j (get_or (xs ++ x ∷ []) j no_starts)) at (subst (P (length xs)) (sym (get_or-append_seam xs x [] no_starts)) last)
]

longer : (xs : List Starts) (x : Starts) (n : ℕ) → length xs ≡ n → length (xs ++ x ∷ []) ≡ n + 1
longer xs x n many = omega (arith, length-append xs (x ∷ []), many)

nothing : (P : ℕ → Starts → Type 0) (xs : List Starts) (r : ℕ) → r < 0 → P r (get_or xs r no_starts)
nothing P xs r below = absurd (no r below)
  where
    no : (r : ℕ) → r < 0 → ⊥
    no r below = omega (arith, below)

-- where the fields of a record begin
abbrev RecordBegins : Arch → ℕ → Starts → Type 0
RecordBegins arch r s = (k : ℕ) → start_at s k ≡ field_offset k (shape_of arch.records (rec r))

pub records_begun : (arch : Arch) (xs : List Starts) → xs ≡ [] → AreRecordStarts arch 0 xs
records_begun arch xs none = record { each = ap length none; has = nothing (RecordBegins arch) xs }

pub records_more : (arch : Arch) (n : ℕ) (xs ys : List Starts) (x : Starts) (fields : Fields) → AreRecordStarts arch n xs → ys ≡ xs ++ x ∷ []
    → shape_of arch.records (rec n) ≡ shape_of_fields (table_of arch.records) fields → AreStarts (field_shapes (table_of arch.records) fields) x → AreRecordStarts arch (n + 1) ys
records_more arch n xs ys x fields before grown shape starts =
    subst (AreRecordStarts arch (n + 1)) (sym grown) (record {
      each = longer xs x n before.each;
      has = one_more (RecordBegins arch) n xs x before.each before.has (record_starts arch.records n fields x shape starts);
    })

-- where the states of a monitor begin
abbrev MonitorBegins : Arch → ℕ → Starts → Type 0
MonitorBegins arch m s = AreStarts (field_shapes (table_of arch.records) (states_of arch m)) s

pub monitors_begun : (arch : Arch) (xs : List Starts) → xs ≡ [] → AreMonitorStarts arch 0 xs
monitors_begun arch xs none = record { each = ap length none; has = nothing (MonitorBegins arch) xs }

pub monitors_more : (arch : Arch) (n : ℕ) (xs ys : List Starts) (x : Starts) (fields : Fields) → AreMonitorStarts arch n xs → ys ≡ xs ++ x ∷ []
    → states_of arch n ≡ fields → AreStarts (field_shapes (table_of arch.records) fields) x → AreMonitorStarts arch (n + 1) ys
monitors_more arch n xs ys x fields before grown states starts =
    subst (AreMonitorStarts arch (n + 1)) (sym grown) (record {
      each = longer xs x n before.each;
      has = one_more (MonitorBegins arch) n xs x before.each before.has (subst (λ fs. AreStarts (field_shapes (table_of arch.records) fs) x) (sym states) starts);
    })

-- a place past the end
pub none_there : (xs : List ℕ) (k d : ℕ) → slice_get xs k ≡ None → get_or xs k d ≡ d
none_there [] k d e = refl
none_there (x ∷ xs) zero d e = absurd (none-some x (sym e))
none_there (x ∷ xs) (suc k) d e = none_there xs k d e

read_there : (xs : List Starts) (k : ℕ) (x d : Starts) → k < length xs → x ≡ get_or xs k x → get_or xs k d ≡ x
read_there [] k x d within e = absurd (no k within)
  where
    no : (k : ℕ) → k < 0 → ⊥
    no k within = omega (arith, within)
read_there (y ∷ ys) zero x d within e = sym e
read_there (y ∷ ys) (suc k) x d within e = read_there ys k x d (omega (arith, within)) e

-- what is read of the table for a monitor
pub states_start : (arch : Arch) (all read : List Starts) (m : ℕ) (s : Starts) → AreMonitorStarts arch (length arch.monitors) all → read ≡ all → m < length arch.monitors → s ≡ get_or read m s
    → AreStarts (field_shapes (table_of arch.records) (states_of arch m)) s
states_start arch all read m s table same within at =
    let here : s ≡ get_or all m s = at ∙ ap (λ xs. get_or xs m s) same in
    let there : m < length all = omega (arith, within, table.each) in
    subst (AreStarts (field_shapes (table_of arch.records) (states_of arch m))) (read_there all m s no_starts there here) (table.has m within)
