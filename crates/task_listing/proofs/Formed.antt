-- A line by itself is judged by the rows of the table.
use Rattle.std.proofs.Common.{◌≡◌, ◌⊎◌, ◌∙◌, inl, inr, ℕ, pos, ◌<◌, ◌≤◌, ◌^◌, ◌-◌, List, [], ◌∷◌, map, Bool, true, false, not, cond, Option, Some, None, Ok, Err, refl, sym, ap, arith, eqb, decimal}
use Rattle.std.specs.Prelude.{codes, bytes_eq, ◌&&◌}
use Rattle.std.specs.Option.{option_map}
use Rattle.std.proofs.lemmas.Bool.{eqb-true}
use Rattle.std.proofs.lemmas.Slice.Eq.{bytes_eq-Decides}
use Rattle.tower_types.specs.declared.scalar.Scalar.{Scalar}
use Rattle.tower_types.specs.declared.scalar.Scalar.TheVariants as scalars
use Rattle.tower_types.specs.declared.scalar.BinOp.TheVariants as op
use Rattle.tower_types.specs.declared.scalar.UnOp.TheVariants as un
use Rattle.tower_syntax.specs.Words.{binary_word, unary_word}
use Rattle.task_code.specs.declared.program.Instr.{Instr}
use Rattle.task_code.specs.declared.program.Instr.TheVariants as instr
use Rattle.task_code.specs.Rules.{most_words, IsScalar}
use Rattle.task_listing.specs.declared.fault.ListKind.TheVariants as fault
use Rattle.task_listing.specs.declared.kind.Kind.{Kind}
use Rattle.task_listing.specs.declared.kind.Kind.TheVariants as kind
use Rattle.task_listing.specs.declared.operation.Plain.{Plain}
use Rattle.task_listing.specs.declared.operation.Plain.TheVariants as plain
use Rattle.task_listing.specs.declared.operation.WithOne.{WithOne}
use Rattle.task_listing.specs.declared.operation.WithOne.TheVariants as one
use Rattle.task_listing.specs.declared.operation.WithTwo.{WithTwo}
use Rattle.task_listing.specs.declared.operation.WithTwo.TheVariants as two
use Rattle.task_listing.specs.declared.operation.WithThree.{WithThree}
use Rattle.task_listing.specs.declared.operation.WithThree.TheVariants as three
use Rattle.task_listing.specs.Lines.{Bytes}
use Rattle.task_listing.specs.Numbers.{is_word, is_number}
use Rattle.task_listing.specs.Spelling.{scalar_text, words_of}
use Rattle.task_listing.specs.Answers.{Answer, number_in, or_err, count_up_to, count, priority, any_number, operand, literal_in, literal, push, with_one, with_two, with_three, plain_instr, unary_named, binary_named, scalar_named, index_type, type_of, type, both, and_then, title_line, ending_line, count_line, buffer_line, task_line, plain_word, plain_named, one_word, one_named, two_word, two_named, three_word, three_named, literal_line, cast_line, unary_line, binary_line, one_line, two_line, instr_line}
use Rattle.task_listing.specs.Judging.{fault_in, judge_kind}
use Rattle.task_listing.specs.Forms.{Slot, fixed, number, unary_op, binary_op, slot_of, IsDecimal, IsTypeWord, IsSpelled, AtSight, Each, form, Has, IsJudged}
use Rattle.task_listing.specs.Forms as forms
use Rattle.task_listing.proofs.Decimals.{number_is, number_of}
use Rattle.task_listing.proofs.Spelled.{plain_is_named, one_is_named, two_is_named, three_is_named, unary_is_named, binary_is_named, simple_is}
use Rattle.task_listing.proofs.Backs.{unary_back, binary_back, decimal_unblank}

abbrev J : {A : Type 0} → Type 0 → Type 0 → Answer A → Type 0
J S T r = IsJudged S T (fault_in r)

-- ---- put together

judged_by : {A : Type 0} (S T S' T' : Type 0) (r : Answer A) → (S → S') → (S' → S) → (T → T') → (T' → T) → J S T r → J S' T' r
judged_by S T S' T' (Ok a) f g h k j = (f j.0, h j.1)
judged_by S T S' T' (Err fault.Line) f g h k j = λ s. j (g s)
judged_by S T S' T' (Err fault.Number) f g h k j = (f j.0, λ t. j.1 (k t))
judged_by S T S' T' (Err _) f g h k j = absurd j

both_judged : {A B : Type 0} (S T S' T' : Type 0) (x : Answer A) (y : Answer B) → J S T x → J S' T' y → J (S × S') (T × T') (both x y)
both_judged S T S' T' (Ok a) (Ok b) h g = ((h.0, g.0), (h.1, g.1))
both_judged S T S' T' (Ok a) (Err fault.Line) h g = λ s. g s.1
both_judged S T S' T' (Ok a) (Err fault.Number) h g = ((h.0, g.0), λ t. g.1 t.1)
both_judged S T S' T' (Ok a) (Err _) h g = absurd g
both_judged S T S' T' (Err fault.Line) (Ok b) h g = λ s. h s.0
both_judged S T S' T' (Err fault.Line) (Err k) h g = λ s. h s.0
both_judged S T S' T' (Err fault.Number) (Ok b) h g = ((h.0, g.0), λ t. h.1 t.0)
both_judged S T S' T' (Err fault.Number) (Err fault.Line) h g = λ s. g s.1
both_judged S T S' T' (Err fault.Number) (Err fault.Number) h g = ((h.0, g.0), λ t. h.1 t.0)
both_judged S T S' T' (Err fault.Number) (Err _) h g = absurd g
both_judged S T S' T' (Err _) (Ok b) h g = absurd h
both_judged S T S' T' (Err _) (Err k) h g = absurd h

then_judged : {A B : Type 0} (S T : Type 0) (x : Answer A) (f : A → B) → J S T x → J S T (and_then x (λ a. Ok (f a)))
then_judged S T (Ok a) f h = h
then_judged S T (Err k) f h = h

cond_judged : {A : Type 0} (S T : Type 0) (w head : Bytes) (r : Answer A) (b : Bool) → bytes_eq w head ≡ b → J S T r → J ((w ≡ head) × S) ((w ≡ head) × T) (cond b r (Err fault.Line))
cond_judged S T w head r true e h =
    let q = (bytes_eq-Decides w head).0 e in
    judged_by S T ((w ≡ head) × S) ((w ≡ head) × T) r (λ s. (q, s)) (λ s. s.1) (λ t. (q, t)) (λ t. t.1) h
cond_judged S T w head r false e h = λ s. let q : false ≡ true = sym e ∙ (bytes_eq-Decides w head).1 s.0 in cc

head_judged : {A : Type 0} (S T : Type 0) (w head : Bytes) (r : Answer A) → J S T r → J ((w ≡ head) × S) ((w ≡ head) × T) (cond (bytes_eq w head) r (Err fault.Line))
head_judged S T w head r h = cond_judged S T w head r (bytes_eq w head) refl h

-- ---- words

number_by : {A : Type 0} (x y : Bool) (a : A) → J (x ≡ true) (y ≡ true) (cond x (cond y (Ok a) (Err fault.Number)) (Err fault.Line))
number_by true true a = (refl, refl)
number_by true false a = (refl, λ e. cc)
number_by false y a = λ e. cc

number_judged : {A : Type 0} (w : Bytes) (a : A) → J (AtSight number w) (IsSpelled number w) (any_number w a)
number_judged w a = number_by (is_word w) (is_number w) a

count_by : (most : ℕ) (w : Bytes) (b : Bool) (o : Option ℕ) → most < 2 ^ 64 → number_in 0 most w ≡ o → J (b ≡ true) (IsDecimal most w) (cond b (or_err fault.Number o) (Err fault.Line))
count_by most w true (Some n) s e = let k = number_is 0 most n w e in (refl, (n, k.0.1, k.1))
count_by most w true None s e = (refl, λ t. let q : None ≡ Some t.0 = sym e ∙ number_of 0 most t.0 w (omega (arith, s, t.1)) (omega arith, t.1) t.2 in cc)
count_by most w false o s e = λ q. cc

count_judged : (most : ℕ) (w : Bytes) → most < 2 ^ 64 → J (is_word w ≡ true) (IsDecimal most w) (count_up_to most w)
count_judged most w s = count_by most w (is_word w) (number_in 0 most w) s refl

some_none : {A : Type 0} (a : A) (o : Option A) → o ≡ None → o ≡ Some a → ⊥
some_none a o e f = let q : None ≡ Some a = sym e ∙ f in cc

found_judged : {A : Type 0} (word : A → Bytes) (w : Bytes) (o : Option A) → ((a : A) → o ≡ Some a → w ≡ word a) → ((a : A) → w ≡ word a → o ≡ Some a)
    → J ((a : A) × (w ≡ word a)) ((a : A) × (w ≡ word a)) (or_err fault.Line o)
found_judged word w (Some a) is back = ((a, is a refl), (a, is a refl))
found_judged word w None is back = λ s. some_none s.0 None refl (back s.0 s.1)

unary_judged : (w : Bytes) → J (AtSight unary_op w) (IsSpelled unary_op w) (or_err fault.Line (unary_named w))
unary_judged w = found_judged unary_word w (unary_named w) (unary_is_named w) (λ a e. ap unary_named e ∙ unary_back a)

binary_judged : (w : Bytes) → J (AtSight binary_op w) (IsSpelled binary_op w) (or_err fault.Line (binary_named w))
binary_judged w = found_judged binary_word w (binary_named w) (binary_is_named w) (λ a e. ap binary_named e ∙ binary_back a)

-- ---- types

-- a type with no name of its own is an index type
record Indexed (w : Bytes) (s : Scalar) : Type 0 where
  n : ℕ
  low : 1 ≤ n
  high : n ≤ 65536
  same : w ≡ 105 ∷ 120 ∷ 58 ∷ decimal n

indexed : (w : Bytes) (s : Scalar) → scalar_named w ≡ None → IsScalar s → w ≡ scalar_text s → Indexed w s
indexed w scalars.Bool e i f = absurd (some_none scalars.Bool (scalar_named w) e (ap scalar_named f))
indexed w scalars.U8 e i f = absurd (some_none scalars.U8 (scalar_named w) e (ap scalar_named f))
indexed w scalars.U16 e i f = absurd (some_none scalars.U16 (scalar_named w) e (ap scalar_named f))
indexed w scalars.U32 e i f = absurd (some_none scalars.U32 (scalar_named w) e (ap scalar_named f))
indexed w scalars.U64 e i f = absurd (some_none scalars.U64 (scalar_named w) e (ap scalar_named f))
indexed w scalars.I8 e i f = absurd (some_none scalars.I8 (scalar_named w) e (ap scalar_named f))
indexed w scalars.I16 e i f = absurd (some_none scalars.I16 (scalar_named w) e (ap scalar_named f))
indexed w scalars.I32 e i f = absurd (some_none scalars.I32 (scalar_named w) e (ap scalar_named f))
indexed w scalars.I64 e i f = absurd (some_none scalars.I64 (scalar_named w) e (ap scalar_named f))
indexed w (scalars.Ix n) e i f = record { n = n; low = i.0; high = i.1; same = f }

record Prefixed (w : Bytes) : Type 0 where
  rest : Bytes
  same : w ≡ 105 ∷ 120 ∷ 58 ∷ rest
  word : is_word w ≡ true

prefixed : (w : Bytes) → scalar_named w ≡ None → AtSight forms.type w → Prefixed w
prefixed w e (inl (s, i, f)) =
    let x = indexed w s e i f in
    record { rest = decimal x.n; same = x.same; word = ap is_word x.same ∙ ap not (decimal_unblank x.n (let h : x.n ≤ 65536 = x.high in omega (arith, h))) }
prefixed w e (inr (rest, h, f)) = record { rest = rest; same = f; word = h }

too_short : (w : Bytes) → scalar_named w ≡ None → ((rest : Bytes) → w ≡ 105 ∷ 120 ∷ 58 ∷ rest → ⊥) → AtSight forms.type w → ⊥
too_short w e h s = let x = prefixed w e s in h x.rest x.same

three_true : (a b c : Bool) → a && b && c ≡ true → (a ≡ true) × (b ≡ true) × (c ≡ true)
three_true true true true h = (refl, refl, refl)
three_true true true false h = cc
three_true true false c h = cc
three_true false b c h = cc

rest_by : (w rest : Bytes) (o : Option ℕ) → w ≡ 105 ∷ 120 ∷ 58 ∷ rest → is_word w ≡ true → scalar_named w ≡ None → number_in 1 65536 rest ≡ o
    → J (AtSight forms.type w) (IsTypeWord w) (or_err fault.Number (option_map scalars.Ix o))
rest_by w rest (Some n) f h e k =
    let x = number_is 1 65536 n rest k in
    (inr (rest, h, f), (scalars.Ix n, (x.0.0, x.0.1), f ∙ ap (λ r. 105 ∷ 120 ∷ 58 ∷ r) x.1))
rest_by w rest None f h e k = (inr (rest, h, f), λ t. by t.0 (indexed w t.0 e t.1 t.2))
  where
    by : (s : Scalar) → Indexed w s → ⊥
    by s x =
        let p : (105 ∷ 120 ∷ 58 ∷ rest) ≡ (105 ∷ 120 ∷ 58 ∷ decimal x.n) = sym f ∙ x.same in
        let q : rest ≡ decimal x.n = cc in
        let high = x.high in
        some_none x.n (number_in 1 65536 rest) k (number_of 1 65536 x.n rest (omega (arith, high)) (x.low, x.high) q)

index_by : (a b c : ℕ) (rest : Bytes) (t u : Bool) → scalar_named (a ∷ b ∷ c ∷ rest) ≡ None → eqb a 105 && eqb b 120 && eqb c 58 ≡ t → is_word (a ∷ b ∷ c ∷ rest) ≡ u
    → J (AtSight forms.type (a ∷ b ∷ c ∷ rest)) (IsTypeWord (a ∷ b ∷ c ∷ rest)) (cond t (cond u (or_err fault.Number (option_map scalars.Ix (number_in 1 65536 rest))) (Err fault.Line)) (Err fault.Line))
index_by a b c rest true true e f g =
    let t = three_true (eqb a 105) (eqb b 120) (eqb c 58) f in
    rest_by (a ∷ b ∷ c ∷ rest) rest (number_in 1 65536 rest) (λ i. eqb-true a 105 t.0 i ∷ eqb-true b 120 t.1 i ∷ eqb-true c 58 t.2 i ∷ rest) g e refl
index_by a b c rest true false e f g = λ s. let q : false ≡ true = sym g ∙ (prefixed (a ∷ b ∷ c ∷ rest) e s).word in cc
index_by a b c rest false u e f g = λ s. by (prefixed (a ∷ b ∷ c ∷ rest) e s)
  where
    by : Prefixed (a ∷ b ∷ c ∷ rest) → ⊥
    by x =
        let p : (a ∷ b ∷ c ∷ rest) ≡ (105 ∷ 120 ∷ 58 ∷ x.rest) = x.same in
        let pa : a ≡ 105 = cc in
        let pb : b ≡ 120 = cc in
        let pc : c ≡ 58 = cc in
        let q : false ≡ true = sym f ∙ (λ i. eqb (pa i) 105 && eqb (pb i) 120 && eqb (pc i) 58) in
        cc

index_judged : (w : Bytes) → scalar_named w ≡ None → J (AtSight forms.type w) (IsTypeWord w) (index_type w)
index_judged [] e = too_short [] e (λ rest f. cc)
index_judged (a ∷ []) e = too_short (a ∷ []) e (λ rest f. cc)
index_judged (a ∷ b ∷ []) e = too_short (a ∷ b ∷ []) e (λ rest f. cc)
index_judged (a ∷ b ∷ c ∷ rest) e = index_by a b c rest (eqb a 105 && eqb b 120 && eqb c 58) (is_word (a ∷ b ∷ c ∷ rest)) e refl refl

type_by : (w : Bytes) (o : Option Scalar) → scalar_named w ≡ o → J (AtSight forms.type w) (IsTypeWord w) (type_of o w)
type_by w (Some s) e = let x = simple_is w s e in (inl (s, x.within, x.same), (s, x.within, x.same))
type_by w None e = index_judged w e

type_judged : (w : Bytes) → J (AtSight forms.type w) (IsSpelled forms.type w) (type w)
type_judged w = type_by w (scalar_named w) refl

-- ---- lines that are no instructions

decides : {S : Type 0} (w v : Bytes) → bytes_eq w v ≡ false → w ≡ v → S
decides w v e f = let q : false ≡ true = sym e ∙ (bytes_eq-Decides w v).1 f in cc

title_by : (a b : Bytes) (x y : Bool) → bytes_eq a (codes "tower-listing") ≡ x → bytes_eq b (codes "1") ≡ y
    → IsJudged (Each AtSight (form kind.Title) (a ∷ b ∷ [])) (Each IsSpelled (form kind.Title) (a ∷ b ∷ [])) (cond (x && y) None (Some fault.Line))
title_by a b true true e f =
    let h = (bytes_eq-Decides a (codes "tower-listing")).0 e in
    let g = (bytes_eq-Decides b (codes "1")).0 f in
    ((h, (g, tt)), (h, (g, tt)))
title_by a b true false e f = λ s. decides b (codes "1") f s.1.0
title_by a b false y e f = λ s. decides a (codes "tower-listing") e s.0

title_judged : (ws : List Bytes) → IsJudged (Each AtSight (form kind.Title) ws) (Each IsSpelled (form kind.Title) ws) (title_line ws)
title_judged [] = λ s. s
title_judged (a ∷ []) = λ s. s.1
title_judged (a ∷ b ∷ []) = title_by a b (bytes_eq a (codes "tower-listing")) (bytes_eq b (codes "1")) refl refl
title_judged (a ∷ b ∷ c ∷ ws) = λ s. s.1.1

ending_by : (a : Bytes) (x : Bool) → bytes_eq a (codes "end") ≡ x → IsJudged (Each AtSight (form kind.Ending) (a ∷ [])) (Each IsSpelled (form kind.Ending) (a ∷ [])) (cond x None (Some fault.Line))
ending_by a true e = let h = (bytes_eq-Decides a (codes "end")).0 e in ((h, tt), (h, tt))
ending_by a false e = λ s. decides a (codes "end") e s.0

ending_judged : (ws : List Bytes) → IsJudged (Each AtSight (form kind.Ending) ws) (Each IsSpelled (form kind.Ending) ws) (ending_line ws)
ending_judged [] = λ s. s
ending_judged (a ∷ []) = ending_by a (bytes_eq a (codes "end")) refl
ending_judged (a ∷ b ∷ ws) = λ s. s.1

abbrev Word : Bytes → Type 0
Word w = is_word w ≡ true

abbrev Count : Bytes → Type 0
Count w = IsDecimal most_words w

counts_judged : (head : Bytes) (ws : List Bytes) → J (Each AtSight (fixed head ∷ forms.count ∷ []) ws) (Each IsSpelled (fixed head ∷ forms.count ∷ []) ws) (count_line head ws)
counts_judged head [] = λ s. s
counts_judged head (a ∷ []) = λ s. s.1
counts_judged head (a ∷ n ∷ []) =
    judged_by ((a ≡ head) × Word n) ((a ≡ head) × Count n) (Each AtSight (fixed head ∷ forms.count ∷ []) (a ∷ n ∷ [])) (Each IsSpelled (fixed head ∷ forms.count ∷ []) (a ∷ n ∷ [])) (count_line head (a ∷ n ∷ [])) (λ s. (s.0, (s.1, tt))) (λ s. (s.0, s.1.0)) (λ s. (s.0, (s.1, tt))) (λ s. (s.0, s.1.0))
    (head_judged (is_word n ≡ true) (IsDecimal most_words n) a head (count n) (count_judged most_words n (omega arith)))
counts_judged head (a ∷ n ∷ b ∷ ws) = λ s. s.1.1

buffer_judged : (ws : List Bytes) → J (Each AtSight (form kind.Buffer) ws) (Each IsSpelled (form kind.Buffer) ws) (buffer_line ws)
buffer_judged [] = λ s. s
buffer_judged (a ∷ []) = λ s. s.1
buffer_judged (a ∷ m ∷ []) = λ s. s.1.1
buffer_judged (a ∷ m ∷ n ∷ []) =
    judged_by ((a ≡ codes "buffer") × (Word m × Word n)) ((a ≡ codes "buffer") × (Count m × Count n)) (Each AtSight (form kind.Buffer) (a ∷ m ∷ n ∷ [])) (Each IsSpelled (form kind.Buffer) (a ∷ m ∷ n ∷ [])) (buffer_line (a ∷ m ∷ n ∷ [])) (λ s. (s.0, (s.1.0, (s.1.1, tt)))) (λ s. (s.0, (s.1.0, s.1.1.0))) (λ s. (s.0, (s.1.0, (s.1.1, tt)))) (λ s. (s.0, (s.1.0, s.1.1.0)))
    (head_judged ((is_word m ≡ true) × (is_word n ≡ true)) (IsDecimal most_words m × IsDecimal most_words n) a (codes "buffer") (both (count m) (count n))
    (both_judged (is_word m ≡ true) (IsDecimal most_words m) (is_word n ≡ true) (IsDecimal most_words n) (count m) (count n) (count_judged most_words m (omega arith)) (count_judged most_words n (omega arith))))
buffer_judged (a ∷ m ∷ n ∷ b ∷ ws) = λ s. s.1.1.1

two_counts : (m n : Bytes) → J (Word m × Word n) (Count m × Count n) (both (count m) (count n))
two_counts m n = both_judged (Word m) (Count m) (Word n) (Count n) (count m) (count n) (count_judged most_words m (omega arith)) (count_judged most_words n (omega arith))

task_judged : (ws : List Bytes) → J (Each AtSight (form kind.Task) ws) (Each IsSpelled (form kind.Task) ws) (task_line ws)
task_judged [] = λ s. s
task_judged (a ∷ []) = λ s. s.1
task_judged (a ∷ p ∷ []) = λ s. s.1.1
task_judged (a ∷ p ∷ m ∷ []) = λ s. s.1.1.1
task_judged (a ∷ p ∷ m ∷ r ∷ []) = λ s. s.1.1.1.1
task_judged (a ∷ p ∷ m ∷ r ∷ b ∷ []) = λ s. s.1.1.1.1.1
task_judged (a ∷ p ∷ m ∷ r ∷ b ∷ c ∷ []) =
    judged_by ((a ≡ codes "task") × (Word p × ((Word m × Word r) × (Word b × Word c)))) ((a ≡ codes "task") × (IsDecimal 255 p × ((Count m × Count r) × (Count b × Count c))))
    (Each AtSight (form kind.Task) (a ∷ p ∷ m ∷ r ∷ b ∷ c ∷ [])) (Each IsSpelled (form kind.Task) (a ∷ p ∷ m ∷ r ∷ b ∷ c ∷ [])) (task_line (a ∷ p ∷ m ∷ r ∷ b ∷ c ∷ []))
    (λ s. (s.0, (s.1.0, (s.1.1.0.0, (s.1.1.0.1, (s.1.1.1.0, (s.1.1.1.1, tt)))))))
    (λ s. (s.0, (s.1.0, ((s.1.1.0, s.1.1.1.0), (s.1.1.1.1.0, s.1.1.1.1.1.0)))))
    (λ s. (s.0, (s.1.0, (s.1.1.0.0, (s.1.1.0.1, (s.1.1.1.0, (s.1.1.1.1, tt)))))))
    (λ s. (s.0, (s.1.0, ((s.1.1.0, s.1.1.1.0), (s.1.1.1.1.0, s.1.1.1.1.1.0)))))
    (head_judged (Word p × ((Word m × Word r) × (Word b × Word c))) (IsDecimal 255 p × ((Count m × Count r) × (Count b × Count c))) a (codes "task")
    (both (priority p) (both (both (count m) (count r)) (both (count b) (count c))))
    (both_judged (Word p) (IsDecimal 255 p) ((Word m × Word r) × (Word b × Word c)) ((Count m × Count r) × (Count b × Count c)) (priority p) (both (both (count m) (count r)) (both (count b) (count c)))
    (count_judged 255 p (omega arith))
    (both_judged (Word m × Word r) (Count m × Count r) (Word b × Word c) (Count b × Count c) (both (count m) (count r)) (both (count b) (count c)) (two_counts m r) (two_counts b c))))
task_judged (a ∷ p ∷ m ∷ r ∷ b ∷ c ∷ x ∷ ws) = λ s. s.1.1.1.1.1.1

-- ---- instructions, by their number of words

module _ (P : Slot → Bytes → Type 0) where
  abbrev Formed : List Bytes → Type 0
  Formed [] = ⊥
  Formed (w ∷ []) = (o : Plain) × P (fixed (plain_word o)) w
  Formed (w ∷ a ∷ []) = (P (fixed (codes "PUSH")) w × P number a) ⊎ ((P (fixed (codes "CAST")) w × P forms.type a) ⊎ ((o : WithOne) × P (fixed (one_word o)) w × P number a))
  Formed (w ∷ a ∷ b ∷ []) =
      (P (fixed (codes "UN")) w × (P unary_op a × P forms.type b)) ⊎ ((P (fixed (codes "BIN")) w × (P binary_op a × P forms.type b))
      ⊎ ((o : WithTwo) × P (fixed (two_word o)) w × (P number a × P number b)))
  Formed (w ∷ a ∷ b ∷ c ∷ []) = (o : WithThree) × P (fixed (three_word o)) w × (P number a × (P number b × P number c))
  Formed (w ∷ a ∷ b ∷ c ∷ d ∷ ws) = ⊥

  to_plain : (o : Plain) (ws : List Bytes) → Each P (fixed (plain_word o) ∷ []) ws → Formed ws
  to_plain o [] h = h
  to_plain o (w ∷ []) h = (o, h.0)
  to_plain o (w ∷ v ∷ ws) h = absurd h.1

  to_two : (s t : Slot) (ws : List Bytes) → Each P (s ∷ t ∷ []) ws → ((w a : Bytes) → P s w → P t a → Formed (w ∷ a ∷ [])) → Formed ws
  to_two s t [] h k = h
  to_two s t (w ∷ []) h k = absurd h.1
  to_two s t (w ∷ a ∷ []) h k = k w a h.0 h.1.0
  to_two s t (w ∷ a ∷ b ∷ ws) h k = absurd h.1.1

  to_three : (s t u : Slot) (ws : List Bytes) → Each P (s ∷ t ∷ u ∷ []) ws → ((w a b : Bytes) → P s w → P t a → P u b → Formed (w ∷ a ∷ b ∷ [])) → Formed ws
  to_three s t u [] h k = h
  to_three s t u (w ∷ []) h k = absurd h.1
  to_three s t u (w ∷ a ∷ []) h k = absurd h.1.1
  to_three s t u (w ∷ a ∷ b ∷ []) h k = k w a b h.0 h.1.0 h.1.1.0
  to_three s t u (w ∷ a ∷ b ∷ c ∷ ws) h k = absurd h.1.1.1

  to_one_number : (o : WithOne) (ws : List Bytes) → Each P (fixed (one_word o) ∷ number ∷ []) ws → Formed ws
  to_one_number o ws h = to_two (fixed (one_word o)) number ws h (λ w a e n. inr (inr (o, e, n)))

  to_two_numbers : (o : WithTwo) (ws : List Bytes) → Each P (fixed (two_word o) ∷ number ∷ number ∷ []) ws → Formed ws
  to_two_numbers o ws h = to_three (fixed (two_word o)) number number ws h (λ w a b e n m. inr (inr (o, e, (n, m))))

  to_three_numbers : (o : WithThree) (ws : List Bytes) → Each P (fixed (three_word o) ∷ number ∷ number ∷ number ∷ []) ws → Formed ws
  to_three_numbers o [] h = h
  to_three_numbers o (w ∷ []) h = absurd h.1
  to_three_numbers o (w ∷ a ∷ []) h = absurd h.1.1
  to_three_numbers o (w ∷ a ∷ b ∷ []) h = absurd h.1.1.1
  to_three_numbers o (w ∷ a ∷ b ∷ c ∷ []) h = (o, h.0, (h.1.0, (h.1.1.0, h.1.1.1.0)))
  to_three_numbers o (w ∷ a ∷ b ∷ c ∷ d ∷ ws) h = absurd h.1.1.1.1

  formed : (i : Instr) (ws : List Bytes) → Each P (map slot_of (words_of i)) ws → Formed ws
  formed (instr.Push n) ws h = to_two (fixed (codes "PUSH")) number ws h (λ w a e n. inl (e, n))
  formed instr.Drop ws h = to_plain plain.Drop ws h
  formed instr.Dup ws h = to_plain plain.Dup ws h
  formed (instr.Ld a) ws h = to_one_number one.Ld ws h
  formed (instr.St a) ws h = to_one_number one.St ws h
  formed (instr.Ldx a n) ws h = to_two_numbers two.Ldx ws h
  formed (instr.Stx a n) ws h = to_two_numbers two.Stx ws h
  formed (instr.Ldm m a n) ws h = to_three_numbers three.Ldm ws h
  formed (instr.Stm m a n) ws h = to_three_numbers three.Stm ws h
  formed (instr.Un op s) ws h = to_three (fixed (codes "UN")) unary_op forms.type ws h (λ w a b e n m. inl (e, (n, m)))
  formed (instr.Bin op s) ws h = to_three (fixed (codes "BIN")) binary_op forms.type ws h (λ w a b e n m. inr (inl (e, (n, m))))
  formed (instr.Cast s) ws h = to_two (fixed (codes "CAST")) forms.type ws h (λ w a e n. inr (inl (e, n)))
  formed (instr.Jmp to) ws h = to_one_number one.Jmp ws h
  formed (instr.Jz to) ws h = to_one_number one.Jz ws h
  formed (instr.Call to) ws h = to_one_number one.Call ws h
  formed instr.Ret ws h = to_plain plain.Ret ws h
  formed (instr.Take a) ws h = to_one_number one.Take ws h
  formed (instr.Lock m) ws h = to_one_number one.Lock ws h
  formed (instr.Unlock m) ws h = to_one_number one.Unlock ws h
  formed (instr.Out o a) ws h = to_two_numbers two.Out ws h
  formed (instr.Bclr b) ws h = to_one_number one.Bclr ws h
  formed (instr.Bput b) ws h = to_one_number one.Bput ws h
  formed (instr.Badd b) ws h = to_one_number one.Badd ws h
  formed (instr.Bget b) ws h = to_one_number one.Bget ws h
  formed (instr.Bcnt b) ws h = to_one_number one.Bcnt ws h

  abbrev Rowed : List Bytes → Type 0
  Rowed ws = (i : Instr) × Each P (map slot_of (words_of i)) ws

  from_plain : (o : Plain) (w : Bytes) → P (fixed (plain_word o)) w → Rowed (w ∷ [])
  from_plain plain.Drop w e = (instr.Drop, (e, tt))
  from_plain plain.Dup w e = (instr.Dup, (e, tt))
  from_plain plain.Ret w e = (instr.Ret, (e, tt))

  from_one : (o : WithOne) (w a : Bytes) → P (fixed (one_word o)) w → P number a → Rowed (w ∷ a ∷ [])
  from_one one.Ld w a e n = (instr.Ld 0, (e, (n, tt)))
  from_one one.St w a e n = (instr.St 0, (e, (n, tt)))
  from_one one.Jmp w a e n = (instr.Jmp 0, (e, (n, tt)))
  from_one one.Jz w a e n = (instr.Jz 0, (e, (n, tt)))
  from_one one.Call w a e n = (instr.Call 0, (e, (n, tt)))
  from_one one.Take w a e n = (instr.Take 0, (e, (n, tt)))
  from_one one.Lock w a e n = (instr.Lock 0, (e, (n, tt)))
  from_one one.Unlock w a e n = (instr.Unlock 0, (e, (n, tt)))
  from_one one.Bclr w a e n = (instr.Bclr 0, (e, (n, tt)))
  from_one one.Bput w a e n = (instr.Bput 0, (e, (n, tt)))
  from_one one.Badd w a e n = (instr.Badd 0, (e, (n, tt)))
  from_one one.Bget w a e n = (instr.Bget 0, (e, (n, tt)))
  from_one one.Bcnt w a e n = (instr.Bcnt 0, (e, (n, tt)))

  from_two : (o : WithTwo) (w a b : Bytes) → P (fixed (two_word o)) w → P number a × P number b → Rowed (w ∷ a ∷ b ∷ [])
  from_two two.Ldx w a b e n = (instr.Ldx 0 0, (e, (n.0, (n.1, tt))))
  from_two two.Stx w a b e n = (instr.Stx 0 0, (e, (n.0, (n.1, tt))))
  from_two two.Out w a b e n = (instr.Out 0 0, (e, (n.0, (n.1, tt))))

  from_three : (o : WithThree) (w a b c : Bytes) → P (fixed (three_word o)) w → P number a × (P number b × P number c) → Rowed (w ∷ a ∷ b ∷ c ∷ [])
  from_three three.Ldm w a b c e n = (instr.Ldm 0 0 0, (e, (n.0, (n.1.0, (n.1.1, tt)))))
  from_three three.Stm w a b c e n = (instr.Stm 0 0 0, (e, (n.0, (n.1.0, (n.1.1, tt)))))

  rowed : (ws : List Bytes) → Formed ws → Rowed ws
  rowed [] h = absurd h
  rowed (w ∷ []) (o, e) = from_plain o w e
  rowed (w ∷ a ∷ []) (inl h) = (instr.Push (pos 0), (h.0, (h.1, tt)))
  rowed (w ∷ a ∷ []) (inr (inl h)) = (instr.Cast scalars.Bool, (h.0, (h.1, tt)))
  rowed (w ∷ a ∷ []) (inr (inr (o, e, n))) = from_one o w a e n
  rowed (w ∷ a ∷ b ∷ []) (inl h) = (instr.Un un.Not scalars.Bool, (h.0, (h.1.0, (h.1.1, tt))))
  rowed (w ∷ a ∷ b ∷ []) (inr (inl h)) = (instr.Bin op.Add scalars.Bool, (h.0, (h.1.0, (h.1.1, tt))))
  rowed (w ∷ a ∷ b ∷ []) (inr (inr (o, e, n))) = from_two o w a b e n
  rowed (w ∷ a ∷ b ∷ c ∷ []) (o, e, n) = from_three o w a b c e n
  rowed (w ∷ a ∷ b ∷ c ∷ d ∷ ws) h = absurd h

plain_back : (o : Plain) → plain_named (plain_word o) ≡ Some o
plain_back plain.Drop = refl
plain_back plain.Dup = refl
plain_back plain.Ret = refl

one_back : (o : WithOne) → one_named (one_word o) ≡ Some o
one_back one.Ld = refl
one_back one.St = refl
one_back one.Jmp = refl
one_back one.Jz = refl
one_back one.Call = refl
one_back one.Take = refl
one_back one.Lock = refl
one_back one.Unlock = refl
one_back one.Bclr = refl
one_back one.Bput = refl
one_back one.Badd = refl
one_back one.Bget = refl
one_back one.Bcnt = refl

two_back : (o : WithTwo) → two_named (two_word o) ≡ Some o
two_back two.Ldx = refl
two_back two.Stx = refl
two_back two.Out = refl

three_back : (o : WithThree) → three_named (three_word o) ≡ Some o
three_back three.Ldm = refl
three_back three.Stm = refl

named_judged : {A B : Type 0} (S T : Type 0) (word : A → Bytes) (w : Bytes) (o : Option A) (f : A → Answer B) → ((a : A) → o ≡ Some a → w ≡ word a) → ((a : A) → w ≡ word a → o ≡ Some a)
    → ((a : A) → J S T (f a)) → J ((a : A) × (w ≡ word a) × S) ((a : A) × (w ≡ word a) × T) (and_then (or_err fault.Line o) f)
named_judged {A} S T word w (Some a) f is back h = judged_by S T ((a : A) × (w ≡ word a) × S) ((a : A) × (w ≡ word a) × T) (f a) (λ s. (a, is a refl, s)) (λ s. s.2) (λ t. (a, is a refl, t)) (λ t. t.2) (h a)
named_judged S T word w None f is back h = λ s. some_none s.0 None refl (back s.0 s.1)

or_by : {A : Type 0} (S T S' T' : Type 0) (w v : Bytes) (r q : Answer A) (b : Bool) → bytes_eq w v ≡ b → J S T r → J S' T' q → (S' → w ≡ v → ⊥) → (T' → w ≡ v → ⊥)
    → J (((w ≡ v) × S) ⊎ S') (((w ≡ v) × T) ⊎ T') (cond b r q)
or_by S T S' T' w v r q true e h g n m =
    let f = (bytes_eq-Decides w v).0 e in
    judged_by S T (((w ≡ v) × S) ⊎ S') (((w ≡ v) × T) ⊎ T') r (λ s. inl (f, s)) (back S S' n f) (λ t. inl (f, t)) (back T T' m f) h
  where
    back : (X Y : Type 0) → (Y → w ≡ v → ⊥) → w ≡ v → ((w ≡ v) × X) ⊎ Y → X
    back X Y k f (inl s) = s.1
    back X Y k f (inr y) = absurd (k y f)
or_by S T S' T' w v r q false e h g n m = judged_by S' T' (((w ≡ v) × S) ⊎ S') (((w ≡ v) × T) ⊎ T') q (λ s. inr s) (other S S') (λ t. inr t) (other T T') g
  where
    other : (X Y : Type 0) → ((w ≡ v) × X) ⊎ Y → Y
    other X Y (inl s) = decides w v e s.0
    other X Y (inr y) = y

or_judged : {A : Type 0} (S T S' T' : Type 0) (w v : Bytes) (r q : Answer A) → J S T r → J S' T' q → (S' → w ≡ v → ⊥) → (T' → w ≡ v → ⊥)
    → J (((w ≡ v) × S) ⊎ S') (((w ≡ v) × T) ⊎ T') (cond (bytes_eq w v) r q)
or_judged S T S' T' w v r q h g n m = or_by S T S' T' w v r q (bytes_eq w v) refl h g n m

differs : {A : Type 0} (word : A → Bytes) (named : Bytes → Option A) (v w : Bytes) → ((a : A) → named (word a) ≡ Some a) → named v ≡ None → (a : A) → w ≡ word a → w ≡ v → ⊥
differs word named v w back none a e f = some_none a (named v) none (ap named (sym f ∙ e) ∙ back a)

apart : (u v w : Bytes) → bytes_eq u v ≡ false → w ≡ u → w ≡ v → ⊥
apart u v w e f g = decides u v e (sym f ∙ g)

abbrev Number : Bytes → Type 0
Number w = is_number w ≡ true

operand_judged : (w : Bytes) → J (Word w) (Number w) (operand w)
operand_judged w = number_judged w (number_in 0 (2 ^ 32 - 1) w)

-- a word of a table, and what stands behind it
abbrev Named : {A : Type 0} → (A → Bytes) → Bytes → Type 0 → Type 0
Named {A} word w S = (a : A) × (w ≡ word a) × S

one_judged : (w a : Bytes) → J (Named one_word w (Word a)) (Named one_word w (Number a)) (one_line w a)
one_judged w a =
    named_judged (Word a) (Number a) one_word w (one_named w) (λ o. and_then (operand a) (λ n. Ok (with_one o n))) (one_is_named w) (λ o e. ap one_named e ∙ one_back o)
    (λ o. then_judged (Word a) (Number a) (operand a) (with_one o) (operand_judged a))

abbrev CastOr : Bytes → Type 0 → Type 0 → Type 0
CastOr w S S' = ((w ≡ codes "CAST") × S) ⊎ Named one_word w S'

no_push : (w : Bytes) (S S' : Type 0) → CastOr w S S' → w ≡ codes "PUSH" → ⊥
no_push w S S' (inl s) = apart (codes "CAST") (codes "PUSH") w refl s.0
no_push w S S' (inr s) = differs one_word one_named (codes "PUSH") w one_back refl s.0 s.1

two_words : (w a : Bytes) → J (Formed AtSight (w ∷ a ∷ [])) (Formed IsSpelled (w ∷ a ∷ [])) (instr_line (w ∷ a ∷ []))
two_words w a =
    or_judged (Word a) (Number a) (CastOr w (AtSight forms.type a) (Word a)) (CastOr w (IsTypeWord a) (Number a)) w (codes "PUSH") (literal_line a) (cond (bytes_eq w (codes "CAST")) (cast_line a) (one_line w a))
    (then_judged (Word a) (Number a) (literal a) push (number_judged a (literal_in a)))
    (or_judged (AtSight forms.type a) (IsTypeWord a) (Named one_word w (Word a)) (Named one_word w (Number a)) w (codes "CAST") (cast_line a) (one_line w a)
    (then_judged (AtSight forms.type a) (IsTypeWord a) (type a) (λ t. Some (instr.Cast t)) (type_judged a)) (one_judged w a)
    (λ s. differs one_word one_named (codes "CAST") w one_back refl s.0 s.1) (λ s. differs one_word one_named (codes "CAST") w one_back refl s.0 s.1))
    (no_push w (AtSight forms.type a) (Word a)) (no_push w (IsTypeWord a) (Number a))

two_judged : (w a b : Bytes) → J (Named two_word w (Word a × Word b)) (Named two_word w (Number a × Number b)) (two_line w a b)
two_judged w a b =
    named_judged (Word a × Word b) (Number a × Number b) two_word w (two_named w) (λ o. and_then (both (operand a) (operand b)) (λ n. Ok (with_two o n))) (two_is_named w) (λ o e. ap two_named e ∙ two_back o)
    (λ o. then_judged (Word a × Word b) (Number a × Number b) (both (operand a) (operand b)) (with_two o)
    (both_judged (Word a) (Number a) (Word b) (Number b) (operand a) (operand b) (operand_judged a) (operand_judged b)))

abbrev BinOr : Bytes → Type 0 → Type 0 → Type 0
BinOr w S S' = ((w ≡ codes "BIN") × S) ⊎ Named two_word w S'

no_un : (w : Bytes) (S S' : Type 0) → BinOr w S S' → w ≡ codes "UN" → ⊥
no_un w S S' (inl s) = apart (codes "BIN") (codes "UN") w refl s.0
no_un w S S' (inr s) = differs two_word two_named (codes "UN") w two_back refl s.0 s.1

grouped : {A B : Type 0} (S T : Type 0) (word : A → Bytes) (a : Bytes) (r : Answer B) → J (Named word a S) (Named word a T) r → J (((o : A) × (a ≡ word o)) × S) (((o : A) × (a ≡ word o)) × T) r
grouped {A} S T word a r h =
    judged_by (Named word a S) (Named word a T) (((o : A) × (a ≡ word o)) × S) (((o : A) × (a ≡ word o)) × T) r
    (λ s. ((s.0, s.1), s.2)) (λ s. (s.0.0, s.0.1, s.1)) (λ s. ((s.0, s.1), s.2)) (λ s. (s.0.0, s.0.1, s.1)) h

un_judged : (a b : Bytes) → J (AtSight unary_op a × AtSight forms.type b) (IsSpelled unary_op a × IsTypeWord b) (unary_line a b)
un_judged a b = grouped (AtSight forms.type b) (IsTypeWord b) unary_word a (unary_line a b)
    (named_judged (AtSight forms.type b) (IsTypeWord b) unary_word a (unary_named a) (λ o. and_then (type b) (λ t. Ok (Some (instr.Un o t)))) (unary_is_named a) (λ o e. ap unary_named e ∙ unary_back o)
    (λ o. then_judged (AtSight forms.type b) (IsTypeWord b) (type b) (λ t. Some (instr.Un o t)) (type_judged b)))

bin_judged : (a b : Bytes) → J (AtSight binary_op a × AtSight forms.type b) (IsSpelled binary_op a × IsTypeWord b) (binary_line a b)
bin_judged a b = grouped (AtSight forms.type b) (IsTypeWord b) binary_word a (binary_line a b)
    (named_judged (AtSight forms.type b) (IsTypeWord b) binary_word a (binary_named a) (λ o. and_then (type b) (λ t. Ok (Some (instr.Bin o t)))) (binary_is_named a) (λ o e. ap binary_named e ∙ binary_back o)
    (λ o. then_judged (AtSight forms.type b) (IsTypeWord b) (type b) (λ t. Some (instr.Bin o t)) (type_judged b)))

three_words : (w a b : Bytes) → J (Formed AtSight (w ∷ a ∷ b ∷ [])) (Formed IsSpelled (w ∷ a ∷ b ∷ [])) (instr_line (w ∷ a ∷ b ∷ []))
three_words w a b =
    or_judged (AtSight unary_op a × AtSight forms.type b) (IsSpelled unary_op a × IsTypeWord b) (BinOr w (AtSight binary_op a × AtSight forms.type b) (Word a × Word b)) (BinOr w (IsSpelled binary_op a × IsTypeWord b) (Number a × Number b))
    w (codes "UN") (unary_line a b) (cond (bytes_eq w (codes "BIN")) (binary_line a b) (two_line w a b)) (un_judged a b)
    (or_judged (AtSight binary_op a × AtSight forms.type b) (IsSpelled binary_op a × IsTypeWord b) (Named two_word w (Word a × Word b)) (Named two_word w (Number a × Number b)) w (codes "BIN") (binary_line a b) (two_line w a b) (bin_judged a b) (two_judged w a b)
    (λ s. differs two_word two_named (codes "BIN") w two_back refl s.0 s.1) (λ s. differs two_word two_named (codes "BIN") w two_back refl s.0 s.1))
    (no_un w (AtSight binary_op a × AtSight forms.type b) (Word a × Word b)) (no_un w (IsSpelled binary_op a × IsTypeWord b) (Number a × Number b))

formed_judged : (ws : List Bytes) → J (Formed AtSight ws) (Formed IsSpelled ws) (instr_line ws)
formed_judged [] = λ s. s
formed_judged (w ∷ []) =
    then_judged ((o : Plain) × (w ≡ plain_word o)) ((o : Plain) × (w ≡ plain_word o)) (or_err fault.Line (plain_named w)) (λ o. Some (plain_instr o))
    (found_judged plain_word w (plain_named w) (plain_is_named w) (λ o e. ap plain_named e ∙ plain_back o))
formed_judged (w ∷ a ∷ []) = two_words w a
formed_judged (w ∷ a ∷ b ∷ []) = three_words w a b
formed_judged (w ∷ a ∷ b ∷ c ∷ []) =
    named_judged (Word a × (Word b × Word c)) (Number a × (Number b × Number c)) three_word w (three_named w) (λ o. and_then (both (operand a) (both (operand b) (operand c))) (λ n. Ok (with_three o n))) (three_is_named w) (λ o e. ap three_named e ∙ three_back o)
    (λ o. then_judged (Word a × (Word b × Word c)) (Number a × (Number b × Number c)) (both (operand a) (both (operand b) (operand c))) (with_three o)
    (both_judged (Word a) (Number a) (Word b × Word c) (Number b × Number c) (operand a) (both (operand b) (operand c)) (operand_judged a)
    (both_judged (Word b) (Number b) (Word c) (Number c) (operand b) (operand c) (operand_judged b) (operand_judged c))))
formed_judged (w ∷ a ∷ b ∷ c ∷ d ∷ ws) = λ s. s

instr_judged : (ws : List Bytes) → J (Has AtSight kind.Instruction ws) (Has IsSpelled kind.Instruction ws) (instr_line ws)
instr_judged ws = judged_by (Formed AtSight ws) (Formed IsSpelled ws) (Has AtSight kind.Instruction ws) (Has IsSpelled kind.Instruction ws) (instr_line ws) (rowed AtSight ws) (λ h. formed AtSight h.0 ws h.1) (rowed IsSpelled ws) (λ h. formed IsSpelled h.0 ws h.1) (formed_judged ws)

-- a line of any kind is judged so
pub lines_judged : (k : Kind) (ws : List Bytes) → IsJudged (Has AtSight k ws) (Has IsSpelled k ws) (judge_kind k ws)
lines_judged kind.Title ws = title_judged ws
lines_judged kind.Monitors ws = counts_judged (codes "monitors") ws
lines_judged kind.Monitor ws = counts_judged (codes "monitor") ws
lines_judged kind.Outputs ws = counts_judged (codes "outputs") ws
lines_judged kind.Output ws = counts_judged (codes "output") ws
lines_judged kind.Tasks ws = counts_judged (codes "tasks") ws
lines_judged kind.Task ws = task_judged ws
lines_judged kind.Buffer ws = buffer_judged ws
lines_judged kind.Instruction ws = instr_judged ws
lines_judged kind.Ending ws = ending_judged ws
