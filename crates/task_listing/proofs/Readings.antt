-- A text with no fault is the listing of the program that was read, and the listing of a program has no fault.
use Rattle.std.proofs.Common.{◌≡◌, ◌⊎◌, ◌∙◌, inl, inr, ℕ, ◌+◌, ◌<◌, ◌≤◌, List, [], ◌∷◌, ◌++◌, length, Bool, true, false, cond, Option, Some, None, Result, Ok, Err, refl, sym, ap, subst, arith, append-nil}
use Rattle.std.specs.Prelude.{nat_lt, ◌||◌}
use Rattle.std.specs.List.{All}
use Rattle.std.specs.Result.{IfOk, IfErr}
use Rattle.std.proofs.lemmas.Bool.{ltb-false, le-ltb}
use Rattle.std.proofs.lemmas.List.Elements.{All-nil, All-cons}
use Rattle.task_code.specs.declared.program.Task.{Task}
use Rattle.task_code.specs.Program.{Program}
use Rattle.task_code.specs.Rules.{most_words, most_instructions}
use Rattle.task_listing.specs.declared.fault.ListKind.{ListKind}
use Rattle.task_listing.specs.declared.fault.ListKind.TheVariants as fault
use Rattle.task_listing.specs.declared.fault.ListFault.{ListFault}
use Rattle.task_listing.specs.declared.fault.ListFault.TheVariants as list_fault
use Rattle.task_listing.specs.declared.kind.Kind.{Kind}
use Rattle.task_listing.specs.Lines.{Bytes, byte_limit, whole_lines, behind_lines, words, texts}
use Rattle.task_listing.specs.Listing.{listing}
use Rattle.task_listing.specs.Faults.{IsFirst, IsFaultless, Precedes, rank}
use Rattle.task_listing.specs.Judging.{State, begun, judge, walk, walk_on, limited, ended, closed, finished, verdict, Verdict}
use Rattle.task_listing.specs.Reading.{program_of, Judges}
use Rattle.task_listing.specs.Laws.{IsProgram, IsListing, HasOneFault, ListingIsOfOne, ListingIsFaultless, IsListingOrFault, NoListingHasFault, ReadsBack}
use Rattle.task_listing.proofs.Joined as joined
use Rattle.task_listing.proofs.Joined.{lines_back}
use Rattle.task_listing.proofs.Runs.{Known, at, IsWhole, AllFit}
use Rattle.task_listing.proofs.Items.{put_task, FitsTask}
use Rattle.task_listing.proofs.Programs.{final, program_taken, Listed, lines_listed, rows_text, listing_lines}
use Rattle.task_listing.proofs.Ruled.{final_monitors, final_outputs, final_tasks, final_words, final_instructions, fits_keeps, keeps_fits}
use Rattle.task_listing.proofs.Verdicts.{fault_is_first, none_is_faultless}

-- ---- a verdict that is no fault

-- the whole lines were taken, they are all of the text and all that was awaited, and they keep the rules
record Passes (last : Bytes) (s t : State) : Type 0 where
  nothing : last ≡ []
  whole : IsWhole s
  words : s.context.words ≤ most_words
  instructions : s.context.instructions ≤ most_instructions
  same : s ≡ t

abbrev fault_at : ListKind → Verdict State
fault_at k = Err (0, k)

abbrev short_at : ℕ → Verdict State
short_at n = Err (n, fault.Short)

abbrev taken : State → Verdict State
taken s = Ok s

limits_by : (s t : State) (a b : Bool) → nat_lt most_words s.context.words ≡ a → nat_lt most_instructions s.context.instructions ≡ b → s.context.awaits ≡ [] → s.place ≡ None
    → cond (a || b) (fault_at fault.Limit) (taken s) ≡ Ok t → Passes [] s t
limits_by s t true b p q e f h = cc
limits_by s t false true p q e f h = cc
limits_by s t false false p q e f h =
    let z : s ≡ t = cc in
    record { nothing = refl; whole = record { all = e; kept = f }; words = ltb-false most_words s.context.words p; instructions = ltb-false most_instructions s.context.instructions q; same = z }

place_by : (s t : State) (o : Option ℕ) → s.place ≡ o → s.context.awaits ≡ [] → limited o s ≡ Ok t → Passes [] s t
place_by s t (Some n) f e h = cc
place_by s t None f e h = limits_by s t (nat_lt most_words s.context.words) (nat_lt most_instructions s.context.instructions) refl refl e f h

awaits_by : (s t : State) (n : ℕ) (ks : List Kind) → s.context.awaits ≡ ks → ended ks n s ≡ Ok t → Passes [] s t
awaits_by s t n [] e h = place_by s t s.place refl e h
awaits_by s t n (k ∷ ks) e h = cc

never : (o : Option ListKind) (n m : ℕ) (t : State) (last : Bytes) (s : State) → walk_on o n (short_at m) ≡ Ok t → Passes last s t
never (Some k) n m t last s h = cc
never None n m t last s h = cc

closed_passes : (last : Bytes) (n : ℕ) (s t : State) → closed last n s ≡ Ok t → Passes last s t
closed_passes [] n s t h = awaits_by s t n s.context.awaits refl h
closed_passes (b ∷ bs) n s t h = never (judge s.context.awaits (words (b ∷ bs))) (n + 1) (n + 2) t (b ∷ bs) s h

record Walked (bs : Bytes) (t : State) : Type 0 where
  short : length bs ≤ byte_limit
  state : State
  walked : walk begun 1 (whole_lines bs) ≡ Ok state
  passes : Passes (behind_lines bs) state t

finished_by : (bs : Bytes) (r : Verdict State) (t : State) → walk begun 1 (whole_lines bs) ≡ r → length bs ≤ byte_limit → finished (behind_lines bs) (length (whole_lines bs)) r ≡ Ok t → Walked bs t
finished_by bs (Ok s) t e l h = record { short = l; state = s; walked = e; passes = closed_passes (behind_lines bs) (length (whole_lines bs)) s t h }
finished_by bs (Err f) t e l h = cc

length_by : (bs : Bytes) (b : Bool) (t : State) → nat_lt byte_limit (length bs) ≡ b → cond b (fault_at fault.Long) (finished (behind_lines bs) (length (whole_lines bs)) (walk begun 1 (whole_lines bs))) ≡ Ok t → Walked bs t
length_by bs true t e h = cc
length_by bs false t e h = finished_by bs (walk begun 1 (whole_lines bs)) t refl (ltb-false byte_limit (length bs) e) h

walked_of : (bs : Bytes) (t : State) → verdict bs ≡ Ok t → Walked bs t
walked_of bs t h = length_by bs (nat_lt byte_limit (length bs)) t refl h

-- ---- the program that was read

pub program_is : (p : Program) → program_of (at [] (final p)) ≡ p
program_is p = λ i. record { monitors = final_monitors p i; outputs = final_outputs p i; tasks = final_tasks p i }

-- what was read of a text
pub record Read (bs : Bytes) (p : Program) : Type 0 where
  pub same : bs ≡ listing p
  pub is_program : IsProgram p
  pub short : length bs ≤ byte_limit

priorities : (ts : List Task) (s : Known) → AllFit put_task FitsTask s ts → All (λ t. t.priority ≤ 255) ts
priorities [] s h = All-nil (λ t. t.priority ≤ 255)
priorities (t ∷ ts) s h = All-cons (λ t. t.priority ≤ 255) t ts h.0.priority (priorities ts (put_task t s) h.1)

whole_text : (bs : Bytes) → behind_lines bs ≡ [] → bs ≡ texts joined.ended (whole_lines bs)
whole_text bs e = sym (lines_back bs) ∙ ap (λ l. texts joined.ended (whole_lines bs) ++ l) e ∙ append-nil (texts joined.ended (whole_lines bs))

read_by : (bs : Bytes) (t : State) → (w : Walked bs t) → Listed (whole_lines bs) w.state → Read bs (program_of t)
read_by bs t w l = subst (Read bs) (sym (program_is l.program) ∙ ap program_of (sym l.state ∙ w.passes.same)) (record {
  same = whole_text bs w.passes.nothing ∙ ap (texts joined.ended) l.same ∙ rows_text l.program;
  is_program = record { rules = fits_keeps l.program l.fits few_words few_instructions; priorities = priorities l.program.tasks _ l.fits.tasks };
  short = w.short;
})
  where
    few_words : (final l.program).words ≤ most_words
    few_words = subst (λ (s : State). s.context.words ≤ most_words) l.state w.passes.words

    few_instructions : (final l.program).instructions ≤ most_instructions
    few_instructions = subst (λ (s : State). s.context.instructions ≤ most_instructions) l.state w.passes.instructions

-- a text whose verdict is no fault is the listing of the program that was read
pub is_read : (bs : Bytes) (t : State) → verdict bs ≡ Ok t → Read bs (program_of t)
is_read bs t h = let w = walked_of bs t h in read_by bs t w (lines_listed (whole_lines bs) w.state w.walked w.passes.whole)

-- ---- a listing is read

listing_walked : (p : Program) → IsProgram p → walk begun 1 (whole_lines (listing p)) ≡ Ok (at [] (final p))
listing_walked p h = let f = keeps_fits p h.rules h.priorities in ap (walk begun 1) (listing_lines p f).0 ∙ program_taken p f

same_state : (s t : State) (r : Verdict State) → r ≡ Ok s → r ≡ Ok t → s ≡ t
same_state s t r e f = let g : Ok s ≡ r = sym e in ok s t (g ∙ f)
  where
    right : State → Verdict State
    right s = Ok s

    ok : (s t : State) → right s ≡ right t → s ≡ t
    ok s t h = cc

pub of_one : ListingIsOfOne
of_one p q hp hq e =
    let s = same_state (at [] (final p)) (at [] (final q)) (walk begun 1 (whole_lines (listing q))) (ap (λ bs. walk begun 1 (whole_lines bs)) (sym e) ∙ listing_walked p hp) (listing_walked q hq) in
    sym (program_is p) ∙ ap program_of s ∙ program_is q

pub listing_verdict : (p : Program) → IsProgram p → length (listing p) ≤ byte_limit → verdict (listing p) ≡ Ok (at [] (final p))
listing_verdict p h short =
    let f = keeps_fits p h.rules h.priorities in
    let w : (final p).words ≤ most_words = omega (arith, h.rules.words, final_words p) in
    let i : (final p).instructions ≤ most_instructions = omega (arith, h.rules.instructions, final_instructions p) in
    (λ j. cond (le-ltb byte_limit (length (listing p)) short j) (fault_at fault.Long) (finished ((listing_lines p f).1 j) (length (whole_lines (listing p))) (listing_walked p h j)))
    ∙ (λ j. cond (le-ltb most_words (final p).words w j || le-ltb most_instructions (final p).instructions i j) (fault_at fault.Limit) (taken (at [] (final p))))

pub faultless : ListingIsFaultless
faultless p h short = none_is_faultless (listing p) (at [] (final p)) (listing_verdict p h short)

-- ---- each text

before : (n m : ℕ) (k j : ListKind) → ((m ≡ n) × (j ≡ k)) ⊎ Precedes n k m j → ((n ≡ m) × (k ≡ j)) ⊎ Precedes m j n k → (m ≡ n) × (j ≡ k)
before n m k j (inl e) g = e
before n m k j (inr h) (inl e) = (sym e.0, sym e.1)
before n m k j (inr (inl h)) (inr (inl g)) = absurd (omega (arith, h, g))
before n m k j (inr (inl h)) (inr (inr g)) = let e : rank j ≡ rank k = g.0 in absurd (omega (arith, h, e))
before n m k j (inr (inr h)) (inr (inl g)) = let e : rank k ≡ rank j = h.0 in absurd (omega (arith, e, g))
before n m k j (inr (inr h)) (inr (inr g)) = let a : n < m = h.1 in let b : m < n = g.1 in absurd (omega (arith, a, b))

one_fault : (bs : Bytes) (n : ℕ) (k : ListKind) → IsFirst bs n k → HasOneFault bs
one_fault bs n k f = record { line = n; kind = k; first = f; only = λ m j g. before n m k j (f.precedes m j g.offends) (g.precedes n k f.offends) }

either_by : (bs : Bytes) (r : Verdict State) → verdict bs ≡ r → IsListing bs ⊎ HasOneFault bs
either_by bs (Ok t) e = let r = is_read bs t e in inl (record { program = program_of t; is_program = r.is_program; same = r.same; short = r.short })
either_by bs (Err (n, k)) e = inr (one_fault bs n k (fault_is_first bs n k e))

pub either : IsListingOrFault
either bs = either_by bs (verdict bs) refl

pub apart : NoListingHasFault
apart bs n k l f = by (subst (λ bs. length bs ≤ byte_limit) l.same l.short)
  where
    by : length (listing l.program) ≤ byte_limit → ⊥
    by short = subst IsFaultless (sym l.same) (faultless l.program l.is_program short) n k f.offends

-- ---- read back

pub read_back : (bs : Bytes) (r : Result Program ListFault) → IfOk r (λ q. (s : State) × (verdict bs ≡ Ok s) × (q ≡ program_of s)) → IfErr r (λ f. Judges (verdict bs) f) → ReadsBack bs r
read_back bs (Ok q) w g p h e l =
    let r = is_read bs w.0 w.1 in
    let same : program_of w.0 ≡ p = of_one (program_of w.0) p r.is_program h (sym r.same ∙ e) in
    inl (ap right (w.2 ∙ same))
  where
    right : Program → Result Program ListFault
    right p = Ok p
read_back bs (Err (list_fault.At n k)) w g p h e l =
    let short : length (listing p) ≤ byte_limit = subst (λ bs. length bs ≤ byte_limit) e l in
    absurd (subst IsFaultless (sym e) (faultless p h short) n k (fault_is_first bs n k g).offends)
read_back bs (Err list_fault.NoMemory) w g p h e l = inr refl
