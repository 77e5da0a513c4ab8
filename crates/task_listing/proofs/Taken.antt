-- The lines that are awaited, and what one line makes of a reader.
use Rattle.std.proofs.Common.{◌≡◌, ◌∙◌, ℕ, zero, suc, ◌+◌, ◌-◌, ◌<◌, List, [], ◌∷◌, ◌++◌, Bool, true, false, cond, Option, Some, None, Result, Ok, Err, refl, sym, ap, arith, replicate, slice_get}
use Rattle.std.specs.Prelude.{codes, bytes_eq}
use Rattle.std.specs.Str.Parse.{digits_value}
use Rattle.task_listing.specs.declared.fault.ListKind.{ListKind}
use Rattle.task_listing.specs.declared.fault.ListKind.TheVariants as fault
use Rattle.task_listing.specs.declared.fault.ListFault.{ListFault}
use Rattle.task_listing.specs.declared.fault.ListFault.TheVariants as list_fault
use Rattle.task_listing.specs.declared.kind.Kind.{Kind}
use Rattle.task_listing.specs.declared.kind.Kind.TheVariants as kind
use Rattle.task_listing.specs.declared.reading.Stage.TheVariants as stage
use Rattle.task_listing.specs.declared.reading.Reader.{Reader}
use Rattle.task_listing.specs.Lines.{Bytes, words}
use Rattle.task_listing.specs.Numbers.{is_word}
use Rattle.task_listing.specs.Context.{numbers, behind}
use Rattle.task_listing.specs.Answers.{Answer, when, number_in, or_err, count_up_to, count, priority, both, task_line}
use Rattle.task_listing.specs.Judging.{State, judge, next_kind, next_by, next, walk, walk_on, fault_in, with_awaits, marked, is_zero}
use Rattle.task_listing.specs.Reading.{is_empty, awaits_of, state_of, Takes, TakesAny, opened, with_ended}
use Rattle.task_listing.specs.Draft.{numbered}

pub takes_any : (k : Kind) (ks : List Kind) (old new : Reader) (n : ℕ) (ws : List Bytes) (r : Result (Unit {0}) ListFault) → awaits_of old.stage ≡ k ∷ ks → Takes k ks old new n ws r → TakesAny old new n ws r
takes_any k ks old new n ws (Ok u) e h = (ap (λ ls. judge ls ws) e ∙ h.0, h.1 ∙ sym (ap (λ ls. next_by ls (state_of old) n ws) e))
takes_any k ks old new n ws (Err (list_fault.At m j)) e h = (h.0, ap (λ ls. judge ls ws) e ∙ h.1)
takes_any k ks old new n ws (Err list_fault.NoMemory) e h = h

replicate_more : (k : Kind) (n : ℕ) → 0 < n → replicate n k ≡ k ∷ replicate (n - 1) k
replicate_more k zero h = absurd (omega (arith, h))
replicate_more k (suc n) h = let e : suc n - 1 ≡ n = omega arith in ap (λ m. k ∷ replicate m k) (sym e)

pub awaits_monitors : (n : ℕ) → 0 < n → awaits_of (stage.MonitorLines n) ≡ kind.Monitor ∷ awaits_of (stage.MonitorLines (n - 1))
awaits_monitors n h = ap (λ l. l ++ kind.Outputs ∷ kind.Tasks ∷ kind.Ending ∷ []) (replicate_more kind.Monitor n h)

pub awaits_outputs : (n : ℕ) → 0 < n → awaits_of (stage.OutputLines n) ≡ kind.Output ∷ awaits_of (stage.OutputLines (n - 1))
awaits_outputs n h = ap (λ l. l ++ kind.Tasks ∷ kind.Ending ∷ []) (replicate_more kind.Output n h)

pub awaits_no_monitors : (n : ℕ) → n ≡ 0 → awaits_of (stage.MonitorLines n) ≡ kind.Outputs ∷ awaits_of (stage.OutputLines 0)
awaits_no_monitors n e = ap (λ n. awaits_of (stage.MonitorLines n)) e

pub awaits_no_outputs : (n : ℕ) → n ≡ 0 → awaits_of (stage.OutputLines n) ≡ kind.Tasks ∷ awaits_of (stage.TaskLines 0 0 0)
awaits_no_outputs n e = ap (λ n. awaits_of (stage.OutputLines n)) e

pub awaits_buffers : (b c t : ℕ) → 0 < b → awaits_of (stage.TaskLines b c t) ≡ kind.Buffer ∷ awaits_of (stage.TaskLines (b - 1) c t)
awaits_buffers b c t h = ap (λ l. (l ++ replicate c kind.Instruction) ++ replicate t kind.Task ++ kind.Ending ∷ []) (replicate_more kind.Buffer b h)

pub awaits_code : (b c t : ℕ) → b ≡ 0 → 0 < c → awaits_of (stage.TaskLines b c t) ≡ kind.Instruction ∷ awaits_of (stage.TaskLines 0 (c - 1) t)
awaits_code b c t e h =
    ap (λ b. (replicate b kind.Buffer ++ replicate c kind.Instruction) ++ replicate t kind.Task ++ kind.Ending ∷ []) e
    ∙ ap (λ l. l ++ replicate t kind.Task ++ kind.Ending ∷ []) (replicate_more kind.Instruction c h)

pub awaits_tasks : (b c t : ℕ) → b ≡ 0 → c ≡ 0 → 0 < t → awaits_of (stage.TaskLines b c t) ≡ kind.Task ∷ awaits_of (stage.TaskLines 0 0 (t - 1))
awaits_tasks b c t e f h =
    ap (λ b. (replicate b kind.Buffer ++ replicate c kind.Instruction) ++ replicate t kind.Task ++ kind.Ending ∷ []) e
    ∙ ap (λ c. replicate c kind.Instruction ++ replicate t kind.Task ++ kind.Ending ∷ []) f
    ∙ ap (λ l. l ++ kind.Ending ∷ []) (replicate_more kind.Task t h)

pub awaits_ending : (b c t : ℕ) → b ≡ 0 → c ≡ 0 → t ≡ 0 → awaits_of (stage.TaskLines b c t) ≡ kind.Ending ∷ []
awaits_ending b c t e f g =
    ap (λ b. (replicate b kind.Buffer ++ replicate c kind.Instruction) ++ replicate t kind.Task ++ kind.Ending ∷ []) e
    ∙ ap (λ c. replicate c kind.Instruction ++ replicate t kind.Task ++ kind.Ending ∷ []) f
    ∙ ap (λ t. replicate t kind.Task ++ kind.Ending ∷ []) g

-- ---- the numbers of a `task` line

or_err_is : {A : Type 0} (k : ListKind) (o : Option A) (a : A) → or_err k o ≡ Ok a → o ≡ Some a
or_err_is k None a h = cc
or_err_is k (Some b) a h = let e : b ≡ a = cc in ap Some e

if_word_is : {A : Type 0} (b : Bool) (r : Answer A) (a : A) → cond b r (Err fault.Line) ≡ Ok a → r ≡ Ok a
if_word_is true r a h = h
if_word_is false r a h = cc

when_is : (b : Bool) (v n : ℕ) → when b v ≡ Some n → v ≡ n
when_is true v n h = cc
when_is false v n h = cc

pub counts : (most : ℕ) (w : Bytes) (n : ℕ) → count_up_to most w ≡ Ok n → digits_value 10 w ≡ n
counts most w n h = when_is _ _ n (or_err_is fault.Number (number_in 0 most w) n (if_word_is (is_word w) (or_err fault.Number (number_in 0 most w)) n h))

both_is : {A B : Type 0} (x : Answer A) (y : Answer B) (p : A × B) → both x y ≡ Ok p → (x ≡ Ok p.0) × (y ≡ Ok p.1)
both_is (Ok a) (Ok b) p h = let e : (a, b) ≡ p = cc in (ap (λ q. Ok q.0) e, ap (λ q. Ok q.1) e)
both_is (Ok a) (Err k) p h = cc
both_is (Err k) (Ok b) p h = cc
both_is (Err k) (Err j) p h = cc

head_is : {A : Type 0} (b : Bool) (r : Answer A) (a : A) → cond b r (Err fault.Line) ≡ Ok a → r ≡ Ok a
head_is = if_word_is

abbrev listed_task : ℕ × ((ℕ × ℕ) × (ℕ × ℕ)) → List ℕ
listed_task (p, ((m, r), (b, c))) = p ∷ m ∷ r ∷ b ∷ c ∷ []

five : (a b c d e a' b' c' d' e' : ℕ) → a ≡ a' → b ≡ b' → c ≡ c' → d ≡ d' → e ≡ e' → (a ∷ b ∷ c ∷ d ∷ e ∷ []) ≡ (a' ∷ b' ∷ c' ∷ d' ∷ e' ∷ [])
five a b c d e a' b' c' d' e' p q r s t = λ i. p i ∷ q i ∷ r i ∷ s i ∷ t i ∷ []

task_numbers : (ws : List Bytes) (t : ℕ × ((ℕ × ℕ) × (ℕ × ℕ))) → task_line ws ≡ Ok t → numbers ws ≡ listed_task t
task_numbers [] t h = cc
task_numbers (a ∷ []) t h = cc
task_numbers (a ∷ p ∷ []) t h = cc
task_numbers (a ∷ p ∷ m ∷ []) t h = cc
task_numbers (a ∷ p ∷ m ∷ r ∷ []) t h = cc
task_numbers (a ∷ p ∷ m ∷ r ∷ b ∷ []) t h = cc
task_numbers (a ∷ p ∷ m ∷ r ∷ b ∷ c ∷ x ∷ xs) t h = cc
task_numbers (a ∷ p ∷ m ∷ r ∷ b ∷ c ∷ []) (p', ((m', r'), (b', c'))) h =
    let all = head_is (bytes_eq a (codes "task")) (both (priority p) (both (both (count m) (count r)) (both (count b) (count c)))) (p', ((m', r'), (b', c'))) h in
    let u = both_is (priority p) (both (both (count m) (count r)) (both (count b) (count c))) (p', ((m', r'), (b', c'))) all in
    let v = both_is (both (count m) (count r)) (both (count b) (count c)) ((m', r'), (b', c')) u.1 in
    let x = both_is (count m) (count r) (m', r') v.0 in
    let y = both_is (count b) (count c) (b', c') v.1 in
    five _ _ _ _ _ p' m' r' b' c' (counts 255 p p' u.0) (counts 1048576 m m' x.0) (counts 1048576 r r' x.1) (counts 1048576 b b' y.0) (counts 1048576 c c' y.1)

abbrev next_of : List Kind → State → ℕ → List ℕ → State
next_of ks s n ns = record { context = behind kind.Task ns (with_awaits ks s.context); place = marked s.place (is_zero (slice_get ns 1)) n; draft = numbered kind.Task s.context.head ns s.draft }

opened_is : (ks : List Kind) (s : State) (n : ℕ) (ws : List Bytes) (t : ℕ × ((ℕ × ℕ) × (ℕ × ℕ))) → numbers ws ≡ listed_task t → opened ks (with_ended s) n t ≡ next_kind kind.Task (record s { context = with_awaits ks s.context }) n ws
opened_is ks s n ws (p, ((m, r), (b, c))) e = ap (next_of ks s n) (sym e)

-- a task was opened by a line
pub task_taken : (ks : List Kind) (s new : State) (n : ℕ) (ws : List Bytes) (t : ℕ × ((ℕ × ℕ) × (ℕ × ℕ))) → task_line ws ≡ Ok t → new ≡ opened ks (with_ended s) n t → (fault_in (task_line ws) ≡ None) × (new ≡ next_kind kind.Task (record s { context = with_awaits ks s.context }) n ws)
task_taken ks s new n ws t h e = (ap fault_in h, e ∙ opened_is ks s n ws t (task_numbers ws t h))

pub task_six : (w p m r b c : Bytes) → bytes_eq w (codes "task") ≡ true → both (priority p) (both (both (count m) (count r)) (both (count b) (count c))) ≡ task_line (w ∷ p ∷ m ∷ r ∷ b ∷ c ∷ [])
task_six w p m r b c e = ap (λ t. cond t (both (priority p) (both (both (count m) (count r)) (both (count b) (count c)))) (Err fault.Line)) (sym e)

-- ---- lines are awaited

awaits_some : (k j : Kind) (ks : List Kind) (n : ℕ) → is_empty (replicate n k ++ j ∷ ks) ≡ false
awaits_some k j ks zero = refl
awaits_some k j ks (suc n) = refl

some_behind : (k j : Kind) (js ks : List Kind) (n : ℕ) → is_empty (js ++ replicate n k ++ j ∷ ks) ≡ false
some_behind k j [] ks n = awaits_some k j ks n
some_behind k j (i ∷ js) ks n = refl

pub monitors_left : (n : ℕ) → is_empty (awaits_of (stage.MonitorLines n)) ≡ false
monitors_left n = awaits_some kind.Monitor kind.Outputs (kind.Tasks ∷ kind.Ending ∷ []) n

pub outputs_left : (n : ℕ) → is_empty (awaits_of (stage.OutputLines n)) ≡ false
outputs_left n = awaits_some kind.Output kind.Tasks (kind.Ending ∷ []) n

pub tasks_left : (b c t : ℕ) → is_empty (awaits_of (stage.TaskLines b c t)) ≡ false
tasks_left b c t = some_behind kind.Task kind.Ending (replicate b kind.Buffer ++ replicate c kind.Instruction) [] t

-- ---- the walk

pub walk_step : (s new : State) (n : ℕ) (l : Bytes) (ls ws : List Bytes) → words l ≡ ws → judge s.context.awaits ws ≡ None → new ≡ next s n ws → walk s n (l ∷ ls) ≡ walk new (n + 1) ls
walk_step s new n l ls ws e h f =
    ap (λ k. walk_on k n (walk (next s n (words l)) (n + 1) ls)) (ap (judge s.context.awaits) e ∙ h)
    ∙ ap (λ ws. walk (next s n ws) (n + 1) ls) e
    ∙ ap (λ s. walk s (n + 1) ls) (sym f)

pub walk_stop : (s : State) (n : ℕ) (l : Bytes) (ls ws : List Bytes) (k : ListKind) → words l ≡ ws → judge s.context.awaits ws ≡ Some k → walk s n (l ∷ ls) ≡ Err (n, k)
walk_stop s n l ls ws k e h = ap (λ k. walk_on k n (walk (next s n (words l)) (n + 1) ls)) (ap (judge s.context.awaits) e ∙ h)
