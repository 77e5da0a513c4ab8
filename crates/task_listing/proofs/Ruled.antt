-- The rules that a program keeps of which the lines are taken, and that the lines of one are taken that keeps them.
use Rattle.std.proofs.Common.{◌≡◌, ◌∙◌, ℕ, ◌+◌, ◌*◌, ◌<◌, ◌≤◌, ◌^◌, List, [], ◌∷◌, ◌++◌, length, map, Bool, true, false, refl, sym, ap, arith, append_assoc, append-nil}
use Rattle.std.specs.Prelude.{sum, ◌&&◌, nat_lt, nat_le, slice_index}
use Rattle.std.specs.List.{All}
use Rattle.std.proofs.lemmas.Bool.{ltb-true, lt-ltb, leb-true, le-leb}
use Rattle.std.proofs.lemmas.List.Sums.{sum_by-cons}
use Rattle.std.proofs.lemmas.List.Elements.{All-nil, All-cons, All-head, All-tail}
use Rattle.task_code.specs.declared.program.Buffer.{Buffer}
use Rattle.task_code.specs.declared.program.Task.{Task}
use Rattle.task_code.specs.declared.program.Instr.{Instr}
use Rattle.task_code.specs.declared.program.Instr.TheVariants as instr
use Rattle.task_code.specs.Program.{Program}
use Rattle.task_code.specs.Rules.{most_words, most_instructions, IsRange, IsInstr, IsBuffer, IsTask, KeepsRules, task_words, all_words, all_instructions}
use Rattle.task_listing.specs.declared.rules.Head.{Head}
use Rattle.task_listing.specs.Context.{counted_to}
use Rattle.task_listing.specs.Draft.{ended_task}
use Rattle.task_listing.specs.Judging.{is_range, keeps}
use Rattle.task_listing.specs.InstrRows.{IsOperands, IsSmall}
use Rattle.task_listing.proofs.Runs.{Known, puts, AllFit}
use Rattle.task_listing.proofs.Items.{IsFew, put_monitor, put_output, put_buffer, FitsBuffer, put_instr, FitsInstr, begin_task, with_buffers, put_task, FitsTask}
use Rattle.task_listing.proofs.Programs.{fresh, with_monitors, with_outputs, final, FitsProgram}

-- ---- what items make of what is known

counted_more : (limit w v n : ℕ) → v ≡ counted_to limit w → counted_to limit (v + n) ≡ counted_to limit (w + n)
counted_more limit w v n e = omega (arith, e)

sum_more : (w n : ℕ) (ns : List ℕ) → w + n + sum ns ≡ w + sum (n ∷ ns)
sum_more w n ns = omega (arith, sum_by-cons (λ x. x) n ns)

monitors_put : (ns : List ℕ) (s : Known) → puts put_monitor ns s ≡ record s { monitors = s.monitors ++ ns; words = (puts put_monitor ns s).words }
monitors_put [] s = ap (λ ms. record s { monitors = ms }) (sym (append-nil s.monitors))
monitors_put (n ∷ ns) s = monitors_put ns (put_monitor n s) ∙ ap (λ ms. record s { monitors = ms; words = (puts put_monitor ns (put_monitor n s)).words }) (append_assoc s.monitors (n ∷ []) ns)

monitors_words : (ns : List ℕ) (s : Known) (w : ℕ) → s.words ≡ counted_to most_words w → (puts put_monitor ns s).words ≡ counted_to most_words (w + sum ns)
monitors_words [] s w e = e ∙ (let z : w ≡ w + sum [] = omega arith in ap (counted_to most_words) z)
monitors_words (n ∷ ns) s w e =
    monitors_words ns (put_monitor n s) (w + n) (counted_more most_words w s.words n e) ∙ ap (counted_to most_words) (sum_more w n ns)

outputs_put : (ns : List ℕ) (s : Known) → puts put_output ns s ≡ record s { outputs = s.outputs ++ ns }
outputs_put [] s = ap (λ os. record s { outputs = os }) (sym (append-nil s.outputs))
outputs_put (n ∷ ns) s = outputs_put ns (put_output n s) ∙ ap (λ os. record s { outputs = os }) (append_assoc s.outputs (n ∷ []) ns)

abbrev buffer_words : Buffer → ℕ
buffer_words b = b.bound * b.width

buffers_put : (bs : List Buffer) (s : Known) → puts put_buffer bs s ≡ record s { words = (puts put_buffer bs s).words; draft = record s.draft { buffers = s.draft.buffers ++ bs } }
buffers_put [] s = ap (λ bs. record s { draft = record s.draft { buffers = bs } }) (sym (append-nil s.draft.buffers))
buffers_put (b ∷ bs) s =
    buffers_put bs (put_buffer b s) ∙ ap (λ cs. record s { words = (puts put_buffer bs (put_buffer b s)).words; draft = record s.draft { buffers = cs } }) (append_assoc s.draft.buffers (b ∷ []) bs)

buffers_words : (bs : List Buffer) (s : Known) (w : ℕ) → s.words ≡ counted_to most_words w → (puts put_buffer bs s).words ≡ counted_to most_words (w + sum (map (λ b. b.bound * b.width) bs))
buffers_words [] s w e = e ∙ (let z : w ≡ w + sum [] = omega arith in ap (counted_to most_words) z)
buffers_words (b ∷ bs) s w e =
    buffers_words bs (put_buffer b s) (w + buffer_words b) (counted_more most_words w s.words (buffer_words b) e)
    ∙ ap (counted_to most_words) (sum_more w (buffer_words b) (map (λ b. b.bound * b.width) bs))

code_put : (cs : List Instr) (s : Known) → puts put_instr cs s ≡ record s { draft = record s.draft { code = s.draft.code ++ cs } }
code_put [] s = ap (λ cs. record s { draft = record s.draft { code = cs } }) (sym (append-nil s.draft.code))
code_put (c ∷ cs) s = code_put cs (put_instr c s) ∙ ap (λ cs. record s { draft = record s.draft { code = cs } }) (append_assoc s.draft.code (c ∷ []) cs)

-- behind a task
abbrev behind_task : ℕ → Task → Known → Known
behind_task w t s = record (begin_task t s) { words = w; draft = record (begin_task t s).draft { buffers = t.buffers; code = t.code } }

task_put : (t : Task) (s : Known) → put_task t s ≡ behind_task (with_buffers t s).words t s
task_put t s =
    code_put t.code (with_buffers t s)
    ∙ ap (λ (v : Known). record v { draft = record v.draft { code = v.draft.code ++ t.code } }) (buffers_put t.buffers (begin_task t s))

task_counts : (t : Task) (s : Known) (w : ℕ) → s.words ≡ counted_to most_words w → (put_task t s).words ≡ counted_to most_words (w + task_words t)
task_counts t s w e =
    let z : w + t.room + sum (map (λ b. b.bound * b.width) t.buffers) ≡ w + task_words t = omega arith in
    ap (λ (v : Known). v.words) (task_put t s)
    ∙ buffers_words t.buffers (begin_task t s) (w + t.room) (counted_more most_words w s.words t.room e)
    ∙ ap (counted_to most_words) z

task_executes : (t : Task) (s : Known) (w : ℕ) → s.instructions ≡ counted_to most_instructions w → (put_task t s).instructions ≡ counted_to most_instructions (w + length t.code)
task_executes t s w e = ap (λ (v : Known). v.instructions) (task_put t s) ∙ counted_more most_instructions w s.instructions (length t.code) e

tasks_words : (ts : List Task) (s : Known) (w : ℕ) → s.words ≡ counted_to most_words w → (puts put_task ts s).words ≡ counted_to most_words (w + sum (map task_words ts))
tasks_words [] s w e = e ∙ (let z : w ≡ w + sum [] = omega arith in ap (counted_to most_words) z)
tasks_words (t ∷ ts) s w e = tasks_words ts (put_task t s) (w + task_words t) (task_counts t s w e) ∙ ap (counted_to most_words) (sum_more w (task_words t) (map task_words ts))

tasks_instructions : (ts : List Task) (s : Known) (w : ℕ) → s.instructions ≡ counted_to most_instructions w → (puts put_task ts s).instructions ≡ counted_to most_instructions (w + sum (map (λ t. length t.code) ts))
tasks_instructions [] s w e = e ∙ (let z : w ≡ w + sum [] = omega arith in ap (counted_to most_instructions) z)
tasks_instructions (t ∷ ts) s w e =
    tasks_instructions ts (put_task t s) (w + length t.code) (task_executes t s w e) ∙ ap (counted_to most_instructions) (sum_more w (length t.code) (map (λ t. length t.code) ts))

-- all tasks, with the last
abbrev pub tasks_of : Known → List Task
tasks_of s = (ended_task s.head s.draft).tasks

tasks_put : (ts : List Task) (s : Known) → tasks_of (puts put_task ts s) ≡ tasks_of s ++ ts
tasks_put [] s = sym (append-nil (tasks_of s))
tasks_put (t ∷ ts) s = tasks_put ts (put_task t s) ∙ ap (λ (v : Known). tasks_of v ++ ts) (task_put t s) ∙ append_assoc (tasks_of s) (t ∷ []) ts

tasks_monitors : (ts : List Task) (s : Known) → (puts put_task ts s).monitors ≡ s.monitors
tasks_monitors [] s = refl
tasks_monitors (t ∷ ts) s = tasks_monitors ts (put_task t s) ∙ ap (λ (v : Known). v.monitors) (task_put t s)

tasks_outputs : (ts : List Task) (s : Known) → (puts put_task ts s).outputs ≡ s.outputs
tasks_outputs [] s = refl
tasks_outputs (t ∷ ts) s = tasks_outputs ts (put_task t s) ∙ ap (λ (v : Known). v.outputs) (task_put t s)

-- ---- of a whole program

monitors_first : (ms : List ℕ) → (with_monitors ms).monitors ≡ ms
monitors_first ms = ap (λ (v : Known). v.monitors) (monitors_put ms fresh)

outputs_monitors : (ms os : List ℕ) → (with_outputs ms os).monitors ≡ ms
outputs_monitors ms os = ap (λ (v : Known). v.monitors) (outputs_put os (with_monitors ms)) ∙ monitors_first ms

outputs_first : (ms os : List ℕ) → (with_outputs ms os).outputs ≡ os
outputs_first ms os = ap (λ (v : Known). v.outputs) (outputs_put os (with_monitors ms)) ∙ ap (λ (v : Known). v.outputs ++ os) (monitors_put ms fresh)

pub final_monitors : (p : Program) → (final p).monitors ≡ p.monitors
final_monitors p = tasks_monitors p.tasks (with_outputs p.monitors p.outputs) ∙ outputs_monitors p.monitors p.outputs

pub final_outputs : (p : Program) → (final p).outputs ≡ p.outputs
final_outputs p = tasks_outputs p.tasks (with_outputs p.monitors p.outputs) ∙ outputs_first p.monitors p.outputs

pub final_tasks : (p : Program) → (final p).draft.tasks ≡ p.tasks
final_tasks p =
    tasks_put p.tasks (with_outputs p.monitors p.outputs)
    ∙ ap (λ (v : Known). tasks_of v ++ p.tasks) (outputs_put p.outputs (with_monitors p.monitors))
    ∙ ap (λ (v : Known). tasks_of v ++ p.tasks) (monitors_put p.monitors fresh)

pub final_words : (p : Program) → (final p).words ≡ counted_to most_words (all_words p)
final_words p =
    let z : 0 + sum p.monitors + sum (map task_words p.tasks) ≡ all_words p = omega arith in
    tasks_words p.tasks (with_outputs p.monitors p.outputs) (0 + sum p.monitors)
    (ap (λ (v : Known). v.words) (outputs_put p.outputs (with_monitors p.monitors)) ∙ monitors_words p.monitors fresh 0 (omega arith))
    ∙ ap (counted_to most_words) z

pub final_instructions : (p : Program) → (final p).instructions ≡ counted_to most_instructions (all_instructions p)
final_instructions p =
    let z : 0 + sum (map (λ t. length t.code) p.tasks) ≡ all_instructions p = omega arith in
    tasks_instructions p.tasks (with_outputs p.monitors p.outputs) 0
    (ap (λ (v : Known). v.instructions) (outputs_put p.outputs (with_monitors p.monitors)) ∙ ap (λ (v : Known). v.instructions) (monitors_put p.monitors fresh) ∙ omega arith)
    ∙ ap (counted_to most_instructions) z

-- ---- the rules of an instruction

abbrev head_of : Task → Head
head_of t = record { message = t.message; room = t.room; buffers = length t.buffers; code = length t.code }

and_true : (a b : Bool) → a && b ≡ true → (a ≡ true) × (b ≡ true)
and_true true b h = (refl, h)
and_true false b h = cc

true_and : (a b : Bool) → a ≡ true → b ≡ true → a && b ≡ true
true_and true true p q = refl
true_and true false p q = cc
true_and false b p q = cc

range_of : (a n room : ℕ) → is_range a n room ≡ true → IsRange a n room
range_of a n room h = let k = and_true (nat_le 1 n) (nat_le (a + n) room) h in (leb-true 1 n k.0, leb-true (a + n) room k.1)

of_range : (a n room : ℕ) → IsRange a n room → is_range a n room ≡ true
of_range a n room h = true_and (nat_le 1 n) (nat_le (a + n) room) (le-leb 1 n h.0) (le-leb (a + n) room h.1)

monitor_of : (ms : List ℕ) (m a n : ℕ) → nat_lt m (length ms) && is_range a n (slice_index ms m) ≡ true → (m < length ms) × IsRange a n (slice_index ms m)
monitor_of ms m a n h = let k = and_true (nat_lt m (length ms)) (is_range a n (slice_index ms m)) h in (ltb-true m (length ms) k.0, range_of a n (slice_index ms m) k.1)

rule_of : (p : Program) (t : Task) (i : Instr) → IsOperands i → keeps p.monitors p.outputs (head_of t) i ≡ true → IsInstr p t i
rule_of p t (instr.Push n) o h = o
rule_of p t instr.Drop o h = tt
rule_of p t instr.Dup o h = tt
rule_of p t (instr.Ld a) o h = ltb-true a t.room h
rule_of p t (instr.St a) o h = ltb-true a t.room h
rule_of p t (instr.Ldx a n) o h = range_of a n t.room h
rule_of p t (instr.Stx a n) o h = range_of a n t.room h
rule_of p t (instr.Ldm m a n) o h = monitor_of p.monitors m a n h
rule_of p t (instr.Stm m a n) o h = monitor_of p.monitors m a n h
rule_of p t (instr.Un op s) o h = o
rule_of p t (instr.Bin op s) o h = o
rule_of p t (instr.Cast s) o h = (o, h)
rule_of p t (instr.Jmp to) o h = ltb-true to (length t.code) h
rule_of p t (instr.Jz to) o h = ltb-true to (length t.code) h
rule_of p t (instr.Call to) o h = ltb-true to (length t.code) h
rule_of p t instr.Ret o h = tt
rule_of p t (instr.Take a) o h = leb-true (a + t.message) t.room h
rule_of p t (instr.Lock m) o h = ltb-true m (length p.monitors) h
rule_of p t (instr.Unlock m) o h = ltb-true m (length p.monitors) h
rule_of p t (instr.Out w a) o h =
    let k = and_true (nat_lt w (length p.outputs)) (nat_le (a + slice_index p.outputs w) t.room) h in (ltb-true w (length p.outputs) k.0, leb-true (a + slice_index p.outputs w) t.room k.1)
rule_of p t (instr.Bclr b) o h = ltb-true b (length t.buffers) h
rule_of p t (instr.Bput b) o h = ltb-true b (length t.buffers) h
rule_of p t (instr.Badd b) o h = ltb-true b (length t.buffers) h
rule_of p t (instr.Bget b) o h = ltb-true b (length t.buffers) h
rule_of p t (instr.Bcnt b) o h = ltb-true b (length t.buffers) h

-- what an instruction stands behind is that of the task
record Stands (p : Program) (t : Task) (s : Known) : Type 0 where
  monitors : s.monitors ≡ p.monitors
  outputs : s.outputs ≡ p.outputs
  head : s.head ≡ head_of t

instr_rule : (p : Program) (t : Task) (s : Known) (i : Instr) → Stands p t s → FitsInstr s i → IsInstr p t i
instr_rule p t s i e h = rule_of p t i h.operands ((λ j. keeps (sym e.monitors j) (sym e.outputs j) (sym e.head j) i) ∙ h.kept)

code_rules : (p : Program) (t : Task) (s : Known) (cs : List Instr) → Stands p t s → AllFit put_instr FitsInstr s cs → All (IsInstr p t) cs
code_rules p t s [] e h = All-nil (IsInstr p t)
code_rules p t s (c ∷ cs) e h =
    All-cons (IsInstr p t) c cs (instr_rule p t s c e h.0) (code_rules p t (put_instr c s) cs (record { monitors = e.monitors; outputs = e.outputs; head = e.head }) h.1)

buffer_rules : (bs : List Buffer) (s : Known) → AllFit put_buffer FitsBuffer s bs → All IsBuffer bs
buffer_rules [] s h = All-nil IsBuffer
buffer_rules (b ∷ bs) s h = All-cons IsBuffer b bs h.0 (buffer_rules bs (put_buffer b s) h.1)

stands_behind : (p : Program) (t : Task) (s : Known) → s.monitors ≡ p.monitors → s.outputs ≡ p.outputs → Stands p t (with_buffers t s)
stands_behind p t s m o = record {
  monitors = ap (λ (v : Known). v.monitors) (buffers_put t.buffers (begin_task t s)) ∙ m;
  outputs = ap (λ (v : Known). v.outputs) (buffers_put t.buffers (begin_task t s)) ∙ o;
  head = ap (λ (v : Known). v.head) (buffers_put t.buffers (begin_task t s));
}

task_rules : (p : Program) (t : Task) (s : Known) → s.monitors ≡ p.monitors → s.outputs ≡ p.outputs → FitsTask s t → IsTask p t
task_rules p t s m o h = record {
  message = h.message;
  room = h.room;
  few_buffers = h.few_buffers;
  buffers = buffer_rules t.buffers (begin_task t s) h.buffers;
  code = code_rules p t (with_buffers t s) t.code (stands_behind p t s m o) h.code;
}

behind_monitors : (t : Task) (s : Known) → (put_task t s).monitors ≡ s.monitors
behind_monitors t s = ap (λ (v : Known). v.monitors) (task_put t s)

behind_outputs : (t : Task) (s : Known) → (put_task t s).outputs ≡ s.outputs
behind_outputs t s = ap (λ (v : Known). v.outputs) (task_put t s)

tasks_rules : (p : Program) (ts : List Task) (s : Known) → s.monitors ≡ p.monitors → s.outputs ≡ p.outputs → AllFit put_task FitsTask s ts → All (IsTask p) ts
tasks_rules p [] s m o h = All-nil (IsTask p)
tasks_rules p (t ∷ ts) s m o h =
    All-cons (IsTask p) t ts (task_rules p t s m o h.0) (tasks_rules p ts (put_task t s) (behind_monitors t s ∙ m) (behind_outputs t s ∙ o) h.1)

monitor_rules : (ns : List ℕ) (s : Known) → AllFit put_monitor IsFew s ns → All (λ n. n ≤ most_words) ns
monitor_rules [] s h = All-nil (λ n. n ≤ most_words)
monitor_rules (n ∷ ns) s h = All-cons (λ n. n ≤ most_words) n ns h.0 (monitor_rules ns (put_monitor n s) h.1)

output_rules : (ns : List ℕ) (s : Known) → AllFit put_output IsFew s ns → All (λ n. n ≤ most_words) ns
output_rules [] s h = All-nil (λ n. n ≤ most_words)
output_rules (n ∷ ns) s h = All-cons (λ n. n ≤ most_words) n ns h.0 (output_rules ns (put_output n s) h.1)

-- a program of which the lines are taken keeps the rules, where it is not too large
pub fits_keeps : (p : Program) → FitsProgram p → (final p).words ≤ most_words → (final p).instructions ≤ most_instructions → KeepsRules p
fits_keeps p h w i = record {
  few_monitors = h.few_monitors;
  few_outputs = h.few_outputs;
  few_tasks = h.few_tasks;
  monitors = monitor_rules p.monitors fresh h.monitors;
  outputs = output_rules p.outputs (with_monitors p.monitors) h.outputs;
  tasks = tasks_rules p p.tasks (with_outputs p.monitors p.outputs) (outputs_monitors p.monitors p.outputs) (outputs_first p.monitors p.outputs) h.tasks;
  words = omega (arith, w, final_words p);
  instructions = omega (arith, i, final_instructions p);
}

-- ---- and the other way

-- the numbers that an instruction's operands are compared with
record Bounds (p : Program) (t : Task) : Type 0 where
  few_monitors : length p.monitors ≤ most_words
  monitors : All (λ n. n ≤ most_words) p.monitors
  few_outputs : length p.outputs ≤ most_words
  room : t.room ≤ most_words
  few_buffers : length t.buffers ≤ most_words
  few_code : length t.code ≤ most_words

record Back (p : Program) (t : Task) (i : Instr) : Type 0 where
  operands : IsOperands i
  small : IsSmall i
  kept : keeps p.monitors p.outputs (head_of t) i ≡ true

index_few : (ms : List ℕ) (m : ℕ) → All (λ n. n ≤ most_words) ms → m < length ms → slice_index ms m ≤ most_words
index_few ms m h l = h m 0 l

monitor_back : (ms : List ℕ) (m a n : ℕ) → length ms ≤ most_words → All (λ n. n ≤ most_words) ms → (m < length ms) × IsRange a n (slice_index ms m)
    → ((m < 2 ^ 32) × (a < 2 ^ 32) × (n < 2 ^ 32)) × (nat_lt m (length ms) && is_range a n (slice_index ms m) ≡ true)
monitor_back ms m a n few each h =
    let k = index_few ms m each h.0 in (
      (omega (arith, few, h.0), omega (arith, k, h.1.1), omega (arith, k, h.1.1)),
      true_and (nat_lt m (length ms)) (is_range a n (slice_index ms m)) (lt-ltb m (length ms) h.0) (of_range a n (slice_index ms m) h.1),
    )

rule_back : (p : Program) (t : Task) (i : Instr) → Bounds p t → IsInstr p t i → Back p t i
rule_back p t (instr.Push n) b h = record { operands = h; small = tt; kept = refl }
rule_back p t instr.Drop b h = record { operands = tt; small = tt; kept = refl }
rule_back p t instr.Dup b h = record { operands = tt; small = tt; kept = refl }
rule_back p t (instr.Ld a) b h = record { operands = tt; small = omega (arith, b.room, h); kept = lt-ltb a t.room h }
rule_back p t (instr.St a) b h = record { operands = tt; small = omega (arith, b.room, h); kept = lt-ltb a t.room h }
rule_back p t (instr.Ldx a n) b h = record { operands = tt; small = (omega (arith, b.room, h.1), omega (arith, b.room, h.1)); kept = of_range a n t.room h }
rule_back p t (instr.Stx a n) b h = record { operands = tt; small = (omega (arith, b.room, h.1), omega (arith, b.room, h.1)); kept = of_range a n t.room h }
rule_back p t (instr.Ldm m a n) b h = let k = monitor_back p.monitors m a n b.few_monitors b.monitors h in record { operands = tt; small = k.0; kept = k.1 }
rule_back p t (instr.Stm m a n) b h = let k = monitor_back p.monitors m a n b.few_monitors b.monitors h in record { operands = tt; small = k.0; kept = k.1 }
rule_back p t (instr.Un op s) b h = record { operands = h; small = tt; kept = refl }
rule_back p t (instr.Bin op s) b h = record { operands = h; small = tt; kept = refl }
rule_back p t (instr.Cast s) b h = record { operands = h.0; small = tt; kept = h.1 }
rule_back p t (instr.Jmp to) b h = record { operands = tt; small = omega (arith, b.few_code, h); kept = lt-ltb to (length t.code) h }
rule_back p t (instr.Jz to) b h = record { operands = tt; small = omega (arith, b.few_code, h); kept = lt-ltb to (length t.code) h }
rule_back p t (instr.Call to) b h = record { operands = tt; small = omega (arith, b.few_code, h); kept = lt-ltb to (length t.code) h }
rule_back p t instr.Ret b h = record { operands = tt; small = tt; kept = refl }
rule_back p t (instr.Take a) b h = record { operands = tt; small = omega (arith, b.room, h); kept = le-leb (a + t.message) t.room h }
rule_back p t (instr.Lock m) b h = record { operands = tt; small = omega (arith, b.few_monitors, h); kept = lt-ltb m (length p.monitors) h }
rule_back p t (instr.Unlock m) b h = record { operands = tt; small = omega (arith, b.few_monitors, h); kept = lt-ltb m (length p.monitors) h }
rule_back p t (instr.Out w a) b h = record {
  operands = tt;
  small = (omega (arith, b.few_outputs, h.0), omega (arith, b.room, h.1));
  kept = true_and (nat_lt w (length p.outputs)) (nat_le (a + slice_index p.outputs w) t.room) (lt-ltb w (length p.outputs) h.0) (le-leb (a + slice_index p.outputs w) t.room h.1);
}
rule_back p t (instr.Bclr n) b h = record { operands = tt; small = omega (arith, b.few_buffers, h); kept = lt-ltb n (length t.buffers) h }
rule_back p t (instr.Bput n) b h = record { operands = tt; small = omega (arith, b.few_buffers, h); kept = lt-ltb n (length t.buffers) h }
rule_back p t (instr.Badd n) b h = record { operands = tt; small = omega (arith, b.few_buffers, h); kept = lt-ltb n (length t.buffers) h }
rule_back p t (instr.Bget n) b h = record { operands = tt; small = omega (arith, b.few_buffers, h); kept = lt-ltb n (length t.buffers) h }
rule_back p t (instr.Bcnt n) b h = record { operands = tt; small = omega (arith, b.few_buffers, h); kept = lt-ltb n (length t.buffers) h }

instr_fits : (p : Program) (t : Task) (s : Known) (i : Instr) → Stands p t s → Back p t i → FitsInstr s i
instr_fits p t s i e h = record { operands = h.operands; small = h.small; kept = (λ j. keeps (e.monitors j) (e.outputs j) (e.head j) i) ∙ h.kept }

code_fits : (p : Program) (t : Task) (s : Known) (cs : List Instr) → Bounds p t → Stands p t s → All (IsInstr p t) cs → AllFit put_instr FitsInstr s cs
code_fits p t s [] b e h = tt
code_fits p t s (c ∷ cs) b e h = (
  instr_fits p t s c e (rule_back p t c b (All-head (IsInstr p t) c cs h)),
  code_fits p t (put_instr c s) cs b (record { monitors = e.monitors; outputs = e.outputs; head = e.head }) (All-tail (IsInstr p t) c cs h),
)

buffers_fit : (bs : List Buffer) (s : Known) → All IsBuffer bs → AllFit put_buffer FitsBuffer s bs
buffers_fit [] s h = tt
buffers_fit (b ∷ bs) s h = (All-head IsBuffer b bs h, buffers_fit bs (put_buffer b s) (All-tail IsBuffer b bs h))

task_fits : (p : Program) (t : Task) (s : Known) → KeepsRules p → s.monitors ≡ p.monitors → s.outputs ≡ p.outputs → t.priority ≤ 255 → length t.code ≤ most_words → IsTask p t → FitsTask s t
task_fits p t s k m o prio few h = record {
  priority = prio;
  message = h.message;
  room = h.room;
  few_buffers = h.few_buffers;
  few_code = few;
  buffers = buffers_fit t.buffers (begin_task t s) h.buffers;
  code = code_fits p t (with_buffers t s) t.code (record { few_monitors = k.few_monitors; monitors = k.monitors; few_outputs = k.few_outputs; room = h.room; few_buffers = h.few_buffers; few_code = few }) (stands_behind p t s m o) h.code;
}

tasks_fit : (p : Program) (ts : List Task) (s : Known) → KeepsRules p → s.monitors ≡ p.monitors → s.outputs ≡ p.outputs → sum (map (λ t. length t.code) ts) ≤ most_instructions → All (λ t. t.priority ≤ 255) ts → All (IsTask p) ts
    → AllFit put_task FitsTask s ts
tasks_fit p [] s k m o few prio h = tt
tasks_fit p (t ∷ ts) s k m o few prio h =
    let c = sum_by-cons (λ x. x) (length t.code) (map (λ t. length t.code) ts) in
    let here : length t.code ≤ most_words = omega (arith, c, few) in
    let rest : sum (map (λ t. length t.code) ts) ≤ most_instructions = omega (arith, c, few) in (
      task_fits p t s k m o (All-head (λ t. t.priority ≤ 255) t ts prio) here (All-head (IsTask p) t ts h),
      tasks_fit p ts (put_task t s) k (behind_monitors t s ∙ m) (behind_outputs t s ∙ o) rest (All-tail (λ t. t.priority ≤ 255) t ts prio) (All-tail (IsTask p) t ts h),
    )

monitors_fit : (ns : List ℕ) (s : Known) → All (λ n. n ≤ most_words) ns → AllFit put_monitor IsFew s ns
monitors_fit [] s h = tt
monitors_fit (n ∷ ns) s h = (All-head (λ n. n ≤ most_words) n ns h, monitors_fit ns (put_monitor n s) (All-tail (λ n. n ≤ most_words) n ns h))

outputs_fit : (ns : List ℕ) (s : Known) → All (λ n. n ≤ most_words) ns → AllFit put_output IsFew s ns
outputs_fit [] s h = tt
outputs_fit (n ∷ ns) s h = (All-head (λ n. n ≤ most_words) n ns h, outputs_fit ns (put_output n s) (All-tail (λ n. n ≤ most_words) n ns h))

-- the lines of a program are taken that keeps the rules
pub keeps_fits : (p : Program) → KeepsRules p → All (λ t. t.priority ≤ 255) p.tasks → FitsProgram p
keeps_fits p k prio = record {
  few_monitors = k.few_monitors;
  monitors = monitors_fit p.monitors fresh k.monitors;
  few_outputs = k.few_outputs;
  outputs = outputs_fit p.outputs (with_monitors p.monitors) k.outputs;
  few_tasks = k.few_tasks;
  tasks = tasks_fit p p.tasks (with_outputs p.monitors p.outputs) k (outputs_monitors p.monitors p.outputs) (outputs_first p.monitors p.outputs) k.instructions prio k.tasks;
}
