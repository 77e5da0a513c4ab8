-- Programs, and the lines of their listings.
use Rattle.std.proofs.Common.{◌≡◌, ◌∙◌, ℕ, ◌+◌, ◌≤◌, List, [], ◌∷◌, ◌++◌, length, Ok, refl, sym, ap, append_assoc, append-nil}
use Rattle.std.specs.Prelude.{codes}
use Rattle.std.specs.List.{join_with_byte}
use Rattle.task_code.specs.declared.program.Task.{Task}
use Rattle.task_code.specs.Program.{Program}
use Rattle.task_code.specs.Rules.{most_words}
use Rattle.task_listing.specs.declared.kind.Kind.{Kind}
use Rattle.task_listing.specs.declared.kind.Kind.TheVariants as kind
use Rattle.task_listing.specs.Lines.{Bytes, whole_lines, behind_lines, texts}
use Rattle.task_listing.specs.Spelling.{with_numbers, written}
use Rattle.task_listing.specs.Listing.{counted, number_text, buffer_text, instr_text, task_text, task_line, listing}
use Rattle.task_listing.specs.Draft.{no_draft, ended_task}
use Rattle.task_listing.specs.Judging.{State, begun, walk}
use Rattle.task_listing.proofs.Spelled.{title_is, ending_is}
use Rattle.task_listing.proofs.Joined.{AllNoLf, all_no_lf, whole_ended, behind_ended, lines_back, texts_both}
use Rattle.task_listing.proofs.Joined as joined
use Rattle.task_listing.proofs.Runs.{Known, at, IsWhole, First, first_of, line_on, flat, puts, AllFit, counted_lines, counted_on, Counted, counted_of, counted_behind, counted_clean}
use Rattle.task_listing.proofs.Items.{number_lines, IsFew, put_monitor, put_output, monitor_block, output_block, monitors_header, outputs_header, tasks_header, buffer_lines, instr_lines, put_task, task_lines, FitsTask, task_block}

-- ---- all lines

abbrev pub fresh : Known
fresh = record { monitors = []; outputs = []; head = record { message = 0; room = 0; buffers = 0; code = 0 }; words = 0; instructions = 0; draft = no_draft }

abbrev pub with_monitors : List ℕ → Known
with_monitors ms = puts put_monitor ms fresh

abbrev pub with_outputs : List ℕ → List ℕ → Known
with_outputs ms os = puts put_output os (with_monitors ms)

abbrev pub with_tasks : List ℕ → List ℕ → List Task → Known
with_tasks ms os ts = puts put_task ts (with_outputs ms os)

abbrev last_ended : Known → Known
last_ended s = record s { draft = ended_task s.head s.draft }

-- what is known behind the lines of a program
abbrev pub final : Program → Known
final p = last_ended (with_tasks p.monitors p.outputs p.tasks)

abbrev monitor_rows : List ℕ → List Bytes
monitor_rows ms = counted_lines (codes "monitors") (number_lines (codes "monitor")) ms

abbrev output_rows : List ℕ → List Bytes
output_rows os = counted_lines (codes "outputs") (number_lines (codes "output")) os

abbrev task_rows : List Task → List Bytes
task_rows ts = counted_lines (codes "tasks") task_lines ts

-- the lines of a program's listing
abbrev pub rows : Program → List Bytes
rows p = codes "tower-listing 1" ∷ (monitor_rows p.monitors ++ (output_rows p.outputs ++ (task_rows p.tasks ++ codes "end" ∷ [])))

pub record FitsProgram (p : Program) : Type 0 where
  pub few_monitors : length p.monitors ≤ most_words
  pub monitors : AllFit put_monitor IsFew fresh p.monitors
  pub few_outputs : length p.outputs ≤ most_words
  pub outputs : AllFit put_output IsFew (with_monitors p.monitors) p.outputs
  pub few_tasks : length p.tasks ≤ most_words
  pub tasks : AllFit put_task FitsTask (with_outputs p.monitors p.outputs) p.tasks

abbrev behind_title : List Kind
behind_title = kind.Monitors ∷ kind.Outputs ∷ kind.Tasks ∷ kind.Ending ∷ []

-- the lines of a program are taken
pub program_taken : (p : Program) → FitsProgram p → walk begun 1 (rows p) ≡ Ok (at [] (final p))
program_taken p h =
    let s = with_tasks p.monitors p.outputs p.tasks in
    let ends = task_rows p.tasks ++ codes "end" ∷ [] in
    let n = 2 + length (monitor_rows p.monitors) in
    let m = n + length (output_rows p.outputs) in
    line_on kind.Title behind_title fresh (at behind_title fresh) 1 (codes "tower-listing" ∷ codes "1" ∷ []) (monitor_rows p.monitors ++ (output_rows p.outputs ++ ends)) refl refl refl
    ∙ counted_on monitors_header monitor_block p.monitors fresh (kind.Outputs ∷ kind.Tasks ∷ kind.Ending ∷ []) 2 (output_rows p.outputs ++ ends) h.few_monitors h.monitors
    ∙ counted_on outputs_header output_block p.outputs (with_monitors p.monitors) (kind.Tasks ∷ kind.Ending ∷ []) n ends h.few_outputs h.outputs
    ∙ counted_on tasks_header task_block p.tasks (with_outputs p.monitors p.outputs) (kind.Ending ∷ []) m (codes "end" ∷ []) h.few_tasks h.tasks
    ∙ line_on kind.Ending [] s (at [] (last_ended s)) (m + length (task_rows p.tasks)) (codes "end" ∷ []) [] refl refl refl

-- lines that were all taken are those of a program
pub record Listed (ls : List Bytes) (t : State) : Type 0 where
  pub program : Program
  pub fits : FitsProgram program
  pub same : ls ≡ rows program
  pub state : t ≡ at [] (final program)

-- nothing stands behind the last line
record NoMore (s : Known) (ls : List Bytes) (t : State) : Type 0 where
  none : ls ≡ []
  same : t ≡ at [] s

no_more : (s : Known) (n : ℕ) (ls : List Bytes) (t : State) → walk (at [] s) n ls ≡ Ok t → NoMore s ls t
no_more s n [] t h = let e : at [] s ≡ t = cc in record { none = refl; same = sym e }
no_more s n (l ∷ ls) t h = cc

record Ends (s : Known) (ls : List Bytes) (t : State) : Type 0 where
  rest : ls ≡ codes "end" ∷ []
  same : t ≡ at [] (last_ended s)

ends_of : (s : Known) (n : ℕ) (ls : List Bytes) (t : State) → walk (at (kind.Ending ∷ []) s) n ls ≡ Ok t → IsWhole t → Ends s ls t
ends_of s n ls t h w = by (first_of kind.Ending [] s n ls t h w)
  where
    by : First kind.Ending (at [] s).context ls → Ends s ls t
    by f =
        let g = sym (line_on kind.Ending [] s (at [] (last_ended s)) n f.here f.rest f.split f.right refl) ∙ ap (walk (at (kind.Ending ∷ []) s) n) (sym f.same) ∙ h in
        let m = no_more (last_ended s) (n + 1) f.rest t g in
        record { rest = f.same ∙ (λ i. join_with_byte 32 (ending_is f.here f.right i) ∷ m.none i); same = m.same }

abbrev MonitorsOf : List Bytes → Type 0
MonitorsOf ls = Counted (codes "monitors") (number_lines (codes "monitor")) (AllFit put_monitor IsFew fresh) ls

abbrev OutputsOf : List ℕ → List Bytes → Type 0
OutputsOf ms ls = Counted (codes "outputs") (number_lines (codes "output")) (AllFit put_output IsFew (with_monitors ms)) ls

abbrev TasksOf : List ℕ → List ℕ → List Bytes → Type 0
TasksOf ms os ls = Counted (codes "tasks") task_lines (AllFit put_task FitsTask (with_outputs ms os)) ls

listed_by : (ls here rest : List Bytes) (t : State) → ls ≡ join_with_byte 32 here ∷ rest → here ≡ codes "tower-listing" ∷ codes "1" ∷ [] → (ms : MonitorsOf rest) (os : OutputsOf ms.items ms.rest) (ts : TasksOf ms.items os.items os.rest)
    → Ends (with_tasks ms.items os.items ts.items) ts.rest t → Listed ls t
listed_by ls here rest t e f ms os ts x = record {
  program = record { monitors = ms.items; outputs = os.items; tasks = ts.items };
  fits = record { few_monitors = ms.few; monitors = ms.fit; few_outputs = os.few; outputs = os.fit; few_tasks = ts.few; tasks = ts.fit };
  same = e ∙ (λ i. join_with_byte 32 (f i) ∷ ms.same i) ∙ ap (λ r. codes "tower-listing 1" ∷ (monitor_rows ms.items ++ r)) (os.same ∙ ap (λ r. output_rows os.items ++ r) (ts.same ∙ ap (λ r. task_rows ts.items ++ r) x.rest));
  state = x.same;
}

tasks_by : (ls here rest : List Bytes) (t : State) → ls ≡ join_with_byte 32 here ∷ rest → here ≡ codes "tower-listing" ∷ codes "1" ∷ [] → (ms : MonitorsOf rest) (os : OutputsOf ms.items ms.rest) (n : ℕ)
    → walk (at (kind.Tasks ∷ kind.Ending ∷ []) (with_outputs ms.items os.items)) n os.rest ≡ Ok t → IsWhole t → TasksOf ms.items os.items os.rest → Listed ls t
tasks_by ls here rest t e f ms os n h w ts =
    listed_by ls here rest t e f ms os ts
    (ends_of (with_tasks ms.items os.items ts.items) (n + length (task_rows ts.items)) ts.rest t (counted_behind tasks_header task_block (with_outputs ms.items os.items) (kind.Ending ∷ []) n os.rest t h ts) w)

outputs_by : (ls here rest : List Bytes) (t : State) → ls ≡ join_with_byte 32 here ∷ rest → here ≡ codes "tower-listing" ∷ codes "1" ∷ [] → (ms : MonitorsOf rest) (n : ℕ)
    → walk (at (kind.Outputs ∷ kind.Tasks ∷ kind.Ending ∷ []) (with_monitors ms.items)) n ms.rest ≡ Ok t → IsWhole t → OutputsOf ms.items ms.rest → Listed ls t
outputs_by ls here rest t e f ms n h w os =
    let g = counted_behind outputs_header output_block (with_monitors ms.items) (kind.Tasks ∷ kind.Ending ∷ []) n ms.rest t h os in
    tasks_by ls here rest t e f ms os (n + length (output_rows os.items)) g w
    (counted_of tasks_header task_block (with_outputs ms.items os.items) (kind.Ending ∷ []) (n + length (output_rows os.items)) os.rest t g w)

monitors_by : (ls here rest : List Bytes) (t : State) → ls ≡ join_with_byte 32 here ∷ rest → here ≡ codes "tower-listing" ∷ codes "1" ∷ [] → walk (at behind_title fresh) 2 rest ≡ Ok t → IsWhole t → MonitorsOf rest → Listed ls t
monitors_by ls here rest t e f h w ms =
    let g = counted_behind monitors_header monitor_block fresh (kind.Outputs ∷ kind.Tasks ∷ kind.Ending ∷ []) 2 rest t h ms in
    outputs_by ls here rest t e f ms (2 + length (monitor_rows ms.items)) g w
    (counted_of outputs_header output_block (with_monitors ms.items) (kind.Tasks ∷ kind.Ending ∷ []) (2 + length (monitor_rows ms.items)) ms.rest t g w)

pub lines_listed : (ls : List Bytes) (t : State) → walk begun 1 ls ≡ Ok t → IsWhole t → Listed ls t
lines_listed ls t h w = by (first_of kind.Title behind_title fresh 1 ls t h w)
  where
    by : First kind.Title (at behind_title fresh).context ls → Listed ls t
    by f =
        let g = sym (line_on kind.Title behind_title fresh (at behind_title fresh) 1 f.here f.rest f.split f.right refl) ∙ ap (walk begun 1) (sym f.same) ∙ h in
        monitors_by ls f.here f.rest t f.same (title_is f.here f.right) g w (counted_of monitors_header monitor_block fresh (kind.Outputs ∷ kind.Tasks ∷ kind.Ending ∷ []) 2 f.rest t g w)

-- ---- the text of the lines

flat_text : {A : Type 0} (lines : A → List Bytes) (f : A → Bytes) → ((x : A) → texts joined.ended (lines x) ≡ f x) → (xs : List A) → texts joined.ended (flat lines xs) ≡ texts f xs
flat_text lines f h [] = refl
flat_text lines f h (x ∷ xs) = texts_both joined.ended (lines x) (flat lines xs) ∙ (λ i. h x i ++ flat_text lines f h xs i)

numbers_rows : (head item : Bytes) (ns : List ℕ) → texts joined.ended (counted_lines head (number_lines item) ns) ≡ counted head (number_text item) ns
numbers_rows head item ns = ap (λ t. written (with_numbers head (length ns ∷ [])) ++ t) (flat_text (number_lines item) (number_text item) (λ n. append-nil (number_text item n)) ns)

task_row : (t : Task) → texts joined.ended (task_lines t) ≡ task_text t
task_row t =
    ap (λ r. written (task_line t) ++ r) (texts_both joined.ended (flat buffer_lines t.buffers) (flat instr_lines t.code)
    ∙ (λ i. flat_text buffer_lines buffer_text (λ b. append-nil (buffer_text b)) t.buffers i ++ flat_text instr_lines instr_text (λ x. append-nil (instr_text x)) t.code i))
    ∙ sym (append_assoc (written (task_line t)) (texts buffer_text t.buffers) (texts instr_text t.code))

tasks_rows : (ts : List Task) → texts joined.ended (task_rows ts) ≡ counted (codes "tasks") task_text ts
tasks_rows ts = ap (λ t. written (with_numbers (codes "tasks") (length ts ∷ [])) ++ t) (flat_text task_lines task_text task_row ts)

pub rows_text : (p : Program) → texts joined.ended (rows p) ≡ listing p
rows_text p =
    let title = codes "tower-listing 1\n" in
    let a = counted (codes "monitors") (number_text (codes "monitor")) p.monitors in
    let b = counted (codes "outputs") (number_text (codes "output")) p.outputs in
    let c = counted (codes "tasks") task_text p.tasks in
    let e = codes "end\n" in
    ap (λ r. title ++ r) (texts_both joined.ended (monitor_rows p.monitors) (output_rows p.outputs ++ (task_rows p.tasks ++ codes "end" ∷ []))
    ∙ (λ i. numbers_rows (codes "monitors") (codes "monitor") p.monitors i ++ (texts_both joined.ended (output_rows p.outputs) (task_rows p.tasks ++ codes "end" ∷ [])
    ∙ (λ i. numbers_rows (codes "outputs") (codes "output") p.outputs i ++ (texts_both joined.ended (task_rows p.tasks) (codes "end" ∷ []) ∙ (λ i. tasks_rows p.tasks i ++ e)) i)) i))
    ∙ sym (append_assoc title a (b ++ (c ++ e))) ∙ sym (append_assoc (title ++ a) b (c ++ e)) ∙ sym (append_assoc (title ++ a ++ b) c e)

pub rows_clean : (p : Program) → FitsProgram p → AllNoLf (rows p)
rows_clean p h = (
  (refl, (refl, (refl, (refl, (refl, (refl, (refl, (refl, (refl, (refl, (refl, (refl, (refl, (refl, (refl, tt))))))))))))))),
  all_no_lf (monitor_rows p.monitors) _ (counted_clean monitors_header monitor_block p.monitors fresh h.few_monitors h.monitors)
      (all_no_lf (output_rows p.outputs) _ (counted_clean outputs_header output_block p.outputs (with_monitors p.monitors) h.few_outputs h.outputs)
      (all_no_lf (task_rows p.tasks) _ (counted_clean tasks_header task_block p.tasks (with_outputs p.monitors p.outputs) h.few_tasks h.tasks) ((refl, (refl, (refl, tt))), tt))),
)

-- the text is taken apart into the lines
pub listing_lines : (p : Program) → FitsProgram p → (whole_lines (listing p) ≡ rows p) × (behind_lines (listing p) ≡ [])
listing_lines p h =
    (ap whole_lines (sym (rows_text p)) ∙ whole_ended (rows p) (rows_clean p h), ap behind_lines (sym (rows_text p)) ∙ behind_ended (rows p) (rows_clean p h))
