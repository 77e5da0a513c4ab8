-- The code of a task depends on its entries only by what is found of each handler.
use Rattle.std.proofs.Common.{◌≡◌, ◌≢◌, ◌∙◌, ℕ, suc, ◌+◌, ◌<◌, List, [], ◌∷◌, ◌++◌, length, map, take, pos, get_or, slice_index_or, None, refl, ap, sym, subst, arith}
use Rattle.std.specs.List.Sorted.{IsStrictlyIncreasing}
use Rattle.tower_types.specs.declared.scalar.Scalar.TheVariants.{U64}
use Rattle.tower_types.specs.declared.scalar.BinOp.TheVariants.{Add, Less}
use Rattle.tower_types.specs.declared.scalar.Scalar.TheVariants.{I64}
use Rattle.tower_types.specs.Ty.{scalar}
use Rattle.tower_syntax.specs.declared.arch.SourceKind.TheVariants.{Init}
use Rattle.tower_syntax.specs.declared.arch.On.TheVariants as on
use Rattle.tower_syntax.specs.declared.arch.Listener.{Listener}
use Rattle.tower_syntax.specs.declared.arch.Listener.TheVariants as to
use Rattle.std.proofs.lemmas.List.{length-map, length-take, take_more, get_or-map}
use Rattle.tower_syntax.specs.Arch.{Arch, Source, Emitter}
use Rattle.tower_syntax.specs.Graph.{handler, subs, reached_by, numbers_before}
use Rattle.tower_syntax.specs.Weights.{emitter_words, message_words}
use Rattle.task_code.specs.declared.program.Instr.TheVariants.{Push, Ld, St, Bin, Jmp, Jz, Call, Ret, Take, Bcnt}
use Rattle.task_code.specs.declared.program.Instr.{Instr}
use Rattle.task_code.specs.declared.program.Task.{Task}
use Rattle.task_code.specs.declared.frame.Frame.{Frame}
use Rattle.task_code.specs.declared.frame.Frames.{Frames}
use Rattle.task_code.specs.Piece.{Piece, ins, ◌▸◌, end, listed, joined}
use Rattle.stmt_code.specs.Section.{section_code}
use Rattle.emit_code.specs.Delivery.{Entry, entry_of, words_got, item_code, emitter_code, delivery_code}
use Rattle.emit_code.specs.Framed.{entries_in}
use Rattle.emit_code.proofs.Looked.{entry_here, entry_there}
use Rattle.task_build.specs.CodeOf.{handler_code, passed, call_code, head_code, taken_at, entries_from, handlers_code, unplaced, frames_from, task_of, tasks_from}
use Rattle.task_build.specs.Tables.{entries_at, Agrees, placed_from, head_of, placed_behind, code_behind}
use Rattle.channel_graph.proofs.Members.{length-numbers}
use Rattle.thread_split.specs.declared.plan.TaskPlan.{TaskPlan}
use Rattle.thread_split.specs.Plans.{plan_of, plans_of}
use Rattle.thread_split.proofs.Planned.{number_at}
use Rattle.task_build.proofs.Tabled.{frames_length}
use Rattle.task_build.proofs.Placed.{Alike, placed_alike, handler_end, head_end}

map_same : (f g : Listener → Piece) → ((l : Listener) → f l ≡ g l) → (ls : List Listener) → map f ls ≡ map g ls
map_same f g same [] = refl
map_same f g same (l ∷ ls) = λ t. same l t ∷ map_same f g same ls t

module _ (arch : Arch) (es ds : List Entry) (same : (k : ℕ) → entry_of es k ≡ entry_of ds k) where
  item_same : (i b s w : ℕ) (l : Listener) → item_code es i b s w l ≡ item_code ds i b s w l
  item_same i b s w (to.Output o) = refl
  item_same i b s w (to.Handler k) = ap (λ (e : Entry). words_got i b e.frame.param 0 w ▸ ins (Call e.place)) (same k)

  emitter_same : (from i b s w : ℕ) (ls : List Listener) → emitter_code es from i b s w ls ≡ emitter_code ds from i b s w ls
  emitter_same from i b s w ls =
      ap (λ (each : Piece).
      ins (Push (pos 0)) ▸ ins (St i)
      ▸ ins (Ld i) ▸ ins (Bcnt b) ▸ ins (Bin Less U64) ▸ ins (Jz (end (from + 2 + 4) each + 5))
      ▸ each ▸ ins (Ld i) ▸ ins (Push (pos 1)) ▸ ins (Bin Add U64) ▸ ins (St i) ▸ ins (Jmp (from + 2)))
      (ap joined (map_same (item_code es i b s w) (item_code ds i b s w) (item_same i b s w) ls))

  delivery_same : (f : Frame) (from k : ℕ) (ems : List Emitter) → delivery_code arch es f from k ems ≡ delivery_code arch ds f from k ems
  delivery_same f from k [] = refl
  delivery_same f from k (e ∷ ems) =
      let s : ℕ = slice_index_or f.scratch k 0 in
      let ls : List Listener = subs arch (on.Channel e.channel) in
      let first : Piece = emitter_code ds from (f.temps + 2) (f.first_buffer + k) s (emitter_words arch e) ls in
      ap (λ (q : Piece). q ▸ delivery_code arch es f (end from q) (suc k) ems) (emitter_same from (f.temps + 2) (f.first_buffer + k) s (emitter_words arch e) ls)
      ∙ ap (λ (q : Piece). first ▸ q) (delivery_same f (end from first) (suc k) ems)

  handler_same : (h : ℕ) (f : Frame) (from : ℕ) → handler_code arch es h f from ≡ handler_code arch ds h f from
  handler_same h f from =
      let first : Piece = section_code arch (handler arch h) f from in
      ap (λ (q : Piece). first ▸ q ▸ ins Ret) (delivery_same f (end from first) 0 (handler arch h).emitters)

  call_same : (taken width : ℕ) (l : Listener) → call_code es taken width l ≡ call_code ds taken width l
  call_same taken width (to.Output o) = refl
  call_same taken width (to.Handler k) = ap (λ (e : Entry). passed taken e.frame.param width ▸ ins (Call e.place)) (same k)

  taken_same : (ls : List Listener) → taken_at es ls ≡ taken_at ds ls
  taken_same [] = refl
  taken_same (to.Output o ∷ ls) = taken_same ls
  taken_same (to.Handler k ∷ ls) = ap (λ (e : Entry). e.frame.param) (same k)

  head_same : (s : ℕ) → head_of arch es s ≡ head_of arch ds s
  head_same s =
      let ls : List Listener = subs arch (on.Source s) in
      let width : ℕ = message_words arch (on.Source s) in
      ap (λ (taken : ℕ). head_code arch es s taken width) (taken_same ls)
      ∙ ap (λ (cs : List Piece). ins (Take (taken_at ds ls)) ▸ joined cs ▸ ins (Jmp 0)) (map_same (call_code es (taken_at ds ls) width) (call_code ds (taken_at ds ls) width) (call_same (taken_at ds ls) width) ls)

  handlers_same : (xs : List Entry) → handlers_code arch es xs ≡ handlers_code arch ds xs
  handlers_same [] = refl
  handlers_same (x ∷ xs) = λ t. handler_same x.number x.frame x.place t ▸ handlers_same xs t

  placed_same : (hs : List ℕ) (from : ℕ) → placed_from arch es from hs ≡ placed_from arch ds from hs
  placed_same [] from = refl
  placed_same (h ∷ hs) from =
      let f : Frame = (entry_of ds h).frame in
      let d : Entry = record { number = h; frame = f; place = from } in
      ap (λ (g : Frame). record { number = h; frame = g; place = from } ∷ placed_from arch es (end from (handler_code arch es h g from)) hs) (ap (λ (e : Entry). e.frame) (same h))
      ∙ ap (λ (q : Piece). d ∷ placed_from arch es (end from q) hs) (handler_same h f from)
      ∙ ap (λ (xs : List Entry). d ∷ xs) (placed_same hs (end from (handler_code arch ds h f from)))

  pub placed_behind_same : (s : ℕ) (hs : List ℕ) → placed_behind arch es s hs ≡ placed_behind arch ds s hs
  placed_behind_same s hs = ap (λ (q : Piece). placed_from arch es (end 0 q) hs) (head_same s) ∙ placed_same hs (end 0 (head_of arch ds s))

  pub code_behind_same : (s : ℕ) (hs : List ℕ) → code_behind arch es s hs ≡ code_behind arch ds s hs
  code_behind_same s hs =
      (λ t. head_same s t ▸ handlers_code arch es (placed_behind_same s hs t))
      ∙ ap (λ (q : Piece). head_of arch ds s ▸ q) (handlers_same (placed_behind arch ds s hs))

-- ---- each handler finds its own frame, where none is listed twice

abbrev pub Above : ℕ → List ℕ → Type 0
Above h [] = Unit {0}
Above h (x ∷ xs) = (h < x) × Above h xs

above_more : (g h : ℕ) (xs : List ℕ) → g < h → Above h xs → Above g xs
above_more g h [] l a = tt
above_more g h (x ∷ xs) l a = (omega (arith, l, a.0), above_more g h xs l a.1)

rises_on : (h : ℕ) (hs : List ℕ) → IsStrictlyIncreasing (h ∷ hs) → IsStrictlyIncreasing hs
rises_on h hs rises k l =
    let next : suc k + 1 ≡ suc (k + 1) = omega arith in
    subst (λ j. get_or hs k 0 < get_or (h ∷ hs) j 0) next (rises (suc k) (omega (arith, l)))

first_above : (h : ℕ) (hs : List ℕ) → IsStrictlyIncreasing (h ∷ hs) → Above h hs
first_above h [] rises = tt
first_above h (x ∷ xs) rises =
    let lower : h < x = rises 0 (omega arith) in
    (lower, above_more h x xs lower (first_above x xs (rises_on h (x ∷ xs) rises)))

abbrev pub OwnFrames : List Entry → List ℕ → List Frame → Type 0
OwnFrames es [] fs = Unit {0}
OwnFrames es (h ∷ hs) [] = ⊥
OwnFrames es (h ∷ hs) (f ∷ fs) = ((entry_of es h).frame ≡ f) × OwnFrames es hs fs

own_later : (e : Entry) (es : List Entry) (hs : List ℕ) (fs : List Frame) → Above e.number hs → OwnFrames es hs fs → OwnFrames (e ∷ es) hs fs
own_later e es [] fs above own = tt
own_later e es (h ∷ hs) [] above own = absurd own
own_later e es (h ∷ hs) (f ∷ fs) above own =
    (ap (λ (z : Entry). z.frame) (entry_there e es h (apart e.number h above.0)) ∙ own.0, own_later e es hs fs above.1 own.1)
  where
    apart : (m n : ℕ) → m < n → m ≢ n
    apart m n l same = omega (arith, l, same)

pub own_known : (hs : List ℕ) (fs : List Frame) → length fs ≡ length hs → IsStrictlyIncreasing hs → OwnFrames (unplaced hs fs) hs fs
own_known [] fs each rises = tt
own_known (h ∷ hs) [] each rises = absurd (omega (arith, each))
own_known (h ∷ hs) (f ∷ fs) each rises =
    let e : Entry = record { number = h; frame = f; place = 0 } in
    let es : List Entry = unplaced hs fs in
    (ap (λ (z : Entry). z.frame) (entry_here e es h refl), own_later e es hs fs (first_above h hs rises) (own_known hs fs (omega (arith, each)) (rises_on h hs rises)))

own_alike : (es ds : List Entry) (hs : List ℕ) (fs : List Frame) → Alike es ds → OwnFrames es hs fs → OwnFrames ds hs fs
own_alike es ds [] fs alike own = tt
own_alike es ds (h ∷ hs) [] alike own = absurd own
own_alike es ds (h ∷ hs) (f ∷ fs) alike own = (sym (alike h) ∙ own.0, own_alike es ds hs fs alike own.1)

placed_is : (arch : Arch) (es : List Entry) (hs : List ℕ) (fs : List Frame) (from : ℕ) → OwnFrames es hs fs → placed_from arch es from hs ≡ entries_from arch es from hs fs
placed_is arch es [] fs from own = refl
placed_is arch es (h ∷ hs) [] from own = absurd own
placed_is arch es (h ∷ hs) (f ∷ fs) from own =
    ap (λ (g : Frame). record { number = h; frame = g; place = from } ∷ placed_from arch es (end from (handler_code arch es h g from)) hs) own.0
    ∙ ap (λ (xs : List Entry). record { number = h; frame = f; place = from } ∷ xs) (placed_is arch es hs fs (end from (handler_code arch es h f from)) own.1)

entries_alike : (arch : Arch) (es ds : List Entry) → Alike es ds → (hs : List ℕ) (fs : List Frame) (from : ℕ) → entries_from arch es from hs fs ≡ entries_from arch ds from hs fs
entries_alike arch es ds alike [] fs from = refl
entries_alike arch es ds alike (h ∷ hs) [] from = refl
entries_alike arch es ds alike (h ∷ hs) (f ∷ fs) from =
    let e : Entry = record { number = h; frame = f; place = from } in
    ap (λ (a : ℕ). e ∷ entries_from arch es a hs fs) (handler_end arch es ds alike h f from)
    ∙ ap (λ (xs : List Entry). e ∷ xs) (entries_alike arch es ds alike hs fs (end from (handler_code arch ds h f from)))

taken_alike : (es ds : List Entry) → Alike es ds → (ls : List Listener) → taken_at es ls ≡ taken_at ds ls
taken_alike es ds alike [] = refl
taken_alike es ds alike (to.Output o ∷ ls) = taken_alike es ds alike ls
taken_alike es ds alike (to.Handler k ∷ ls) = ap (λ (f : Frame). f.param) (alike k)

-- ---- what is listed with its places

pub unplaced_is : (hs : List ℕ) (fs : List Frame) (ps : List ℕ) → length ps ≡ length hs → ((k : ℕ) → k < length ps → get_or ps k 0 ≡ 0) → entries_at hs fs ps ≡ unplaced hs fs
unplaced_is [] fs ps each zeros = refl
unplaced_is (h ∷ hs) [] ps each zeros = refl
unplaced_is (h ∷ hs) (f ∷ fs) [] each zeros = absurd (omega (arith, each))
unplaced_is (h ∷ hs) (f ∷ fs) (p ∷ ps) each zeros =
    let rest = unplaced_is hs fs ps (omega (arith, each)) (λ k l. zeros (suc k) (omega (arith, l))) in
    λ t. record { number = h; frame = f; place = zeros 0 (omega arith) t } ∷ rest t

entries_back : (arch : Arch) (known : List Entry) (hs : List ℕ) (fs : List Frame) (from : ℕ) → entries_at hs fs (map (λ e. e.place) (entries_from arch known from hs fs)) ≡ entries_from arch known from hs fs
entries_back arch known [] fs from = refl
entries_back arch known (h ∷ hs) [] from = refl
entries_back arch known (h ∷ hs) (f ∷ fs) from =
    ap (λ (xs : List Entry). record { number = h; frame = f; place = from } ∷ xs) (entries_back arch known hs fs (end from (handler_code arch known h f from)))

-- ---- the two ways to the code

module _ (arch : Arch) (s : ℕ) (hs : List ℕ) (fs : List Frame) (each : length fs ≡ length hs) (rises : IsStrictlyIncreasing hs) where
  abbrev pub known : List Entry
  known = unplaced hs fs

  abbrev pub entries : List Entry
  entries = entries_from arch known (end 0 (head_of arch known s)) hs fs

  -- the places that the first way gives are those of the entries
  pub first_places : placed_behind arch known s hs ≡ entries
  first_places = placed_is arch known hs fs (end 0 (head_of arch known s)) (own_known hs fs each rises)

  pub places_back : (ps : List ℕ) → ps ≡ map (λ e. e.place) entries → entries_at hs fs ps ≡ entries
  places_back ps e = ap (entries_at hs fs) e ∙ entries_back arch known hs fs (end 0 (head_of arch known s))

  alike : Alike known entries
  alike = placed_alike arch known (end 0 (head_of arch known s)) hs fs

  -- and the second way gives the code
  pub second_code : code_behind arch entries s hs ≡ (head_code arch entries s (taken_at known (subs arch (on.Source s))) (message_words arch (on.Source s)) ▸ handlers_code arch entries entries)
  second_code =
      let ls : List Listener = subs arch (on.Source s) in
      let width : ℕ = message_words arch (on.Source s) in
      let taken : taken_at entries ls ≡ taken_at known ls = sym (taken_alike known entries alike ls) in
      let head : head_of arch entries s ≡ head_code arch entries s (taken_at known ls) width = ap (λ a. head_code arch entries s a width) taken in
      let from : end 0 (head_of arch entries s) ≡ end 0 (head_of arch known s) = ap (end 0) head ∙ sym (head_end arch known entries alike s (taken_at known ls) width) in
      let own : OwnFrames entries hs fs = own_alike known entries hs fs alike (own_known hs fs each rises) in
      let there : placed_behind arch entries s hs ≡ entries =
      placed_is arch entries hs fs (end 0 (head_of arch entries s)) own
      ∙ sym (entries_alike arch known entries alike hs fs (end 0 (head_of arch entries s)))
      ∙ ap (λ a. entries_from arch known a hs fs) from in
      λ t. head t ▸ handlers_code arch entries (there t)

-- ---- the code of a task

same_code : (arch : Arch) (s : ℕ) (source : Source) → IsStrictlyIncreasing (reached_by arch s) → (zeros places : List ℕ) (bare full : Frames) (code : List Instr) → length zeros ≡ length (reached_by arch s) → ((k : ℕ) → k < length zeros → get_or zeros k 0 ≡ 0)
    → Agrees (entries_at (reached_by arch s) (frames_from arch 0 0 (reached_by arch s)) zeros) bare
    → places ≡ map (λ e. e.place) (placed_behind arch (entries_in bare) s (reached_by arch s))
    → Agrees (entries_at (reached_by arch s) (frames_from arch 0 0 (reached_by arch s)) places) full
    → code ≡ listed (code_behind arch (entries_in full) s (reached_by arch s))
    → code ≡ (task_of arch s source).code
same_code arch s source rises zeros places bare full code each none agrees first agree second =
    let hs : List ℕ = reached_by arch s in
    let fs : List Frame = frames_from arch 0 0 hs in
    let long : length fs ≡ length hs = frames_length arch 0 0 hs in
    let start : List Entry = known arch s hs fs long rises in
    let last : List Entry = entries arch s hs fs long rises in
    let blank : entries_at hs fs zeros ≡ start = unplaced_is hs fs zeros each none in
    let first_same : (k : ℕ) → entry_of (entries_in bare) k ≡ entry_of start k = λ k. sym (agrees k) ∙ ap (λ es. entry_of es k) blank in
    let there : places ≡ map (λ e. e.place) last = first ∙ ap (map (λ e. e.place)) (placed_behind_same arch (entries_in bare) start first_same s hs ∙ first_places arch s hs fs long rises) in
    let full_is : entries_at hs fs places ≡ last = places_back arch s hs fs long rises places there in
    let last_same : (k : ℕ) → entry_of (entries_in full) k ≡ entry_of last k = λ k. sym (agree k) ∙ ap (λ es. entry_of es k) full_is in
    second ∙ ap listed (code_behind_same arch (entries_in full) last last_same s hs ∙ second_code arch s hs fs long rises)

pub code_is : (arch : Arch) (s : ℕ) (source : Source) → IsStrictlyIncreasing (reached_by arch s) → (hs : List ℕ) → hs ≡ reached_by arch s → (zeros places : List ℕ) (bare full : Frames) (code : List Instr) → length zeros ≡ length hs → ((k : ℕ) → k < length zeros → get_or zeros k 0 ≡ 0)
    → Agrees (entries_at hs (frames_from arch 0 0 hs) zeros) bare
    → places ≡ map (λ e. e.place) (placed_behind arch (entries_in bare) s hs)
    → Agrees (entries_at hs (frames_from arch 0 0 hs) places) full
    → code ≡ listed (code_behind arch (entries_in full) s hs)
    → code ≡ (task_of arch s source).code
code_is arch s source rises hs is =
    let P : List ℕ → Type 0 = λ ks. (zeros places : List ℕ) (bare full : Frames) (code : List Instr) → length zeros ≡ length ks → ((k : ℕ) → k < length zeros → get_or zeros k 0 ≡ 0)
    → Agrees (entries_at ks (frames_from arch 0 0 ks) zeros) bare
    → places ≡ map (λ e. e.place) (placed_behind arch (entries_in bare) s ks)
    → Agrees (entries_at ks (frames_from arch 0 0 ks) places) full
    → code ≡ listed (code_behind arch (entries_in full) s ks)
    → code ≡ (task_of arch s source).code in
    subst P (sym is) (same_code arch s source rises)

-- ---- the tasks

tasks-push : (arch : Arch) (s : ℕ) (xs : List Source) (x : Source) → tasks_from arch s (xs ++ x ∷ []) ≡ tasks_from arch s xs ++ task_of arch (s + length xs) x ∷ []
tasks-push arch s [] x = let same : s ≡ s + 0 = omega arith in ap (λ k. task_of arch k x ∷ []) same
tasks-push arch s (y ∷ ys) x =
    let next : suc s + length ys ≡ s + suc (length ys) = omega arith in
    ap (λ ts. task_of arch s y ∷ ts) (tasks-push arch (suc s) ys x ∙ ap (λ k. tasks_from arch (suc s) ys ++ task_of arch k x ∷ []) next)

pub tasks_more : (arch : Arch) (k : ℕ) (d : Source) (old new : List Task) (task : Task) → k < length arch.sources → old ≡ tasks_from arch 0 (take k arch.sources) → new ≡ old ++ task ∷ [] → task ≡ task_of arch k (get_or arch.sources k d) → new ≡ tasks_from arch 0 (take (k + 1) arch.sources)
tasks_more arch k d old new task within before grown is =
    let count : k ≡ 0 + length (take k arch.sources) = omega (arith, length-take k arch.sources, within) in
    let x : Source = get_or arch.sources k d in
    grown ∙ (λ t. before t ++ is t ∷ [])
    ∙ ap (λ j. tasks_from arch 0 (take k arch.sources) ++ task_of arch j x ∷ []) count
    ∙ sym (tasks-push arch 0 (take k arch.sources) x)
    ∙ ap (tasks_from arch 0) (sym (take_more arch.sources k d within))

abbrev pub no_source : Source
no_source = record { name = []; kind = Init; priority = 0; message = scalar I64; depth = None }

pub plans_count : (arch : Arch) (plans : List TaskPlan) → plans ≡ plans_of arch → length plans ≡ length arch.sources
plans_count arch plans is = ap length is ∙ length-map (numbers_before (length arch.sources) []) (plan_of arch) ∙ count (length arch.sources)
  where
    count : (n : ℕ) → length (numbers_before n []) ≡ n
    count n = omega (arith, length-numbers n [])

pub placed_count : (arch : Arch) (es : List Entry) (hs : List ℕ) (from : ℕ) → length (map (λ e. e.place) (placed_from arch es from hs)) ≡ length hs
placed_count arch es [] from = refl
placed_count arch es (h ∷ hs) from = ap suc (placed_count arch es hs (end from (handler_code arch es h (entry_of es h).frame from)))

-- the plan of a source among all plans
pub plan_at : (arch : Arch) (plans : List TaskPlan) (k : ℕ) (d p : TaskPlan) → plans ≡ plans_of arch → k < length plans → p ≡ get_or plans k d → (k < length arch.sources) × (p ≡ plan_of arch k)
plan_at arch plans k d p is within read =
    let n : ℕ = length arch.sources in
    let many : length plans ≡ n = ap length is ∙ length-map (numbers_before n []) (plan_of arch) ∙ count n in
    let below : k < n = omega (arith, within, many) in
    (below, read ∙ ap (λ ps. get_or ps k d) is ∙ get_or-map (plan_of arch) (numbers_before n []) k k d (inside n below) ∙ ap (plan_of arch) (number_at n k k below))
  where
    count : (n : ℕ) → length (numbers_before n []) ≡ n
    count n = omega (arith, length-numbers n [])

    inside : (n : ℕ) → k < n → k < length (numbers_before n [])
    inside n h = omega (arith, h, length-numbers n [])
