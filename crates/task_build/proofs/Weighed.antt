-- The program of a system has its shape, and its words and instructions are within the weights.
use Rattle.std.proofs.Common.{◌≡◌, ℕ, zero, suc, ◌+◌, ◌*◌, ◌≤◌, List, [], ◌∷◌, ◌++◌, length, map, Bool, true, false, refl, sym, ap, ◌∙◌, subst, arith, inl, inr, slice_index_or, ◌==◌}
use Rattle.std.specs.Prelude.{sum}
use Rattle.tower_types.specs.declared.scalar.Scalar.TheVariants as scalar
use Rattle.tower_types.specs.Ty.{scalar as scalar_type, shape_in, table_of, words}
use Rattle.tower_syntax.specs.declared.arch.On.TheVariants as on
use Rattle.tower_syntax.specs.declared.arch.Listener.{Listener}
use Rattle.tower_syntax.specs.declared.arch.Listener.TheVariants as to
use Rattle.tower_syntax.specs.Arch.{Arch, Source, Emitter}
use Rattle.tower_syntax.specs.Graph.{handler, subs, reached_by, numbers_before}
use Rattle.tower_syntax.specs.Weights.{source_message, message_words, emitter_words, handler_memory, source_memory, source_numbers, memory, code, source_code, subscribers_weight, handler_code as handler_weight}
use Rattle.task_code.specs.declared.program.Buffer.{Buffer}
use Rattle.task_code.specs.declared.program.Task.{Task}
use Rattle.task_code.specs.Rules.{task_words, all_words, all_instructions}
use Rattle.task_code.specs.Piece.{Piece, nil, ◌▸◌, end, joined}
use Rattle.task_code.specs.declared.frame.Frame.{Frame}
use Rattle.stmt_code.specs.FrameOf.{binders_of, frame_of}
use Rattle.task_build.specs.CodeOf.{frames_from, end_of, handler_code, words_passed, call_code, head_code, taken_at, entries_from, handlers_code, unplaced, buffers_of, all_buffers, task_of, tasks_from, code_of}
use Rattle.emit_code.specs.Delivery.{Entry, entry_of}
use Rattle.stmt_code.specs.Section.{section_code}
use Rattle.lock_reduction.specs.Shaped.{priority_and_words, buffer_table, BeginsWithTake, Shaped}
use Rattle.channel_graph.proofs.Members.{In}
use Rattle.task_code.proofs.Lists.{cons_sum}
use Rattle.stmt_code.proofs.Roots.{all_of}
use Rattle.task_code.proofs.Pieces.{size, size_is}
use Rattle.stmt_code.proofs.FramesLaid.{bodies_sum}
use Rattle.stmt_code.proofs.Sections.{section_size}
use Rattle.emit_code.proofs.Lengths.{delivery_size}

-- ---- lists and sums

sum_append : (ms ns : List ℕ) → sum (ms ++ ns) ≡ sum ms + sum ns
sum_append [] ns = omega arith
sum_append (m ∷ ms) ns = let q = cons_sum m (ms ++ ns) in let q1 = cons_sum m ms in let r = sum_append ms ns in omega (arith, q, q1, r)

map_append : {A B : Type 0} (f : A → B) (xs ys : List A) → map f (xs ++ ys) ≡ map f xs ++ map f ys
map_append f [] ys = refl
map_append f (x ∷ xs) ys = ap (λ zs. f x ∷ zs) (map_append f xs ys)

-- f s, f (s + 1) and so on, n of them
abbrev listing : {A : Type 0} → (ℕ → A) → ℕ → ℕ → List A
listing f s zero = []
listing f s (suc n) = f s ∷ listing f (suc s) n

listing_end : {A : Type 0} (f : ℕ → A) (n s : ℕ) (xs : List A) → listing f s (suc n) ++ xs ≡ listing f s n ++ f (s + n) ∷ xs
listing_end f zero s xs = let e : s ≡ s + 0 = omega arith in ap (λ k. f k ∷ xs) e
listing_end f (suc n) s xs = let e : suc s + n ≡ s + suc n = omega arith in ap (λ ys. f s ∷ ys) (listing_end f n (suc s) xs ∙ ap (λ k. listing f (suc s) n ++ f k ∷ xs) e)

numbers_listed : {A : Type 0} (f : ℕ → A) (n : ℕ) (ks : List ℕ) → map f (numbers_before n ks) ≡ listing f 0 n ++ map f ks
numbers_listed f zero ks = refl
numbers_listed f (suc n) ks = let e : n ≡ 0 + n = omega arith in numbers_listed f n (n ∷ ks) ∙ ap (λ k. listing f 0 n ++ f k ∷ map f ks) e ∙ sym (listing_end f n 0 (map f ks))

no_more : {A : Type 0} (xs : List A) → xs ++ [] ≡ xs
no_more [] = refl
no_more (x ∷ xs) = ap (λ ys. x ∷ ys) (no_more xs)

all_numbers : {A : Type 0} (f : ℕ → A) (n : ℕ) → map f (numbers_before n []) ≡ listing f 0 n
all_numbers f n = numbers_listed f n [] ∙ no_more (listing f 0 n)

-- ---- instructions

passed_size : (n a b : ℕ) → size (words_passed a b n) ≡ 2 * n
passed_size zero a b = omega arith
passed_size (suc n) a b = let q = passed_size n (suc a) (suc b) in omega (arith, q)

either_size : (g : Bool) (x : Piece) (n : ℕ) → size x ≡ n → size (elim g [ true ↦ nil | false ↦ x ]) ≤ n
either_size true x n e = omega arith
either_size false x n e = omega (arith, e)

call_size : (entries : List Entry) (taken width : ℕ) (l : Listener) → size (call_code entries taken width l) ≤ 2 * width + 1
call_size entries taken width (to.Output o) = omega arith
call_size entries taken width (to.Handler k) =
    let q = either_size (taken == (entry_of entries k).frame.param) (words_passed taken (entry_of entries k).frame.param width) (2 * width) (passed_size width taken (entry_of entries k).frame.param) in
    omega (arith, q)

calls_size : (entries : List Entry) (taken width : ℕ) (ls : List Listener) → size (joined (map (call_code entries taken width) ls)) ≤ subscribers_weight (λ k. 0) width ls
calls_size entries taken width [] = omega arith
calls_size entries taken width (to.Output o ∷ ls) = let q = calls_size entries taken width ls in omega (arith, q)
calls_size entries taken width (to.Handler k ∷ ls) = let q = calls_size entries taken width ls in let r = call_size entries taken width (to.Handler k) in omega (arith, q, r)

module _ (arch : Arch) where
  handler_size : (entries : List Entry) (h : ℕ) (f : Frame) (from : ℕ) → size (handler_code arch entries h f from) ≤ handler_weight arch (handler arch h)
  handler_size entries h f from =
      let q1 = section_size arch (handler arch h) f from in
      let q2 = delivery_size arch entries f (handler arch h).emitters (end from (section_code arch (handler arch h) f from)) 0 in
      omega (arith, q1, q2)

  handlers_size : (entries known : List Entry) (hs : List ℕ) (fs : List Frame) (from : ℕ) → size (handlers_code arch entries (entries_from arch known from hs fs)) ≤ sum (map (λ h. handler_weight arch (handler arch h)) hs)
  handlers_size entries known [] fs from = omega arith
  handlers_size entries known (h ∷ hs) [] from = omega arith
  handlers_size entries known (h ∷ hs) (f ∷ fs) from =
      let q = handler_size entries h f from in
      let r = handlers_size entries known hs fs (end from (handler_code arch known h f from)) in
      let s = cons_sum (handler_weight arch (handler arch h)) (map (λ k. handler_weight arch (handler arch k)) hs) in
      omega (arith, q, r, s)

  pub task_length : (x : ℕ) (source : Source) → length (task_of arch x source).code ≤ source_code arch x
  task_length x source =
      let width = message_words arch (on.Source x) in
      let hs = reached_by arch x in
      let frames = frames_from arch 0 0 hs in
      let known = unplaced hs frames in
      let taken = taken_at known (subs arch (on.Source x)) in
      let from = end 0 (head_code arch known x taken width) in
      let entries = entries_from arch known from hs frames in
      let q1 = size_is (head_code arch entries x taken width ▸ handlers_code arch entries entries) in
      let q2 = calls_size entries taken width (subs arch (on.Source x)) in
      let q3 = handlers_size entries known hs frames from in
      omega (arith, q1, q2, q3)

  tasks_length : (sources : List Source) (s : ℕ) → sum (map (λ (t : Task). length t.code) (tasks_from arch s sources)) ≤ sum (listing (source_code arch) s (length sources))
  tasks_length [] s = omega arith
  tasks_length (x ∷ xs) s =
      let q = task_length s x in
      let r = tasks_length xs (suc s) in
      let c1 = cons_sum (length (task_of arch s x).code) (map (λ (t : Task). length t.code) (tasks_from arch (suc s) xs)) in
      let c2 = cons_sum (source_code arch s) (listing (source_code arch) (suc s) (length xs)) in
      omega (arith, q, r, c1, c2)

  pub instructions_within : all_instructions (code_of arch) ≤ code arch
  instructions_within =
      let q = tasks_length arch.sources 0 in
      let e : code arch ≡ sum (listing (source_code arch) 0 (length arch.sources)) = ap sum (all_numbers (source_code arch) (length arch.sources)) in
      omega (arith, q, e)

  -- ---- words

  -- a message of each emitter, and those that its buffer holds
  emitters_sum : (es : List Emitter) → sum (map (emitter_words arch) es) + sum (map (λ (b : Buffer). b.bound * b.width) (buffers_of arch es)) ≤ sum (map (λ e. (e.bound + 2) * emitter_words arch e) es)
  emitters_sum [] = omega arith
  emitters_sum (e ∷ es) =
      let c1 = cons_sum (emitter_words arch e) (map (emitter_words arch) es) in
      let c2 = cons_sum (e.bound * emitter_words arch e) (map (λ (b : Buffer). b.bound * b.width) (buffers_of arch es)) in
      let c3 = cons_sum ((e.bound + 2) * emitter_words arch e) (map (λ d. (d.bound + 2) * emitter_words arch d) es) in
      let r = emitters_sum es in
      omega (arith, c1, c2, c3, r)

  abbrev own_words : ℕ → ℕ
  own_words h = message_words arch (handler arch h).on + binders_of arch (handler arch h) + 3 + sum (map (emitter_words arch) (handler arch h).emitters)

  frames_end : (hs : List ℕ) (base buffer a : ℕ) → end_of a (frames_from arch base buffer hs) ≤ a + base + sum (map own_words hs)
  frames_end [] base buffer a = omega arith
  frames_end (h ∷ hs) base buffer a =
      let f = frame_of arch h base buffer in
      let c = cons_sum (own_words h) (map own_words hs) in
      let r = later hs f.end (buffer + length (handler arch h).emitters) in
      omega (arith, c, r)
    where
      later : (ks : List ℕ) (b n : ℕ) → end_of b (frames_from arch b n ks) ≤ b + sum (map own_words ks)
      later [] b n = omega arith
      later (k ∷ ks) b n =
          let c = cons_sum (own_words k) (map own_words ks) in
          let r = later ks (frame_of arch k b n).end (n + length (handler arch k).emitters) in
          omega (arith, c, r)

  buffers_sum : (hs : List ℕ) → sum (map own_words hs) + sum (map (λ (b : Buffer). b.bound * b.width) (all_buffers arch hs)) ≤ sum (map (λ h. handler_memory arch (handler arch h)) hs)
  buffers_sum [] = omega arith
  buffers_sum (h ∷ hs) =
      let hd = handler arch h in
      let weight : Buffer → ℕ = λ b. b.bound * b.width in
      let c1 = cons_sum (own_words h) (map own_words hs) in
      let c2 = cons_sum (handler_memory arch hd) (map (λ k. handler_memory arch (handler arch k)) hs) in
      let split : sum (map weight (all_buffers arch (h ∷ hs))) ≡ sum (map weight (buffers_of arch hd.emitters)) + sum (map weight (all_buffers arch hs)) =
      ap sum (map_append weight (buffers_of arch hd.emitters) (all_buffers arch hs)) ∙ sum_append (map weight (buffers_of arch hd.emitters)) (map weight (all_buffers arch hs)) in
      let q1 = emitters_sum hd.emitters in
      let q2 = bodies_sum arch hd.callbacks in
      let r = buffers_sum hs in
      omega (arith, c1, c2, split, q1, q2, r)

  pub task_within : (x : ℕ) (source : Source) → task_words (task_of arch x source) ≤ source_memory arch x
  task_within x source =
      let q1 = frames_end (reached_by arch x) 0 0 (message_words arch (on.Source x)) in
      let q2 = buffers_sum (reached_by arch x) in
      omega (arith, q1, q2)

  tasks_within : (sources : List Source) (s : ℕ) → sum (map task_words (tasks_from arch s sources)) ≤ sum (listing (source_memory arch) s (length sources))
  tasks_within [] s = omega arith
  tasks_within (x ∷ xs) s =
      let q = task_within s x in
      let r = tasks_within xs (suc s) in
      let c1 = cons_sum (task_words (task_of arch s x)) (map task_words (tasks_from arch (suc s) xs)) in
      let c2 = cons_sum (source_memory arch s) (listing (source_memory arch) (suc s) (length xs)) in
      omega (arith, q, r, c1, c2)

  pub words_within : all_words (code_of arch) ≤ memory arch
  words_within =
      let q = tasks_within arch.sources 0 in
      let e : sum (map (source_memory arch) (source_numbers arch)) ≡ sum (listing (source_memory arch) 0 (length arch.sources)) = ap sum (all_numbers (source_memory arch) (length arch.sources)) in
      omega (arith, q, e)

  -- ---- shape

  tasks_shaped : (sources : List Source) (s : ℕ) → ((j : ℕ) → source_message arch (s + j) ≡ slice_index_or (map (λ x. x.message) sources) j (scalar_type scalar.I64)) → map (λ (t : Task). (t.priority, t.message)) (tasks_from arch s sources) ≡ map (priority_and_words arch) sources
  tasks_shaped [] s h = refl
  tasks_shaped (x ∷ xs) s h =
      let z : s + 0 ≡ s = omega arith in
      let here : source_message arch s ≡ x.message = ap (source_message arch) (sym z) ∙ h 0 in
      ap (λ m. (x.priority, words (shape_in (table_of arch.records) m)) ∷ map (λ (t : Task). (t.priority, t.message)) (tasks_from arch (suc s) xs)) here
      ∙ ap (λ ys. priority_and_words arch x ∷ ys) (tasks_shaped xs (suc s) (λ j. let e : suc s + j ≡ s + suc j = omega arith in ap (source_message arch) e ∙ h (suc j)))

  buffers_tabled : (hs : List ℕ) → all_buffers arch hs ≡ buffer_table arch hs
  buffers_tabled [] = refl
  buffers_tabled (h ∷ hs) = ap (λ bs. buffers_of arch (handler arch h).emitters ++ bs) (buffers_tabled hs)

  tasks_tabled : (sources : List Source) (s : ℕ) → map (λ (t : Task). t.buffers) (tasks_from arch s sources) ≡ listing (λ x. buffer_table arch (reached_by arch x)) s (length sources)
  tasks_tabled [] s = refl
  tasks_tabled (x ∷ xs) s = ap (λ b. b ∷ map (λ (t : Task). t.buffers) (tasks_from arch (suc s) xs)) (buffers_tabled (reached_by arch s)) ∙ ap (λ ys. buffer_table arch (reached_by arch s) ∷ ys) (tasks_tabled xs (suc s))

  tasks_begin : (sources : List Source) (s : ℕ) (t : Task) → In t (tasks_from arch s sources) → BeginsWithTake t
  tasks_begin [] s t h = absurd h
  tasks_begin (x ∷ xs) s t (inl e) = subst BeginsWithTake (sym e) (taken_at (unplaced (reached_by arch s) (frames_from arch 0 0 (reached_by arch s))) (subs arch (on.Source s)), refl)
  tasks_begin (x ∷ xs) s t (inr h) = tasks_begin xs (suc s) t h

  pub shaped : Shaped arch (code_of arch)
  shaped = record {
    tasks = tasks_shaped arch.sources 0 (λ j. let e : 0 + j ≡ j = omega arith in ap (source_message arch) e);
    monitors = refl;
    outputs = refl;
    begins = all_of BeginsWithTake (tasks_from arch 0 arch.sources) (tasks_begin arch.sources 0);
    buffers = tasks_tabled arch.sources 0 ∙ sym (all_numbers (λ x. buffer_table arch (reached_by arch x)) (length arch.sources));
    memory = words_within;
    code = instructions_within;
  }
