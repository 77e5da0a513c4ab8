-- The listing of an accepted system's program is short: each buffer has its part in the weight of code, as each instruction.
use Rattle.std.proofs.Common.{◌≡◌, ◌∙◌, ℕ, zero, suc, ◌+◌, ◌*◌, ◌≤◌, List, [], ◌∷◌, ◌++◌, length, map, refl, sym, ap, arith}
use Rattle.std.specs.Prelude.{sum}
use Rattle.std.proofs.lemmas.List.{length-map, length-append}
use Rattle.tower_types.specs.Ty.{shape_in, table_of, words}
use Rattle.tower_syntax.specs.declared.arch.On.TheVariants as on
use Rattle.tower_syntax.specs.Arch.{Arch, Source, Emitter}
use Rattle.tower_syntax.specs.Graph.{handler, subs, reached_by, numbers_before}
use Rattle.tower_syntax.specs.Weights.{message_words, emitter_words, channel_message, monitor_words, subscribers_weight, handler_code, source_code, code}
use Rattle.task_code.specs.declared.program.Task.{Task}
use Rattle.task_code.specs.Rules.{all_instructions}
use Rattle.task_code.proofs.Lists.{cons_sum}
use Rattle.task_build.specs.CodeOf.{buffers_of, all_buffers, task_of, tasks_from, code_of}
use Rattle.task_build.proofs.Weighed.{instructions_within}
use Rattle.arch_checks.specs.declared.fault.What.TheVariants as what
use Rattle.arch_checks.specs.Laws.{IsSafe}
use Rattle.arch_checks.specs.Offences.{IsAccepted}
use Rattle.arch_checks.proofs.Accepted.{safe}
use Rattle.task_listing.specs.Lines.{byte_limit}
use Rattle.task_listing.specs.Listing.{listing}
use Rattle.task_listing.specs.Laws.{IsProgram, buffer_count}
use Rattle.task_listing.proofs.Lengths.{listing_long}

-- ---- sums

-- f s, f (s + 1) and so on, n of them
abbrev total : (ℕ → ℕ) → ℕ → ℕ → ℕ
total f s zero = 0
total f s (suc n) = f s + total f (suc s) n

total_end : (f : ℕ → ℕ) (n s : ℕ) → total f s (suc n) ≡ total f s n + f (s + n)
total_end f zero s = let z : s ≡ s + 0 = omega arith in let e : f s ≡ f (s + 0) = ap f z in omega (arith, e)
total_end f (suc n) s =
    let z : suc s + n ≡ s + suc n = omega arith in
    let e : f (suc s + n) ≡ f (s + suc n) = ap f z in
    let r : total f (suc s) (suc n) ≡ total f (suc s) n + f (suc s + n) = total_end f n (suc s) in
    omega (arith, e, r)

total_before : (f : ℕ → ℕ) (n : ℕ) (ks : List ℕ) → sum (map f (numbers_before n ks)) ≡ total f 0 n + sum (map f ks)
total_before f zero ks = omega arith
total_before f (suc n) ks =
    let r : sum (map f (numbers_before n (n ∷ ks))) ≡ total f 0 n + sum (map f (n ∷ ks)) = total_before f n (n ∷ ks) in
    let c : sum (map f (n ∷ ks)) ≡ f n + sum (map f ks) = cons_sum (f n) (map f ks) in
    let z : 0 + n ≡ n = omega arith in
    let e : total f 0 (suc n) ≡ total f 0 n + f n = total_end f n 0 ∙ ap (λ k. total f 0 n + f k) z in
    omega (arith, r, c, e)

-- ---- buffers

module _ (arch : Arch) where
  -- the part of an emitter in the weight of its handler's code
  abbrev emitter_code : Emitter → ℕ
  emitter_code e = 32 + subscribers_weight (λ k. 0) (emitter_words arch e) (subs arch (on.Channel e.channel))

  emitters_light : (es : List Emitter) → 32 * length (buffers_of arch es) ≤ sum (map emitter_code es)
  emitters_light [] = omega arith
  emitters_light (e ∷ es) =
      let c : sum (map emitter_code (e ∷ es)) ≡ emitter_code e + sum (map emitter_code es) = cons_sum (emitter_code e) (map emitter_code es) in
      let r : 32 * length (buffers_of arch es) ≤ sum (map emitter_code es) = emitters_light es in
      omega (arith, c, r)

  abbrev code_at : ℕ → ℕ
  code_at h = handler_code arch (handler arch h)

  handlers_light : (hs : List ℕ) → 32 * length (all_buffers arch hs) ≤ sum (map code_at hs)
  handlers_light [] = omega arith
  handlers_light (h ∷ hs) =
      let own : 32 * length (buffers_of arch (handler arch h).emitters) ≤ sum (map emitter_code (handler arch h).emitters) = emitters_light (handler arch h).emitters in
      let both : length (buffers_of arch (handler arch h).emitters ++ all_buffers arch hs) ≡ length (buffers_of arch (handler arch h).emitters) + length (all_buffers arch hs) =
      length-append (buffers_of arch (handler arch h).emitters) (all_buffers arch hs) in
      let c : sum (map code_at (h ∷ hs)) ≡ code_at h + sum (map code_at hs) = cons_sum (code_at h) (map code_at hs) in
      let r : 32 * length (all_buffers arch hs) ≤ sum (map code_at hs) = handlers_light hs in
      omega (arith, own, both, c, r)

  task_light : (x : ℕ) (source : Source) → 32 * length (task_of arch x source).buffers ≤ source_code arch x
  task_light x source = let r : 32 * length (all_buffers arch (reached_by arch x)) ≤ sum (map code_at (reached_by arch x)) = handlers_light (reached_by arch x) in omega (arith, r)

  abbrev buffers_in : List Task → ℕ
  buffers_in ts = sum (map (λ t. length t.buffers) ts)

  tasks_light : (sources : List Source) (s : ℕ) → 32 * buffers_in (tasks_from arch s sources) ≤ total (source_code arch) s (length sources)
  tasks_light [] s = omega arith
  tasks_light (x ∷ xs) s =
      let c : buffers_in (tasks_from arch s (x ∷ xs)) ≡ length (task_of arch s x).buffers + buffers_in (tasks_from arch (suc s) xs) =
      cons_sum (length (task_of arch s x).buffers) (map (λ t. length t.buffers) (tasks_from arch (suc s) xs)) in
      let q : 32 * length (task_of arch s x).buffers ≤ source_code arch s = task_light s x in
      let r : 32 * buffers_in (tasks_from arch (suc s) xs) ≤ total (source_code arch) (suc s) (length xs) = tasks_light xs (suc s) in
      omega (arith, c, q, r)

  program_light : 32 * buffer_count (code_of arch) ≤ code arch
  program_light =
      let q : 32 * buffers_in (tasks_from arch 0 arch.sources) ≤ total (source_code arch) 0 (length arch.sources) = tasks_light arch.sources 0 in
      let e : code arch ≡ total (source_code arch) 0 (length arch.sources) + sum (map (source_code arch) []) = total_before (source_code arch) (length arch.sources) [] in
      let z : sum (map (source_code arch) []) ≡ 0 = refl in
      omega (arith, q, e, z)

  count_tasks : (sources : List Source) (s : ℕ) → length (tasks_from arch s sources) ≡ length sources
  count_tasks [] s = refl
  count_tasks (x ∷ xs) s = ap suc (count_tasks xs (suc s))

-- ---- all lines

bound : (n m o t b i : ℕ) → n ≤ 41 * (5 + m + o + t + b + i) → m ≤ 1024 → o ≤ 1024 → t ≤ 64 → 32 * b ≤ 1000000 → i ≤ 1000000 → n ≤ byte_limit
bound n m o t b i all ms os ts bs is = omega (arith, all, ms, os, ts, bs, is)

short_by : (arch : Arch) → IsSafe arch → IsProgram (code_of arch) → length (listing (code_of arch)) ≤ byte_limit
short_by arch s h =
    let weight : code arch ≤ 1000000 = s.within what.Code (code arch) refl in
    let monitors : length arch.monitors ≤ 1024 = s.within what.Monitors (length arch.monitors) refl in
    let outputs : length arch.outputs ≤ 1024 = s.within what.Outputs (length arch.outputs) refl in
    let sources : length arch.sources ≤ 64 = s.within what.Sources (length arch.sources) refl in
    let m : length (map (monitor_words arch) arch.monitors) ≡ length arch.monitors = length-map arch.monitors (monitor_words arch) in
    let o : length (map (λ q. words (shape_in (table_of arch.records) (channel_message arch q.channel))) arch.outputs) ≡ length arch.outputs =
    length-map arch.outputs (λ q. words (shape_in (table_of arch.records) (channel_message arch q.channel))) in
    let t : length (tasks_from arch 0 arch.sources) ≡ length arch.sources = count_tasks arch arch.sources 0 in
    let b : 32 * buffer_count (code_of arch) ≤ code arch = program_light arch in
    let i : all_instructions (code_of arch) ≤ code arch = instructions_within arch in
    bound (length (listing (code_of arch))) (length (code_of arch).monitors) (length (code_of arch).outputs) (length (code_of arch).tasks) (buffer_count (code_of arch)) (all_instructions (code_of arch))
    (listing_long (code_of arch) h) (omega (arith, monitors, m)) (omega (arith, outputs, o)) (omega (arith, sources, t)) (omega (arith, b, weight)) (omega (arith, i, weight))

-- the listing of the program of an accepted file is within the limit on texts
pub listing_short : (bs : List ℕ) (arch : Arch) → IsAccepted bs arch → IsProgram (code_of arch) → length (listing (code_of arch)) ≤ byte_limit
listing_short bs arch accepted h = short_by arch (safe bs arch accepted) h
