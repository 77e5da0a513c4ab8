-- The program of an accepted system keeps the rules of programs.
use Rattle.std.proofs.Common.{◌≡◌, ◌∙◌, ℕ, zero, suc, ◌+◌, ◌*◌, ◌<◌, ◌≤◌, inl, inr, Bool, true, false, List, [], ◌∷◌, ◌++◌, length, map, sum, All, Some, refl, sym, ap, subst, arith, slice_get, slice_index, slice_index_or}
use Rattle.std.proofs.lemmas.List.{length-map, length-append}
use Rattle.std.proofs.lemmas.List.Elements.{All-head, All-tail, All-nil}
use Rattle.std.proofs.lemmas.Option.{slice_get_within}
use Rattle.tower_types.specs.Ty.{shape_in, table_of, words}
use Rattle.tower_syntax.specs.declared.arch.On.{On}
use Rattle.tower_syntax.specs.declared.arch.On.TheVariants as on
use Rattle.tower_syntax.specs.declared.arch.Listener.{Listener}
use Rattle.tower_syntax.specs.declared.arch.Listener.TheVariants as to
use Rattle.tower_syntax.specs.Arch.{Arch, Source, Output, Emitter, Body, Handler}
use Rattle.tower_syntax.specs.Graph.{handler, no_handler, output, hears, subs, Reaches, begins, goes, reached_by}
use Rattle.tower_syntax.specs.Words.{IsBound}
use Rattle.tower_syntax.specs.WellNumbered.{AreListeners, IsNumberedHandler}
use Rattle.tower_syntax.specs.Typed.{no_names, AreTypedStmts}
use Rattle.tower_syntax.specs.Weights.{message_on, message_words, emitter_words, scope_of, monitor_words, handler_memory, source_memory, source_numbers, memory, code}
use Rattle.task_code.specs.declared.program.Task.{Task}
use Rattle.task_code.specs.declared.program.Instr.TheVariants.{Lock, Take}
use Rattle.task_code.specs.Program.{Program}
use Rattle.task_code.specs.Rules.{IsInstr, IsBuffer, IsTask, task_words, all_words, all_instructions, KeepsRules}
use Rattle.task_code.specs.Piece.{Piece, nil, ins, ◌▸◌, end, listed, joined}
use Rattle.task_code.specs.declared.frame.Frame.{Frame}
use Rattle.stmt_code.specs.FrameOf.{frame_of}
use Rattle.task_build.specs.CodeOf.{frames_from, end_of, handler_code, words_passed, call_code, head_code, entries_from, handlers_code, buffers_of, all_buffers, task_of, tasks_from, code_of}
use Rattle.stmt_code.specs.Layout.{layout_of}
use Rattle.stmt_code.specs.Body.{stmts_code}
use Rattle.emit_code.specs.Delivery.{Entry, words_got, item_code, emitter_code, delivery_code}
use Rattle.stmt_code.specs.Section.{cleared, bodies_code}
use Rattle.task_alone.proofs.Lists.{all_at}
use Rattle.channel_graph.proofs.Members.{In, filter_has, In-from_contains, contains_from_In, below_number}
use Rattle.channel_graph.proofs.Linked.{Link, link_of, of_link}
use Rattle.channel_graph.proofs.Closed.{listed_is_reached}
use Rattle.arch_types.specs.Scalars.{AreProperStmts}
use Rattle.arch_types.proofs.Lists.{AllOf, all_both, each_element}
use Rattle.arch_checks.specs.declared.fault.What.TheVariants as what
use Rattle.arch_checks.specs.Laws.{IsSafe}
use Rattle.arch_checks.specs.Offences.{IsAccepted}
use Rattle.arch_checks.proofs.Accepted.{safe}
use Rattle.emit_code.specs.Entries.{frame_in, place_in}
use Rattle.task_build.specs.TaskEntries.{known_of, taken_of, entries_of, Planned, Headed}
use Rattle.emit_code.proofs.Listed.{exists, same_on_channel, get_in}
use Rattle.task_build.proofs.Frames.{inner}
use Rattle.emit_code.specs.Entries.{HasParts}
use Rattle.task_build.proofs.Headed.{same_on_source}
use Rattle.task_build.proofs.Laid.{grows as frames_grow}
use Rattle.task_build.proofs.Placed.{Alike, placed_alike, handler_end, head_end}
use Rattle.task_build.proofs.Coded.{planned, headed}
use Rattle.arch_checks.specs.Kept.{KeepsNumbers}
use Rattle.task_code.proofs.Pieces.{end_is}
use Rattle.task_code.proofs.Lists.{cons_sum as sum_cons}
use Rattle.task_build.proofs.Typing.{typed_handler}
use Rattle.task_build.proofs.Weighed.{task_within, words_within, instructions_within}
use Rattle.arch_types.proofs.Lists.{each_of}
use Rattle.arch_checks.proofs.Goods.{times, full_words, good_message, AreGood, HasGoodNames, good_handlers}
use Rattle.task_build.proofs.Closing.{each_handler, small_bounds}
use Rattle.task_build.proofs.Layouts.{IsLaid}
use Rattle.task_build.proofs.Fine.{grows, number_pushed, Fine, fine_listed}
use Rattle.task_build.proofs.Stated.{stmts_fine}
use Rattle.task_build.proofs.Rooms.{body_room}

-- ---- small pieces

module _ (p : Program) (t : Task) where
  cleared_fine : (n b : ℕ) → b + n ≤ length t.buffers → Fine p t (cleared b n)
  cleared_fine zero b h = tt
  cleared_fine (suc n) b h = (omega (arith, h), cleared_fine n (suc b) (omega (arith, h)))

  got_fine : (i buffer a n j : ℕ) → i < t.room → buffer < length t.buffers → a + (j + n) ≤ t.room → j + n ≤ 4096 → Fine p t (words_got i buffer a j n)
  got_fine i buffer a zero j h b room few = tt
  got_fine i buffer a (suc n) j h b room few = (h, (number_pushed j (omega (arith, few)), (b, (omega (arith, room), got_fine i buffer a n (suc j) h b (omega (arith, room)) (omega (arith, few))))))

  passing_fine : (n a b : ℕ) → a + n ≤ t.room → b + n ≤ t.room → Fine p t (words_passed a b n)
  passing_fine zero a b h k = tt
  passing_fine (suc n) a b h k = (omega (arith, h), (omega (arith, k), passing_fine n (suc a) (suc b) (omega (arith, h)) (omega (arith, k))))

  either_fine : (c : Bool) (x : Piece) → Fine p t x → Fine p t (elim c [ true ↦ nil | false ↦ x ])
  either_fine true x h = tt
  either_fine false x h = h

  joined_fine : (g : Listener → Piece) (ls : List Listener) → ((l : Listener) → In l ls → Fine p t (g l)) → Fine p t (joined (map g ls))
  joined_fine g [] each = tt
  joined_fine g (l ∷ ls) each = (each l (inl refl), joined_fine g ls (λ m i. each m (inr i)))

  -- the form of a loop over one buffer
  emitter_fine : (entries : List Entry) (from i buffer scratch width : ℕ) (ls : List Listener) → i < t.room → buffer < length t.buffers → ((l : Listener) → In l ls → Fine p t (item_code entries i buffer scratch width l))
      → end from (emitter_code entries from i buffer scratch width ls) < length t.code → Fine p t (emitter_code entries from i buffer scratch width ls)
  emitter_fine entries from i buffer scratch width ls h b each room =
      let inner_code : Piece = joined (map (item_code entries i buffer scratch width) ls) in
      let begin : from + 2 + 4 ≡ suc (suc (suc (suc (suc (suc from))))) = omega arith in
      let same : end (from + 2 + 4) inner_code ≡ end (suc (suc (suc (suc (suc (suc from)))))) inner_code = ap (λ a. end a inner_code) begin in
      let more : from + 2 + 4 ≤ end (from + 2 + 4) inner_code = grows inner_code (from + 2 + 4) in
      let inside : suc (suc (suc (suc (suc (end (suc (suc (suc (suc (suc (suc from)))))) inner_code))))) < length t.code = room in (
        number_pushed 0 (omega arith),
        (
          h,
          (
            h,
            (
              b,
              (
                tt,
                (
                  omega (arith, same, inside),
                  (
                    joined_fine (item_code entries i buffer scratch width) ls each,
                    (h, (number_pushed 1 (omega arith), (tt, (h, omega (arith, same, more, inside))))),
                  ),
                ),
              ),
            ),
          ),
        ),
      )

-- ---- a task

pub reached_below : (arch : Arch) (x h : ℕ) → AreListeners arch → Reaches arch x h → h < length arch.handlers
reached_below arch x h listed (begins k c) = exists arch (to.Handler k) listed (filter_has (hears arch (on.Source x)) arch.listeners (to.Handler k) (In-from_contains (subs arch (on.Source x)) (to.Handler k) c)).0
reached_below arch x h listed (goes g k r led) = (link_of arch g k listed led).below

pub numbered_here : (arch : Arch) → IsSafe arch → (h : ℕ) → h < length arch.handlers → IsNumberedHandler arch (handler arch h)
numbered_here arch safe_arch h lt = there arch.handlers h safe_arch.numbered.handlers lt
  where
    there : (hs : List Handler) (h : ℕ) → All (IsNumberedHandler arch) hs → h < length hs → IsNumberedHandler arch (slice_index_or hs h no_handler)
    there [] h every lt = absurd (omega (arith, lt))
    there (q ∷ hs) zero every lt = All-head (IsNumberedHandler arch) q hs every
    there (q ∷ hs) (suc h) every lt = there hs h (All-tail (IsNumberedHandler arch) q hs every) (omega (arith, lt))

pub good_names : (arch : Arch) (safe_arch : IsSafe arch) (keeps : KeepsNumbers arch) (h : ℕ) → AllOf (λ b. AreGood arch safe_arch keeps b.binders) (handler arch h).callbacks
good_names arch safe_arch keeps h = each_handler (HasGoodNames arch safe_arch keeps) arch.handlers tt (each_element (HasGoodNames arch safe_arch keeps) arch.handlers (good_handlers arch safe_arch keeps)) h

module _ (arch : Arch) (safe_arch : IsSafe arch) (keeps : KeepsNumbers arch) (x : ℕ) (source : Source) where
  abbrev p : Program
  p = code_of arch

  abbrev t : Task
  t = task_of arch x source

  abbrev es : List Entry
  es = entries_of arch x

  abbrev once : AreListeners arch
  once = safe_arch.numbered.listeners

  plan : Planned arch p t x es
  plan = planned arch once x source (small_bounds arch keeps)

  -- a call goes to an instruction
  called : (k : ℕ) → Reaches arch x k → place_in es k < length t.code
  called k r = slice_get_within t.code (place_in es k) (Lock (handler arch k).monitor) (plan.stands k r).0.0.0

  few_words : (o : On) → message_words arch o ≤ 4096
  few_words o = (good_message arch safe_arch keeps o).2

  few_from_zero : (o : On) → 0 + message_words arch o ≤ 4096
  few_from_zero o = let few : message_words arch o ≤ 4096 = few_words o in omega (arith, few)

  -- a message of n words fits into the frame of a handler that hears it
  message_room : (k n : ℕ) → Reaches arch x k → message_words arch (handler arch k).on ≡ n → (frame_in es k).param + n ≤ t.room
  message_room k n r e =
      let parts : HasParts arch k (frame_in es k) = inner arch k (frame_in es k) (plan.frame k r) in
      let message : (frame_in es k).param + message_words arch (handler arch k).on ≤ (frame_in es k).temps = parts.message in
      let last : (frame_in es k).temps + 2 < (frame_in es k).end = parts.counter in
      let room : (frame_in es k).end ≤ t.room = plan.framed.room k r in
      omega (arith, message, last, room, e)

  -- ---- a handler, in a frame

  module _ (h : ℕ) (reached : Reaches arch x h) (f : Frame) (is : f ≡ frame_of arch h f.param f.first_buffer) (room : f.end ≤ t.room) (buffers : f.first_buffer + length (handler arch h).emitters ≤ length t.buffers) where
    counter_there : f.temps + 2 < t.room
    counter_there = let last : f.temps + 2 < f.end = (inner arch h f is).counter in omega (arith, last, room)

    item_fine : (k : ℕ) (e : Emitter) → slice_get (handler arch h).emitters k ≡ Some e → (l : Listener) → In l (subs arch (on.Channel e.channel)) → Fine p t (item_code es (f.temps + 2) (f.first_buffer + k) (slice_index_or f.scratch k 0) (emitter_words arch e) l)
    item_fine k e has (to.Output o) l =
        let m = filter_has (hears arch (on.Channel e.channel)) arch.listeners (to.Output o) l in
        let same : on.Channel (output arch o).channel ≡ on.Channel e.channel = same_on_channel (on.Channel (output arch o).channel) e.channel m.1 in
        let there : o < length arch.outputs = exists arch (to.Output o) once m.0 in
        let width : slice_index p.outputs o ≡ emitter_words arch e = plan.framed.outputs o there ∙ ap (message_words arch) same in
        let places = (inner arch h f is).scratch k e has in
        let high : slice_index_or f.scratch k 0 + emitter_words arch e ≤ f.end = places.1 in
        let listed_too : k < length (handler arch h).emitters = slice_get_within (handler arch h).emitters k e has in
        let count : length p.outputs ≡ length arch.outputs = length-map arch.outputs (λ q. words (shape_in (table_of arch.records) (message_on arch (on.Channel q.channel)))) in (
          got_fine p t (f.temps + 2) (f.first_buffer + k) (slice_index_or f.scratch k 0) (emitter_words arch e) 0 counter_there (omega (arith, listed_too, buffers)) (omega (arith, high, room)) (few_from_zero (on.Channel e.channel)),
          (omega (arith, there, count), omega (arith, high, room, width)),
        )
    item_fine k e has (to.Handler g) l =
        let m = filter_has (hears arch (on.Channel e.channel)) arch.listeners (to.Handler g) l in
        let same : (handler arch g).on ≡ on.Channel e.channel = same_on_channel (handler arch g).on e.channel m.1 in
        let link : Link arch h g = record { emitter = e; has = get_in (handler arch h).emitters k e has; below = exists arch (to.Handler g) once m.0; on = m.1 } in
        let to_g : Reaches arch x g = goes h g reached (of_link arch h g once link) in
        let fits : (frame_in es g).param + emitter_words arch e ≤ t.room = message_room g (emitter_words arch e) to_g (ap (message_words arch) same) in
        let listed_too : k < length (handler arch h).emitters = slice_get_within (handler arch h).emitters k e has in (
          got_fine p t (f.temps + 2) (f.first_buffer + k) (frame_in es g).param (emitter_words arch e) 0 counter_there (omega (arith, listed_too, buffers)) (omega (arith, fits)) (few_from_zero (on.Channel e.channel)),
          called g to_g,
        )

    delivery_fine : (ems : List Emitter) (k from : ℕ) → ((j : ℕ) (e : Emitter) → slice_get ems j ≡ Some e → slice_get (handler arch h).emitters (k + j) ≡ Some e) → end from (delivery_code arch es f from k ems) < length t.code → Fine p t (delivery_code arch es f from k ems)
    delivery_fine [] k from at inside = tt
    delivery_fine (e ∷ ems) k from at inside =
        let z : k + 0 ≡ k = omega arith in
        let has : slice_get (handler arch h).emitters k ≡ Some e = subst (λ a. slice_get (handler arch h).emitters a ≡ Some e) z (at 0 e refl) in
        let listed_too : k < length (handler arch h).emitters = slice_get_within (handler arch h).emitters k e has in
        let first : Piece = emitter_code es from (f.temps + 2) (f.first_buffer + k) (slice_index_or f.scratch k 0) (emitter_words arch e) (subs arch (on.Channel e.channel)) in
        let middle : ℕ = end from first in
        let more : middle ≤ end middle (delivery_code arch es f middle (suc k) ems) = grows (delivery_code arch es f middle (suc k) ems) middle in
        let within : end middle (delivery_code arch es f middle (suc k) ems) < length t.code = inside in (
          emitter_fine p t es from (f.temps + 2) (f.first_buffer + k) (slice_index_or f.scratch k 0) (emitter_words arch e) (subs arch (on.Channel e.channel)) counter_there (omega (arith, listed_too, buffers)) (item_fine k e has) (omega (arith, more, within)),
          delivery_fine ems (suc k) middle (λ j d s. subst (λ a. slice_get (handler arch h).emitters a ≡ Some d) (next k j) (at (suc j) d s)) within,
        )
      where
        next : (k j : ℕ) → k + suc j ≡ suc k + j
        next k j = omega arith

    proper_here : All (λ b. AreProperStmts b.stmts) (handler arch h).callbacks
    proper_here = each_handler (λ q. All (λ b. AreProperStmts b.stmts) q.callbacks) arch.handlers (All-nil (λ b. AreProperStmts b.stmts)) safe_arch.scalars h

    bodies_fine : (bs : List Body) (i from : ℕ) → ((j : ℕ) (b : Body) → slice_get bs j ≡ Some b → slice_get (handler arch h).callbacks (i + j) ≡ Some b) → end from (bodies_code arch (handler arch h) f i from bs) < length t.code → Fine p t (bodies_code arch (handler arch h) f i from bs)
    bodies_fine [] i from at inside = tt
    bodies_fine (b ∷ bs) i from at inside =
        let z : i + 0 ≡ i = omega arith in
        let has : slice_get (handler arch h).callbacks i ≡ Some b = subst (λ a. slice_get (handler arch h).callbacks a ≡ Some b) z (at 0 b refl) in
        let first : Piece = stmts_code (layout_of arch (handler arch h) f i b) from b.stmts in
        let middle : ℕ = end from first in
        let more : middle ≤ end middle (bodies_code arch (handler arch h) f (suc i) middle bs) = grows (bodies_code arch (handler arch h) f (suc i) middle bs) middle in
        let within : end middle (bodies_code arch (handler arch h) f (suc i) middle bs) < length t.code = inside in
        let good = all_at (λ c. AreGood arch safe_arch keeps c.binders) (handler arch h).callbacks i b (each_element (λ c. AreGood arch safe_arch keeps c.binders) (handler arch h).callbacks (good_names arch safe_arch keeps h)) has in
        let laid : IsLaid p t (layout_of arch (handler arch h) f i b) = body_room arch safe_arch keeps p t h f i b is room buffers refl (numbered_here arch safe_arch h (reached_below arch x h once reached)).monitor has good in (
          stmts_fine p t (layout_of arch (handler arch h) f i b) laid b.stmts no_names from (all_at (λ c. AreTypedStmts (scope_of arch (handler arch h) c) no_names c.stmts) (handler arch h).callbacks i b (typed_handler arch safe_arch.typed h).callbacks has) (all_at (λ c. AreProperStmts c.stmts) (handler arch h).callbacks i b proper_here has) (omega (arith, more, within)),
          bodies_fine bs (suc i) middle (λ j c s. subst (λ a. slice_get (handler arch h).callbacks a ≡ Some c) (next i j) (at (suc j) c s)) within,
        )
      where
        next : (k j : ℕ) → k + suc j ≡ suc k + j
        next k j = omega arith

    monitor_there : (handler arch h).monitor < length p.monitors
    monitor_there = subst (λ n. (handler arch h).monitor < n) (sym (length-map arch.monitors (monitor_words arch))) (numbered_here arch safe_arch h (reached_below arch x h once reached)).monitor

    -- all its code, where RET stands behind it
    handler_fine : (from : ℕ) → end from (handler_code arch es h f from) ≤ length t.code → Fine p t (handler_code arch es h f from)
    handler_fine from inside =
        let first : Piece = ins (Lock (handler arch h).monitor) ▸ cleared f.first_buffer (length (handler arch h).emitters) in
        let bodies : ℕ = end from first in
        let unlock : ℕ = end bodies (bodies_code arch (handler arch h) f 0 bodies (handler arch h).callbacks) in
        let delivery : ℕ = suc unlock in
        let last : ℕ = end delivery (delivery_code arch es f delivery 0 (handler arch h).emitters) in
        let more : delivery ≤ last = grows (delivery_code arch es f delivery 0 (handler arch h).emitters) delivery in
        let within : suc last ≤ length t.code = inside in (
          (
            (monitor_there, cleared_fine p t (length (handler arch h).emitters) f.first_buffer buffers),
            (bodies_fine (handler arch h).callbacks 0 bodies (λ j b s. subst (λ a. slice_get (handler arch h).callbacks a ≡ Some b) (from_zero j) s) (omega (arith, more, within)), monitor_there),
          ),
          (delivery_fine (handler arch h).emitters 0 delivery (λ j e s. subst (λ a. slice_get (handler arch h).emitters a ≡ Some e) (from_zero j) s) (omega (arith, within)), tt),
        )
      where
        from_zero : (j : ℕ) → j ≡ 0 + j
        from_zero j = omega arith

  -- ---- all handlers, and the head

  alike : Alike (known_of arch x) es
  alike = placed_alike arch (known_of arch x) _ (reached_by arch x) (frames_from arch 0 0 (reached_by arch x))

  handlers_fine : (hs : List ℕ) (base buffer from : ℕ) → ((k : ℕ) → In k hs → Reaches arch x k) → end_of base (frames_from arch base buffer hs) ≤ t.room → buffer + length (all_buffers arch hs) ≤ length t.buffers
      → end from (handlers_code arch es (entries_from arch (known_of arch x) from hs (frames_from arch base buffer hs))) ≤ length t.code
      → Fine p t (handlers_code arch es (entries_from arch (known_of arch x) from hs (frames_from arch base buffer hs)))
  handlers_fine [] base buffer from reach room many inside = tt
  handlers_fine (h ∷ hs) base buffer from reach room many inside =
      let f : Frame = frame_of arch h base buffer in
      let count : ℕ = length (handler arch h).emitters in
      let mid : ℕ = end from (handler_code arch (known_of arch x) h f from) in
      let same : mid ≡ end from (handler_code arch es h f from) = handler_end arch (known_of arch x) es alike h f from in
      let rest : Piece = handlers_code arch es (entries_from arch (known_of arch x) mid hs (frames_from arch f.end (buffer + count) hs)) in
      let within : end mid rest ≤ length t.code = subst (λ a. end a rest ≤ length t.code) (sym same) inside in
      let more : mid ≤ end mid rest = grows rest mid in
      let frames : f.end ≤ end_of f.end (frames_from arch f.end (buffer + count) hs) = frames_grow arch hs f.end (buffer + count) in
      let all_length : length (buffers_of arch (handler arch h).emitters ++ all_buffers arch hs) ≡ length (buffers_of arch (handler arch h).emitters) + length (all_buffers arch hs) = length-append (buffers_of arch (handler arch h).emitters) (all_buffers arch hs) in
      let own_length : length (buffers_of arch (handler arch h).emitters) ≡ count = length-map (handler arch h).emitters (λ e. record { width = emitter_words arch e; bound = e.bound }) in
      let many_too : buffer + length (buffers_of arch (handler arch h).emitters ++ all_buffers arch hs) ≤ length t.buffers = many in
      let room_too : end_of f.end (frames_from arch f.end (buffer + count) hs) ≤ t.room = room in (
        handler_fine h (reach h (inl refl)) f refl (omega (arith, frames, room_too)) (omega (arith, many_too, all_length, own_length)) from (omega (arith, same, more, within)),
        handlers_fine hs f.end (buffer + count) mid (λ k i. reach k (inr i)) room (omega (arith, many_too, all_length, own_length)) within,
      )

  head_plan : Headed arch t x es
  head_plan = headed arch once x source

  taken_same : (a b : ℕ) → Some (Take a) ≡ Some (Take b) → a ≡ b
  taken_same a b e = cc

  -- the message that is taken has room
  taken_room : taken_of arch x + message_words arch (on.Source x) ≤ t.room
  taken_room = subst (λ a. a + message_words arch (on.Source x) ≤ t.room) (sym (taken_same (taken_of arch x) head_plan.taken head_plan.stands.0)) head_plan.room

  call_fine : (l : Listener) → In l (subs arch (on.Source x)) → Fine p t (call_code es (taken_of arch x) (message_words arch (on.Source x)) l)
  call_fine (to.Output o) i = tt
  call_fine (to.Handler k) i =
      let m = filter_has (hears arch (on.Source x)) arch.listeners (to.Handler k) i in
      let same : (handler arch k).on ≡ on.Source x = same_on_source (handler arch k).on x m.1 in
      let reached : Reaches arch x k = begins k (contains_from_In (subs arch (on.Source x)) (to.Handler k) i) in
      let width : ℕ = message_words arch (on.Source x) in
      let fits : (frame_in es k).param + width ≤ t.room = message_room k width reached (ap (message_words arch) same) in
      (either_fine p t _ (words_passed (taken_of arch x) (frame_in es k).param width) (passing_fine p t width (taken_of arch x) (frame_in es k).param taken_room fits), called k reached)

  head_fine : Fine p t (head_code arch es x (taken_of arch x) (message_words arch (on.Source x)))
  head_fine = (taken_room, (joined_fine p t (call_code es (taken_of arch x) (message_words arch (on.Source x))) (subs arch (on.Source x)) call_fine, slice_get_within t.code 0 _ head_plan.stands.0))

  code_fine : AllOf (IsInstr p t) t.code
  code_fine =
      let hs : List ℕ = reached_by arch x in
      let width : ℕ = message_words arch (on.Source x) in
      let from : ℕ = end 0 (head_code arch (known_of arch x) x (taken_of arch x) width) in
      let head : Piece = head_code arch es x (taken_of arch x) width in
      let handlers : Piece = handlers_code arch es es in
      let same : from ≡ end 0 head = head_end arch (known_of arch x) es alike x (taken_of arch x) width in
      let whole : end 0 (head ▸ handlers) ≡ 0 + length (listed (head ▸ handlers)) = end_is (head ▸ handlers) 0 in
      let last : end (end 0 head) handlers ≡ 0 + length t.code = whole in
      let inside : end from handlers ≤ length t.code = subst (λ a. end a handlers ≤ length t.code) (sym same) (omega (arith, last)) in
      let room : end_of 0 (frames_from arch 0 0 hs) ≤ t.room = least_room hs width in
      fine_listed p t (head ▸ handlers) (head_fine, handlers_fine hs 0 0 from (λ k i. listed_is_reached arch x k once i) room (omega arith) inside)
    where
      least_room : (hs : List ℕ) (width : ℕ) → end_of 0 (frames_from arch 0 0 hs) ≤ end_of width (frames_from arch 0 0 hs)
      least_room [] width = omega arith
      least_room (h ∷ hs) width = omega arith

-- ---- the numbers of a program

pub in_sum : {X : Type 0} (f : X → ℕ) (xs : List X) (y : X) → In y xs → f y ≤ sum (map f xs)
in_sum f [] y h = absurd h
in_sum f (x ∷ xs) y (inl e) = let total : sum (f x ∷ map f xs) ≡ f x + sum (map f xs) = sum_cons (f x) (map f xs) in let same : f y ≡ f x = ap f e in omega (arith, total, same)
in_sum f (x ∷ xs) y (inr h) = let total : sum (f x ∷ map f xs) ≡ f x + sum (map f xs) = sum_cons (f x) (map f xs) in let r : f y ≤ sum (map f xs) = in_sum f xs y h in omega (arith, total, r)

-- each emitter has words, and so a handler's weight counts each of its buffers
few_emitters : (arch : Arch) → ((o : On) → 1 ≤ message_words arch o) → (es : List Emitter) → length es ≤ sum (map (λ e. (e.bound + 2) * emitter_words arch e) es)
few_emitters arch some [] = omega arith
few_emitters arch some (e ∷ es) =
    let weight : ℕ = (e.bound + 2) * emitter_words arch e in
    let total : sum (weight ∷ map (λ e. (e.bound + 2) * emitter_words arch e) es) ≡ weight + sum (map (λ e. (e.bound + 2) * emitter_words arch e) es) = sum_cons weight (map (λ e. (e.bound + 2) * emitter_words arch e) es) in
    let rest : length es ≤ sum (map (λ e. (e.bound + 2) * emitter_words arch e) es) = few_emitters arch some es in
    let one : 1 ≤ weight = times (e.bound + 2) (emitter_words arch e) 1 (omega arith) (some (on.Channel e.channel)) in
    omega (arith, total, rest, one)

few_buffers : (arch : Arch) → ((o : On) → 1 ≤ message_words arch o) → (hs : List ℕ) → length (all_buffers arch hs) ≤ sum (map (λ h. handler_memory arch (handler arch h)) hs)
few_buffers arch some [] = omega arith
few_buffers arch some (h ∷ hs) =
    let weight : ℕ = handler_memory arch (handler arch h) in
    let total : sum (weight ∷ map (λ h. handler_memory arch (handler arch h)) hs) ≡ weight + sum (map (λ h. handler_memory arch (handler arch h)) hs) = sum_cons weight (map (λ h. handler_memory arch (handler arch h)) hs) in
    let rest : length (all_buffers arch hs) ≤ sum (map (λ h. handler_memory arch (handler arch h)) hs) = few_buffers arch some hs in
    let own : length (handler arch h).emitters ≤ sum (map (λ e. (e.bound + 2) * emitter_words arch e) (handler arch h).emitters) = few_emitters arch some (handler arch h).emitters in
    let count : length (buffers_of arch (handler arch h).emitters) ≡ length (handler arch h).emitters = length-map (handler arch h).emitters (λ e. record { width = emitter_words arch e; bound = e.bound }) in
    let both : length (buffers_of arch (handler arch h).emitters ++ all_buffers arch hs) ≡ length (buffers_of arch (handler arch h).emitters) + length (all_buffers arch hs) = length-append (buffers_of arch (handler arch h).emitters) (all_buffers arch hs) in
    omega (arith, total, rest, own, count, both)

buffers_keep : (arch : Arch) → ((o : On) → (1 ≤ message_words arch o) × (message_words arch o ≤ 4096)) → (es : List Emitter) → AllOf (λ e. IsBound e.bound) es → AllOf IsBuffer (buffers_of arch es)
buffers_keep arch wide [] h = tt
buffers_keep arch wide (e ∷ es) h =
    let few : message_words arch (on.Channel e.channel) ≤ 4096 = (wide (on.Channel e.channel)).1 in
    let bound : e.bound ≤ 65536 = h.0.1 in
    ((((wide (on.Channel e.channel)).0, omega (arith, few)), omega (arith, bound)), buffers_keep arch wide es h.1)

all_buffers_keep : (arch : Arch) → ((o : On) → (1 ≤ message_words arch o) × (message_words arch o ≤ 4096)) → KeepsNumbers arch → (hs : List ℕ) → AllOf IsBuffer (all_buffers arch hs)
all_buffers_keep arch wide keeps [] = tt
all_buffers_keep arch wide keeps (h ∷ hs) =
    all_both IsBuffer (buffers_of arch (handler arch h).emitters) (all_buffers arch hs)
    (buffers_keep arch wide (handler arch h).emitters (each_of (λ e. IsBound e.bound) (handler arch h).emitters (each_handler (λ q. All (λ e. IsBound e.bound) q.emitters) arch.handlers (All-nil (λ e. IsBound e.bound)) keeps.bounds h)))
    (all_buffers_keep arch wide keeps hs)

each_below : (ns : List ℕ) (k : ℕ) → sum ns ≤ k → AllOf (λ n. n ≤ k) ns
each_below [] k h = tt
each_below (n ∷ ns) k h = let total : sum (n ∷ ns) ≡ n + sum ns = sum_cons n ns in (omega (arith, total, h), each_below ns k (omega (arith, total, h)))

outputs_below : (arch : Arch) → ((o : On) → message_words arch o ≤ 4096) → (os : List Output) → AllOf (λ n. n ≤ 1048576) (map (λ q. message_words arch (on.Channel q.channel)) os)
outputs_below arch few [] = tt
outputs_below arch few (o ∷ os) = let n : message_words arch (on.Channel o.channel) ≤ 4096 = few (on.Channel o.channel) in (omega (arith, n), outputs_below arch few os)

count_tasks : (arch : Arch) (sources : List Source) (s : ℕ) → length (tasks_from arch s sources) ≡ length sources
count_tasks arch [] s = refl
count_tasks arch (q ∷ sources) s = let r : length (tasks_from arch (suc s) sources) ≡ length sources = count_tasks arch sources (suc s) in ap suc r

module _ (arch : Arch) (safe_arch : IsSafe arch) (keeps : KeepsNumbers arch) where
  wide : (o : On) → (1 ≤ message_words arch o) × (message_words arch o ≤ 4096)
  wide o = let g = good_message arch safe_arch keeps o in (full_words (shape_in (table_of arch.records) (message_on arch o)) g.0 g.1, g.2)

  in_memory : memory arch ≤ 1048576
  in_memory = safe_arch.within what.Memory (memory arch) refl

  source_below : (x : ℕ) → x < length arch.sources → source_memory arch x ≤ 1048576
  source_below x lt =
      let one : source_memory arch x ≤ sum (map (source_memory arch) (source_numbers arch)) = in_sum (source_memory arch) (source_numbers arch) x (below_number (length arch.sources) x lt) in
      let all : memory arch ≤ 1048576 = in_memory in
      omega (arith, one, all)

  task_keeps : (x : ℕ) (source : Source) → x < length arch.sources → IsTask (code_of arch) (task_of arch x source)
  task_keeps x source lt =
      let hs : List ℕ = reached_by arch x in
      let below : source_memory arch x ≤ 1048576 = source_below x lt in
      let all : task_words (task_of arch x source) ≤ source_memory arch x = task_within arch x source in
      let some : 1 ≤ message_words arch (on.Source x) = (wide (on.Source x)).0 in
      let few : message_words arch (on.Source x) ≤ 4096 = (wide (on.Source x)).1 in
      let buffers : length (all_buffers arch hs) ≤ sum (map (λ h. handler_memory arch (handler arch h)) hs) = few_buffers arch (λ o. (wide o).0) hs in
      record {
        message = (some, omega (arith, few));
        room = omega (arith, all, below);
        few_buffers = omega (arith, buffers, below);
        buffers = each_element IsBuffer (all_buffers arch hs) (all_buffers_keep arch wide keeps hs);
        code = each_element (IsInstr (code_of arch) (task_of arch x source)) (task_of arch x source).code (code_fine arch safe_arch keeps x source);
      }

  tasks_keep : (sources : List Source) (s : ℕ) → s + length sources ≤ length arch.sources → AllOf (IsTask (code_of arch)) (tasks_from arch s sources)
  tasks_keep [] s h = tt
  tasks_keep (q ∷ sources) s h = (task_keeps s q (omega (arith, h)), tasks_keep sources (suc s) (omega (arith, h)))

  pub rules : KeepsRules (code_of arch)
  rules =
      let memory_below : memory arch ≤ 1048576 = in_memory in
      let words_below : all_words (code_of arch) ≤ memory arch = words_within arch in
      let code_below : code arch ≤ 1000000 = safe_arch.within what.Code (code arch) refl in
      let instructions_below : all_instructions (code_of arch) ≤ code arch = instructions_within arch in
      let monitors : length arch.monitors ≤ 1024 = safe_arch.within what.Monitors (length arch.monitors) refl in
      let outputs : length arch.outputs ≤ 1024 = safe_arch.within what.Outputs (length arch.outputs) refl in
      let sources : length arch.sources ≤ 64 = safe_arch.within what.Sources (length arch.sources) refl in
      let monitors_are : length (map (monitor_words arch) arch.monitors) ≡ length arch.monitors = length-map arch.monitors (monitor_words arch) in
      let outputs_are : length (map (λ q. message_words arch (on.Channel q.channel)) arch.outputs) ≡ length arch.outputs = length-map arch.outputs (λ q. message_words arch (on.Channel q.channel)) in
      let tasks_are : length (tasks_from arch 0 arch.sources) ≡ length arch.sources = count_tasks arch arch.sources 0 in
      record {
        few_monitors = omega (arith, monitors, monitors_are);
        few_outputs = omega (arith, outputs, outputs_are);
        few_tasks = omega (arith, sources, tasks_are);
        monitors = each_element (λ n. n ≤ 1048576) (map (monitor_words arch) arch.monitors) (each_below (map (monitor_words arch) arch.monitors) 1048576 (omega (arith, memory_below)));
        outputs = each_element (λ n. n ≤ 1048576) (map (λ q. message_words arch (on.Channel q.channel)) arch.outputs) (outputs_below arch (λ o. (wide o).1) arch.outputs);
        tasks = each_element (IsTask (code_of arch)) (tasks_from arch 0 arch.sources) (tasks_keep arch.sources 0 (omega arith));
        words = omega (arith, words_below, memory_below);
        instructions = omega (arith, instructions_below, code_below);
      }

pub rules_kept : (bs : List ℕ) (arch : Arch) → IsAccepted bs arch → KeepsRules (code_of arch)
rules_kept bs arch accepted = let s : IsSafe arch = safe bs arch accepted in rules arch s s.numbers
