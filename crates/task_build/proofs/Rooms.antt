-- Where the parts of a callback lie in a frame, a monitor and the buffers.
use Rattle.std.proofs.Common.{◌≡◌, ◌∙◌, ℕ, zero, suc, ◌+◌, ◌<◌, ◌≤◌, List, [], ◌∷◌, length, map, sum, Some, refl, sym, ap, subst, arith, slice_get, slice_index, slice_index_or}
use Rattle.std.proofs.lemmas.List.{length-map}
use Rattle.std.proofs.lemmas.Option.{same_Some, none-some}
use Rattle.tower_types.specs.Ty.{Fields, Shape, shapes_of, shape_in, shape_of_fields, table_of, words, words_of_all}
use Rattle.tower_syntax.specs.declared.arch.On.TheVariants as on
use Rattle.tower_syntax.specs.Arch.{Arch, Monitor, Emitter, Body}
use Rattle.tower_syntax.specs.Graph.{handler}
use Rattle.tower_syntax.specs.Weights.{shape_at, channel_message, field_shapes, states_of, scope_of, monitor_words, emitter_words}
use Rattle.task_code.specs.declared.program.Task.{Task}
use Rattle.task_code.specs.Program.{Program}
use Rattle.task_code.specs.declared.frame.Frame.{Frame}
use Rattle.stmt_code.specs.FrameOf.{frame_of, laid, binder_words, binders_laid}
use Rattle.stmt_code.specs.Layout.{layout_of, words_before}
use Rattle.task_alone.proofs.Lists.{get_within}
use Rattle.arch_checks.specs.Laws.{IsSafe}
use Rattle.task_build.proofs.Frames.{laid_within, inner}
use Rattle.emit_code.specs.Entries.{HasParts}
use Rattle.arch_checks.specs.Kept.{KeepsNumbers}
use Rattle.task_code.proofs.Lists.{cons_sum as sum_cons}
use Rattle.arch_checks.proofs.Goods.{AreGood, good_message, good_states}
use Rattle.arch_checks.specs.Wide.{IsWide}
use Rattle.task_build.proofs.Layouts.{IsLaid}

-- ---- lists of shapes

states_within : (ss : List Shape) (k : ℕ) → k < length ss → words_before ss k + words (shape_at ss k) ≤ words_of_all (shapes_of ss)
states_within [] k h = absurd (omega (arith, h))
states_within (s ∷ ss) zero h = omega arith
states_within (s ∷ ss) (suc k) h = let r : words_before ss k + words (shape_at ss k) ≤ words_of_all (shapes_of ss) = states_within ss k (omega (arith, h)) in omega (arith, r)

shape_there : (ss : List Shape) (k : ℕ) → k < length ss → slice_get (map words ss) k ≡ Some (words (shape_at ss k))
shape_there [] k h = absurd (omega (arith, h))
shape_there (s ∷ ss) zero h = refl
shape_there (s ∷ ss) (suc k) h = shape_there ss k (omega (arith, h))

map_twice : {X Y Z : Type 0} (f : X → Y) (g : Y → Z) (xs : List X) → map g (map f xs) ≡ map (λ x. g (f x)) xs
map_twice f g [] = refl
map_twice f g (x ∷ xs) = ap (λ l. g (f x) ∷ l) (map_twice f g xs)

-- the words of a callback's names lie among those of all
pub record BodyLaid (arch : Arch) (a : ℕ) (bs : List Body) (i : ℕ) (b : Body) : Type 0 where
  pub from : ℕ
  pub laid_is : slice_index_or (binders_laid arch a bs) i [] ≡ laid from (binder_words arch b)
  pub within : from + sum (binder_words arch b) ≤ a + sum (map (λ c. sum (binder_words arch c)) bs)

body_laid : (arch : Arch) (bs : List Body) (a i : ℕ) (b : Body) → slice_get bs i ≡ Some b → BodyLaid arch a bs i b
body_laid arch [] a i b e = absurd (none-some b e)
body_laid arch (c ∷ bs) a zero b e =
    let total : sum (sum (binder_words arch c) ∷ map (λ d. sum (binder_words arch d)) bs) ≡ sum (binder_words arch c) + sum (map (λ d. sum (binder_words arch d)) bs) = sum_cons (sum (binder_words arch c)) (map (λ d. sum (binder_words arch d)) bs) in
    subst (BodyLaid arch a (c ∷ bs) 0) (same_Some c b e) (record { from = a; laid_is = refl; within = omega (arith, total) })
body_laid arch (c ∷ bs) a (suc i) b e =
    let total : sum (sum (binder_words arch c) ∷ map (λ d. sum (binder_words arch d)) bs) ≡ sum (binder_words arch c) + sum (map (λ d. sum (binder_words arch d)) bs) = sum_cons (sum (binder_words arch c)) (map (λ d. sum (binder_words arch d)) bs) in
    let r = body_laid arch bs (a + sum (binder_words arch c)) i b e in
    let within : r.from + sum (binder_words arch b) ≤ a + sum (binder_words arch c) + sum (map (λ d. sum (binder_words arch d)) bs) = r.within in
    record { from = r.from; laid_is = r.laid_is; within = omega (arith, within, total) }

monitor_at : (arch : Arch) (ms : List Monitor) (m : ℕ) → m < length ms → slice_index (map (monitor_words arch) ms) m ≡ words (shape_of_fields (table_of arch.records) (slice_index_or (map (λ x. x.states) ms) m []))
monitor_at arch [] m h = absurd (omega (arith, h))
monitor_at arch (x ∷ ms) zero h = refl
monitor_at arch (x ∷ ms) (suc m) h = monitor_at arch ms m (omega (arith, h))

module _ (arch : Arch) (safe : IsSafe arch) (keeps : KeepsNumbers arch) where
  abbrev table : List Shape
  table = table_of arch.records

  fields_wide : (fs : Fields) (k : ℕ) → AreGood arch safe keeps fs → k < length (field_shapes table fs) → IsWide (shape_at (field_shapes table fs) k)
  fields_wide [] k h lt = absurd (omega (arith, lt))
  fields_wide (f ∷ fs) zero h lt = h.0
  fields_wide (f ∷ fs) (suc k) h lt = fields_wide fs k h.1 (omega (arith, lt))

  emitters_wide : (es : List Emitter) (k : ℕ) → k < length (map (λ e. shape_in table (channel_message arch e.channel)) es) → IsWide (shape_at (map (λ e. shape_in table (channel_message arch e.channel)) es) k)
  emitters_wide [] k lt = absurd (omega (arith, lt))
  emitters_wide (e ∷ es) zero lt = good_message arch safe keeps (on.Channel e.channel)
  emitters_wide (e ∷ es) (suc k) lt = emitters_wide es k (omega (arith, lt))

  pub body_room : (p : Program) (t : Task) (h : ℕ) (f : Frame) (i : ℕ) (b : Body)
      → f ≡ frame_of arch h f.param f.first_buffer → f.end ≤ t.room → f.first_buffer + length (handler arch h).emitters ≤ length t.buffers
      → p.monitors ≡ map (monitor_words arch) arch.monitors → (handler arch h).monitor < length arch.monitors
      → slice_get (handler arch h).callbacks i ≡ Some b → AreGood arch safe keeps b.binders
      → IsLaid p t (layout_of arch (handler arch h) f i b)
  body_room p t h f i b is room buffers monitors there at good =
      let parts : HasParts arch h f = inner arch h f is in
      let m : ℕ = (handler arch h).monitor in
      let counter : f.temps + 2 < f.end = parts.counter in
      let message = parts.message in
      record {
        wide_message = good_message arch safe keeps (handler arch h).on;
        wide_binders = λ k lt. fields_wide b.binders k good lt;
        wide_states = λ k lt. fields_wide (states_of arch m) k (good_states arch safe keeps m) lt;
        wide_emitters = λ k lt. emitters_wide (handler arch h).emitters k lt;
        message_room = low f.param _ f.temps f.end t.room message counter room;
        binder_room = λ k lt. binder k lt;
        temps_room = omega (arith, counter, room);
        has_monitor = subst (λ l. m < length l) (sym monitors) (subst (λ n. m < n) (sym (length-map arch.monitors (monitor_words arch))) there);
        state_room = λ k lt. subst (λ n. words_before (scope_of arch (handler arch h) b).states k + words (shape_at (scope_of arch (handler arch h) b).states k) ≤ n) (sym (ap (λ l. slice_index l m) monitors ∙ monitor_at arch arch.monitors m there)) (states_within (scope_of arch (handler arch h) b).states k lt);
        scratch_room = λ k lt. scratch k lt;
        has_buffer = λ k lt. let count : length (map (λ e. shape_in table (channel_message arch e.channel)) (handler arch h).emitters) ≡ length (handler arch h).emitters = length-map (handler arch h).emitters (λ e. shape_in table (channel_message arch e.channel)) in omega (arith, lt, count, buffers);
      }
    where
      low : (param size temps last room : ℕ) → param + size ≤ temps → temps + 2 < last → last ≤ room → param + size ≤ room
      low param size temps last room a b c = omega (arith, a, b, c)

      -- in a frame as it is laid out
      laid_room : (k : ℕ) → k < length (field_shapes table b.binders) → slice_index_or (slice_index_or (frame_of arch h f.param f.first_buffer).binders i []) k 0 + words (shape_at (field_shapes table b.binders) k) ≤ (frame_of arch h f.param f.first_buffer).temps
      laid_room k lt =
          let body = body_laid arch (handler arch h).callbacks _ i b at in
          let size : ℕ = words (shape_at (field_shapes table b.binders) k) in
          let there : slice_get (binder_words arch b) k ≡ Some size = subst (λ l. slice_get l k ≡ Some size) (map_twice (λ g. shape_in table g.1) words b.binders) (shape_there (field_shapes table b.binders) k lt) in
          let inside : slice_index_or (laid body.from (binder_words arch b)) k 0 + size ≤ body.from + sum (binder_words arch b) = (laid_within (binder_words arch b) k body.from size there).1 in
          let within = body.within in
          subst (λ l. slice_index_or l k 0 + size ≤ (frame_of arch h f.param f.first_buffer).temps) (sym body.laid_is) (reaches _ _ _ inside within)
        where
          reaches : (a b c : ℕ) → a ≤ b → b ≤ c → a ≤ c
          reaches a b c h k = omega (arith, h, k)

      binder : (k : ℕ) → k < length (field_shapes table b.binders) → slice_index_or (slice_index_or f.binders i []) k 0 + words (shape_at (field_shapes table b.binders) k) ≤ t.room
      binder k lt =
          let r : slice_index_or (slice_index_or f.binders i []) k 0 + words (shape_at (field_shapes table b.binders) k) ≤ f.temps = subst (λ g. slice_index_or (slice_index_or g.binders i []) k 0 + words (shape_at (field_shapes table b.binders) k) ≤ g.temps) (sym is) (laid_room k lt) in
          let counter : f.temps + 2 < f.end = (inner arch h f is).counter in
          omega (arith, r, counter, room)

      scratch : (k : ℕ) → k < length (map (λ e. shape_in table (channel_message arch e.channel)) (handler arch h).emitters) → slice_index_or f.scratch k 0 + words (shape_at (map (λ e. shape_in table (channel_message arch e.channel)) (handler arch h).emitters) k) ≤ t.room
      scratch k lt =
          let count : length (map (λ e. shape_in table (channel_message arch e.channel)) (handler arch h).emitters) ≡ length (handler arch h).emitters = length-map (handler arch h).emitters (λ e. shape_in table (channel_message arch e.channel)) in
          let r = get_within (handler arch h).emitters k (omega (arith, lt, count)) in
          let width : words (shape_at (map (λ e. shape_in table (channel_message arch e.channel)) (handler arch h).emitters) k) ≡ emitter_words arch r.0 = emitter_shape (handler arch h).emitters k r.0 r.1 in
          let places = (inner arch h f is).scratch k r.0 r.1 in
          let high : slice_index_or f.scratch k 0 + emitter_words arch r.0 ≤ f.end = places.1 in
          omega (arith, high, width, room)
        where
          emitter_shape : (es : List Emitter) (k : ℕ) (e : Emitter) → slice_get es k ≡ Some e → words (shape_at (map (λ e. shape_in table (channel_message arch e.channel)) es) k) ≡ emitter_words arch e
          emitter_shape [] k e at = absurd (none-some e at)
          emitter_shape (q ∷ es) zero e at = ap (emitter_words arch) (same_Some q e at)
          emitter_shape (q ∷ es) (suc k) e at = emitter_shape es k e at
