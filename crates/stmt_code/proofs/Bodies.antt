-- The callbacks of a handler do what its effect does.
use Rattle.std.proofs.Common.{◌≡◌, ℕ, zero, suc, ◌+◌, ◌-◌, ◌<◌, ◌≤◌, ℤ, pos, List, [], ◌∷◌, length, map, take, replicate, true, Option, Some, refl, sym, ap, ◌∙◌, subst, arith, slice_get, slice_index_or, ◌⊎◌, inl, inr}
use Rattle.std.specs.Prelude.{All, nat_lt}
use Rattle.std.proofs.lemmas.Bool.{cases_lt}
use Rattle.std.proofs.lemmas.Bool.Decides.{nat_tests}
use Rattle.std.proofs.lemmas.List.{length-map, length-replicate}
use Rattle.std.proofs.lemmas.List.Elements.{All-get_or}
use Rattle.std.proofs.lemmas.Option.{same_Some, get_or_from_slice_get, slice_get-get_or}
use Rattle.tower_types.specs.Ty.{Shape, shape_in, table_of, words}
use Rattle.tower_types.specs.Value.{Value, word, flat}
use Rattle.tower_syntax.specs.Arch.{Arch, Emitter, Handler}
use Rattle.tower_syntax.specs.Graph.{no_handler, handler}
use Rattle.tower_syntax.specs.Weights.{executed, bodies_weight, shape_at, channel_message, message_words, emitter_words, most}
use Rattle.tower_syntax.specs.Typed.{IsTyped, IsTypedHandler}
use Rattle.tower_meaning.specs.Body.{Effect}
use Rattle.tower_meaning.specs.Fits.{fits_item, fits_monitor}
use Rattle.tower_meaning.specs.System.{system_of}
use Rattle.tower_meaning.proofs.Fitting.{both}
use Rattle.channel_graph.specs.Over.{no_emitter, bound_of, NoneOver}
use Rattle.arch_types.specs.Shallow.{AreLow, IsShallow}
use Rattle.task_code.specs.declared.program.Buffer.{Buffer}
use Rattle.task_code.specs.declared.program.Task.{Task}
use Rattle.task_code.specs.Program.{Program}
use Rattle.task_code.specs.Own.{Own, Filled}
use Rattle.task_code.specs.Does.{word_at, slot}
use Rattle.task_code.specs.declared.frame.Frame.{Frame}
use Rattle.task_code.specs.Piece.{ins, ◌▸◌, end, Stands}
use Rattle.task_code.specs.declared.program.Instr.TheVariants.{Lock}
use Rattle.task_code.specs.Leads as task_leads
use Rattle.tower_syntax.specs.declared.arch.Listener.TheVariants as to
use Rattle.stmt_code.specs.Effects.{HasFrame, IsOwnWord, IsOwnBuffer, own_buffers}
use Rattle.stmt_code.specs.Section.{cleared, bodies_code}
use Rattle.task_code.specs.Holds.{HoldLists, buffers_at}
use Rattle.task_alone.specs.SettingOf.{numbers_from}
use Rattle.task_code.specs.Formed.{HoldWords, IsFormedBuffer, IsFormed}
use Rattle.task_code.proofs.Formed.{at_is}
use Rattle.stmt_code.proofs.Roots.{IsSmallBody}
use Rattle.stmt_code.proofs.OneStep.{Context, Leads, at}
use Rattle.stmt_code.proofs.Ran.{no_buffer, list_at, buffer_at, Holding, Fill}
use Rattle.stmt_code.proofs.CallbacksRun.{plain_layout, Begun, Called, callbacks_run}

-- where the code of the callbacks of a section at a begins
abbrev pub bodies_at : Arch → ℕ → Frame → ℕ → ℕ
bodies_at arch h f a = end a (ins (Lock (handler arch h).monitor) ▸ cleared f.first_buffer (length (handler arch h).emitters))

-- behind the LOCK of h, with its buffers empty
pub record Cleared (arch : Arch) (t : Task) (h : ℕ) (f : Frame) (a : ℕ) (message v : Value) (o : Own) : Type 0 where
  pub is_at : o.place ≡ bodies_at arch h f a
  pub stack : o.stack ≡ []
  pub held : o.held ≡ Some (record { monitor = (handler arch h).monitor; words = flat v })
  pub formed : IsFormed t o
  pub message_there : HoldWords o.words f.param (flat message)
  pub empty : (k : ℕ) → k < length (handler arch h).emitters → (g : Filled) × (slice_get o.buffers (f.first_buffer + k) ≡ Some g) × (g.count ≡ 0)

-- before the UNLOCK of h, from o
pub record BodiesRan (arch : Arch) (p : Program) (t : Task) (h : ℕ) (f : Frame) (a : ℕ) (message v : Value) (o : Own) : Type 0 where
  pub own : Own
  pub leads : task_leads.Leads p t (bodies_weight executed arch (handler arch h)) o own
  pub is_at : own.place ≡ end (bodies_at arch h f a) (bodies_code arch (handler arch h) f 0 (bodies_at arch h f a) (handler arch h).callbacks)
  pub calls : own.calls ≡ o.calls
  pub stack : own.stack ≡ []
  pub held : own.held ≡ Some (record { monitor = (handler arch h).monitor; words = flat ((system_of arch).effect h v message).states })
  pub formed : IsFormed t own
  pub words : (b : ℕ) → (IsOwnWord arch h f b → ⊥) → slice_get own.words b ≡ slice_get o.words b
  pub buffers : (b : ℕ) → (IsOwnBuffer arch h f b → ⊥) → slice_get own.buffers b ≡ slice_get o.buffers b
  pub lists : HoldLists (buffers_at own (own_buffers arch h f)) ((system_of arch).effect h v message).lists

-- ---- lists

get_same : {X : Type 0} (xs ys : List X) (d : X) (a : ℕ) → length xs ≡ length ys → slice_index_or xs a d ≡ slice_index_or ys a d → slice_get xs a ≡ slice_get ys a
get_same [] [] d a l e = refl
get_same [] (y ∷ ys) d a l e = absurd (omega (arith, l))
get_same (x ∷ xs) [] d a l e = absurd (omega (arith, l))
get_same (x ∷ xs) (y ∷ ys) d zero l e = ap Some e
get_same (x ∷ xs) (y ∷ ys) d (suc a) l e = get_same xs ys d a (omega (arith, l)) e

no_lists : (n k : ℕ) → list_at (replicate n []) k ≡ []
no_lists zero k = refl
no_lists (suc n) zero = refl
no_lists (suc n) (suc k) = no_lists n k

taken : (l : List Value) (slots : List (List ℤ)) → length l ≤ length slots → ((i : ℕ) → i < length l → slice_index_or slots i [] ≡ flat (slice_index_or l i (word (pos 0)))) → take (length l) slots ≡ map flat l
taken [] slots le h = refl
taken (v ∷ vs) [] le h = absurd (omega (arith, le))
taken (v ∷ vs) (s ∷ ss) le h = ap (λ x. x ∷ take (length vs) ss) (h 0 (omega arith)) ∙ ap (λ xs. flat v ∷ xs) (taken vs ss (omega (arith, le)) (λ i lt. h (suc i) (omega arith)))

-- a buffer that holds the messages of a list
record HoldsList (o : Option Filled) (vs : List Value) : Type 0 where
  filled : Filled
  is : o ≡ Some filled
  count : filled.count ≡ length vs
  slots : take filled.count filled.slots ≡ map flat vs

hold_lists : (bs : List Filled) (n first : ℕ) (lists : List (List Value)) → length lists ≡ n → ((k : ℕ) → k < n → HoldsList (slice_get bs (first + k)) (list_at lists k)) → HoldLists (map (slice_get bs) (numbers_from first n)) lists
hold_lists bs zero first [] l h = tt
hold_lists bs zero first (vs ∷ lists) l h = absurd (omega (arith, l))
hold_lists bs (suc n) first [] l h = absurd (omega (arith, l))
hold_lists bs (suc n) first (vs ∷ lists) l h =
    let z : first + 0 ≡ first = omega arith in
    let one : HoldsList (slice_get bs first) vs = subst (λ j. HoldsList (slice_get bs j) vs) z (h 0 (omega arith)) in
    let rest = hold_lists bs n (suc first) lists (omega (arith, l)) (λ k lt. let e : first + suc k ≡ suc first + k = omega arith in subst (λ j. HoldsList (slice_get bs j) (list_at lists k)) e (h (suc k) (omega arith))) in
    subst (λ o. HoldLists (o ∷ map (slice_get bs) (numbers_from (suc first) n)) (vs ∷ lists)) (sym one.is) (one.count, one.slots, rest)

shape_of_emitter : (g : Emitter → Shape) (es : List Emitter) (k : ℕ) → k < length es → shape_at (map g es) k ≡ g (slice_index_or es k no_emitter)
shape_of_emitter g [] k lt = absurd (omega arith)
shape_of_emitter g (e ∷ es) zero lt = refl
shape_of_emitter g (e ∷ es) (suc k) lt = shape_of_emitter g es k (omega arith)

exists : (m n : ℕ) → nat_lt m n ≡ true → m < n
exists m n h = grind (arith, nat_tests)

module _ (arch : Arch) (p : Program) (t : Task) (h : ℕ) (f : Frame) (a0 : ℕ) (has_frame : HasFrame arch t h f) where
  abbrev hd : Handler
  hd = handler arch h

  abbrev r : Context
  r = record { program = p; task = t; bound = bound_of hd }

  abbrev sent_shape : Emitter → Shape
  sent_shape e = shape_in (table_of arch.records) (channel_message arch e.channel)

  tables : (k : ℕ) → k < length hd.emitters → slice_get t.buffers (f.first_buffer + k) ≡ Some (record { width = words (shape_at (map sent_shape hd.emitters) k); bound = bound_of hd k })
  tables k lt =
      let e = slice_index_or hd.emitters k no_emitter in
      let width : emitter_words arch e ≡ words (shape_at (map sent_shape hd.emitters) k) = ap words (sym (shape_of_emitter sent_shape hd.emitters k lt)) in
      has_frame.tables k e (slice_get-get_or hd.emitters k no_emitter lt) ∙ ap (λ n. Some (record { width = n; bound = e.bound })) width

  emitters_count : (k : ℕ) → k < length (map sent_shape hd.emitters) → k < length hd.emitters
  emitters_count k lt = let l = length-map hd.emitters sent_shape in omega (arith, l, lt)

  module _ (message v : Value) (o : Own) (c : Cleared arch t h f a0 message v o) where
    table_at : (k : ℕ) (lt : k < length hd.emitters) → (s : Buffer) (g : Filled) → slice_get t.buffers (f.first_buffer + k) ≡ Some s → slice_get o.buffers (f.first_buffer + k) ≡ Some g → IsFormedBuffer (record { width = words (shape_at (map sent_shape hd.emitters) k); bound = bound_of hd k }) g
    table_at k lt s g is has = subst (λ q. IsFormedBuffer q g) (same_Some s _ (sym is ∙ tables k lt)) (c.formed.buffers (f.first_buffer + k) s g is has)

    holding : (k : ℕ) → k < length hd.emitters → Holding (words (shape_at (map sent_shape hd.emitters) k)) (bound_of hd k) [] (buffer_at o.buffers (f.first_buffer + k))
    holding k lt =
        let e = c.empty k lt in
        let g : Filled = e.0 in
        let formed = table_at k lt _ g (tables k lt) e.1 in
        let same : buffer_at o.buffers (f.first_buffer + k) ≡ g = get_or_from_slice_get o.buffers (f.first_buffer + k) g no_buffer e.1 in
        let long = formed.slots in
        subst (λ q. Holding (words (shape_at (map sent_shape hd.emitters) k)) (bound_of hd k) [] q) (sym same) (record {
          count = e.2;
          few = omega arith;
          slots = formed.slots;
          wide = λ i l. formed.wide i (slot g i) (slice_get-get_or g.slots i [] (omega (arith, long, l)));
          words = λ i l. absurd (omega arith);
        })

    fill : Fill (plain_layout arch h f r message) r (replicate (length hd.emitters) []) o.buffers
    fill =
        let l = length-map hd.emitters sent_shape in
        let many = c.formed.many in
        let has = has_frame.has_buffers in
        record {
          listed = length-replicate (length hd.emitters) [] ∙ sym l;
          within = omega (arith, l, many, has);
          each = λ k lt. subst (λ ls. Holding (words (shape_at (map sent_shape hd.emitters) k)) (bound_of hd k) ls (buffer_at o.buffers (f.first_buffer + k))) (sym (no_lists (length hd.emitters) k)) (holding k (emitters_count k lt));
        }

    begun : fits_monitor arch hd.monitor v ≡ true → Begun arch h f r message (record { states = v; lists = replicate (length hd.emitters) [] }) o
    begun fits = record {
      message = λ i lt. get_or_from_slice_get o.words (f.param + i) (word_at (flat message) i) (pos 0) (c.message_there i (word_at (flat message) i) (slice_get-get_or (flat message) i (pos 0) lt));
      held = c.held;
      states_fit = fits;
      room = let q1 = has_frame.room in let q2 = c.formed.room in omega (arith, q1, q2);
      fill = fill;
    }

    module _ (n a z : ℕ) (e : Effect) (o0 : Own) (same_words : o0.words ≡ o.words) (same_buffers : o0.buffers ≡ o.buffers) (s : Called arch h f r message n a z o0 e) where
      words_kept : (b : ℕ) → (IsOwnWord arch h f b → ⊥) → slice_get s.own.words b ≡ slice_get o.words b
      words_kept b out = get_same s.own.words o.words (pos 0) b (s.kept.size ∙ ap (λ (l : List ℤ). length l) same_words) (pick (cases_lt b (f.param + message_words arch hd.on)) (cases_lt b f.end) ∙ ap (λ l. word_at l b) same_words)
        where
          pick : (b < f.param + message_words arch hd.on) ⊎ (f.param + message_words arch hd.on ≤ b) → (b < f.end) ⊎ (f.end ≤ b) → word_at s.own.words b ≡ word_at o0.words b
          pick (inl l) q = s.kept.words b (inl l)
          pick (inr g) (inl l) = absurd (out (g, l))
          pick (inr g) (inr m) = s.kept.words b (inr m)

      size : length s.own.buffers ≡ length o.buffers
      size = s.others.size ∙ ap (λ (l : List Filled). length l) same_buffers

      buffers_kept : (b : ℕ) → (IsOwnBuffer arch h f b → ⊥) → slice_get s.own.buffers b ≡ slice_get o.buffers b
      buffers_kept b out = get_same s.own.buffers o.buffers no_buffer b size (pick (cases_lt b f.first_buffer) (cases_lt b (f.first_buffer + length hd.emitters)) ∙ ap (λ l. buffer_at l b) same_buffers)
        where
          pick : (b < f.first_buffer) ⊎ (f.first_buffer ≤ b) → (b < f.first_buffer + length hd.emitters) ⊎ (f.first_buffer + length hd.emitters ≤ b) → buffer_at s.own.buffers b ≡ buffer_at o0.buffers b
          pick (inl l) q = s.others.same b (inl l)
          pick (inr g) (inl l) = absurd (out (g, l))
          pick (inr g) (inr m) = s.others.same b (inr (let l = length-map hd.emitters sent_shape in omega (arith, l, m)))

      held_by : (k : ℕ) → k < length hd.emitters → Holding (words (shape_at (map sent_shape hd.emitters) k)) (bound_of hd k) (list_at e.lists k) (buffer_at s.own.buffers (f.first_buffer + k))
      held_by k lt = s.begun.fill.each k (let l = length-map hd.emitters sent_shape in omega (arith, l, lt))

      formed_by : (s' : Buffer) (g : Filled) (l : List Value) (n w : ℕ) → s' ≡ record { width = w; bound = n } → Holding w n l g → IsFormedBuffer s' g
      formed_by s' g l n w e q = subst (λ y. IsFormedBuffer y g) (sym e) (record {
        slots = q.slots;
        few = let q1 = q.count in let q2 = q.few in omega (arith, q1, q2);
        wide = λ k ws get. let long = q.slots in let at_k = get_or_from_slice_get g.slots k ws [] get in
            ap (λ (y : List ℤ). length y) (sym at_k) ∙ q.wide k (let lt = within g.slots k ws get in omega (arith, lt, long));
      })
        where
          within : {X : Type 0} (xs : List X) (k : ℕ) (y : X) → slice_get xs k ≡ Some y → k < length xs
          within [] k y e = cc e
          within (x ∷ xs) zero y e = omega arith
          within (x ∷ xs) (suc k) y e = let q = within xs k y e in omega (arith, q)

      formed : IsFormed t s.own
      formed = record {
        room = s.kept.size ∙ ap (λ (l : List ℤ). length l) same_words ∙ c.formed.room;
        many = size ∙ c.formed.many;
        buffers = λ b s' g is has. pick b s' g is has (cases_lt b f.first_buffer) (cases_lt b (f.first_buffer + length hd.emitters));
      }
        where
          own : (k : ℕ) → k < length hd.emitters → (s' : Buffer) (g : Filled) → slice_get t.buffers (f.first_buffer + k) ≡ Some s' → slice_get s.own.buffers (f.first_buffer + k) ≡ Some g → IsFormedBuffer s' g
          own k lt s' g is has =
              let same : buffer_at s.own.buffers (f.first_buffer + k) ≡ g = get_or_from_slice_get s.own.buffers (f.first_buffer + k) g no_buffer has in
              formed_by s' g (list_at e.lists k) (bound_of hd k) (words (shape_at (map sent_shape hd.emitters) k)) (same_Some s' _ (sym is ∙ tables k lt))
              (subst (λ y. Holding (words (shape_at (map sent_shape hd.emitters) k)) (bound_of hd k) (list_at e.lists k) y) same (held_by k lt))

          pick : (b : ℕ) (s' : Buffer) (g : Filled) → slice_get t.buffers b ≡ Some s' → slice_get s.own.buffers b ≡ Some g → (b < f.first_buffer) ⊎ (f.first_buffer ≤ b) → (b < f.first_buffer + length hd.emitters) ⊎ (f.first_buffer + length hd.emitters ≤ b) → IsFormedBuffer s' g
          pick b s' g is has (inl l) q = c.formed.buffers b s' g is (sym (buffers_kept b (λ y. let y0 = y.0 in absurd (omega (arith, y0, l)))) ∙ has)
          pick b s' g is has (inr l) (inr m) = c.formed.buffers b s' g is (sym (buffers_kept b (λ y. let y1 = y.1 in absurd (omega (arith, y1, m)))) ∙ has)
          pick b s' g is has (inr l) (inl m) =
              let k : ℕ = b - f.first_buffer in
              let at_b : b ≡ f.first_buffer + k = omega (arith, l) in
              own k (omega (arith, l, m)) s' g (ap (slice_get t.buffers) (sym at_b) ∙ is) (ap (slice_get s.own.buffers) (sym at_b) ∙ has)

      lists_held : HoldLists (buffers_at s.own (own_buffers arch h f)) e.lists
      lists_held =
          let l = length-map hd.emitters sent_shape in
          let many = c.formed.many in
          let has = has_frame.has_buffers in
          hold_lists s.own.buffers (length hd.emitters) f.first_buffer e.lists (s.begun.fill.listed ∙ l) (λ k lt. one k lt (held_by k lt) (let q = size in omega (arith, q, many, has, lt)))
        where
          one : (k : ℕ) → k < length hd.emitters → Holding (words (shape_at (map sent_shape hd.emitters) k)) (bound_of hd k) (list_at e.lists k) (buffer_at s.own.buffers (f.first_buffer + k)) → f.first_buffer + k < length s.own.buffers → HoldsList (slice_get s.own.buffers (f.first_buffer + k)) (list_at e.lists k)
          one k lt q there =
              let g = buffer_at s.own.buffers (f.first_buffer + k) in
              let q1 = q.few in let q2 = q.slots in
              record {
                filled = g;
                is = slice_get-get_or s.own.buffers (f.first_buffer + k) no_buffer there;
                count = q.count;
                slots = ap (λ n. take n g.slots) q.count ∙ taken (list_at e.lists k) g.slots (omega (arith, q1, q2)) (λ i i_lt. q.words i i_lt);
              }

  abbrev end_at : ℕ
  end_at = end (bodies_at arch h f a0) (bodies_code arch hd f 0 (bodies_at arch h f a0) hd.callbacks)

  pub bodies_run : IsTyped arch → IsShallow arch → All (IsSmallBody arch hd) hd.callbacks → NoneOver arch → Stands t.code (bodies_at arch h f a0) (bodies_code arch hd f 0 (bodies_at arch h f a0) hd.callbacks)
      → (message v : Value) → fits_item arch (to.Handler h, message) ≡ true → fits_monitor arch hd.monitor v ≡ true → (o : Own) → Cleared arch t h f a0 message v o → BodiesRan arch p t h f a0 message v o
  bodies_run typed shallow small none stands message v fits fits_v o c =
      let here : h < length arch.handlers = exists h (length arch.handlers) (both _ _ fits).0 in
      let ok : IsTypedHandler arch hd = All-get_or (IsTypedHandler arch) arch.handlers h no_handler here typed.handlers in
      let flat_bodies : All (λ b. AreLow b.stmts) hd.callbacks = All-get_or (λ g. All (λ b. AreLow b.stmts) g.callbacks) arch.handlers h no_handler here shallow in
      let is = has_frame.laid in
      let temps_is = ap (λ (z : Frame). z.temps) is in
      let o0 : Own = at o (bodies_at arch h f a0) [] in
      let starts : o ≡ o0 = at_is o (bodies_at arch h f a0) c.is_at c.stack in
      let e0 : Effect = record { states = v; lists = replicate (length hd.emitters) [] } in
      let s = callbacks_run arch h f r message typed is (both _ _ fits).1 (λ k lt. tables k (emitters_count k lt)) hd.callbacks 0 (f.param + message_words arch hd.on) ok.names ok.callbacks flat_bodies small
      (λ j. let z : 0 + j ≡ j = omega arith in ap (λ n. slice_index_or f.binders n []) z ∙ ap (λ (y : Frame). slice_index_or y.binders j []) is) (omega arith) (omega (arith, temps_is)) e0 o (bodies_at arch h f a0)
      (begun message v o c fits_v)
      (λ k lt. within k lt) emitters_count stands in
      record {
        own = at s.own (end_at) [];
        leads = subst (λ z. Leads r (bodies_weight executed arch hd) z (at s.own end_at [])) (sym starts) s.leads;
        is_at = refl;
        calls = s.kept.calls;
        stack = refl;
        held = s.begun.held;
        formed = let q = formed message v o c _ _ _ _ o refl refl s in record { room = q.room; many = q.many; buffers = q.buffers };
        words = words_kept message v o c _ _ _ _ o refl refl s;
        buffers = buffers_kept message v o c _ _ _ _ o refl refl s;
        lists = lists_held message v o c _ _ _ _ o refl refl s;
      }
    where
      within : (k : ℕ) → k < length hd.emitters → length (list_at (replicate (length hd.emitters) []) k) + most hd k ≤ bound_of hd k
      within k lt =
          let z : length (list_at (replicate (length hd.emitters) []) k) ≡ 0 = ap (λ (l : List Value). length l) (no_lists (length hd.emitters) k) in
          pick z (cases_lt (bound_of hd k) (most hd k))
        where
          pick : length (list_at (replicate (length hd.emitters) []) k) ≡ 0 → (bound_of hd k < most hd k) ⊎ (most hd k ≤ bound_of hd k) → length (list_at (replicate (length hd.emitters) []) k) + most hd k ≤ bound_of hd k
          pick z (inl over) = absurd (none h k (record { of = exists h (length arch.handlers) (both _ _ fits).0; at = lt; more = over }))
          pick z (inr le) = omega (arith, z, le)
