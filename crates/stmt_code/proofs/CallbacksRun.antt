-- All callbacks of a handler, one after another.
use Rattle.std.proofs.Common.{◌≡◌, ℕ, suc, ◌+◌, ◌<◌, ◌≤◌, List, [], ◌∷◌, length, map, fold, Some, sym, ap, ◌∙◌, subst, arith, slice_get, slice_index_or}
use Rattle.std.specs.Prelude.{All, sum}
use Rattle.std.proofs.lemmas.List.Elements.{All-head, All-tail}
use Rattle.tower_types.specs.Ty.{Shape, all, shapes_of, shape_in, table_of, words}
use Rattle.tower_types.specs.Value.{Value, flat}
use Rattle.tower_syntax.specs.Arch.{Arch, Emitter, Handler, Body}
use Rattle.tower_syntax.specs.Tree.{no_stmts}
use Rattle.tower_syntax.specs.Graph.{handler}
use Rattle.tower_syntax.specs.Weights.{executed, scope_of, shape_at, field_shapes, message_words, message_on, channel_message, states_of, stmts_weight, most_of_stmts}
use Rattle.tower_syntax.specs.Typed.{no_names, AreProperFields, AreTypedStmts, IsTyped}
use Rattle.tower_meaning.specs.Body.{Effect, Execution, at_entry, zeros_of_fields, after_stmts, after_callback}
use Rattle.tower_meaning.proofs.Effects.{zeros_fit}
use Rattle.arch_types.specs.Shallow.{AreLow}
use Rattle.task_code.specs.Own.{Own, Filled}
use Rattle.task_code.specs.Piece.{end, Stands}
use Rattle.task_code.specs.declared.frame.Frame.{Frame}
use Rattle.stmt_code.specs.FrameOf.{laid, binder_words, binders_laid, frame_of}
use Rattle.stmt_code.specs.Layout.{Layout, layout_of}
use Rattle.stmt_code.specs.Body.{stmts_code}
use Rattle.stmt_code.specs.Section.{bodies_code}
use Rattle.stmt_code.proofs.Roots.{IsSmallBody}
use Rattle.stmt_code.proofs.Flats.{Fits}
use Rattle.stmt_code.proofs.OneStep.{Context, Leads, at, stay, wider, on}
use Rattle.stmt_code.proofs.ExprsRun.{Holds}
use Rattle.stmt_code.proofs.Ready.{Ready, Kept, kept_same, kept_on}
use Rattle.stmt_code.proofs.Keeps.{all_message}
use Rattle.stmt_code.proofs.Ran.{list_at, Fill, Others, others_same, others_on}
use Rattle.stmt_code.proofs.AllRun.{stmts_runs}
use Rattle.stmt_code.proofs.Heights.{low_rooms}
use Rattle.task_code.proofs.Lists.{cons_sum}
use Rattle.stmt_code.proofs.Plans.{planned}

-- a callback that does nothing: what is said of its layout holds of each callback's
abbrev pub no_body : Body
no_body = record { param = []; binders = []; stmts = no_stmts }

module _ (arch : Arch) (h : ℕ) (f : Frame) (r : Context) (msg : Value) where
  abbrev hd : Handler
  hd = handler arch h

  abbrev table : List Shape
  table = table_of arch.records

  abbrev pub plain_layout : Layout
  plain_layout = layout_of arch hd f 0 no_body

  -- the message, the monitor's words and the buffers are these
  pub record Begun (e : Effect) (o : Own) : Type 0 where
    pub message : Holds o.words f.param (flat msg)
    pub held : o.held ≡ Some (record { monitor = hd.monitor; words = flat e.states })
    pub states_fit : Fits (all (shapes_of (field_shapes table (states_of arch hd.monitor)))) e.states
    pub room : f.end ≤ length o.words
    pub fill : Fill plain_layout r e.lists o.buffers

  fill_to : (i : ℕ) (b : Body) (ls : List (List Value)) (bs : List Filled) → Fill plain_layout r ls bs → Fill (layout_of arch hd f i b) r ls bs
  fill_to i b ls bs g = record { listed = g.listed; within = g.within; each = g.each }

  fill_from : (i : ℕ) (b : Body) (ls : List (List Value)) (bs : List Filled) → Fill (layout_of arch hd f i b) r ls bs → Fill plain_layout r ls bs
  fill_from i b ls bs g = record { listed = g.listed; within = g.within; each = g.each }

  abbrev pub low : ℕ
  low = f.param + message_words arch hd.on

  pub record Called (n a z : ℕ) (o : Own) (e : Effect) : Type 0 where
    pub own : Own
    pub leads : Leads r n (at o a []) (at own z [])
    pub begun : Begun e own
    pub kept : Kept low f.end o own
    pub others : Others plain_layout o.buffers own.buffers

  abbrev pub weights : List Body → ℕ
  weights cs = sum (map (λ b. stmts_weight executed (scope_of arch hd b) b.stmts) cs)

  abbrev pub sends : ℕ → List Body → ℕ
  sends k cs = sum (map (λ b. most_of_stmts k b.stmts) cs)

  abbrev pub binds : List Body → ℕ
  binds cs = sum (map (λ b. sum (binder_words arch b)) cs)

  module _ (typed : IsTyped arch) (is : f ≡ frame_of arch h f.param f.first_buffer) (fits : Fits (shape_in table (message_on arch hd.on)) msg)
      (tables : (k : ℕ) → k < length (map (λ (e : Emitter). shape_in table (channel_message arch e.channel)) hd.emitters) → slice_get r.task.buffers (f.first_buffer + k) ≡ Some (record { width = words (shape_at (map (λ (e : Emitter). shape_in table (channel_message arch e.channel)) hd.emitters) k); bound = r.bound k }))
    where
      -- one callback
      called : (b : Body) (i base : ℕ) → AreProperFields arch b.binders → AreTypedStmts (scope_of arch hd b) no_names b.stmts → AreLow b.stmts → IsSmallBody arch hd b
          → slice_index_or f.binders i [] ≡ laid base (binder_words arch b) → low ≤ base → base + sum (binder_words arch b) ≤ f.temps
          → (e : Effect) (o : Own) (a : ℕ) → Begun e o → ((k : ℕ) → k < length hd.emitters → length (list_at e.lists k) + most_of_stmts k b.stmts ≤ r.bound k)
          → ((k : ℕ) → k < length plain_layout.scope.emitters → k < length hd.emitters)
          → Stands r.task.code a (stmts_code (layout_of arch hd f i b) a b.stmts)
          → Called (stmts_weight executed (scope_of arch hd b) b.stmts) a (end a (stmts_code (layout_of arch hd f i b) a b.stmts)) o (after_callback table msg e b)
          × ((k : ℕ) → length (list_at (after_callback table msg e b).lists k) ≤ length (list_at e.lists k) + most_of_stmts k b.stmts)
      called b i base proper ok shallow small names after before e o a begun fit count p =
          let w : Layout = layout_of arch hd f i b in
          let zeros = zeros_of_fields table b.binders in
          let x : Execution = record { env = at_entry msg e.states zeros; lists = e.lists } in
          let ready : Ready w f.end no_names x.env o = record {
            fit = record { message = fits; binders = zeros_fit table b.binders proper; states = begun.states_fit };
            shows = record { message = begun.message; binders = λ c lt g. absurd g; held = begun.held };
            room = begun.room;
          } in
          let rooms = low_rooms b.stmts shallow in
          let ran = stmts_runs w low f.end r zeros (planned arch typed h f r is i b base proper small names after before tables) b.stmts no_names ok x o a [] ready (fill_to i b e.lists o.buffers begun.fill)
          (λ k lt. fit k (count k lt)) p (omega (arith, rooms)) in
          let y : Execution = after_stmts zeros b.stmts x in
          let same : y.env.message ≡ msg = all_message w.scope zeros b.stmts no_names x ok in (
            record {
              own = ran.own;
              leads = ran.leads;
              begun = record {
                message = subst (λ v. Holds ran.own.words f.param (flat v)) same ran.ready.shows.message;
                held = ran.ready.shows.held;
                states_fit = ran.ready.fit.states;
                room = ran.ready.room;
                fill = fill_from i b y.lists ran.own.buffers ran.fill;
              };
              kept = ran.kept;
              others = record { size = ran.others.size; same = ran.others.same };
            },
            ran.grown,
          )

      pub callbacks_run : (cs : List Body) (i base : ℕ) → All (λ b. AreProperFields arch b.binders) cs → All (λ b. AreTypedStmts (scope_of arch hd b) no_names b.stmts) cs → All (λ b. AreLow b.stmts) cs → All (IsSmallBody arch hd) cs
          → ((j : ℕ) → slice_index_or f.binders (i + j) [] ≡ slice_index_or (binders_laid arch base cs) j []) → low ≤ base → base + binds cs ≤ f.temps
          → (e : Effect) (o : Own) (a : ℕ) → Begun e o → ((k : ℕ) → k < length hd.emitters → length (list_at e.lists k) + sends k cs ≤ r.bound k)
          → ((k : ℕ) → k < length plain_layout.scope.emitters → k < length hd.emitters)
          → Stands r.task.code a (bodies_code arch hd f i a cs)
          → Called (weights cs) a (end a (bodies_code arch hd f i a cs)) o (fold (after_callback table msg) e cs)
      callbacks_run [] i base proper ok shallow small names after before e o a begun fit count p =
          record { own = o; leads = wider r 0 (weights []) _ _ (stay r _) (omega arith); begun = begun; kept = kept_same low f.end o; others = others_same plain_layout o.buffers }
      callbacks_run (b ∷ cs) i base proper ok shallow small names after before e o a begun fit count p =
          let bound_words = cons_sum (sum (binder_words arch b)) (map (λ c. sum (binder_words arch c)) cs) in
          let weighs = cons_sum (stmts_weight executed (scope_of arch hd b) b.stmts) (map (λ c. stmts_weight executed (scope_of arch hd c) c.stmts) cs) in
          let i0 : i + 0 ≡ i = omega arith in
          let here : slice_index_or f.binders i [] ≡ laid base (binder_words arch b) = ap (λ n. slice_index_or f.binders n []) (sym i0) ∙ names 0 in
          let one = called b i base (All-head (λ c. AreProperFields arch c.binders) b cs proper) (All-head (λ c. AreTypedStmts (scope_of arch hd c) no_names c.stmts) b cs ok) (All-head (λ c. AreLow c.stmts) b cs shallow) (All-head (IsSmallBody arch hd) b cs small)
          here after (omega (arith, before, bound_words)) e o a begun
          (λ k lt. let q = fit k lt in let s = cons_sum (most_of_stmts k b.stmts) (map (λ c. most_of_stmts k c.stmts) cs) in omega (arith, q, s)) count p.0 in
          let first = one.0 in
          let rest = callbacks_run cs (suc i) (base + sum (binder_words arch b)) (All-tail (λ c. AreProperFields arch c.binders) b cs proper) (All-tail (λ c. AreTypedStmts (scope_of arch hd c) no_names c.stmts) b cs ok) (All-tail (λ c. AreLow c.stmts) b cs shallow) (All-tail (IsSmallBody arch hd) b cs small)
          (λ j. let e : suc i + j ≡ i + suc j = omega arith in ap (λ n. slice_index_or f.binders n []) e ∙ names (suc j))
          (omega (arith, after)) (omega (arith, before, bound_words)) (after_callback table msg e b) first.own _ first.begun
          (λ k lt. let q = fit k lt in let s = cons_sum (most_of_stmts k b.stmts) (map (λ c. most_of_stmts k c.stmts) cs) in let g = one.1 k in omega (arith, q, s, g)) count p.1 in
          record {
            own = rest.own;
            leads = wider r (stmts_weight executed (scope_of arch hd b) b.stmts + weights cs) (weights (b ∷ cs)) _ _ (on r (stmts_weight executed (scope_of arch hd b) b.stmts) (weights cs) _ _ _ first.leads rest.leads) (omega (arith, weighs));
            begun = rest.begun;
            kept = kept_on low f.end o first.own rest.own first.kept rest.kept;
            others = others_on plain_layout o.buffers first.own.buffers rest.own.buffers first.others rest.others;
          }
