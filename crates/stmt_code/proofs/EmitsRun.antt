-- Sending a message into a buffer.
use Rattle.std.proofs.Common.{◌≡◌, ◌≢◌, ℕ, zero, suc, ◌+◌, ◌-◌, ◌*◌, ◌<◌, ◌≤◌, ℤ, pos, List, [], ◌∷◌, ◌++◌, length, refl, ap, sym, ◌∙◌, subst, arith, Bool, true, false, Some, slice_get, slice_set, slice_index_or, ◌⊎◌, inl, inr, get_or-set_same, get_or-set_other, length-set, length-append}
use Rattle.std.proofs.lemmas.Bool.{cases_eq, cases_lt, eq-eqb}
use Rattle.std.proofs.lemmas.List.{get_or-append-add}
use Rattle.std.proofs.lemmas.Option.{slice_get-get_or, get_or_from_slice_get, slice_get_within}
use Rattle.task_code.specs.Formed.{IsFormedBuffer}
use Rattle.task_code.specs.Emitting.{with_message}
use Rattle.task_code.proofs.Emissions.{emission_leads}
use Rattle.std.proofs.Math.ListN.{get_or-append}
use Rattle.tower_types.specs.declared.scalar.Scalar.{Scalar}
use Rattle.tower_types.specs.Ty.{Shape, one, many, all, words}
use Rattle.tower_types.specs.Value.{Value, word, flat, num}
use Rattle.tower_syntax.specs.declared.body.Root.{Root}
use Rattle.tower_syntax.specs.declared.body.Root.TheVariants as root
use Rattle.tower_syntax.specs.Tree.{Expr, lit, read, un, bin, choose, cast, Place, place, Steps, emit}
use Rattle.tower_syntax.specs.Weights.{root_shape, shape_at, executed, expr_weight, place_weight, steps_weight, moved_weight, stmt_weight, most_of_stmt}
use Rattle.tower_syntax.specs.Typed.{Names, HasScalar, HasShape, IsTypedStmt}
use Rattle.tower_meaning.specs.Body.{Environment, Execution, expr_value, place_value, emitted}
use Rattle.task_code.specs.declared.program.Instr.TheVariants.{St}
use Rattle.task_code.specs.Own.{Own, Filled}
use Rattle.task_code.specs.Does.{word_at, slot}
use Rattle.task_code.specs.Piece.{Piece, ins, ◌▸◌, end, Stands}
use Rattle.stmt_code.specs.Layout.{Layout, scratch_at, root_base, fixed_offset, moves, Base, private, monitor, plus}
use Rattle.stmt_code.specs.Body.{kept, index_code, words_copied, message_of, moved_to, place_emitted, expr_code, stmt_code}
use Rattle.task_code.specs.Emission.{emission}
use Rattle.stmt_code.proofs.Needs.{need, need_steps, need_sent}
use Rattle.stmt_code.proofs.Flats.{Fits, flat_length}
use Rattle.stmt_code.proofs.Fitted.{expr_fits, place_fits, word_is}
use Rattle.stmt_code.proofs.OneStep.{Context, Leads, at, stay, wider, on, store}
use Rattle.stmt_code.proofs.ExprsRun.{Holds, drift, Reads}
use Rattle.stmt_code.proofs.ReadsRun.{expr_leads}
use Rattle.stmt_code.proofs.Stored.{Wrote, wrote_one}
use Rattle.stmt_code.proofs.Ready.{Laid, Ready, Kept, kept_same, kept_on, known, temp_ready, wrote_kept}
use Rattle.stmt_code.proofs.PlacesRun.{place_leads, place_within, still}
use Rattle.stmt_code.proofs.MovesRun.{Index, Differ, Moves, source, moved_leads}
use Rattle.stmt_code.proofs.CopiesRun.{place_reads, saved_leads}
use Rattle.stmt_code.proofs.Ran.{no_buffer, list_at, buffer_at, Holding, Fill, Others, Ran}

pub has_at : (bs : List Filled) (b : ℕ) → b < length bs → slice_get bs b ≡ Some (buffer_at bs b)
has_at bs b lt = slice_get-get_or bs b no_buffer lt

-- a buffer that holds messages has the form of the table
formed_buffer : (width limit : ℕ) (l : List Value) (f : Filled) → Holding width limit l f → IsFormedBuffer (record { width = width; bound = limit }) f
formed_buffer width limit l f h = record {
  slots = h.slots;
  few = let q1 = h.count in let q2 = h.few in omega (arith, q1, q2);
  wide = λ k ws get. let long = h.slots in let lt = slice_get_within f.slots k ws get in ap (λ (y : List ℤ). length y) (sym (get_or_from_slice_get f.slots k ws [] get)) ∙ h.wide k (omega (arith, lt, long));
}

-- a message more
held_more : (width limit : ℕ) (l : List Value) (v : Value) (f : Filled) → Holding width limit l f → length l < limit → length (flat v) ≡ width → Holding width limit (l ++ v ∷ []) (with_message f (flat v))
held_more width limit l v f h lt len = record {
  count = omega (arith, h.count, length-append l (v ∷ []));
  few = omega (arith, lt, length-append l (v ∷ []));
  slots = length-set f.slots f.count (flat v) ∙ h.slots;
  wide = λ i l. wide i l (cases_eq i f.count);
  words = λ i m. each i (omega (arith, length-append l (v ∷ []))) (cases_lt i (length l));
}
  where
    f' : Filled
    f' = with_message f (flat v)

    here : slot f' f.count ≡ flat v
    here = get_or-set_same f.slots f.count (flat v) [] (omega (arith, h.count, h.slots))

    other : (i : ℕ) → i ≢ f.count → slot f' i ≡ slot f i
    other i ne = get_or-set_other f.slots f.count i (flat v) [] ne

    wide : (i : ℕ) → i < limit → (i ≡ f.count) ⊎ (i ≢ f.count) → length (slot f' i) ≡ width
    wide i l (inl q) = ap (λ k. length (slot f' k)) q ∙ ap (λ x. length x) here ∙ len
    wide i l (inr ne) = ap (λ x. length x) (other i ne) ∙ h.wide i l

    each : (i : ℕ) → i < length l + 1 → (i < length l) ⊎ (length l ≤ i) → slot f' i ≡ flat (slice_index_or (l ++ v ∷ []) i (word (pos 0)))
    each i m (inl lt) =
        other i (λ e. absurd (omega (arith, e, h.count))) ∙ h.words i lt ∙ ap flat (sym (get_or-append l (v ∷ []) (word (pos 0)) i lt))
    each i m (inr g) =
        let at_end : i ≡ length l + 0 = omega arith in
        let at_count : i ≡ f.count = omega (arith, h.count) in
        ap (λ k. slot f' k) at_count ∙ here ∙ ap flat (sym (ap (λ k. slice_index_or (l ++ v ∷ []) k (word (pos 0))) at_end ∙ get_or-append-add l (v ∷ []) 0 (word (pos 0))))

ready_buffers : (w : Layout) (hi : ℕ) (sc : Names) (env : Environment) (o : Own) (bs : List Filled) → Ready w hi sc env o → Ready w hi sc env (record o { buffers = bs })
ready_buffers w hi sc env o bs k = record { fit = k.fit; shows = record { message = k.shows.message; binders = k.shows.binders; held = k.shows.held }; room = k.room }

one_at : (k : ℕ) (e : Expr) → most_of_stmt k (emit k e) ≡ 1
one_at k e = ap (λ (g : Bool). elim g [ true ↦ suc zero | false ↦ zero ]) (eq-eqb k k refl)

module _ (w : Layout) (lo hi : ℕ) (laid : Laid w lo hi) (r : Context)
    (tables : (k : ℕ) → k < length w.scope.emitters → slice_get r.task.buffers (w.first_buffer + k) ≡ Some (record { width = words (shape_at w.scope.emitters k); bound = r.bound k }))
  where
    -- the buffer of emitter k, and the list beside it, have a message more
    sent_runs : (k : ℕ) (x : Expr) (v : Value) (sc : Names) (run : Execution) (o own : Own) (m n a a1 z : ℕ) (st : List ℤ) → k < length w.scope.emitters → Fits (shape_at w.scope.emitters k) v → Fill w r run.lists o.buffers → length (list_at run.lists k) + most_of_stmt k (emit k x) ≤ r.bound k
        → Leads r m (at o a st) (at own a1 st) → Ready w hi sc run.env own → Kept lo hi o own → own.buffers ≡ o.buffers
        → Leads r n (at own a1 st) (at (record own { buffers = slice_set own.buffers (w.first_buffer + k) (with_message (buffer_at own.buffers (w.first_buffer + k)) (flat v)) }) z st)
        → Ran w lo hi r o (m + n) a z st sc run.lists (emitted k v run) (λ j. most_of_stmt j (emit k x))
    sent_runs k x v sc run o own m n a a1 z st lt fv fl fit front rd kept same behind =
        let b = w.first_buffer + k in
        let fo = subst (λ bs. Fill w r run.lists bs) (sym same) fl in
        let f = buffer_at own.buffers b in
        let f' = with_message f (flat v) in
        let few : length (list_at run.lists k) < r.bound k = omega (arith, fit, one_at k x) in
        let bs = slice_set own.buffers b f' in
        let size : length bs ≡ length own.buffers = length-set own.buffers b f' in
        let this : buffer_at bs b ≡ f' = get_or-set_same own.buffers b f' no_buffer (omega (arith, fo.within)) in
        let other = λ (c : ℕ) (ne : c ≢ b). get_or-set_other own.buffers b c f' no_buffer ne in
        let l = list_at run.lists k in
        let lists' = slice_set run.lists k (l ++ v ∷ []) in
        let len_v : length (flat v) ≡ words (shape_at w.scope.emitters k) = flat_length (shape_at w.scope.emitters k) v fv in
        let k_in : k < length run.lists = omega (arith, lt, fo.listed) in
        let this_list : list_at lists' k ≡ l ++ v ∷ [] = get_or-set_same run.lists k (l ++ v ∷ []) [] k_in in
        let other_list = λ (j : ℕ) (ne : j ≢ k). get_or-set_other run.lists k j (l ++ v ∷ []) [] ne in
        let more = subst (λ y. Holding (words (shape_at w.scope.emitters k)) (r.bound k) (l ++ v ∷ []) y) (sym this) (held_more (words (shape_at w.scope.emitters k)) (r.bound k) l v f (fo.each k lt) few len_v) in
        record {
          own = record own { buffers = bs };
          leads = on r m n _ _ _ front behind;
          ready = ready_buffers w hi sc run.env own bs rd;
          kept = record { calls = kept.calls; size = kept.size; words = kept.words };
          fill = record {
            listed = length-set run.lists k (l ++ v ∷ []) ∙ fo.listed;
            within = omega (arith, size, fo.within);
            each = λ j lj. each j lj bs lists' (subst (λ y. Holding (words (shape_at w.scope.emitters k)) (r.bound k) y (buffer_at bs b)) (sym this_list) more) other_list other fo (cases_eq j k);
          };
          others = subst (λ cs. Others w cs bs) same (record { size = size; same = λ c h. other c (outside c h) });
          grown = λ j. grown j l lists' this_list other_list (cases_eq j k);
        }
      where
        outside : (c : ℕ) → (c < w.first_buffer) ⊎ (w.first_buffer + length w.scope.emitters ≤ c) → c ≢ w.first_buffer + k
        outside c (inl h) e = absurd (omega (arith, h, e))
        outside c (inr h) e = absurd (omega (arith, h, e, lt))

        each : (j : ℕ) → j < length w.scope.emitters → (bs : List Filled) (ls : List (List Value)) → Holding (words (shape_at w.scope.emitters k)) (r.bound k) (list_at ls k) (buffer_at bs (w.first_buffer + k)) → ((j : ℕ) → j ≢ k → list_at ls j ≡ list_at run.lists j) → ((c : ℕ) → c ≢ w.first_buffer + k → buffer_at bs c ≡ buffer_at own.buffers c) → Fill w r run.lists own.buffers → (j ≡ k) ⊎ (j ≢ k) → Holding (words (shape_at w.scope.emitters j)) (r.bound j) (list_at ls j) (buffer_at bs (w.first_buffer + j))
        each j lj bs ls here lists buffers old (inl e) = subst (λ i. Holding (words (shape_at w.scope.emitters i)) (r.bound i) (list_at ls i) (buffer_at bs (w.first_buffer + i))) (sym e) here
        each j lj bs ls here lists buffers old (inr ne) =
            let far : w.first_buffer + j ≢ w.first_buffer + k = λ e. ne (omega (arith, e)) in
            subst (λ l. Holding (words (shape_at w.scope.emitters j)) (r.bound j) l (buffer_at bs (w.first_buffer + j))) (sym (lists j ne))
            (subst (λ f. Holding (words (shape_at w.scope.emitters j)) (r.bound j) (list_at run.lists j) f) (sym (buffers (w.first_buffer + j) far)) (old.each j lj))

        grown : (j : ℕ) (l : List Value) (ls : List (List Value)) → list_at ls k ≡ list_at run.lists k ++ v ∷ [] → ((j : ℕ) → j ≢ k → list_at ls j ≡ list_at run.lists j) → (j ≡ k) ⊎ (j ≢ k) → length (list_at ls j) ≤ length (list_at run.lists j) + most_of_stmt j (emit k x)
        grown j l ls here other (inl e) =
            let long : length (list_at ls k) ≤ length (list_at run.lists k) + most_of_stmt k (emit k x) = let q : length (list_at ls k) ≡ length (list_at run.lists k ++ v ∷ []) = ap (λ y. length y) here in omega (arith, q, length-append (list_at run.lists k) (v ∷ []), one_at k x) in
            subst (λ i. length (list_at ls i) ≤ length (list_at run.lists i) + most_of_stmt i (emit k x)) (sym e) long
        grown j l ls here other (inr ne) = let q : length (list_at ls j) ≡ length (list_at run.lists j) = ap (λ y. length y) (other j ne) in omega (arith, q)

    -- the message stands in private words
    emission_runs : (k : ℕ) (x : Expr) (v : Value) (sc : Names) (run : Execution) (o own : Own) (from m a a1 : ℕ) (st : List ℤ) → k < length w.scope.emitters → Fits (shape_at w.scope.emitters k) v → Fill w r run.lists o.buffers → length (list_at run.lists k) + most_of_stmt k (emit k x) ≤ r.bound k
        → Leads r m (at o a st) (at own a1 st) → Ready w hi sc run.env own → Kept lo hi o own → own.buffers ≡ o.buffers → Holds own.words from (flat v)
        → Stands r.task.code a1 (emission from (w.first_buffer + k) (words (shape_at w.scope.emitters k))) → length st + 2 ≤ 64
        → Ran w lo hi r o (m + (3 * length (flat v) + 1)) a (end a1 (emission from (w.first_buffer + k) (words (shape_at w.scope.emitters k)))) st sc run.lists (emitted k v run) (λ j. most_of_stmt j (emit k x))
    emission_runs k x v sc run o own from m a a1 st lt fv fl fit front rd kept same holds p len =
        let b = w.first_buffer + k in
        let n = words (shape_at w.scope.emitters k) in
        let fo = subst (λ bs. Fill w r run.lists bs) (sym same) fl in
        let hold = fo.each k lt in
        let lv : length (flat v) ≡ n = flat_length (shape_at w.scope.emitters k) v fv in
        let count' : (buffer_at own.buffers b).count < r.bound k = let q = hold.count in omega (arith, q, fit, one_at k x) in
        let there : b < length own.buffers = let q = fo.within in omega (arith, q, lt) in
        let leads = emission_leads r.program r.task from b (record { width = n; bound = r.bound k }) (tables k lt) (flat v) (at own a1 st) (buffer_at own.buffers b) (has_at own.buffers b there)
        (formed_buffer n (r.bound k) (list_at run.lists k) (buffer_at own.buffers b) hold) count' (sym lv) (λ i l. holds i l) len (subst (λ c. Stands r.task.code a1 (emission from b c)) (sym lv) p) in
        sent_runs k x v sc run o own m (3 * length (flat v) + 1) a a1 (end a1 (emission from b n)) st lt fv fl fit front rd kept same
        (subst (λ c. Leads r (3 * length (flat v) + 1) (at own a1 st) (at (record own { buffers = slice_set own.buffers b (with_message (buffer_at own.buffers b) (flat v)) }) (end a1 (emission from b c)) st)) lv leads)

-- ---- the words of a message come to stand in private words

-- the words lie before those of indices
abbrev Below : ℕ → Base → ℕ → ℕ → Type 0
Below temps (private a) e n = a + e + n ≤ temps
Below temps (monitor m a) e n = Unit {0}

record Prepared (w : Layout) (lo hi : ℕ) (sc : Names) (env : Environment) (r : Context) (o : Own) (k a z : ℕ) (st xs : List ℤ) : Type 0 where
  to : List ℤ
  from : ℕ
  place : ℕ
  leads : Leads r (6 * length xs) (at o a st) (at (record o { words = to }) place st)
  ready : Ready w hi sc env (record o { words = to })
  same : Kept lo hi o (record o { words = to })
  holds : Holds to from xs
  stands : Stands r.task.code place (emission from (w.first_buffer + k) (words (shape_at w.scope.emitters k)))
  ends : end place (emission from (w.first_buffer + k) (words (shape_at w.scope.emitters k))) ≡ z

module _ (w : Layout) (lo hi : ℕ) (laid : Laid w lo hi) (sc : Names) (env : Environment) (r : Context) (o : Own) (rd : Ready w hi sc env o) (k : ℕ) (lt : k < length w.scope.emitters) where
  differs : (n : ℕ) (c : Base) (e i j : ℕ) → Below w.temps c e n → j < n → Differ (private (scratch_at w k)) (0 + 0 + i) c (e + 0 + j)
  differs n (private y) e i j below l = λ q. let h = laid.behind_temps k lt in absurd (omega (arith, q, h, below, l))
  differs n (monitor m y) e i j below l = tt

  copied_out : (g : Bool) (c : Base) (m e : ℕ) → (g ≡ false → e ≡ 0) → Index o g w.temps e → (xs : List ℤ) → length xs ≡ words (shape_at w.scope.emitters k)
      → ((i : ℕ) → i < length xs → Reads o c (e + i) (word_at xs i)) → Below w.temps c e (length xs) → e + length xs ≤ m → (a : ℕ) (st : List ℤ)
      → Stands r.task.code a (words_copied (moved_to (message_of w k)) (source g c m w.temps) 0 (words (shape_at w.scope.emitters k)) ▸ emission (scratch_at w k) (w.first_buffer + k) (words (shape_at w.scope.emitters k)))
      → length st + 3 ≤ 64
      → Prepared w lo hi sc env r o k a (end a (words_copied (moved_to (message_of w k)) (source g c m w.temps) 0 (words (shape_at w.scope.emitters k)) ▸ emission (scratch_at w k) (w.first_buffer + k) (words (shape_at w.scope.emitters k)))) st xs
  copied_out g c m e ze ix xs len reads below inside a st p room =
      let s = scratch_at w k in
      let n = words (shape_at w.scope.emitters k) in
      let behind = laid.behind_temps k lt in
      let high = laid.scratch_high k lt in
      let rm = rd.room in
      let move = moved_leads r false (private s) n 0 0 g c m w.temps e (λ q. refl) ze xs o (flat env.states) 0 a st (λ q. absurd (cc q)) ix tt
      (λ i l. let z : e + i ≡ e + 0 + i = omega arith in subst (λ j. Reads o c j (word_at xs i)) z (reads i l))
      (λ i l. omega (arith, l, len, high, rm))
      (λ i j l lj. differs (length xs) c e i j below lj)
      (λ i l. ((λ q. absurd (omega (arith, q, behind))), (λ q. absurd (omega (arith, q, behind)))))
      (omega (arith, len)) (omega (arith, inside)) in
      let all_moved = subst (λ j. Stands r.task.code a (words_copied (source false (private s) n 0) (source g c m w.temps) 0 j) → Moves r o (flat env.states) (private s) (0 + 0) (6 * length xs) a (end a (words_copied (source false (private s) n 0) (source g c m w.temps) 0 j)) st xs) len (λ q. move q room) p.0 in
      let ws = all_moved.wrote.0 in
      let z : s + (0 + 0) ≡ s = omega arith in
      let wr = subst (λ j. Wrote o.words j xs ws) z all_moved.wrote.2 in
      record {
        to = ws;
        from = s;
        place = end a (words_copied (moved_to (message_of w k)) (source g c m w.temps) 0 n);
        leads = subst (λ u. Leads r (6 * length xs) (at o a st) (at u (end a (words_copied (moved_to (message_of w k)) (source g c m w.temps) 0 n)) st)) all_moved.wrote.1 all_moved.leads;
        ready = temp_ready w lo hi laid sc env o s xs ws rd wr (omega (arith, behind));
        same = let q1 = laid.low in let q2 = laid.param_temps in wrote_kept w lo hi laid o s xs ws wr (omega (arith, q1, q2, behind)) (omega (arith, len, high));
        holds = wr.inside;
        stands = p.1;
        ends = refl;
      }

  prepared : (g : Bool) (c : Base) (m e : ℕ) → (g ≡ false → e ≡ 0) → Index o g w.temps e → (xs : List ℤ) → length xs ≡ words (shape_at w.scope.emitters k)
      → ((i : ℕ) → i < length xs → Reads o c (e + i) (word_at xs i)) → Below w.temps c e (length xs) → e + length xs ≤ m → (a : ℕ) (st : List ℤ)
      → Stands r.task.code a (place_emitted (message_of w k) g (source g c m w.temps)) → length st + 3 ≤ 64
      → Prepared w lo hi sc env r o k a (end a (place_emitted (message_of w k) g (source g c m w.temps))) st xs
  prepared true c m e ze ix xs len reads below inside a st p room = copied_out true c m e ze ix xs len reads below inside a st p room
  prepared false (monitor h x) m e ze ix xs len reads below inside a st p room = copied_out false (monitor h x) m e ze ix xs len reads below inside a st p room
  prepared false (private x) m e ze ix xs len reads below inside a st p room = record {
    to = o.words;
    from = x;
    place = a;
    leads = wider r 0 (6 * length xs) _ _ (stay r (at o a st)) (omega arith);
    ready = rd;
    same = kept_same lo hi o;
    holds = λ i l. let q = ze refl in let z : x + (e + i) ≡ x + i = omega (arith, q) in ap (word_at o.words) (sym z) ∙ reads i l;
    stands = p;
    ends = refl;
  }

sent_weight : (s : Shape) (p : Place) → place_weight p ≤ moved_weight s (read p)
sent_weight (one s) p = omega arith
sent_weight (many n s) p = omega arith
sent_weight (all ss) p = omega arith

module _ (w : Layout) (lo hi : ℕ) (laid : Laid w lo hi) (r : Context)
    (tables : (k : ℕ) → k < length w.scope.emitters → slice_get r.task.buffers (w.first_buffer + k) ≡ Some (record { width = words (shape_at w.scope.emitters k); bound = r.bound k }))
  where
    abbrev Emitted : ℕ → Expr → Names → Execution → Own → ℕ → List ℤ → Type 0
    Emitted k e sc run o a st = Ran w lo hi r o (stmt_weight executed w.scope (emit k e)) a (end a (stmt_code w a (emit k e))) st sc run.lists (emitted k (expr_value run.env e) run) (λ j. most_of_stmt j (emit k e))

    below_temps : (sc : Names) (env : Environment) (o : Own) → Ready w hi sc env o → (x : Root) (ss : Steps) (t : Shape) → HasShape w.scope sc (place x ss) t → (n : ℕ) → n ≡ words t → Below w.temps (plus (root_base w x) (fixed_offset (root_shape w.scope x) ss)) (drift env (root_shape w.scope x) ss) n
    below_temps sc env o rd root.Param ss t h n e = let q1 = place_within w lo hi laid sc env r o rd root.Param ss t h in let q2 = laid.param_temps in omega (arith, q1, q2, e)
    below_temps sc env o rd (root.Binder b) ss t h n e = let q1 = place_within w lo hi laid sc env r o rd (root.Binder b) ss t h in let q2 = laid.before_temps b h.0.0 in omega (arith, q1, q2, e)
    below_temps sc env o rd (root.State b) ss t h n e = tt

    -- a place of any shape
    place_sent : (k : ℕ) (x : Root) (ss : Steps) (sc : Names) (run : Execution) (o : Own) (a : ℕ) (st : List ℤ) → k < length w.scope.emitters → HasShape w.scope sc (place x ss) (shape_at w.scope.emitters k) → Ready w hi sc run.env o → Fill w r run.lists o.buffers → length (list_at run.lists k) + most_of_stmt k (emit k (read (place x ss))) ≤ r.bound k → Stands r.task.code a (stmt_code w a (emit k (read (place x ss)))) → length st + (need_steps false ss + 4) ≤ 64
        → Emitted k (read (place x ss)) sc run o a st
    place_sent k x ss sc run o a st lt h rd fl fit p len =
        let env = run.env in
        let s = root_shape w.scope x in
        let d = drift env s ss in
        let t = shape_at w.scope.emitters k in
        let base = plus (root_base w x) (fixed_offset s ss) in
        let u = place_value env (place x ss) in
        let fu = place_fits w sc env rd.fit (place x ss) t h in
        let lu : length (flat u) ≡ words t = flat_length t u fu in
        let index = place_leads w lo hi laid sc env r o rd x ss t h a st p.0 (omega arith) in
        let s1 = saved_leads w lo hi laid sc env r o rd (moves ss) w.temps d _ st (omega arith) (omega arith) p.1.0 in
        let a1 : ℕ = end (end a (index_code w a (place x ss))) (kept (moves ss) w.temps) in
        let inside = place_within w lo hi laid sc env r s1.own s1.ready x ss t h in
        let pr = prepared w lo hi laid sc env r s1.own s1.ready k lt (moves ss) base (words s - fixed_offset s ss) d (still w lo hi laid sc env r s1.own s1.ready x ss) s1.there (flat u) lu
        (λ i l. place_reads w lo hi laid sc env r s1.own s1.ready x ss t h i (omega (arith, lu, l))) (below_temps sc env s1.own s1.ready x ss t h (length (flat u)) lu) (omega (arith, lu, inside)) a1 st p.1.1 (omega arith) in
        let u1 : Own = record s1.own { words = pr.to } in
        let front = on r (steps_weight ss + 1) (6 * length (flat u)) _ _ _ (on r (steps_weight ss) 1 _ _ _ index s1.leads) pr.leads in
        let ran = emission_runs w lo hi laid r tables k (read (place x ss)) u sc run o u1 pr.from (steps_weight ss + 1 + 6 * length (flat u)) a pr.place st lt fu fl fit front pr.ready
        (kept_on lo hi o s1.own u1 s1.kept pr.same) s1.buffers pr.holds pr.stands (omega arith) in
        let weighs = sent_weight t (place x ss) in
        let light : steps_weight ss + 1 + 6 * length (flat u) + (3 * length (flat u) + 1) ≤ stmt_weight executed w.scope (emit k (read (place x ss))) = omega (arith, lu, weighs) in
        subst (λ z. Ran w lo hi r o (stmt_weight executed w.scope (emit k (read (place x ss)))) a z st sc run.lists (emitted k u run) (λ j. most_of_stmt j (emit k (read (place x ss))))) pr.ends
        (record { own = ran.own; leads = wider r (steps_weight ss + 1 + 6 * length (flat u) + (3 * length (flat u) + 1)) _ _ _ ran.leads light; ready = ran.ready; kept = ran.kept; fill = ran.fill; others = ran.others; grown = ran.grown })

    abbrev number_code : ℕ → ℕ → Expr → Piece
    number_code a k e = expr_code w a e ▸ ins (St (scratch_at w k)) ▸ emission (scratch_at w k) (w.first_buffer + k) (words (shape_at w.scope.emitters k))

    -- a number
    number_sent : (k : ℕ) (e : Expr) (t : Scalar) (sc : Names) (run : Execution) (o : Own) (a : ℕ) (st : List ℤ) → k < length w.scope.emitters → shape_at w.scope.emitters k ≡ one t → HasScalar w.scope sc e t → Ready w hi sc run.env o → Fill w r run.lists o.buffers → length (list_at run.lists k) + most_of_stmt k (emit k e) ≤ r.bound k
        → Stands r.task.code a (number_code a k e) → length st + (need e + 4) ≤ 64
        → Ran w lo hi r o (stmt_weight executed w.scope (emit k e)) a (end a (number_code a k e)) st sc run.lists (emitted k (expr_value run.env e) run) (λ j. most_of_stmt j (emit k e))
    number_sent k e t sc run o a st lt is_one h rd fl fit p len =
        let env = run.env in
        let u = expr_value env e in
        let s = scratch_at w k in
        let fu1 = expr_fits w sc env rd.fit e t h in
        let is = word_is t u fu1 in
        let fu = subst (λ x. Fits x u) (sym is_one) fu1 in
        let one_word : words (shape_at w.scope.emitters k) ≡ 1 = ap words is_one in
        let lu : length (flat u) ≡ 1 = ap (λ v. length (flat v)) is in
        let behind = laid.behind_temps k lt in
        let high = laid.scratch_high k lt in
        let rm = rd.room in
        let ws = slice_set o.words s (num u) in
        let wr1 = wrote_one o.words s (num u) (omega (arith, high, rm, one_word)) in
        let wr = subst (λ v. Wrote o.words s (flat v) ws) (sym is) wr1 in
        let u1 : Own = record o { words = ws } in
        let front = on r (expr_weight e) 1 _ _ _ (expr_leads w sc env r o (known w lo hi laid sc env o rd) e t h a st p.0 (omega arith)) (store r o _ st s (num u) p.1.0) in
        let q1 = laid.low in let q2 = laid.param_temps in
        let ran = emission_runs w lo hi laid r tables k e u sc run o u1 s (expr_weight e + 1) a _ st lt fu fl fit front (temp_ready w lo hi laid sc env o s (flat u) ws rd wr (omega (arith, behind)))
        (wrote_kept w lo hi laid o s (flat u) ws wr (omega (arith, q1, q2, behind)) (omega (arith, lu, high, one_word))) refl wr.inside p.1.1 (omega arith) in
        let weighs : moved_weight (shape_at w.scope.emitters k) e ≡ expr_weight e = ap (λ x. moved_weight x e) is_one in
        record { own = ran.own; leads = wider r (expr_weight e + 1 + (3 * length (flat u) + 1)) _ _ _ ran.leads (omega (arith, lu, weighs)); ready = ran.ready; kept = ran.kept; fill = ran.fill; others = ran.others; grown = ran.grown }

    pub emit_runs : (k : ℕ) (e : Expr) (sc : Names) (run : Execution) (o : Own) (a : ℕ) (st : List ℤ) → IsTypedStmt w.scope sc (emit k e) → Ready w hi sc run.env o → Fill w r run.lists o.buffers → length (list_at run.lists k) + most_of_stmt k (emit k e) ≤ r.bound k → Stands r.task.code a (stmt_code w a (emit k e)) → length st + need_sent e ≤ 64 → Emitted k e sc run o a st
    emit_runs k (read (place x ss)) sc run o a st f rd fl fit p len = place_sent k x ss sc run o a st f.0 f.1 rd fl fit p len
    emit_runs k (lit s n) sc run o a st f rd fl fit p len = number_sent k (lit s n) f.1.0 sc run o a st f.0 f.1.1 f.1.2 rd fl fit p len
    emit_runs k (un op s x) sc run o a st f rd fl fit p len = number_sent k (un op s x) f.1.0 sc run o a st f.0 f.1.1 f.1.2 rd fl fit p len
    emit_runs k (bin op s x y) sc run o a st f rd fl fit p len = number_sent k (bin op s x y) f.1.0 sc run o a st f.0 f.1.1 f.1.2 rd fl fit p len
    emit_runs k (choose c x y) sc run o a st f rd fl fit p len = number_sent k (choose c x y) f.1.0 sc run o a st f.0 f.1.1 f.1.2 rd fl fit p len
    emit_runs k (cast s x) sc run o a st f rd fl fit p len = number_sent k (cast s x) f.1.0 sc run o a st f.0 f.1.1 f.1.2 rd fl fit p len
