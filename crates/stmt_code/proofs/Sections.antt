-- A section, from the code of its callbacks.
use Rattle.std.proofs.Common.{◌≡◌, ◌∙◌, ℕ, zero, suc, ◌+◌, ◌<◌, ◌≤◌, inl, inr, List, [], ◌∷◌, map, length, Some, refl, sym, ap, subst, arith, slice_get, slice_set, length-set}
use Rattle.std.specs.Prelude.{sum}
use Rattle.std.proofs.lemmas.Bool.{cases_eq}
use Rattle.std.proofs.lemmas.Option.{same_Some}
use Rattle.tower_types.specs.Value.{Value}
use Rattle.tower_syntax.specs.Arch.{Arch, Handler, Body}
use Rattle.tower_syntax.specs.Graph.{handler}
use Rattle.tower_syntax.specs.Weights.{executed, standing, bodies_weight, section_by, stmts_weight, scope_of}
use Rattle.task_code.specs.declared.program.Buffer.{Buffer}
use Rattle.task_code.specs.declared.program.Task.{Task}
use Rattle.task_code.specs.Program.{Program}
use Rattle.task_code.specs.Own.{Filled, Own}
use Rattle.task_code.specs.Does.{with_count}
use Rattle.task_code.specs.Leads.{Leads, at}
use Rattle.task_code.proofs.Leads as steps
use Rattle.task_code.specs.declared.frame.Frame.{Frame}
use Rattle.task_code.specs.declared.program.Instr.TheVariants.{Lock}
use Rattle.task_code.specs.Piece.{ins, ◌▸◌, end, Stands}
use Rattle.task_code.proofs.Lists.{cons_sum}
use Rattle.task_code.proofs.Pieces.{size, size_is}
use Rattle.stmt_code.specs.Layout.{layout_of}
use Rattle.stmt_code.specs.Body.{stmts_code}
use Rattle.stmt_code.specs.Section.{cleared, bodies_code, section_code}
use Rattle.stmt_code.specs.Effects.{HasFrame, BeforeLock, DoesEffect, SectionsDoEffects, SectionsAreShort}
use Rattle.stmt_code.proofs.Bodies.{bodies_at, Cleared, BodiesRan, bodies_run}
use Rattle.stmt_code.proofs.Roots.{small_bodies}
use Rattle.stmt_code.proofs.Lengths.{stmts_size}
use Rattle.task_alone.specs.Visits.{with_lock_of}
use Rattle.task_alone.proofs.Lists.{get_within}
use Rattle.task_code.specs.Formed.{IsFormedBuffer, IsFormed}
use Rattle.task_code.proofs.Lists.{set_same, set_other}
use Rattle.task_code.proofs.Formed.{formed_like}

-- n buffers from b on are emptied
record Clears (p : Program) (t : Task) (b n place : ℕ) (o : Own) : Type 0 where
  buffers : List Filled
  leads : Leads p t n (at o place []) (at (record o { buffers = buffers }) (end place (cleared b n)) [])
  formed : IsFormed t (record o { buffers = buffers })
  same : (c : ℕ) → (b ≤ c → c < b + n → ⊥) → slice_get buffers c ≡ slice_get o.buffers c
  empty : (k : ℕ) → k < n → (f : Filled) × (slice_get buffers (b + k) ≡ Some f) × (f.count ≡ 0)

module _ (p : Program) (t : Task) where
  emptied : (o : Own) (b : ℕ) (s : Buffer) (f : Filled) → IsFormed t o → slice_get t.buffers b ≡ Some s → slice_get o.buffers b ≡ Some f → b < length o.buffers → IsFormed t (record o { buffers = slice_set o.buffers b (with_count f 0) })
  emptied o b s f formed is has lt = record {
    room = formed.room;
    many = length-set o.buffers b (with_count f 0) ∙ formed.many;
    buffers = λ c r g table filled. elim (cases_eq b c) [
      | inl same ↦
          let new : with_count f 0 ≡ g = same_Some (with_count f 0) g (sym (set_same o.buffers b (with_count f 0) lt) ∙ ap (slice_get (slice_set o.buffers b (with_count f 0))) same ∙ filled) in
          let entry : s ≡ r = same_Some s r (sym is ∙ ap (slice_get t.buffers) same ∙ table) in
          let old : IsFormedBuffer s f = formed.buffers b s f is has in
          subst (λ q. IsFormedBuffer q g) entry (subst (IsFormedBuffer s) new (record { slots = old.slots; few = omega arith; wide = old.wide }))
      | inr differ ↦ formed.buffers c r g table (sym (set_other o.buffers b c (with_count f 0) differ) ∙ filled)
    ];
  }

  clears : (n b place : ℕ) (o : Own) → IsFormed t o → b + n ≤ length t.buffers → Stands t.code place (cleared b n) → Clears p t b n place o
  clears zero b place o formed room h = record {
    buffers = o.buffers;
    leads = steps.stays p t (at o place []);
    formed = formed_like t o o formed refl refl;
    same = λ c out. refl;
    empty = λ k lt. absurd (omega arith);
  }
  clears (suc n) b place o formed room h =
      let many : length o.buffers ≡ length t.buffers = formed.many in
      let s = get_within t.buffers b (omega (arith, room)) in
      let f = get_within o.buffers b (omega (arith, room, many)) in
      let o' : Own = record o { buffers = slice_set o.buffers b (with_count f.0 0) } in
      let lt : b < length o.buffers = omega (arith, room, many) in
      let rest : Clears p t (suc b) n (suc place) o' = clears n (suc b) (suc place) o' (emptied o b s.0 f.0 formed s.1 f.1 lt) (omega (arith, room)) h.1 in
      let last : Own = at (record o { buffers = rest.buffers }) (end place (cleared b (suc n))) [] in
      record {
        buffers = rest.buffers;
        leads = steps.wider p t (1 + n) (suc n) (at o place []) last (steps.then_on p t 1 n (at o place []) (at o' (suc place) []) last (steps.once p t (at o place []) (at o' (suc place) []) (steps.bclr p t o place [] b s.0 f.0 s.1 f.1 h.0)) rest.leads) (omega arith);
        formed = rest.formed;
        same = λ c out. rest.same c (λ l r. out (omega (arith, l)) (omega (arith, r))) ∙ set_other o.buffers b c (with_count f.0 0) (λ e. out (omega (arith, e)) (omega (arith, e)));
        empty = λ k k_lt. each k k_lt rest.buffers (λ j j_lt. rest.empty j j_lt) (with_count f.0 0) (rest.same b (λ l r. omega (arith, l)) ∙ set_same o.buffers b (with_count f.0 0) lt) refl;
      }
    where
      each : (k : ℕ) → k < suc n → (new : List Filled) → ((j : ℕ) → j < n → (f : Filled) × (slice_get new (suc b + j) ≡ Some f) × (f.count ≡ 0)) → (g : Filled) → slice_get new b ≡ Some g → g.count ≡ 0 → (f : Filled) × (slice_get new (b + k) ≡ Some f) × (f.count ≡ 0)
      each zero lt new rest g here none = let z : b + 0 ≡ b = omega arith in (g, ap (slice_get new) z ∙ here, none)
      each (suc k) lt new rest g here none = let r = rest k (omega (arith, lt)) in let z : b + suc k ≡ suc b + k = omega arith in (r.0, ap (slice_get new) z ∙ r.1, r.2)

module _ (arch : Arch) (p : Program) (t : Task) (h : ℕ) (f : Frame) (a : ℕ) (has_frame : HasFrame arch t h f) (stands : Stands t.code a (section_code arch (handler arch h) f a)) where
  abbrev m : ℕ
  m = (handler arch h).monitor

  -- LOCK, the emptied buffers, the callbacks, UNLOCK
  pub section_does : (message v : Value) (u : Own) → BeforeLock t f a message u → ((o : Own) → Cleared arch t h f a message v o → BodiesRan arch p t h f a message v o) → DoesEffect arch p t h f a (length (handler arch h).emitters + bodies_weight executed arch (handler arch h)) message v u
  section_does message v u before bodies =
      let n : ℕ = length (handler arch h).emitters in
      let first : ℕ = f.first_buffer in
      let weight : ℕ = bodies_weight executed arch (handler arch h) in
      let o : Own = with_lock_of m v u in
      let o0 : Own = at o (suc a) [] in
      let starts : o ≡ o0 = ap (λ b. at o (suc b) u.stack) before.is_at ∙ ap (at o (suc a)) before.stack in
      let c : Clears p t first n (suc a) o = clears p t n first (suc a) o (formed_like t u o before.formed refl refl) has_frame.has_buffers stands.0.1 in
      let o1 : Own = at (record o { buffers = c.buffers }) (bodies_at arch h f a) [] in
      let ran : BodiesRan arch p t h f a message v o1 = bodies o1 (record {
        is_at = refl;
        stack = refl;
        held = refl;
        formed = formed_like t (record o { buffers = c.buffers }) o1 c.formed refl refl;
        message_there = before.message_there;
        empty = c.empty;
      }) in
      record {
        lock = ap (slice_get t.code) before.is_at ∙ stands.0.0;
        own = ran.own;
        leads = subst (λ z. Leads p t (n + weight) z ran.own) (sym starts) (steps.then_on p t n weight o0 o1 ran.own c.leads ran.leads);
        unlock = ap (slice_get t.code) ran.is_at ∙ stands.1.1;
        last = let e = ran.is_at in omega (arith, e);
        calls = ran.calls;
        stack = ran.stack;
        held = ran.held;
        lists = ran.lists;
        formed = ran.formed;
        changed = record {
          words = ran.words;
          buffers = λ b out. ran.buffers b out ∙ c.same b (λ l k. out (l, k));
        };
      }

pub do_effects : SectionsDoEffects
do_effects arch p t h f a typed shallow bounded limit own has_frame stands = (
  length (handler arch h).emitters + bodies_weight executed arch (handler arch h),
  omega arith,
  λ message v fits fits_v u before.
      section_does arch p t h f a has_frame stands message v u before
      (λ o c. bodies_run arch p t h f a has_frame typed shallow (small_bodies arch h limit own) bounded stands.1.0 message v fits fits_v o c),
)

cleared_size : (n b : ℕ) → size (cleared b n) ≡ n
cleared_size zero b = refl
cleared_size (suc n) b = let q = cleared_size n (suc b) in omega (arith, q)

bodies_size : (arch : Arch) (h : Handler) (f : Frame) (bs : List Body) (i from : ℕ) → size (bodies_code arch h f i from bs) ≤ sum (map (λ b. stmts_weight standing (scope_of arch h b) b.stmts) bs)
bodies_size arch h f [] i from = omega arith
bodies_size arch h f (b ∷ bs) i from =
    let q = stmts_size (layout_of arch h f i b) b.stmts from in
    let r = bodies_size arch h f bs (suc i) (end from (stmts_code (layout_of arch h f i b) from b.stmts)) in
    let s = cons_sum (stmts_weight standing (scope_of arch h b) b.stmts) (map (λ c. stmts_weight standing (scope_of arch h c) c.stmts) bs) in
    omega (arith, q, r, s)

pub section_size : (arch : Arch) (h : Handler) (f : Frame) (a : ℕ) → size (section_code arch h f a) + 62 ≤ section_by standing arch h
section_size arch h f a =
    let q1 = cleared_size (length h.emitters) f.first_buffer in
    let q2 = bodies_size arch h f h.callbacks 0 (end a (ins (Lock h.monitor) ▸ cleared f.first_buffer (length h.emitters))) in
    omega (arith, q1, q2)

pub are_short : SectionsAreShort
are_short arch h f a =
    let q = size_is (section_code arch (handler arch h) f a) in
    let r = section_size arch (handler arch h) f a in
    omega (arith, q, r)
