-- What a statement's code comes to.
use Rattle.std.proofs.Common.{◌≡◌, ℕ, ◌+◌, ◌<◌, ◌≤◌, ℤ, pos, List, [], length, refl, sym, ◌∙◌, subst, arith, Bool, true, false, cond, slice_index_or, ◌⊎◌}
use Rattle.tower_types.specs.Ty.{words}
use Rattle.tower_types.specs.Value.{Value, word, flat}
use Rattle.tower_syntax.specs.Weights.{shape_at}
use Rattle.tower_syntax.specs.Typed.{Names, IsInScope}
use Rattle.tower_meaning.specs.Body.{Environment, Execution}
use Rattle.task_code.specs.Own.{Own, Filled}
use Rattle.task_code.specs.Does.{slot}
use Rattle.stmt_code.specs.Layout.{Layout}
use Rattle.stmt_code.proofs.Named.{with_env}
use Rattle.stmt_code.proofs.OneStep.{Context, Leads, at, wider, on}
use Rattle.stmt_code.proofs.Ready.{Ready, Kept, kept_on, less_ready, Laid}

abbrev pub no_buffer : Filled
no_buffer = record { count = 0; slots = [] }

abbrev pub list_at : List (List Value) → ℕ → List Value
list_at ls k = slice_index_or ls k []

abbrev pub buffer_at : List Filled → ℕ → Filled
buffer_at bs b = slice_index_or bs b no_buffer

-- the buffer holds exactly the messages
pub record Holding (width limit : ℕ) (l : List Value) (f : Filled) : Type 0 where
  pub count : f.count ≡ length l
  pub few : length l ≤ limit
  pub slots : length f.slots ≡ limit
  pub wide : (i : ℕ) → i < limit → length (slot f i) ≡ width
  pub words : (i : ℕ) → i < length l → slot f i ≡ flat (slice_index_or l i (word (pos 0)))

pub record Fill (w : Layout) (r : Context) (lists : List (List Value)) (bs : List Filled) : Type 0 where
  pub listed : length lists ≡ length w.scope.emitters
  pub within : w.first_buffer + length w.scope.emitters ≤ length bs
  pub each : (k : ℕ) → k < length w.scope.emitters → Holding (words (shape_at w.scope.emitters k)) (r.bound k) (list_at lists k) (buffer_at bs (w.first_buffer + k))

-- other handlers' buffers
pub record Others (w : Layout) (bs cs : List Filled) : Type 0 where
  pub size : length cs ≡ length bs
  pub same : (b : ℕ) → (b < w.first_buffer) ⊎ (w.first_buffer + length w.scope.emitters ≤ b) → buffer_at cs b ≡ buffer_at bs b

pub record Ran (w : Layout) (lo hi : ℕ) (r : Context) (o : Own) (n a z : ℕ) (st : List ℤ) (sc : Names) (ls : List (List Value)) (y : Execution) (g : ℕ → ℕ) : Type 0 where
  pub own : Own
  pub leads : Leads r n (at o a st) (at own z st)
  pub ready : Ready w hi sc y.env own
  pub kept : Kept lo hi o own
  pub fill : Fill w r y.lists own.buffers
  pub others : Others w o.buffers own.buffers
  pub grown : (k : ℕ) → length (list_at y.lists k) ≤ length (list_at ls k) + g k

pub others_same : (w : Layout) (bs : List Filled) → Others w bs bs
others_same w bs = record { size = refl; same = λ b h. refl }

pub others_on : (w : Layout) (bs cs ds : List Filled) → Others w bs cs → Others w cs ds → Others w bs ds
others_on w bs cs ds p q = record { size = q.size ∙ p.size; same = λ b h. q.same b h ∙ p.same b h }

module _ (w : Layout) (lo hi : ℕ) (r : Context) where
  -- a statement that sends nothing
  pub plain : (o own : Own) (n a z : ℕ) (st : List ℤ) (sc : Names) (x : Execution) (env : Environment) (g : ℕ → ℕ) → Fill w r x.lists o.buffers → Leads r n (at o a st) (at own z st) → Ready w hi sc env own → Kept lo hi o own → own.buffers ≡ o.buffers → Ran w lo hi r o n a z st sc x.lists (with_env x env) g
  plain o own n a z st sc x env g f l rd k e =
      record {
        own = own;
        leads = l;
        ready = rd;
        kept = k;
        fill = subst (λ bs. Fill w r x.lists bs) (sym e) f;
        others = subst (λ bs. Others w o.buffers bs) (sym e) (others_same w o.buffers);
        grown = λ j. omega arith;
      }

  -- one statement and then others
  pub ran_on : (o : Own) (m n a b z : ℕ) (st : List ℤ) (sc sc' : Names) (ls : List (List Value)) (y v : Execution) (g h : ℕ → ℕ) → (p : Ran w lo hi r o m a b st sc ls y g) → Ran w lo hi r p.own n b z st sc' y.lists v h → Ran w lo hi r o (m + n) a z st sc' ls v (λ k. g k + h k)
  ran_on o m n a b z st sc sc' ls y v g h p q =
      record {
        own = q.own;
        leads = on r m n _ _ _ p.leads q.leads;
        ready = q.ready;
        kept = kept_on lo hi o p.own q.own p.kept q.kept;
        fill = q.fill;
        others = others_on w o.buffers p.own.buffers q.own.buffers p.others q.others;
        grown = λ k. omega (arith, p.grown k, q.grown k);
      }

  -- with code in front and behind
  pub ran_within : (o : Own) (c m n a b z a' : ℕ) (st : List ℤ) (sc : Names) (ls : List (List Value)) (y : Execution) (g h : ℕ → ℕ) → Leads r c (at o a st) (at o a' st) → (p : Ran w lo hi r o m a' b st sc ls y g) → Leads r n (at p.own b st) (at p.own z st) → ((k : ℕ) → g k ≤ h k) → (t : ℕ) → c + (m + n) ≤ t → Ran w lo hi r o t a z st sc ls y h
  ran_within o c m n a b z a' st sc ls y g h front p behind le t lt =
      record {
        own = p.own;
        leads = wider r (c + (m + n)) t _ _ (on r c (m + n) _ _ _ front (on r m n _ _ _ p.leads behind)) lt;
        ready = p.ready;
        kept = p.kept;
        fill = p.fill;
        others = p.others;
        grown = λ k. omega (arith, p.grown k, le k);
      }

  pub either : (o : Own) (n a z : ℕ) (st : List ℤ) (sc : Names) (ls : List (List Value)) (y v : Execution) (g : ℕ → ℕ) (c : Bool) → (c ≡ true → Ran w lo hi r o n a z st sc ls y g) → (c ≡ false → Ran w lo hi r o n a z st sc ls v g) → Ran w lo hi r o n a z st sc ls (cond c y v) g
  either o n a z st sc ls y v g true p q = p refl
  either o n a z st sc ls y v g false p q = q refl

  pub fewer_names : (laid : Laid w lo hi) (o : Own) (n a z : ℕ) (st : List ℤ) (sc sc' : Names) (ls : List (List Value)) (y : Execution) (g : ℕ → ℕ) → Ran w lo hi r o n a z st sc ls y g → ((c : ℕ) → IsInScope (sc' c) → IsInScope (sc c)) → Ran w lo hi r o n a z st sc' ls y g
  fewer_names laid o n a z st sc sc' ls y g p f =
      record { own = p.own; leads = p.leads; ready = less_ready w lo hi laid sc sc' y.env p.own p.ready f; kept = p.kept; fill = p.fill; others = p.others; grown = p.grown }

  -- one statement, then code that changes words alone, and then others
  pub ran_through : (o : Own) (m c n a b b' z : ℕ) (st : List ℤ) (sc sc' : Names) (ls : List (List Value)) (y v : Execution) (g h : ℕ → ℕ) → (p : Ran w lo hi r o m a b st sc ls y g) → (u : Own) → Leads r c (at p.own b st) (at u b' st) → Kept lo hi p.own u → u.buffers ≡ p.own.buffers → Ran w lo hi r u n b' z st sc' y.lists v h
      → Ran w lo hi r o (m + (c + n)) a z st sc' ls v (λ k. g k + h k)
  ran_through o m c n a b b' z st sc sc' ls y v g h p u l k e q =
      record {
        own = q.own;
        leads = on r m (c + n) _ _ _ p.leads (on r c n _ _ _ l q.leads);
        ready = q.ready;
        kept = kept_on lo hi o p.own q.own p.kept (kept_on lo hi p.own u q.own k q.kept);
        fill = q.fill;
        others = others_on w o.buffers p.own.buffers q.own.buffers p.others (subst (λ bs. Others w bs q.own.buffers) e q.others);
        grown = λ j. omega (arith, p.grown j, q.grown j);
      }
