-- What every reached state keeps: each task is in a state of a run of that task alone.
use Rattle.std.proofs.Common.{◌≡◌, ◌∙◌, ℕ, zero, suc, ◌⊎◌, inl, inr, ℤ, true, List, [], ◌∷◌, ◌++◌, length, map, Option, Some, None, refl, sym, ap, subst, subst₂, slice_get, slice_set, slice_index, option_and_then}
use Rattle.std.proofs.lemmas.Bool.{cases_eq}
use Rattle.std.proofs.lemmas.List.{map-set}
use Rattle.std.proofs.lemmas.List.Sums.{fold-append}
use Rattle.std.proofs.lemmas.Option.{get_or_from_slice_get, same_Some}
use Rattle.tower_types.specs.Value.{Value, flat}
use Rattle.tower_syntax.specs.declared.event.Mark.{Mark}
use Rattle.tower_syntax.specs.Arch.{Events}
use Rattle.tower_meaning.specs.System.{System, Item}
use Rattle.tower_meaning.specs.Atomic.{Atomic, start, act, replay}
use Rattle.task_code.specs.declared.program.Task.{Task}
use Rattle.task_code.specs.Program.{Program}
use Rattle.task_code.specs.Own.{Own, held_monitor}
use Rattle.task_code.specs.Machine.{Lock, Free, HeldBy}
use Rattle.task_code.specs.Run.{Run}
use Rattle.task_alone.specs.Setting.{Setting, FitItems}
use Rattle.task_alone.specs.Alone.{FirstIsOf, Safe}
use Rattle.lock_reduction.specs.Sound.{IsWithin, LastHolds}
use Rattle.task_alone.proofs.Lists.{get_set_same, get_set_other}
use Rattle.lock_reduction.proofs.Arrivals.{QueuedFit}

-- the lock that task x holds, as the run and the replay have it
abbrev pub LockFits : Setting → ℕ → List Item → Value → List Lock → List Value → Option ℕ → Type 0
LockFits s x items handed locks values None = Unit {0}
LockFits s x items handed locks values (Some m) =
    FirstIsOf s m items × (slice_get locks m ≡ Some (HeldBy x)) × (slice_get values m ≡ Some handed)

-- task x of a run, with what the replay has pending, is in a state of an alone run
pub record TaskFits (s : Setting) (p : Program) (x : ℕ) (t : Task) (r : Run) (a : Atomic) : Type 0 where
  pub own : Own
  pub items : List Item
  pub handed : Value
  pub count : ℕ
  pub has_own : slice_get r.machine.tasks x ≡ Some own
  pub has_items : slice_get a.pending x ≡ Some items
  pub has_count : slice_get r.since x ≡ Some count
  pub safe : (n : ℕ) → Safe s p t x n (record { own = own; pending = items; handed = handed; since = count })
  pub items_fit : FitItems s items
  pub within : IsWithin t.buffers own.buffers
  pub lock_fits : LockFits s x items handed r.machine.locks a.monitors (held_monitor own)

pub record Invariant (s : Setting) (p : Program) (events : Events) (r : Run) (a : Atomic) : Type 0 where
  pub replayed : replay s.system events r.marks ≡ Some a
  pub outputs : r.written ≡ map (λ o. (o.0, flat o.1)) a.outputs
  pub queues : r.machine.queues ≡ map (map flat) a.queues
  pub lost : r.machine.lost ≡ a.lost
  pub place : r.machine.place ≡ a.place
  pub tasks : (x : ℕ) (t : Task) → slice_get p.tasks x ≡ Some t → TaskFits s p x t r a
  pub free : (m : ℕ) (ws : List ℤ) → slice_get r.machine.locks m ≡ Some (Free ws) → slice_get (map flat a.monitors) m ≡ Some ws
  pub held : (m x : ℕ) → slice_get r.machine.locks m ≡ Some (HeldBy x) → slice_get (map held_monitor r.machine.tasks) x ≡ Some (Some m)
  pub lock_count : length r.machine.locks ≡ length s.system.zeros
  pub task_count : length r.machine.tasks ≡ length p.tasks
  pub last : LastHolds s events r r.ran
  pub values_fit : (m : ℕ) (v : Value) → slice_get a.monitors m ≡ Some v → s.fits_monitor m v ≡ true
  pub queued_fit : QueuedFit s a.queues

-- a step of another task leaves this
pub record IsSameFor (y : ℕ) (r r' : Run) (a a' : Atomic) : Type 0 where
  pub tasks : slice_get r'.machine.tasks y ≡ slice_get r.machine.tasks y
  pub pending : slice_get a'.pending y ≡ slice_get a.pending y
  pub since : slice_get r'.since y ≡ slice_get r.since y
  pub locks : (m : ℕ) → slice_get r.machine.locks m ≡ Some (HeldBy y) → slice_get r'.machine.locks m ≡ Some (HeldBy y)
  pub values : (m : ℕ) → slice_get r.machine.locks m ≡ Some (HeldBy y) → slice_get a'.monitors m ≡ slice_get a.monitors m

carry_lock : (s : Setting) (y : ℕ) (items : List Item) (handed : Value) (r r' : Run) (a a' : Atomic) (o : Option ℕ) → IsSameFor y r r' a a' → LockFits s y items handed r.machine.locks a.monitors o → LockFits s y items handed r'.machine.locks a'.monitors o
carry_lock s y items handed r r' a a' None same l = tt
carry_lock s y items handed r r' a a' (Some m) same l = (l.0, same.locks m l.1, same.values m l.1 ∙ l.2)

pub carry : {s : Setting} {p : Program} {y : ℕ} {t : Task} {r : Run} (r' : Run) {a : Atomic} (a' : Atomic) → TaskFits s p y t r a → IsSameFor y r r' a a' → TaskFits s p y t r' a'
carry {s} {p} {y} {t} {r} r' {a} a' f same = record {
  own = f.own;
  items = f.items;
  handed = f.handed;
  count = f.count;
  has_own = same.tasks ∙ f.has_own;
  has_items = same.pending ∙ f.has_items;
  has_count = same.since ∙ f.has_count;
  safe = f.safe;
  items_fit = f.items_fit;
  within = f.within;
  lock_fits = carry_lock s y f.items f.handed r r' a a' (held_monitor f.own) same f.lock_fits;
}

-- all tasks fit after a step of one, if that one does and the step leaves the others alone
pub all_fit : {s : Setting} {p : Program} {r : Run} (r' : Run) {a : Atomic} (a' : Atomic) (x : ℕ) (t : Task) → slice_get p.tasks x ≡ Some t → ((y : ℕ) (t : Task) → slice_get p.tasks y ≡ Some t → TaskFits s p y t r a) → ((y : ℕ) → (x ≡ y → ⊥) → IsSameFor y r r' a a') → TaskFits s p x t r' a' → (y : ℕ) (u : Task) → slice_get p.tasks y ≡ Some u → TaskFits s p y u r' a'
all_fit {s} {p} {r} r' {a} a' x t is all same here y u e = go (cases_eq x y)
  where
    go : (x ≡ y) ⊎ (x ≡ y → ⊥) → TaskFits s p y u r' a'
    go (inl eq) =
        let known : t ≡ u = same_Some t u (sym is ∙ ap (slice_get p.tasks) eq ∙ e) in
        subst₂ (λ z v. TaskFits s p z v r' a') eq known here
    go (inr ne) = carry r' a' (all y u e) (same y ne)

pub counted_is : (since : List ℕ) (x n : ℕ) → slice_get since x ≡ Some n → slice_get (slice_set since x (suc (slice_index since x))) x ≡ Some (suc n)
counted_is since x n e = get_set_same since x n _ e ∙ ap (λ k. Some (suc k)) (get_or_from_slice_get since x n 0 e)

-- a replay goes on by one mark
pub replay_more : (system : System) (events : Events) (ms : List Mark) (m : Mark) (a a' : Atomic) → replay system events ms ≡ Some a → act system events a m ≡ Some a' → replay system events (ms ++ m ∷ []) ≡ Some a'
replay_more system events ms m a a' e h =
    fold-append (λ o m. option_and_then (λ t. act system events t m) o) (Some (start system)) ms (m ∷ [])
    ∙ ap (option_and_then (λ t. act system events t m)) e ∙ h

-- what is held stays where the task's lock does
pub held_same : (tasks : List Own) (x : ℕ) (before after : Own) → slice_get tasks x ≡ Some before → held_monitor after ≡ held_monitor before → map held_monitor (slice_set tasks x after) ≡ map held_monitor tasks
held_same [] x b a e h = refl
held_same (o ∷ tasks) zero b a e h = cc
held_same (o ∷ tasks) (suc x) b a e h = ap (λ l. held_monitor o ∷ l) (held_same tasks x b a e h)

-- a task goes on holding its monitor where another task changes
pub others_hold : (tasks : List Own) (x y : ℕ) (own : Own) (j : ℕ) (o : Option ℕ) → slice_get (map held_monitor tasks) x ≡ Some o → (o ≡ Some j → ⊥) → slice_get (map held_monitor tasks) y ≡ Some (Some j) → slice_get (map held_monitor (slice_set tasks x own)) y ≡ Some (Some j)
others_hold tasks x y own j o there ne old =
    let apart : x ≡ y → ⊥ = λ e. ne (same_Some o (Some j) (sym there ∙ ap (slice_get (map held_monitor tasks)) e ∙ old)) in
    subst (λ l. slice_get l y ≡ Some (Some j)) (sym (map-set held_monitor tasks x own)) (get_set_other (map held_monitor tasks) x y (held_monitor own) apart ∙ old)
