-- What is noted of how tasks stand, and that it stays so.
use Rattle.std.proofs.Common.{◌≡◌, ◌==◌, ℕ, zero, suc, ◌<◌, ◌≤◌, ℤ, Bool, true, false, List, [], ◌∷◌, length, map, drop, Option, Some, None, slice_get, slice_index_or, slice_set, refl, ap, sym, ◌∙◌, subst, arith, inl, inr}
use Rattle.std.specs.Prelude.{◌&&◌, ◌↔◌, not}
use Rattle.std.specs.Option.{option_map}
use Rattle.std.proofs.Math.ListN.{length-set}
use Rattle.std.proofs.lemmas.List.{length-map}
use Rattle.std.proofs.lemmas.Bool.{cases_eq}
use Rattle.std.proofs.lemmas.Bool.Decides.{nat_tests}
use Rattle.tower_syntax.specs.declared.arch.SourceKind.{SourceKind}
use Rattle.tower_syntax.specs.declared.arch.SourceKind.TheVariants as kind
use Rattle.tower_syntax.specs.Arrival.{is_init}
use Rattle.tower_syntax.specs.View.{events_of}
use Rattle.task_code.specs.declared.program.Task.{Task}
use Rattle.task_code.specs.Program.{Program}
use Rattle.task_code.specs.Own.{Own, Held}
use Rattle.task_code.specs.Does.{Does, Stuck, Private, Takes, Locks, Unlocks, Writes}
use Rattle.task_code.specs.Machine.{Lock, Free, HeldBy, Machine, queue, task_does}
use Rattle.task_code.specs.Standing.{Standing, IsStuck, IsIdle, IsWaiting, IsReady, is_ready, is_clear, clear_if_init, inits_clear, kind_at, at_queue, at_lock, standing_of}
use Rattle.task_machine.specs.declared.action.Action.{Action}
use Rattle.task_machine.specs.State.{State, standing_in, ready, does_next, turned}
use Rattle.task_machine.specs.Arriving.{Stays}
use Rattle.task_machine.specs.Bits.{bit, as_bit}
use Rattle.task_machine.specs.Noted.{Notes, clear_in, locks_at, touched_by, stands_by, ready_by, IsNext, HasPlaces, IsNoted, AreNoted, IsLeft, IsReached}
use Rattle.task_machine.proofs.Lists.{get_map, get_within, get_beyond}
use Rattle.task_machine.proofs.Kept.{get_set_same, get_set_other}
use Rattle.task_machine.proofs.Numbers.{over, length_over, get_over}
use Rattle.task_machine.proofs.Going.{length_ready}
use Rattle.task_machine.proofs.Stands.{get_exists}
use Rattle.task_machine.proofs.BitWords.{bit_true, bit_set, bit_blank}

-- a standing by what the task does, with the initialisation as it is
stands_is : (s : State) (x : ℕ) (d : Does) → stands_by (clear_in s) s x d ≡ standing_of s.program (events_of s.events) s.machine x d
stands_is s x Stuck = refl
stands_is s x (Private own) = refl
stands_is s x (Takes f) = refl
stands_is s x (Locks k f) = refl
stands_is s x (Unlocks h own) = refl
stands_is s x (Writes o ws own) = refl

pub standing_is : (s : State) (x : ℕ) → stands_by (clear_in s) s x (does_next s x) ≡ standing_in s x
standing_is s x = stands_is s x (does_next s x)

lists_same : {X : Type 0} (xs ys : List X) → length xs ≡ length ys → ((i : ℕ) → i < length xs → slice_get xs i ≡ slice_get ys i) → xs ≡ ys
lists_same [] [] l h = refl
lists_same [] (y ∷ ys) l h = absurd (omega arith)
lists_same (x ∷ xs) [] l h = absurd (omega arith)
lists_same (x ∷ xs) (y ∷ ys) l h =
    let f : Some x ≡ Some y = h 0 (omega arith) in
    let e : x ≡ y = cc in
    ap (λ z. z ∷ xs) e ∙ ap (λ zs. y ∷ zs) (lists_same xs ys (omega arith) (λ i b. h (suc i) (omega arith)))

-- the flags are the list of the ready tasks
pub flags_are : (s : State) (n : Notes) → AreNoted s n → n.ready ≡ ready s
flags_are s n is =
    let count : length n.ready ≡ length s.program.tasks = is.places.flags in
    lists_same n.ready (ready s) (count ∙ sym (length_ready s)) (λ i h.
    let within : i < length s.program.tasks = omega (arith, h, count) in
    let e : ready_by n.clear s i ≡ is_ready (standing_in s i) = ap (λ c. ready_by c s i) is.clear ∙ ap is_ready (standing_is s i) in
    let f = get_map is_ready (over (standing_in s) (length s.program.tasks)) i ∙ ap (option_map is_ready) (get_over (standing_in s) (length s.program.tasks) i within) in
    is.flags i within ∙ ap Some e ∙ sym f)

-- a task at a LOCK of a monitor stands by its lock
pub stands_at_lock : (s : State) (c : Bool) (x m : ℕ) (d : Does) → locks_at m d ≡ true → stands_by c s x d ≡ at_lock m (slice_get s.machine.locks m)
stands_at_lock s c x m Stuck e = cc
stands_at_lock s c x m (Private own) e = cc
stands_at_lock s c x m (Takes f) e = cc
stands_at_lock s c x m (Locks k f) e = let h : k ≡ m = grind (arith, nat_tests) in ap (λ j. at_lock j (slice_get s.machine.locks j)) h
stands_at_lock s c x m (Unlocks h own) e = cc
stands_at_lock s c x m (Writes o ws own) e = cc

at_queue_waits : (b : Bool) (q : List (List ℤ)) (m : ℕ) → at_queue b q ≡ IsWaiting m → ⊥
at_queue_waits true q m e = cc
at_queue_waits false [] m e = cc
at_queue_waits false (message ∷ rest) m e = cc

at_lock_waits : (k m : ℕ) (o : Option Lock) → at_lock k o ≡ IsWaiting m → k ≡ m
at_lock_waits k m None e = cc
at_lock_waits k m (Some (Free ws)) e = cc
at_lock_waits k m (Some (HeldBy t)) e = cc

-- a task that waits for a monitor is at a LOCK of it
waits_at : (s : State) (c : Bool) (x m : ℕ) (d : Does) → stands_by c s x d ≡ IsWaiting m → locks_at m d ≡ true
waits_at s c x m Stuck e = cc
waits_at s c x m (Private own) e = cc
waits_at s c x m (Takes f) e = absurd (at_queue_waits _ _ m e)
waits_at s c x m (Locks k f) e = let h = at_lock_waits k m (slice_get s.machine.locks k) e in grind (arith, nat_tests)
waits_at s c x m (Unlocks h own) e = cc
waits_at s c x m (Writes o ws own) e = cc

is_held : (m : ℕ) (o : Option Lock) → is_ready (at_lock m o) ≡ false → at_lock m o ≡ IsWaiting m
is_held m None e = refl
is_held m (Some (Free ws)) e = cc
is_held m (Some (HeldBy t)) e = refl

is_free : (m : ℕ) (o : Option Lock) → is_ready (at_lock m o) ≡ true → at_lock m o ≡ IsReady
is_free m None e = cc
is_free m (Some (Free ws)) e = refl
is_free m (Some (HeldBy t)) e = cc

module _ (s : State) (n : Notes) (is : AreNoted s n) (m : ℕ) where
  -- the row of a monitor that is held has the tasks that wait for it
  pub row_waits : (row : List ℕ) → slice_get n.rows m ≡ Some row → is_ready (at_lock m (slice_get s.machine.locks m)) ≡ false
      → (t : ℕ) → (bit row t ≡ 1) ↔ (standing_in s t ≡ IsWaiting m)
  row_waits row at held t =
      let noted = (is.each t).bits m row at in (
        λ e.
            let l : locks_at m (does_next s t) ≡ true = bit_true _ (sym noted ∙ e) in
            sym (standing_is s t) ∙ stands_at_lock s (clear_in s) t m (does_next s t) l ∙ is_held m (slice_get s.machine.locks m) held,
        λ e. bit_set _ _ noted (waits_at s (clear_in s) t m (does_next s t) (standing_is s t ∙ e)),
      )

  -- and no task waits for one that is free
  pub blank_waits : is_ready (at_lock m (slice_get s.machine.locks m)) ≡ true → (t : ℕ) → (bit n.blank t ≡ 1) ↔ (standing_in s t ≡ IsWaiting m)
  blank_waits free t =
      let none : bit n.blank t ≡ 0 = ap (λ ws. bit ws t) is.places.blank ∙ bit_blank _ t in (
        λ e. let f : 0 ≡ 1 = sym none ∙ e in absurd (omega arith),
        λ e.
            let l = waits_at s (clear_in s) t m (does_next s t) (standing_is s t ∙ e) in
            let f : IsWaiting m ≡ IsReady = sym e ∙ sym (standing_is s t) ∙ stands_at_lock s (clear_in s) t m (does_next s t) l ∙ is_free m (slice_get s.machine.locks m) free in
            absurd (differ m f),
      )
    where
      differ : (m : ℕ) → IsWaiting m ≡ IsReady → ⊥
      differ m f = cc

pub next_is : {s : State} {x : ℕ} {a b : Action} → a ≡ b → IsNext s x a → IsNext s x b
next_is {s = s} {x = x} e is = let P : Action → Type 0 = IsNext s x in subst P e is
