use Rattle.std.proofs.Common.{◌≡◌, ℕ, ◌<◌, ℤ, List, length, Option, Some, None, slice_get, ap, ◌∙◌}
use Rattle.std.specs.Prelude.{IfNone, IfSome, slice_index}
use Rattle.std.specs.Option.{option_map}
use Rattle.task_code.specs.Machine.{Lock, Free, HeldBy}
use Rattle.task_machine.specs.Lock.{free_words}
use Rattle.task_machine.specs.Kept.{HasWords}
use Rattle.task_machine.proofs.Kept.{get_read}
use Rattle.task_machine.proofs.running.Running.monitor.Goals as goal

-- a lock that shows no words is held
held_by : {X : Type 0} (f : X → List ℤ) (r : Option X) (o : Option Lock) (l : Lock) → o ≡ Some l → option_map f r ≡ free_words l → IfNone r ((t : ℕ) × (o ≡ Some (HeldBy t)))
held_by f None o (Free ws) at e = cc
held_by f None o (HeldBy t) at e = (t, at)
held_by f (Some x) o l at e = tt

-- and one that shows words shows as many as it has
shows : {X : Type 0} (f : X → List ℤ) (r : Option X) (n : ℕ) (l : Lock) → HasWords n l → option_map f r ≡ free_words l → IfSome r (λ x. length (f x) ≡ n)
shows f None n l is e = tt
shows f (Some x) n (Free ws) is e = let h : f x ≡ ws = cc in ap length h ∙ is
shows f (Some x) n (HeldBy t) is e = cc

pub returns-in-Some-clause-locked : goal.returns-in-Some-clause-locked
returns-in-Some-clause-locked c =
    let locks = c.self.inside.locks.items in
    let lock = c.in-Some.lock.now in
    let m : c.args.m < length locks = rw c.self.invariant.kept.locks_count (rw (← c.self.view_is) at c.requires) in
    let at : slice_get locks c.args.m ≡ Some lock = get_read locks c.args.m lock m (rw c.deref.ensures.value at c.in-Some.ensures.lookup.1) in
    rw (← c.self.view_is) (held_by (λ x. x.now) c.words.result (slice_get locks c.args.m) lock at c.words.ensures)

pub returns-in-Some-clause-length : goal.returns-in-Some-clause-length
returns-in-Some-clause-length c =
    let locks = c.self.inside.locks.items in
    let lock = c.in-Some.lock.now in
    let m : c.args.m < length locks = rw c.self.invariant.kept.locks_count (rw (← c.self.view_is) at c.requires) in
    let at : slice_get locks c.args.m ≡ Some lock = get_read locks c.args.m lock m (rw c.deref.ensures.value at c.in-Some.ensures.lookup.1) in
    let is = c.self.invariant.kept.free c.args.m lock at in
    rw (← c.self.view_is) (shows (λ x. x.now) c.words.result (slice_index c.self.inside.program.monitors c.args.m) lock is c.words.ensures)
