-- Every task alone.
use Rattle.std.proofs.Common.{◌≡◌, ℕ, zero, suc, ◌<◌, ◌≤◌, List, [], ◌∷◌, length, Some, arith, slice_get}
use Rattle.tower_syntax.specs.Arch.{Arch}
use Rattle.tower_syntax.specs.Graph.{Reaches, begins, goes}
use Rattle.tower_syntax.specs.WellNumbered.{AreListeners}
use Rattle.tower_meaning.specs.Fits.{KeepsTypes}
use Rattle.task_code.specs.declared.program.Task.{Task}
use Rattle.task_code.specs.Program.{Program}
use Rattle.lock_reduction.specs.Reduce.{Alone}
use Rattle.channel_graph.specs.Circuit.{IsAcyclic}
use Rattle.channel_graph.specs.Chain.{LeadsAlong, IsWalk}
use Rattle.channel_graph.proofs.Recursed.{deliver_recurs}
use Rattle.emit_code.specs.Entries.{Behind, next, later}
use Rattle.task_build.proofs.Planned.{IsDelivered}
use Rattle.task_build.proofs.Headed.{safe_alone}

-- a walk from what is behind h is part of a longer one from h
extends : (arch : Arch) (h g : ℕ) → Behind arch h g → (ms : List ℕ) → LeadsAlong arch g ms → (ls : List ℕ) × LeadsAlong arch h ls × (length ms < length ls)
extends arch h g (next k led) ms along = (k ∷ ms, (led, along), omega arith)
extends arch h g (later j k b led) ms along =
    let r = extends arch h j b (k ∷ ms) (led, along) in
    let lt : suc (length ms) < length r.0 = r.2 in
    (r.0, r.1, omega (arith, lt))

-- where walks are short, none comes back
pub no_cycle : (arch : Arch) (n h : ℕ) → ((ks : List ℕ) → LeadsAlong arch h ks → length ks < n) → Behind arch h h → ⊥
no_cycle arch zero h short b = nothing (short [] tt)
  where
    nothing : 0 < 0 → ⊥
    nothing lt = omega arith
no_cycle arch (suc n) h short b =
    no_cycle arch n h (λ ks along.
    let r = extends arch h h b ks along in
    let one : length ks < length r.0 = r.2 in
    let two : length r.0 < suc n = short r.0 r.1 in
    omega (arith, one, two)) b

-- a walk from a reached handler is the end of one from a source
pub walk_to : (arch : Arch) (s : ℕ) → s < length arch.sources → (h : ℕ) → Reaches arch s h → (ks : List ℕ) → LeadsAlong arch h ks → (hs : List ℕ) × IsWalk arch hs × (length ks < length hs)
walk_to arch s lt h (begins k c) ks along = (k ∷ ks, (record { source = s; exists = lt; on = c }, along), omega arith)
walk_to arch s lt h (goes g k r led) ks along =
    let w = walk_to arch s lt g r (k ∷ ks) (led, along) in
    let more : suc (length ks) < length w.0 = w.2 in
    (w.0, w.1, omega (arith, more))

-- a program of such tasks is right alone
pub alone : (arch : Arch) (p : Program) → AreListeners arch → IsAcyclic arch → KeepsTypes arch → ((hs : List ℕ) → IsWalk arch hs → length hs ≤ 100) → ((x : ℕ) (t : Task) → slice_get p.tasks x ≡ Some t → IsDelivered arch p t x) → Alone arch p
alone arch p listed acyclic keeps chain tasks x t e n =
    let d = tasks x t e in
    let short : (h : ℕ) → Reaches arch x h → (ks : List ℕ) → LeadsAlong arch h ks → length ks < 255 = λ h r ks along.
    let w = walk_to arch x d.there h r ks along in
    let one : length ks < length w.0 = w.2 in
    let two : length w.0 ≤ 100 = chain w.0 w.1 in
    omega (arith, one, two) in
    safe_alone arch p t x d.entries d.planned d.headed listed (λ h r b. no_cycle arch 255 h (short h r) b) keeps (deliver_recurs arch x listed acyclic d.there) short d.sections n
