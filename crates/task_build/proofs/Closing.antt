-- The program of an accepted system is sound.
use Rattle.std.proofs.Common.{ℕ, zero, suc, ◌≤◌, List, [], ◌∷◌, All, arith, slice_index_or}
use Rattle.std.proofs.lemmas.List.Elements.{All-head, All-tail, All-nil}
use Rattle.tower_syntax.specs.Arch.{Arch, Handler}
use Rattle.tower_syntax.specs.Graph.{handler, no_handler}
use Rattle.tower_syntax.specs.Words.{IsBound}
use Rattle.task_build.specs.CodeOf.{code_of}
use Rattle.lock_reduction.specs.Reduce.{Alone, Sound}
use Rattle.lock_reduction.proofs.Instance.{reduced}
use Rattle.task_alone.proofs.Lists.{all_at}
use Rattle.arch_checks.specs.Laws.{IsSafe}
use Rattle.arch_checks.specs.Offences.{IsAccepted}
use Rattle.arch_checks.proofs.Accepted.{safe}
use Rattle.task_build.proofs.Planned.{HasSmallBounds}
use Rattle.task_build.proofs.Coded.{code_alone}
use Rattle.arch_checks.specs.Kept.{KeepsNumbers}
use Rattle.arch_checks.proofs.Facts.{walks_short}
use Rattle.task_build.proofs.Weighed.{shaped}

-- what all handlers have, and no handler has too
pub each_handler : (P : Handler → Type 0) (hs : List Handler) → P no_handler → All P hs → (h : ℕ) → P (slice_index_or hs h no_handler)
each_handler P [] none all h = none
each_handler P (q ∷ hs) none all zero = All-head P q hs all
each_handler P (q ∷ hs) none all (suc h) = each_handler P hs none (All-tail P q hs all) h

pub small_bounds : (arch : Arch) → KeepsNumbers arch → HasSmallBounds arch
small_bounds arch keeps h k e has =
    let all : All (λ e. IsBound e.bound) (handler arch h).emitters = each_handler (λ q. All (λ e. IsBound e.bound) q.emitters) arch.handlers (All-nil (λ e. IsBound e.bound)) keeps.bounds h in
    let bound : IsBound e.bound = all_at (λ e. IsBound e.bound) (handler arch h).emitters k e all has in
    let small : e.bound ≤ 65536 = bound.1 in
    omega (arith, small)

-- the program of an accepted system is right alone
pub alone : (bs : List ℕ) (arch : Arch) → IsAccepted bs arch → Alone arch (code_of arch)
alone bs arch accepted =
    let s : IsSafe arch = safe bs arch accepted in
    code_alone arch s (small_bounds arch s.numbers) (walks_short bs arch accepted)

-- and sound
pub sound : (bs : List ℕ) (arch : Arch) → IsAccepted bs arch → Sound arch (code_of arch)
sound bs arch accepted =
    let s : IsSafe arch = safe bs arch accepted in
    reduced arch (code_of arch) s.numbered s.typed (shaped arch) (alone bs arch accepted)
