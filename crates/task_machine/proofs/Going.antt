-- The task that a lawful rule names.
use Rattle.std.proofs.Common.{◌≡◌, ℕ, ◌<◌, true, List, length, Option, Some, None, slice_get, refl, ap, sym, ◌∙◌, subst, arith}
use Rattle.std.specs.Prelude.{All, IfSome}
use Rattle.std.specs.Option.{option_map}
use Rattle.std.proofs.lemmas.List.{length-map}
use Rattle.task_code.specs.Standing.{Standing, IsStuck, IsIdle, IsWaiting, IsReady, is_ready}
use Rattle.task_machine.specs.Policy.{IsBelow, AreMonitors}
use Rattle.task_machine.specs.State.{State, ready, standing_in}
use Rattle.task_machine.proofs.Lists.{get_map, get_within}
use Rattle.task_machine.proofs.Numbers.{over, length_over, get_over}

pub length_ready : (s : State) → length (ready s) ≡ length s.program.tasks
length_ready s = length-map (over (standing_in s) (length s.program.tasks)) is_ready ∙ length_over (standing_in s) (length s.program.tasks)

pub ready_in : (s : State) (x : ℕ) → slice_get (ready s) x ≡ Some true → x < length s.program.tasks
ready_in s x e = let h = get_within (ready s) x true e in let l = length_ready s in omega (arith, h, l)

is_ready_true : (t : Standing) → is_ready t ≡ true → t ≡ IsReady
is_ready_true IsStuck e = cc
is_ready_true IsIdle e = cc
is_ready_true (IsWaiting m) e = cc
is_ready_true IsReady e = refl

pub ready_stands : (s : State) (x : ℕ) → slice_get (ready s) x ≡ Some true → standing_in s x ≡ IsReady
ready_stands s x e =
    let n = length s.program.tasks in
    let f = get_map is_ready (over (standing_in s) n) x ∙ ap (option_map is_ready) (get_over (standing_in s) n x (ready_in s x e)) in
    let h : Some (is_ready (standing_in s x)) ≡ Some true = sym f ∙ e in
    is_ready_true (standing_in s x) cc

pub are_monitors : (o : Option ℕ) (n : ℕ) (holds : List (Option ℕ)) → IfSome o (λ k. k ≡ n) → All (IsBelow n) holds → AreMonitors o holds
are_monitors None n holds e h = tt
are_monitors (Some k) n holds e h = subst (λ (m : ℕ). All (IsBelow m) holds) (sym e) h
