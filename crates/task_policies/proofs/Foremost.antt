-- The tasks that are wanted are the foremost.
use Rattle.std.proofs.Common.{◌≡◌, ◌∙◌, ℕ, List, Bool, true, false, ◌==◌, map, cond, Option, length, sym, ap}
use Rattle.std.specs.Prelude.{filter, nat_lt}
use Rattle.std.specs.List.{list_any}
use Rattle.task_code.specs.Policy.{greatest}
use Rattle.task_code.specs.Ceiling.{is_holder, greatest_by, foremost}
use Rattle.task_policies.specs.Rules.{CeilingRule, active_in, is_wanted}
use Rattle.task_policies.proofs.Filters.{filter_if, any_is}

pub wanted_are_foremost : (r : CeilingRule) (holds : List (Option ℕ)) (xs : List ℕ) (top : ℕ) (only : Bool) → top ≡ greatest (map (active_in r holds) xs)
    → only ≡ nat_lt 0 (length (filter (is_wanted r holds top true) xs))
    → filter (is_wanted r holds top only) xs ≡ foremost r.priorities r.ceilings holds xs
wanted_are_foremost r holds xs top only t o =
    let f : ℕ → ℕ = active_in r holds in
    let h : ℕ → Bool = is_holder holds in
    let tops : List ℕ = filter (λ x. f x == top) xs in
    let same : tops ≡ greatest_by f xs = ap (λ t. filter (λ x. f x == t) xs) t in
    let any : only ≡ list_any h tops = o ∙ ap (λ ys. nat_lt 0 (length ys)) (filter_if (λ x. f x == top) h true xs) ∙ any_is h tops in
    filter_if (λ x. f x == top) h only xs
    ∙ ap (λ b. cond b (filter h tops) tops) any
    ∙ ap (λ ys. cond (list_any h ys) (filter h ys) ys) same
