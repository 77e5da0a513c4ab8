use Rattle.std.proofs.Common.{◌≡◌, ◌==◌, ◌-◌, ◌∙◌, ℕ, ◌<◌, ◌≤◌, List, refl, sym, ap, arith, slice_get, slice_index, length}
use Rattle.std.specs.Prelude.{filter}
use Rattle.std.proofs.lemmas.Bool.{lt-ltb}
use Rattle.task_code.specs.Policy.{places_from}
use Rattle.task_code.specs.Cores.{by_urgency}
use Rattle.task_policies.specs.Rules.{is_below}
use Rattle.task_policies.proofs.Filters.{filter_all}
use Rattle.task_policies.proofs.Ranks.{level_is, level_none, next_level, get_left, get_right}
use Rattle.task_policies.proofs.cores.at_rank.Goals as goal

pub levels-init : goal.levels-init
levels-init c = ap (λ xs. slice_get (by_urgency c.args.priorities.now xs) c.args.position) (filter_all (is_below c.args.priorities.now 256) (λ x. lt-ltb (slice_index c.args.priorities.now x) 256 (omega (arith, c.type_inv.priorities x))) (places_from 0 c.args.given.now))

pub returns-in_default-clause-task : goal.returns-in_default-clause-task
returns-in_default-clause-task c =
    sym (ap (λ xs. slice_get (by_urgency c.args.priorities.now xs) c.levels.left) (level_none c.args.priorities.now c.levels.limit (places_from 0 c.args.given.now) (sym c.level_below.ensures ∙ c.in_default.is)))
    ∙ c.levels.invariant

pub returns-then-left-count-clause-task : goal.returns-then-left-count-clause-task
returns-then-left-count-clause-task c =
    let ps = c.args.priorities.now in
    let xs = places_from 0 c.args.given.now in
    let t = c.in-Some.priority in
    let these = filter (λ x. slice_index ps x == t) xs in
    let there : c.levels.left < length these = let many : c.count-count.result ≡ length these = c.count-count.ensures.count in omega (arith, many, c.if-left-count.true) in
    c.at_position.ensures.task
    ∙ sym (get_left these (by_urgency ps (filter (is_below ps t) xs)) c.levels.left there)
    ∙ sym (ap (λ ys. slice_get ys c.levels.left) (next_level ps c.levels.limit t xs (sym c.level_below.ensures ∙ c.in-Some.is)))
    ∙ c.levels.invariant

pub levels-smaller : goal.levels-smaller
levels-smaller c = (level_is c.args.priorities.now c.levels.limit c.in-Some.priority (places_from 0 c.args.given.now) (sym c.level_below.ensures ∙ c.in-Some.is)).below

pub levels-preserved : goal.levels-preserved
levels-preserved c =
    let ps = c.args.priorities.now in
    let xs = places_from 0 c.args.given.now in
    let t = c.in-Some.priority in
    let these = filter (λ x. slice_index ps x == t) xs in
    let rest = by_urgency ps (filter (is_below ps t) xs) in
    let many : c.count-count.result ≡ length these = c.count-count.ensures.count in
    let past : length these ≤ c.levels.left = omega (arith, many, c.if-left-count.false) in
    ap (λ n. slice_get rest (c.levels.left - n)) many
    ∙ sym (get_right these rest c.levels.left past)
    ∙ sym (ap (λ ys. slice_get ys c.levels.left) (next_level ps c.levels.limit t xs (sym c.level_below.ensures ∙ c.in-Some.is)))
    ∙ c.levels.invariant
