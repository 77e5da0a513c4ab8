use Rattle.std.proofs.Common.{◌≡◌, ◌∙◌, ℕ, List, ap, sym, subst, arith}
use Rattle.std.specs.Prelude.{option_map}
use Rattle.tower_report.specs.declared.rule.Rule.TheVariants.{Cores}
use Rattle.tower_reader.specs.Words.{number_in}
use Rattle.tower_reader.proofs.Numbers.{within_is}
use Rattle.tower_top.proofs.run.cores_of.Goals as goal

pub returns-in-Some-clause-rule : goal.returns-in-Some-clause-rule
returns-in-Some-clause-rule c =
    let n : c.natural_within.result ≡ number_in 1 64 c.args.text.now =
    subst (λ (t : List ℕ). c.natural_within.result ≡ number_in 1 64 t) c.as_bytes.ensures.value
    (within_is 1 64 _ _ (omega arith) c.natural_within.ensures.within c.natural_within.ensures.above c.natural_within.ensures.below) in
    ap (option_map Cores) (sym c.in-Some.is ∙ n)
