use Rattle.std.proofs.Common.{◌≡◌, ◌∙◌, ap₂, rules, codes}
use Rattle.clap.specs.Simple.{with_rule}
use Rattle.tower_words.proofs.words.towerc.Goals as goal

pub returns : goal.returns
returns c =
    c.in_ok-towerc.ensures.shape c.option-10.ensures.local
    ∙ ap₂ with_rule (c.in_ok-arg-11.ensures.shape c.option-9.ensures.local
    ∙ ap₂ with_rule (c.in_ok-arg-10.ensures.shape c.option-8.ensures.local
    ∙ ap₂ with_rule (c.in_ok-arg-9.ensures.shape c.option-7.ensures.local
    ∙ ap₂ with_rule (c.in_ok-arg-8.ensures.shape c.option-6.ensures.local
    ∙ ap₂ with_rule (c.in_ok-arg-7.ensures.shape c.option-5.ensures.local
    ∙ ap₂ with_rule (c.in_ok-arg-6.ensures.shape c.option-4.ensures.local
    ∙ ap₂ with_rule (c.in_ok-arg-5.ensures.shape c.option-3.ensures.local
    ∙ ap₂ with_rule (c.in_ok-arg-4.ensures.shape c.option-2.ensures.local
    ∙ ap₂ with_rule (c.in_ok-arg-3.ensures.shape c.option.ensures.local
    ∙ ap₂ with_rule (c.in_ok-arg-2.ensures.shape c.positional-2.ensures.local
    ∙ ap₂ with_rule (c.in_ok-arg.ensures.shape c.positional.ensures.local
    ∙ ap₂ with_rule c.new.ensures.app c.positional.ensures.rule) c.positional-2.ensures.rule) c.option.ensures.rule) c.option-2.ensures.rule) c.option-3.ensures.rule)
    c.option-4.ensures.rule) c.option-5.ensures.rule) c.option-6.ensures.rule) c.option-7.ensures.rule) c.option-8.ensures.rule)
    c.option-9.ensures.rule) c.option-10.ensures.rule
