use Rattle.std.proofs.Common.{◌≡◌, ◌∙◌, rules, FitsSigned}
use Rattle.std.specs.Int.{w128}
use Rattle.std.proofs.lemmas.Int.{to_z-of_z}
use Rattle.tower_types.proofs.Seen.{value_of-Word}
use Rattle.tower_syntax.specs.View.{expr_of}
use Rattle.atomic_state.specs.FrameView.{env_of}
use Rattle.atomic_state.proofs.Numbers.{sent_number}
use Rattle.atomic_state.proofs.eval.value.Goals as goal

pub returns-in-None : goal.returns-in-None
returns-in-None c =
    let fit : FitsSigned w128 c.number.result = search rules in
    sent_number (env_of c.args.frame.now) (expr_of c.args.e.now) _ _ c.in-None.ensures (λ h. to_z-of_z w128 c.number.result fit ∙ c.number.ensures h) (value_of-Word _)
