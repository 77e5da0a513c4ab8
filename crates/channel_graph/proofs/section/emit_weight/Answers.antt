use Rattle.std.proofs.Common.{◌+◌, ◌∙◌, ap, sym, refl}
use Rattle.tower_types.specs.Ty.{words}
use Rattle.tower_types.specs.Records.{saturated}
use Rattle.tower_syntax.specs.View.{expr_of}
use Rattle.tower_syntax.specs.Weights.{no_shape, moved_weight, move}
use Rattle.channel_graph.proofs.Saturating.{saturating_step}
use Rattle.channel_graph.proofs.section.emit_weight.Goals as goal

pub returns-in-None : goal.returns-in-None
returns-in-None c =
    let moved = c.moved_weight-in-None.ensures no_shape refl in
    let none = c.move_weight-in-None.ensures 0 refl in
    let whole = saturating_step c.moved_weight-in-None.result c.move_weight-in-None.result c.saturating_add-in-None.result _ _ _ moved none c.saturating_add-in-None.ensures refl in
    whole ∙ ap (λ s. saturated (moved_weight s (expr_of c.args.e.now) + move (words s))) (sym c.in-None.ensures)
