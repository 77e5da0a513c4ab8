use Rattle.std.proofs.Common.{◌≡◌, ◌∷◌, [], ◌++◌, get_or, sym, ◌∙◌}
use Rattle.std.proofs.lemmas.List.{map_more}
use Rattle.tower_syntax.specs.View.{handler_of}
use Rattle.arch_checks.specs.Offences.{handler_name}
use Rattle.arch_checks.proofs.Works.{handler_named}
use Rattle.arch_checks.proofs.graph.handler_names.Goals as goal

pub loop-h-preserved : goal.loop-h-preserved
loop-h-preserved c =
    let arch = c.args.arch.now in
    let h = get_or c.args.handlers.now c.loop-h.h-index 0 in
    let name : c.in_ok-name.name ≡ handler_name arch h = c.in_ok-name.ensures ∙ handler_named arch h (handler_of c.handler.result.now) c.handler.ensures.value in
    c.in_ok-push.ensures.ok ∙ (λ i. c.loop-h.invariant i ++ name i ∷ []) ∙ sym (map_more (handler_name arch) c.args.handlers.now c.loop-h.h-index 0 c.loop-h-test.true)
