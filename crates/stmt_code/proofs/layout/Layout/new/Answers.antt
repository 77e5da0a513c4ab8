use Rattle.std.proofs.Common.{◌≡◌, ◌∙◌, ap, sym, subst}
use Rattle.tower_syntax.specs.Arch.{Arch}
use Rattle.tower_syntax.specs.View.{handler_of, body_of}
use Rattle.channel_graph.specs.Site.{Site}
use Rattle.stmt_code.specs.Measured.{HasStarts}
use Rattle.stmt_code.proofs.layout.Layout.new.Goals as goal

pub invariant_of-result : goal.invariant_of-result
invariant_of-result c =
    let site : Arch → Site = λ a. record { arch = a; handler = handler_of c.args.h.now; body = body_of c.args.body.now } in
    let same : c.new.result ≡ site c.args.arch.now = c.new.ensures ∙ ap site c.arch.ensures.value in
    subst (λ (s : Site). HasStarts s c.records.result.now c.states.result.now) (sym same) (record { fields_begin = c.records.ensures; states_begin = c.states.ensures })
