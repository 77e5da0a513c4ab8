use Rattle.std.proofs.Common.{ap, sym, ◌∙◌, subst}
use Rattle.tower_sexp.specs.Marks.{tokens_of}
use Rattle.tower_sexp.specs.Trees.{Spells}
use Rattle.tower_sexp.specs.Nesting.{trees_spelled}
use Rattle.tower_sexp.proofs.Spelled.{faultless_spells}
use Rattle.tower_sexp.proofs.text.read.Goals as goal

pub returns-clause-nodes : goal.returns-clause-nodes
returns-clause-nodes c =
    let bytes = c.args.bytes.now in
    let told = c.in_ok-tokens.ensures.ok in
    (told.0, subst (λ ts. Spells ts (tokens_of bytes)) (sym (c.in_ok-nodes.ensures ∙ ap trees_spelled told.1)) (faultless_spells bytes told.0))
