use Rattle.std.proofs.Common.{◌∷◌, ℕ, take, ap, sym, ◌∙◌}
use Rattle.event_record.specs.Tokens.{atom, tokens}
use Rattle.event_record.proofs.LinesSplit.{rest_is}
use Rattle.event_record.proofs.TokensSplit.{atom_whole}
use Rattle.event_record.proofs.token.atom.Goals as goal

pub returns-clause-comes : goal.returns-clause-comes
returns-clause-comes c =
    let text = c.args.text.now in
    let n : ℕ = c.run_len-len.result in
    atom_whole text n c.requires c.run_len-len.ensures.len ∙ ap (λ r. atom (take n text) ∷ tokens r) (sym (rest_is text n))
