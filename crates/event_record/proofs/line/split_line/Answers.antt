use Rattle.std.proofs.Common.{◌≡◌, ◌∷◌, ◌+◌, ℕ, [], drop, take, ap, sym, ◌∙◌, arith}
use Rattle.std.proofs.lemmas.List.{drop_all}
use Rattle.event_record.specs.Lines.{lines}
use Rattle.event_record.proofs.LinesSplit.{line_whole, rest_is}
use Rattle.event_record.proofs.line.split_line.Goals as goal

pub returns-then-end-text-clause-lines : goal.returns-then-end-text-clause-lines
returns-then-end-text-clause-lines c =
    let text = c.args.text.now in
    let n : ℕ = c.run_len-end.result in
    line_whole text n c.requires c.run_len-end.ensures.len ∙ ap (λ r. take n text ∷ lines r) (drop_all (n + 1) text (omega arith))

pub returns-clause-lines : goal.returns-clause-lines
returns-clause-lines c =
    let text = c.args.text.now in
    let n : ℕ = c.run_len-end.result in
    line_whole text n c.requires c.run_len-end.ensures.len ∙ ap (λ r. take n text ∷ lines r) (sym (rest_is text (n + 1)))
