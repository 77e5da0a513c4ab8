use Rattle.std.proofs.Common.{◌∷◌, ◌+◌, ℕ, take, ap, sym, ◌∙◌, arith}
use Rattle.task_listing.specs.Lines.{whole_lines, behind_lines}
use Rattle.task_listing.proofs.Prefixes.{first_line, same_behind, no_line, rest_is}
use Rattle.task_listing.proofs.words.split_line.Goals as goal

pub returns-then-len-text-clause-lines : goal.returns-then-len-text-clause-lines
returns-then-len-text-clause-lines c = (no_line c.args.text.now c.len_before-len.result c.len_before-len.ensures.len (omega (arith, c.if-len-text.true))).0

pub returns-then-len-text-clause-behind : goal.returns-then-len-text-clause-behind
returns-then-len-text-clause-behind c = (no_line c.args.text.now c.len_before-len.result c.len_before-len.ensures.len (omega (arith, c.if-len-text.true))).1

pub returns-clause-lines : goal.returns-clause-lines
returns-clause-lines c =
    let text = c.args.text.now in
    let n : ℕ = c.len_before-len.result in
    first_line text n c.len_before-len.ensures.len (omega arith) ∙ ap (λ r. take n text ∷ whole_lines r) (sym (rest_is text (n + 1)))

pub returns-clause-behind : goal.returns-clause-behind
returns-clause-behind c =
    let text = c.args.text.now in
    let n : ℕ = c.len_before-len.result in
    same_behind text n c.len_before-len.ensures.len (omega arith) ∙ ap behind_lines (sym (rest_is text (n + 1)))
