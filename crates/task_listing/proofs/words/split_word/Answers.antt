use Rattle.std.proofs.Common.{◌∷◌, ◌+◌, ℕ, take, ap, sym, ◌∙◌, arith}
use Rattle.task_listing.specs.Lines.{words}
use Rattle.task_listing.proofs.Prefixes.{words_split, words_whole, rest_is}
use Rattle.task_listing.proofs.words.split_word.Goals as goal

pub returns-then-len-line : goal.returns-then-len-line
returns-then-len-line c =
    let n : ℕ = c.len_before-len.result in
    words_whole c.args.line.now n c.len_before-len.ensures.len (omega (arith, c.if-len-line.true))

pub returns : goal.returns
returns c =
    let line = c.args.line.now in
    let n : ℕ = c.len_before-len.result in
    words_split line n c.len_before-len.ensures.len (omega arith) ∙ ap (λ r. take n line ∷ words r) (sym (rest_is line (n + 1)))
