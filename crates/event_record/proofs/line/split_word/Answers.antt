use Rattle.std.proofs.Common.{◌≡◌, ◌<◌, ◌∷◌, ◌-◌, ℕ, List, [], length, drop, take, ap, sym, ◌∙◌, arith}
use Rattle.std.proofs.lemmas.List.{drop_all}
use Rattle.std.specs.List.{prefix_len}
use Rattle.event_record.specs.declared.run.Sort.TheVariants as sort
use Rattle.event_record.specs.Lines.{words}
use Rattle.event_record.specs.Runs.{is_of}
use Rattle.event_record.proofs.LinesSplit.{words_skip, word_whole, behind_whole, rest_is}
use Rattle.event_record.proofs.line.split_word.Goals as goal

pub returns-then-blanks-line-clause-words : goal.returns-then-blanks-line-clause-words
returns-then-blanks-line-clause-words c =
    let line = c.args.line.now in
    words_skip line ∙ ap words (drop_all (prefix_len (is_of sort.Blank) line) line (omega (arith, c.run_len-blanks.ensures.len, c.if-blanks-line.true)))

pub returns-clause-words : goal.returns-clause-words
returns-clause-words c =
    let line = c.args.line.now in
    let n : ℕ = c.run_len-blanks.result in
    let k : ℕ = c.run_len-len.result in
    let text : List ℕ = take (length line - n) (drop n line) in
    let h : n < length line = omega arith in
    word_whole line text n k c.run_len-blanks.ensures.len h (rest_is line n) c.run_len-len.ensures.len ∙ ap (λ r. take k text ∷ words r) (sym (rest_is text k))

pub returns-clause-behind : goal.returns-clause-behind
returns-clause-behind c =
    let line = c.args.line.now in
    let n : ℕ = c.run_len-blanks.result in
    let k : ℕ = c.run_len-len.result in
    let text : List ℕ = take (length line - n) (drop n line) in
    let h : n < length line = omega arith in
    rest_is text k ∙ behind_whole line text n k c.run_len-blanks.ensures.len h (rest_is line n) c.run_len-len.ensures.len
