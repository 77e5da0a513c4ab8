use Rattle.std.proofs.Common.{◌≡◌, ◌<◌, length, map, get_or, List, [], ℕ, Bor, arith}
use Rattle.std.proofs.lemmas.List.{get_or-map, length-map}
use Rattle.tower_report.specs.Bytes.{Bytes}
use Rattle.tower_report.proofs.Puts.{Puts-then, Puts-fail, Puts-stop, Puts-err}
use Rattle.tower_report.proofs.Spaced.{Puts-item, Puts-part}
use Rattle.tower_report.proofs.pieces.put_spaced.Goals as goal

abbrev texts : List (Bor Bytes) → List Bytes
texts words = map (λ w. w.now) words

here : (words : List (Bor Bytes)) (i : ℕ) → i < length words → i < length (texts words)
here words i h = omega (arith, length-map words (λ w. w.now))

word_at : (words : List (Bor Bytes)) (i : ℕ) (d : Bor Bytes) → i < length words → get_or (texts words) i [] ≡ (get_or words i d).now
word_at words i d h = get_or-map (λ w. w.now) words i d [] h

pub returns-in_err-put_separator : goal.returns-in_err-put_separator
returns-in_err-put_separator g c =
    let words = c.args.words.now in
    let i = c.loop-i.i in
    let h : i < length words = omega arith in
    let d : Bor Bytes = record { ref_ptr = (0, 0); now = [] } in
    Puts-err _ c.from_residual.ensures.0 (Puts-part (texts words) i _ (here words i h) (word_at words i d h) c.loop-i.invariant (Puts-stop _ c.in_err-put_separator.ensures))

pub returns-in_err-put_piece : goal.returns-in_err-put_piece
returns-in_err-put_piece g c =
    let words = c.args.words.now in
    let i = c.loop-i.i in
    let h : i < length words = omega arith in
    Puts-err _ c.from_residual-in_err-put_piece.ensures.0 (Puts-part (texts words) i _ (here words i h) (word_at words i _ h) c.loop-i.invariant (Puts-fail c.in_ok-put_separator.ensures c.in_err-put_piece.ensures))

pub loop-i-preserved : goal.loop-i-preserved
loop-i-preserved g c =
    let words = c.args.words.now in
    let i = c.loop-i.i in
    let h : i < length words = omega arith in
    Puts-item (texts words) i _ (here words i h) (word_at words i _ h) c.loop-i.invariant (Puts-then c.in_ok-put_separator.ensures c.in_ok-put_piece.ensures)
