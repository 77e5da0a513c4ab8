use Rattle.std.proofs.Common.{[], ◌∷◌, take, ap, arith}
use Rattle.std.specs.Prelude.{codes}
use Rattle.tower_report.specs.Bytes.{Bytes, spaced}
use Rattle.tower_report.proofs.Puts.{Puts-then, Puts-fail, Puts-stop, Puts-same, Puts-err}
use Rattle.tower_report.proofs.Walks.{behind, cycle_line, first_again}
use Rattle.tower_report.proofs.faults.put_cycle.Goals as goal

pub returns-in_err-put_spaced : goal.returns-in_err-put_spaced
returns-in_err-put_spaced g c =
    let source = c.args.source.now in
    let walk = c.args.walk.now in
    let e = cycle_line (codes "refused:") (codes "cycle") source walk in
    let name = ap (λ (t : Bytes). spaced (codes "refused:" ∷ codes "cycle" ∷ t ∷ [])) c.bytes.ensures.value in
    Puts-err _ c.from_residual.ensures.0
    (Puts-same e (Puts-stop (10 ∷ []) (Puts-stop (behind (take 1 walk)) (Puts-stop (behind walk) (Puts-same name c.in_err-put_spaced.ensures)))))

pub returns-in_err-put_names : goal.returns-in_err-put_names
returns-in_err-put_names g c =
    let source = c.args.source.now in
    let walk = c.args.walk.now in
    let e = cycle_line (codes "refused:") (codes "cycle") source walk in
    let name = ap (λ (t : Bytes). spaced (codes "refused:" ∷ codes "cycle" ∷ t ∷ [])) c.bytes.ensures.value in
    Puts-err _ c.from_residual-in_err-put_names.ensures.0
    (Puts-same e (Puts-stop (10 ∷ []) (Puts-stop (behind (take 1 walk)) (Puts-fail (Puts-same name c.in_ok-put_spaced.ensures) c.in_err-put_names.ensures))))

pub returns-in_err-put_names-2 : goal.returns-in_err-put_names-2
returns-in_err-put_names-2 g c =
    let source = c.args.source.now in
    let walk = c.args.walk.now in
    let e = cycle_line (codes "refused:") (codes "cycle") source walk in
    let name = ap (λ (t : Bytes). spaced (codes "refused:" ∷ codes "cycle" ∷ t ∷ [])) c.bytes.ensures.value in
    let again = ap behind (first_again walk c.min-again.result (omega (arith, c.min-again.ensures))) in
    Puts-err _ c.from_residual-in_err-put_names-2.ensures.0
    (Puts-same e (Puts-stop (10 ∷ []) (Puts-fail (Puts-then (Puts-same name c.in_ok-put_spaced.ensures) c.in_ok-put_names.ensures) (Puts-same again c.in_err-put_names-2.ensures))))

pub returns-in_err-put_piece : goal.returns-in_err-put_piece
returns-in_err-put_piece g c =
    let source = c.args.source.now in
    let walk = c.args.walk.now in
    let e = cycle_line (codes "refused:") (codes "cycle") source walk in
    let name = ap (λ (t : Bytes). spaced (codes "refused:" ∷ codes "cycle" ∷ t ∷ [])) c.bytes.ensures.value in
    let again = ap behind (first_again walk c.min-again.result (omega (arith, c.min-again.ensures))) in
    Puts-err _ c.from_residual-in_err-put_piece.ensures.0
    (Puts-same e (Puts-fail (Puts-then (Puts-then (Puts-same name c.in_ok-put_spaced.ensures) c.in_ok-put_names.ensures) (Puts-same again c.in_ok-put_names-2.ensures)) c.in_err-put_piece.ensures))

pub returns : goal.returns
returns g c =
    let source = c.args.source.now in
    let walk = c.args.walk.now in
    let e = cycle_line (codes "refused:") (codes "cycle") source walk in
    let name = ap (λ (t : Bytes). spaced (codes "refused:" ∷ codes "cycle" ∷ t ∷ [])) c.bytes.ensures.value in
    let again = ap behind (first_again walk c.min-again.result (omega (arith, c.min-again.ensures))) in
    Puts-same e (Puts-then (Puts-then (Puts-then (Puts-same name c.in_ok-put_spaced.ensures) c.in_ok-put_names.ensures) (Puts-same again c.in_ok-put_names-2.ensures)) c.in_ok-put_piece.ensures)
