use Rattle.std.proofs.Common.{List, [], ◌∷◌, ap}
use Rattle.std.specs.Prelude.{codes, decimal}
use Rattle.tower_report.specs.Bytes.{Bytes, line}
use Rattle.tower_report.specs.FaultText.{round}
use Rattle.tower_report.proofs.Puts.{Puts-same}
use Rattle.tower_report.proofs.Parts.{same_two}
use Rattle.tower_report.proofs.faults.put_line_of.Goals as goal

pub returns-in-Unopened : goal.returns-in-Unopened
returns-in-Unopened g c = rw c.in-Unopened.is c.put_at-in-Unopened.ensures

pub returns-in-Unclosed : goal.returns-in-Unclosed
returns-in-Unclosed g c = rw c.in-Unclosed.is c.put_at-in-Unclosed.ensures

pub returns-in-Number : goal.returns-in-Number
returns-in-Number g c = rw c.in-Number.is c.put_at-in-Number.ensures

pub returns-in-Length : goal.returns-in-Length
returns-in-Length g c = rw c.in-Length.is c.put_at-in-Length.ensures

pub returns-in-Unknown : goal.returns-in-Unknown
returns-in-Unknown g c = rw c.in-Unknown.is c.put_at-in-Unknown.ensures

pub returns-in-NotPlace : goal.returns-in-NotPlace
returns-in-NotPlace g c = rw c.in-NotPlace.is c.put_at-in-NotPlace.ensures

pub returns-in-Field : goal.returns-in-Field
returns-in-Field g c = rw c.in-Field.is c.put_at-in-Field.ensures

pub returns-in-Range : goal.returns-in-Range
returns-in-Range g c = rw c.in-Range.is c.put_at-in-Range.ensures

pub returns-in-Twice : goal.returns-in-Twice
returns-in-Twice g c = rw c.in-Twice.is c.put_two.ensures

pub returns-in-Deep : goal.returns-in-Deep
returns-in-Deep g c = rw c.in-Deep.is c.put_two-in-Deep.ensures

pub returns-in-Bound : goal.returns-in-Bound
returns-in-Bound g c = rw c.in-Bound.is c.put_bound.ensures

pub returns-in-Kind : goal.returns-in-Kind
returns-in-Kind g c =
    rw c.in-Kind.is
    (Puts-same (same_two (codes "refused:" ∷ codes "kind" ∷ decimal c.in-Kind.at ∷ []) _ _ _ _ c.sort_text.ensures c.sort_text-in-Kind.ensures) c.put_found.ensures)

pub returns-in-Mismatch : goal.returns-in-Mismatch
returns-in-Mismatch g c =
    rw c.in-Mismatch.is
    (Puts-same (same_two (codes "refused:" ∷ codes "mismatch" ∷ decimal c.in-Mismatch.at ∷ []) _ _ _ _ c.want_text.ensures c.bytes.ensures) c.put_found-in-Mismatch.ensures)

pub returns-in-Cycle : goal.returns-in-Cycle
returns-in-Cycle g c =
    rw c.in-Cycle.is
    (Puts-same (ap (λ (walk : List Bytes). line (codes "refused:" ∷ codes "cycle" ∷ c.in-Cycle.source ∷ round walk)) c.as_slice.ensures) c.put_cycle.ensures)
