use Rattle.std.proofs.Common.{map}
use Rattle.task_code.specs.Piece.{listed}
use Rattle.emit_code.specs.Framed.{entries_in}
use Rattle.task_build.specs.Tables.{placed_behind, code_behind}
use Rattle.task_build.proofs.Pushed.{Placing}
use Rattle.task_build.proofs.tasks.write_code.Given as goal

abbrev pub invariant-loop-h : goal.invariant-loop-h
invariant-loop-h l =
    let es = entries_in l.table in
    Placing l.arch es l.plan.handlers l.h-index l.code l.places (listed (code_behind l.arch es l.plan.source l.plan.handlers)) (map (λ e. e.place) (placed_behind l.arch es l.plan.source l.plan.handlers))
