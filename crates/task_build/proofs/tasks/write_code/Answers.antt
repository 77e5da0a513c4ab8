use Rattle.std.proofs.Common.{◌∙◌, ◌<◌, ◌≤◌, ◌++◌, length, map, get_or, ap, arith}
use Rattle.tower_syntax.specs.Arch.{Arch}
use Rattle.task_code.specs.Piece.{listed}
use Rattle.emit_code.specs.Framed.{entries_in}
use Rattle.task_build.specs.Tables.{head_of, placed_behind, code_behind}
use Rattle.task_build.proofs.Pushed.{placing_begun, placing_next, all_written, all_placed}
use Rattle.task_build.proofs.tasks.write_code.Goals as goal

pub loop-h-init : goal.loop-h-init
loop-h-init c =
    let es = entries_in c.args.table.now in
    let s = c.args.plan.now.source in
    placing_begun c.args.arch.now es s c.args.plan.now.handlers c.new-code.result c.add_head.new.code c.new-places.result c.new-code.ensures c.new-places.ensures
    (c.in_ok-add_head.ensures ∙ ap (λ (a : Arch). c.new-code.result ++ listed (head_of a es s)) c.arch.ensures.value)

pub loop-h-preserved : goal.loop-h-preserved
loop-h-preserved c =
    let arch = c.args.arch.now in
    let es = entries_in c.args.table.now in
    let s = c.args.plan.now.source in
    let hs = c.args.plan.now.handlers in
    let k = c.loop-h.h-index in
    let within : k < length hs = omega (arith, c.loop-h-test.true, ap length c.as_slice-h-items.ensures) in
    placing_next arch es hs k (get_or c.as_slice-h-items.result.now k 0) c.place.result c.loop-h.code c.add_handler.new.code (listed (code_behind arch es s hs)) c.loop-h.places c.push.new.self (map (λ e. e.place) (placed_behind arch es s hs))
    within (ap (λ xs. get_or xs k 0) c.as_slice-h-items.ensures) c.place.ensures c.in_ok-push.ensures.ok c.in_ok-add_handler.ensures c.loop-h.invariant

pub returns-clause-code : goal.returns-clause-code
returns-clause-code c =
    let arch = c.args.arch.now in
    let es = entries_in c.args.table.now in
    let s = c.args.plan.now.source in
    let hs = c.args.plan.now.handlers in
    let past : length hs ≤ c.loop-h.h-index = omega (arith, c.loop-h-test.false, ap length c.as_slice-h-items.ensures) in
    all_written arch es hs c.loop-h.h-index c.loop-h.code (listed (code_behind arch es s hs)) c.loop-h.places (map (λ e. e.place) (placed_behind arch es s hs)) past c.loop-h.invariant

pub returns-clause-places : goal.returns-clause-places
returns-clause-places c =
    let arch = c.args.arch.now in
    let es = entries_in c.args.table.now in
    let s = c.args.plan.now.source in
    let hs = c.args.plan.now.handlers in
    let past : length hs ≤ c.loop-h.h-index = omega (arith, c.loop-h-test.false, ap length c.as_slice-h-items.ensures) in
    all_placed arch es hs c.loop-h.h-index c.loop-h.code (listed (code_behind arch es s hs)) c.loop-h.places (map (λ e. e.place) (placed_behind arch es s hs)) past c.loop-h.invariant
