use Rattle.std.proofs.Common.{◌≡◌, ◌<◌, length, get_or, ap, arith}
use Rattle.std.proofs.lemmas.List.{length-map}
use Rattle.tower_syntax.specs.View.{handler_of}
use Rattle.tower_syntax.specs.Arch.{Arch}
use Rattle.task_build.specs.CodeOf.{frames_from}
use Rattle.task_build.proofs.Tabled.{table_begun, table_within, table_more, frames_length}
use Rattle.task_build.proofs.tables.table.Goals as goal

pub loop-frame-init : goal.loop-frame-init
loop-frame-init c =
    let arch = c.args.arch.now in
    let hs = c.args.handlers.now in
    let many : length c.handlers.result.now ≡ length arch.handlers = omega (arith, length-map c.handlers.result.now handler_of, ap length c.handlers.ensures.value, ap (λ (a : Arch). length a.handlers) c.arch.ensures.value) in
    table_begun (length c.handlers.result.now) (length arch.handlers) hs (frames_from arch 0 0 hs) c.args.places.now c.in_ok-made.made c.in_ok-table.table many c.in_ok-made.ensures (frames_length arch 0 0 hs) c.in_ok-table.ensures.frames c.in_ok-table.ensures.entries

pub bounds-handlers-at : goal.bounds-handlers-at
bounds-handlers-at c =
    let arch = c.args.arch.now in
    let hs = c.args.handlers.now in
    let within = table_within (length arch.handlers) hs (frames_from arch 0 0 hs) c.args.places.now c.loop-frame.made c.pop.new.self c.in-Some.frame c.loop-frame.table (frames_length arch 0 0 hs) c.loop-frame.invariant c.in-Some.ensures in
    omega (arith, within, c.len-at.ensures)

pub set-requires : goal.set-requires
set-requires c =
    let arch = c.args.arch.now in
    let hs = c.args.handlers.now in
    let within = table_within (length arch.handlers) hs (frames_from arch 0 0 hs) c.args.places.now c.loop-frame.made c.pop.new.self c.in-Some.frame c.loop-frame.table (frames_length arch 0 0 hs) c.loop-frame.invariant c.in-Some.ensures in
    let at : c.len-at.result < length hs = omega (arith, within, c.len-at.ensures) in
    omega (arith, c.requires.below c.len-at.result 0 at, c.loop-frame.invariant.frames)

pub set-requires-in-Some : goal.set-requires-in-Some
set-requires-in-Some c =
    let arch = c.args.arch.now in
    let hs = c.args.handlers.now in
    let within = table_within (length arch.handlers) hs (frames_from arch 0 0 hs) c.args.places.now c.loop-frame.made c.pop.new.self c.in-Some.frame c.loop-frame.table (frames_length arch 0 0 hs) c.loop-frame.invariant c.in-Some.ensures in
    let at : c.len-at.result < length hs = omega (arith, within, c.len-at.ensures) in
    omega (arith, c.requires.below c.len-at.result 0 at, c.loop-frame.invariant.entries)

pub bounds-places-at : goal.bounds-places-at
bounds-places-at c =
    let arch = c.args.arch.now in
    let hs = c.args.handlers.now in
    let within = table_within (length arch.handlers) hs (frames_from arch 0 0 hs) c.args.places.now c.loop-frame.made c.pop.new.self c.in-Some.frame c.loop-frame.table (frames_length arch 0 0 hs) c.loop-frame.invariant c.in-Some.ensures in
    omega (arith, within, c.len-at.ensures, c.requires.each)

pub loop-frame-preserved : goal.loop-frame-preserved
loop-frame-preserved c =
    let arch = c.args.arch.now in
    let hs = c.args.handlers.now in
    let ps = c.args.places.now in
    let within = table_within (length arch.handlers) hs (frames_from arch 0 0 hs) ps c.loop-frame.made c.pop.new.self c.in-Some.frame c.loop-frame.table (frames_length arch 0 0 hs) c.loop-frame.invariant c.in-Some.ensures in
    let at : c.len-at.result < length hs = omega (arith, within, c.len-at.ensures) in
    table_more (length arch.handlers) hs (frames_from arch 0 0 hs) ps c.loop-frame.made c.pop.new.self c.in-Some.frame (get_or hs c.len-at.result 0) (get_or ps c.len-at.result 0) c.loop-frame.table
    (record { frames = c.set.new.self; entries = c.set-in-Some.new.self })
    (frames_length arch 0 0 hs) c.requires.each c.loop-frame.invariant c.in-Some.ensures
    (ap (λ i. get_or hs i 0) c.len-at.ensures) (ap (λ i. get_or ps i 0) c.len-at.ensures) (c.requires.below c.len-at.result 0 at) c.set.ensures c.set-in-Some.ensures
