use Rattle.std.proofs.Common.{◌≡◌, Bool, true, false, refl, sym, ◌∙◌}
use Rattle.tower_top.specs.Calls.{still, shelf_change, sink_change}
use Rattle.tower_top.specs.Check as command
use Rattle.tower_top.specs.Requests.{no_command}
use Rattle.tower_words.specs.Words.{given_of, has_only, no_options}
use Rattle.tower_top.proofs.Endings.{answered, chosen, not_chosen, stopped_at, went_on}
use Rattle.tower_top.proofs.check.check.Goals as goal

pub returns-then-not-has_only : goal.returns-then-not-has_only
returns-then-not-has_only g c =
    let has : has_only no_options (given_of c.args.given.now) ≡ false = cc in
    not_chosen (command.check.request (given_of c.args.given.now)) no_command _ has (c.usage.ensures _ _)

pub returns-in-Ok : goal.returns-in-Ok
returns-in-Ok g c =
    let has : has_only no_options (given_of c.args.given.now) ≡ true = cc in
    let shelf = shelf_change g.F.Shelf.held g.F.Shelf.blamed g.F.Shelf.faults c.args.shelf.now c.read_file.new.shelf in
    let out = sink_change g.O.Sink.written g.O.Sink.faults c.args.out.now c.put_check.new.out in
    let err = sink_change g.E.Sink.written g.E.Sink.faults c.args.err.now c.read_file.new.err in
    let h = c.in-Ok.ensures in
    rw c.after.ensures
    (chosen (command.check.request (given_of c.args.given.now)) no_command _ has
    (went_on shelf err (record { shelf = still shelf.after; out = out; err = still err.after }) h.0 h.1 h.2 refl refl
    (answered _ c.put_check.result (λ p call a. a) refl refl c.put_check.ensures)))

pub returns-in-Err : goal.returns-in-Err
returns-in-Err g c =
    let has : has_only no_options (given_of c.args.given.now) ≡ true = cc in
    chosen (command.check.request (given_of c.args.given.now)) no_command _ has
    (stopped_at (record { written = g.O.Sink.written c.args.out.now; faults = g.O.Sink.faults c.args.out.now }) c.in-Err.ensures)
