use Rattle.std.proofs.Common.{refl, ap}
use Rattle.task_machine.specs.State.{State, next_entry}
use Rattle.tower_run.proofs.Ready.{coming, not_coming}
use Rattle.tower_run.proofs.Steps.{entry_lines_fit}
use Rattle.tower_run.proofs.Carried.{entered, not_entered, entry_stops, entry_left, entry_one}
use Rattle.tower_run.proofs.turns.event.Goals as goal

pub show-requires : goal.show-requires
show-requires g c =
    let r = c.args.run.now in
    let it = c.requires in
    let came = coming r.machine (next_entry r.machine) c.event.new.self c.in-Arrived.ensures.step in
    entry_lines_fit g.O.Sink.written g.O.Sink.faults it.course it.planned c.args.job.now r it.first c.args.out.now it.told came.0 c.event.new.self came.1 came.2 c.event.new.self refl

pub returns-in-Arrived-clause-carries : goal.returns-in-Arrived-clause-carries
returns-in-Arrived-clause-carries g c =
    let r = c.args.run.now in
    let came = coming r.machine (next_entry r.machine) c.event.new.self c.in-Arrived.ensures.step in
    entered g.O.Sink.written g.O.Sink.faults c.args.job.now r _ c.show.new.run c.args.out.now c.show.new.out came.0 c.event.new.self c.show.result came.1 came.2 refl c.show.ensures

pub returns-in-Arrived-clause-never_stops : goal.returns-in-Arrived-clause-never_stops
returns-in-Arrived-clause-never_stops g c =
    let r = c.args.run.now in
    let came = coming r.machine (next_entry r.machine) c.event.new.self c.in-Arrived.ensures.step in
    entry_stops g.O.Sink.written g.O.Sink.faults came.0 c.event.new.self c.args.job.now r _ c.show.new.run c.args.out.now c.show.new.out came.1 came.2 refl c.show.result c.show.ensures

pub returns-in-Arrived-clause-left : goal.returns-in-Arrived-clause-left
returns-in-Arrived-clause-left g c =
    let r = c.args.run.now in
    let came = coming r.machine (next_entry r.machine) c.event.new.self c.in-Arrived.ensures.step in
    entry_left g.O.Sink.written g.O.Sink.faults came.0 c.event.new.self c.args.job.now r _ c.show.new.run c.args.out.now c.show.new.out came.1 came.2 refl c.show.result c.show.ensures

pub returns-in-Arrived-clause-one : goal.returns-in-Arrived-clause-one
returns-in-Arrived-clause-one g c =
    let r = c.args.run.now in
    let came = coming r.machine (next_entry r.machine) c.event.new.self c.in-Arrived.ensures.step in
    entry_one g.O.Sink.written g.O.Sink.faults came.0 c.event.new.self c.args.job.now r _ c.show.new.run c.args.out.now c.show.new.out came.1 came.2 refl c.args.job.now.limit c.show.result c.show.ensures

pub returns-in-NoMore-clause-carries : goal.returns-in-NoMore-clause-carries
returns-in-NoMore-clause-carries g c =
    let r = c.args.run.now in
    let no = not_coming r.machine (next_entry r.machine) c.event.new.self c.in-NoMore.ensures.step in
    not_entered g.O.Sink.written g.O.Sink.faults c.args.job.now r _ c.args.out.now no.0 (ap (λ (m : State). record r { machine = m }) no.1)
