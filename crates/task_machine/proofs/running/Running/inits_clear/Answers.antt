use Rattle.std.proofs.Common.{◌≡◌, ◌<◌, ◌≤◌, length, sym, ◌∙◌, add-one, suc}
use Rattle.task_machine.proofs.Stands.{clear_from, clear_skips, clear_goes_on, clear_ends, clear_after}
use Rattle.task_machine.proofs.running.Running.inits_clear.Goals as goal
use Rattle.task_machine.proofs.running.Running.inits_clear.Goals.{else-is_init-via-then-is_init+else-not-is_clear, else-is_init-via-else-is_init}

pub returns-then-not-is_clear : goal.returns-then-not-is_clear
returns-then-not-is_clear c =
    let kinds : c.loop-x.x < length c.args.self.now.events.kinds = rw (← c.sources-x-end.ensures.kinds) c.loop-x-test.true in
    let tasks : c.loop-x.x < length c.args.self.now.program.tasks = rw (← c.sources-x-end.ensures.tasks) c.loop-x-test.true in
    let owns : c.loop-x.x < length c.args.self.now.machine.tasks = rw (← c.sources-x-end.ensures.parts) c.loop-x-test.true in
    let queues : c.loop-x.x < length c.args.self.now.machine.queues = rw (← c.sources-x-end.ensures.queues) c.loop-x-test.true in
    sym (clear_ends c.args.self.now.events.kinds c.args.self.now.program.tasks c.args.self.now.machine.tasks c.args.self.now.machine.queues c.loop-x.x kinds tasks owns queues c.is_clear.result c.is_clear.ensures.clear (sym c.if-is_init.ensures) c.if-not-is_clear.true) ∙ c.loop-x.invariant

pub loop-x-preserved : goal.loop-x-preserved
loop-x-preserved c =
    let kinds : c.loop-x.x < length c.args.self.now.events.kinds = rw (← c.sources-x-end.ensures.kinds) c.loop-x-test.true in
    let tasks : c.loop-x.x < length c.args.self.now.program.tasks = rw (← c.sources-x-end.ensures.tasks) c.loop-x-test.true in
    let owns : c.loop-x.x < length c.args.self.now.machine.tasks = rw (← c.sources-x-end.ensures.parts) c.loop-x-test.true in
    let queues : c.loop-x.x < length c.args.self.now.machine.queues = rw (← c.sources-x-end.ensures.queues) c.loop-x-test.true in
    let e : clear_from c.args.self.now.events.kinds c.args.self.now.program.tasks c.args.self.now.machine.tasks c.args.self.now.machine.queues c.loop-x.x ≡ clear_from c.args.self.now.events.kinds c.args.self.now.program.tasks c.args.self.now.machine.tasks c.args.self.now.machine.queues (suc c.loop-x.x) = elim c.else-is_init.branch [
      | else-is_init-via-then-is_init+else-not-is_clear w ↦
          clear_goes_on c.args.self.now.events.kinds c.args.self.now.program.tasks c.args.self.now.machine.tasks c.args.self.now.machine.queues c.loop-x.x kinds tasks owns queues w.is_clear.result w.is_clear.ensures.clear (sym c.is_init.ensures ∙ w.if-is_init.true) w.if-not-is_clear.false
      | else-is_init-via-else-is_init w ↦
          clear_skips c.args.self.now.events.kinds c.args.self.now.program.tasks c.args.self.now.machine.tasks c.args.self.now.machine.queues c.loop-x.x kinds tasks owns queues (sym c.is_init.ensures ∙ w.if-is_init.false)
    ] in
    rw add-one (sym e ∙ c.loop-x.invariant)

pub returns : goal.returns
returns c =
    let past : length c.args.self.now.events.kinds ≤ c.loop-x.x = rw (← c.sources-x-end.ensures.kinds) c.loop-x-test.false in
    sym (clear_after c.args.self.now.events.kinds c.args.self.now.program.tasks c.args.self.now.machine.tasks c.args.self.now.machine.queues c.loop-x.x past) ∙ c.loop-x.invariant
