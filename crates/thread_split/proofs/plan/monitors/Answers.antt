use Rattle.thread_split.proofs.Planned.{monitors_are}
use Rattle.thread_split.proofs.plan.monitors.Goals as goal

pub returns : goal.returns
returns c = monitors_are c.args.arch.now c.args.handlers.now c.in_ok-marks.marks.items c.as_slice.result.now c.in_ok-found.found c.in_ok-marks.ensures.marks c.as_slice.ensures.value c.in_ok-found.ensures
