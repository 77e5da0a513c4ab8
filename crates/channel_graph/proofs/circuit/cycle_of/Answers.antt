use Rattle.std.proofs.Common.{◌∙◌, ap, sym}
use Rattle.channel_graph.specs.Circuit.{found_at}
use Rattle.channel_graph.proofs.Rounds.{rounds_of}
use Rattle.channel_graph.proofs.Peeled.{clear_none}
use Rattle.channel_graph.proofs.circuit.cycle_of.Goals as goal

pub returns-in-Some : goal.returns-in-Some
returns-in-Some c =
    ap (found_at c.args.source) (sym c.in-Some.is) ∙ rounds_of c.args.arch.now c.args.source c.in_ok-marks.marks c.as_slice.result.now c.in_ok-walk.field-0 c.requires.listed c.in_ok-marks.ensures c.as_slice.ensures c.in_ok-walk.ensures

pub returns : goal.returns
returns c =
    ap (found_at c.args.source) (sym c.in-None.is) ∙ rounds_of c.args.arch.now c.args.source c.in_ok-marks.marks c.as_slice.result.now c.in_ok-walk.field-0 c.requires.listed c.in_ok-marks.ensures c.as_slice.ensures c.in_ok-walk.ensures

pub returns-then-clear-source : goal.returns-then-clear-source
returns-then-clear-source c = clear_none c.args.arch.now c.args.clear.now c.args.source c.requires.listed c.requires.clear c.if-clear-source.true
