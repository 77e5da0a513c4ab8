use Rattle.std.proofs.Common.{◌<◌, ◌∙◌, length, arith, ap, sym, inl, inr}
use Rattle.std.proofs.lemmas.List.{length-map}
use Rattle.tower_syntax.specs.View.{handler_of}
use Rattle.channel_graph.proofs.Rounds.{round_none, round_found}
use Rattle.channel_graph.proofs.circuit.first_round.Goals as goal
use Rattle.channel_graph.proofs.circuit.first_round.Goals.{then-marks-k+then-looping-k+in_ok-way+in_default, else-marks-k, else-marks-k-via-then-marks-k+else-looping-k, else-marks-k-via-else-marks-k}

pub returns-in-Some : goal.returns-in-Some
returns-in-Some c =
    let arch = c.args.arch.now in
    let k = c.loop-k.k in
    let below : k < length arch.handlers = omega (arith, c.loop-k-test.true, ap length c.handlers-k-end.ensures.value, length-map c.handlers-k-end.result.now handler_of) in
    round_found arch c.args.marks.now k c.in-Some.way below c.loop-k.invariant c.if-marks-k.true (sym c.in_ok-way.ensures ∙ c.in-Some.is)

pub loop-k-preserved : goal.loop-k-preserved
loop-k-preserved c =
    let arch = c.args.arch.now in
    let k = c.loop-k.k in
    let below : k < length arch.handlers = omega (arith, c.loop-k-test.true, ap length c.handlers-k-end.ensures.value, length-map c.handlers-k-end.result.now handler_of) in
    elim c.if-marks-k.branch [
      | then-marks-k+then-looping-k+in_ok-way+in_default w ↦ round_none arch c.args.marks.now k c.loop-k.invariant (inr (sym w.in_ok-way.ensures ∙ w.in_default.is))
      | else-marks-k w ↦ elim w.else-marks-k.branch [
        | else-marks-k-via-then-marks-k+else-looping-k v ↦ round_none arch c.args.marks.now k c.loop-k.invariant (inr (c.requires.looping.others k below v.if-looping-k.false))
        | else-marks-k-via-else-marks-k v ↦ round_none arch c.args.marks.now k c.loop-k.invariant (inl v.if-marks-k.false)
      ]
    ]
