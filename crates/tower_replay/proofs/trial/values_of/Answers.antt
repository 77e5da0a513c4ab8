use Rattle.std.proofs.Common.{◌≡◌, ◌∙◌, [], ◌∷◌, ◌++◌, take, map, length, sym, ap, arith}
use Rattle.std.proofs.lemmas.List.{length-map, map-append}
use Rattle.tower_types.specs.View.{value_of}
use Rattle.tower_syntax.specs.View.{monitor_of}
use Rattle.tower_replay.proofs.Elements.{take_more}
use Rattle.tower_replay.proofs.trial.values_of.Goals as goal

pub monitor-requires : goal.monitor-requires
monitor-requires c =
    let arch = c.args.arch.now in
    let count : length c.monitors-m-end.result.now ≡ length arch.monitors = sym (length-map c.monitors-m-end.result.now monitor_of) ∙ ap length c.monitors-m-end.ensures.value in
    omega (arith, c.loop-m-test.true, count, c.requires.monitor_count)

pub loop-m-preserved : goal.loop-m-preserved
loop-m-preserved c =
    let all = c.args.state.now.state.monitors in
    let m = c.loop-m.m in
    ap (map value_of) c.in_ok-push.ensures.items
    ∙ map-append value_of c.loop-m.values.items (c.in_ok-value.value ∷ [])
    ∙ ap (λ vs. vs ++ value_of c.in_ok-value.value ∷ []) c.loop-m.invariant
    ∙ ap (λ v. take m all ++ v ∷ []) c.in_ok-value.ensures
    ∙ take_more all m _ c.monitor.ensures
