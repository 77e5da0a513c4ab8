use Rattle.std.proofs.Common.{◌≡◌, ◌∙◌, ◌<◌, ℕ, length, map, arith}
use Rattle.std.proofs.lemmas.List.{length-map}
use Rattle.tower_types.specs.Value.{Value}
use Rattle.tower_report.specs.ReplayText.{message_line}
use Rattle.atomic_state.specs.StateView.{output_of}
use Rattle.atomic_state.proofs.Lists.{get_of}
use Rattle.tower_run.proofs.Accepted.{low_output}
use Rattle.tower_run.proofs.Paging.{over_none, over_same}
use Rattle.tower_replay.proofs.Elements.{get_map, all_at, over_element, over_element_part, all_elements}
use Rattle.tower_replay.proofs.text.put_messages.Goals as goal

pub loop-i-init : goal.loop-i-init
loop-i-init g c = over_none

pub put_paged-requires : goal.put_paged-requires
put_paged-requires g c =
    let xs = map output_of c.args.outputs.now in
    let at = get_map output_of c.args.outputs.now c.loop-i.i c.index-outputs-i.result (get_of c.args.outputs.now c.loop-i.i c.index-outputs-i.result c.loop-i-test.true c.index-outputs-i.is) in
    let exists = all_at (λ (o : ℕ × Value). o.0 < length c.args.arch.now.outputs) xs c.loop-i.i (output_of c.index-outputs-i.result) c.requires.exist at in
    record { exists = exists; shallow = low_output c.args.arch.now c.requires.safe c.index-outputs-i.result.0 }

pub returns-in-Failed : goal.returns-in-Failed
returns-in-Failed g c =
    let xs = map output_of c.args.outputs.now in
    let at = get_map output_of c.args.outputs.now c.loop-i.i c.index-outputs-i.result (get_of c.args.outputs.now c.loop-i.i c.index-outputs-i.result c.loop-i-test.true c.index-outputs-i.is) in
    over_element_part (message_line c.args.arch.now) xs c.loop-i.i (output_of c.index-outputs-i.result) at c.loop-i.invariant c.in-Failed.ensures

pub loop-i-preserved : goal.loop-i-preserved
loop-i-preserved g c =
    let xs = map output_of c.args.outputs.now in
    let at = get_map output_of c.args.outputs.now c.loop-i.i c.index-outputs-i.result (get_of c.args.outputs.now c.loop-i.i c.index-outputs-i.result c.loop-i-test.true c.index-outputs-i.is) in
    over_element (message_line c.args.arch.now) xs c.loop-i.i (output_of c.index-outputs-i.result) at c.loop-i.invariant c.in-Done.ensures

pub returns : goal.returns
returns g c =
    let xs = map output_of c.args.outputs.now in
    over_same (all_elements (message_line c.args.arch.now) xs c.loop-i.i (let e = length-map c.args.outputs.now output_of in omega (arith, e))) c.loop-i.invariant
