use Rattle.std.proofs.Common.{◌≡◌, ◌<◌, ◌∙◌, ℕ, length, map, slice_index_or, ap, sym, arith}
use Rattle.std.proofs.lemmas.List.{length-map}
use Rattle.tower_types.specs.Value.{parts, no_values}
use Rattle.tower_types.specs.View.{value_of}
use Rattle.tower_syntax.specs.View.{monitor_of}
use Rattle.tower_report.specs.Bytes.{Bytes}
use Rattle.tower_report.specs.ReplayText.{monitor_value_text}
use Rattle.atomic_state.proofs.Lists.{got_map}
use Rattle.tower_run.proofs.Accepted.{low_states}
use Rattle.tower_run.proofs.Paging.{over_none, over_number, over_number_part, over_same}
use Rattle.tower_replay.proofs.text.put_monitors.Goals as goal

pub loop-m-init : goal.loop-m-init
loop-m-init g c = over_none

pub put_paged-requires : goal.put_paged-requires
put_paged-requires g c =
    let arch = c.args.arch.now in
    let count : length c.monitors-m-end.result.now ≡ length arch.monitors = sym (length-map c.monitors-m-end.result.now monitor_of) ∙ ap length c.monitors-m-end.ensures.value in
    record { exists = omega (arith, c.loop-m-test.true, count); shallow = low_states arch c.requires.safe c.loop-m.m }

pub returns-in-Failed : goal.returns-in-Failed
returns-in-Failed g c =
    let arch = c.args.arch.now in
    let values = c.args.values.now in
    let m = c.loop-m.m in
    let text : ℕ → Bytes = λ m. monitor_value_text arch m (slice_index_or (map value_of values) m (parts no_values)) in
    let count : length c.monitors-m-end.result.now ≡ length arch.monitors = sym (length-map c.monitors-m-end.result.now monitor_of) ∙ ap length c.monitors-m-end.ensures.value in
    let within : m < length arch.monitors = omega (arith, c.loop-m-test.true, count) in
    let is = ap (monitor_value_text arch m) (got_map value_of values m c.index-values-m.result (parts no_values) (omega (arith, within, c.requires.count)) c.index-values-m.is) in
    over_number_part text m (length arch.monitors) within c.loop-m.invariant (over_same is c.in-Failed.ensures)

pub loop-m-preserved : goal.loop-m-preserved
loop-m-preserved g c =
    let arch = c.args.arch.now in
    let values = c.args.values.now in
    let m = c.loop-m.m in
    let text : ℕ → Bytes = λ m. monitor_value_text arch m (slice_index_or (map value_of values) m (parts no_values)) in
    let count : length c.monitors-m-end.result.now ≡ length arch.monitors = sym (length-map c.monitors-m-end.result.now monitor_of) ∙ ap length c.monitors-m-end.ensures.value in
    let within : m < length arch.monitors = omega (arith, c.loop-m-test.true, count) in
    let is = ap (monitor_value_text arch m) (got_map value_of values m c.index-values-m.result (parts no_values) (omega (arith, within, c.requires.count)) c.index-values-m.is) in
    over_number text m c.loop-m.invariant (over_same is c.in-Done.ensures)
