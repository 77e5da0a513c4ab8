use Rattle.std.proofs.Common.{◌≡◌, ◌<◌, ◌∙◌, ℕ, length, slice_get, ap, sym, arith}
use Rattle.std.proofs.lemmas.List.{length-map}
use Rattle.tower_syntax.specs.View.{monitor_of}
use Rattle.tower_report.specs.Bytes.{Bytes}
use Rattle.tower_report.specs.EndText.{monitor_text, shown_by}
use Rattle.tower_run.proofs.Paging.{over_none, over_number, over_number_part}
use Rattle.tower_run.proofs.ending.put_monitors.Goals as goal

pub loop-m-init : goal.loop-m-init
loop-m-init g c = over_none

pub put_paged-requires : goal.put_paged-requires
put_paged-requires g c =
    let arch = c.args.arch.now in
    let count : length c.monitors-m-end.result.now ≡ length arch.monitors = sym (length-map c.monitors-m-end.result.now monitor_of) ∙ ap length c.monitors-m-end.ensures.value in
    c.requires c.loop-m.m (omega (arith, c.loop-m-test.true, count))

pub returns-in-Failed : goal.returns-in-Failed
returns-in-Failed g c =
    let arch = c.args.arch.now in
    let text : ℕ → Bytes = λ m. monitor_text arch m (shown_by (slice_get c.args.machine.now.machine.locks m)) in
    let m = c.loop-m.m in
    let count : length c.monitors-m-end.result.now ≡ length arch.monitors = sym (length-map c.monitors-m-end.result.now monitor_of) ∙ ap length c.monitors-m-end.ensures.value in
    let within : m < length arch.monitors = omega (arith, c.loop-m-test.true, count) in
    over_number_part text m (length arch.monitors) within c.loop-m.invariant c.in-Failed.ensures

pub loop-m-preserved : goal.loop-m-preserved
loop-m-preserved g c =
    let text : ℕ → Bytes = λ m. monitor_text c.args.arch.now m (shown_by (slice_get c.args.machine.now.machine.locks m)) in
    over_number text c.loop-m.m c.loop-m.invariant c.in-Done.ensures
