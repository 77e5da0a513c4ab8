use Rattle.std.proofs.Common.{◌≡◌, ◌<◌, ◌∙◌, ℕ, length, ap, sym, arith}
use Rattle.std.specs.Prelude.{slice_index}
use Rattle.std.proofs.lemmas.List.{length-map}
use Rattle.tower_syntax.specs.View.{source_of}
use Rattle.tower_report.specs.Bytes.{Bytes}
use Rattle.tower_report.specs.EndText.{lost_text}
use Rattle.tower_run.proofs.Paging.{over_none, over_number, over_number_part, over_same}
use Rattle.tower_replay.proofs.text.put_losses.Goals as goal

pub loop-x-init : goal.loop-x-init
loop-x-init g c = over_none

pub put_paged-requires : goal.put_paged-requires
put_paged-requires g c =
    let arch = c.args.arch.now in
    let count : length c.sources-x-end.result.now ≡ length arch.sources = sym (length-map c.sources-x-end.result.now source_of) ∙ ap length c.sources-x-end.ensures.value in
    omega (arith, c.loop-x-test.true, count)

pub returns-in-Failed : goal.returns-in-Failed
returns-in-Failed g c =
    let arch = c.args.arch.now in
    let text : ℕ → Bytes = λ x. lost_text arch x (slice_index c.args.state.now.state.lost x) in
    let x = c.loop-x.x in
    let count : length c.sources-x-end.result.now ≡ length arch.sources = sym (length-map c.sources-x-end.result.now source_of) ∙ ap length c.sources-x-end.ensures.value in
    let within : x < length arch.sources = omega (arith, c.loop-x-test.true, count) in
    over_number_part text x (length arch.sources) within c.loop-x.invariant (over_same (ap (lost_text arch x) c.lost-lost.ensures) c.in-Failed.ensures)

pub loop-x-preserved : goal.loop-x-preserved
loop-x-preserved g c =
    let arch = c.args.arch.now in
    let text : ℕ → Bytes = λ x. lost_text arch x (slice_index c.args.state.now.state.lost x) in
    over_number text c.loop-x.x c.loop-x.invariant (over_same (ap (lost_text arch c.loop-x.x) c.lost-lost.ensures) c.in-Done.ensures)

pub lost-lost-requires : goal.lost-lost-requires
lost-lost-requires g c =
    let arch = c.args.arch.now in
    let count : length c.sources-x-end.result.now ≡ length arch.sources = sym (length-map c.sources-x-end.result.now source_of) ∙ ap length c.sources-x-end.ensures.value in
    omega (arith, c.loop-x-test.true, count, c.requires.lost_count)
