use Rattle.std.proofs.Common.{◌≡◌, ◌<◌, ◌∙◌, ℕ, length, ap, sym, arith}
use Rattle.std.proofs.lemmas.List.{length-map}
use Rattle.tower_syntax.specs.View.{source_of}
use Rattle.tower_report.specs.Bytes.{Bytes}
use Rattle.tower_replay.specs.Pieces.{source_line}
use Rattle.tower_run.proofs.Paging.{over_none, over_number, over_number_part}
use Rattle.tower_replay.proofs.text.put_sources.Goals as goal

pub loop-x-init : goal.loop-x-init
loop-x-init g c = over_none

pub put_source-requires-clause-exists : goal.put_source-requires-clause-exists
put_source-requires-clause-exists g c =
    let arch = c.args.arch.now in
    let count : length c.sources-x-end.result.now ≡ length arch.sources = sym (length-map c.sources-x-end.result.now source_of) ∙ ap length c.sources-x-end.ensures.value in
    omega (arith, c.loop-x-test.true, count)

pub returns-in-Failed : goal.returns-in-Failed
returns-in-Failed g c =
    let arch = c.args.arch.now in
    let text : ℕ → Bytes = source_line arch c.args.state.now.state in
    let x = c.loop-x.x in
    let count : length c.sources-x-end.result.now ≡ length arch.sources = sym (length-map c.sources-x-end.result.now source_of) ∙ ap length c.sources-x-end.ensures.value in
    let within : x < length arch.sources = omega (arith, c.loop-x-test.true, count) in
    over_number_part text x (length arch.sources) within c.loop-x.invariant c.in-Failed.ensures

pub loop-x-preserved : goal.loop-x-preserved
loop-x-preserved g c =
    let arch = c.args.arch.now in
    let text : ℕ → Bytes = source_line arch c.args.state.now.state in
    over_number text c.loop-x.x c.loop-x.invariant c.in-Done.ensures
