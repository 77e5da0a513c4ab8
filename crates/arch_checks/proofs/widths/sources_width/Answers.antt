use Rattle.std.proofs.Common.{◌≡◌, ◌<◌, length, arith, ap, subst}
use Rattle.std.proofs.lemmas.List.{length-map}
use Rattle.tower_types.specs.Ty.{table_of, shape_in}
use Rattle.tower_types.specs.View.{ty_of}
use Rattle.tower_types.specs.Records.{saturated}
use Rattle.tower_syntax.specs.declared.arch.Source.{Source as SourceValue}
use Rattle.tower_syntax.specs.Arch.{Source}
use Rattle.tower_syntax.specs.View.{source_of}
use Rattle.tower_syntax.specs.WellNumbered.{IsNumberedSource}
use Rattle.tower_syntax.proofs.Elements.{kept}
use Rattle.arch_checks.specs.Measured.{measured}
use Rattle.arch_checks.proofs.Greatest.{greatest_of_views-more, greatest_step}
use Rattle.arch_checks.proofs.widths.sources_width.Goals as goal

pub type_width-requires : goal.type_width-requires
type_width-requires c =
    let arch = c.args.arch.now in
    let items = c.sources-source-items.result.now in
    let within : c.loop-source.source-index < length arch.sources = omega (arith, c.loop-source-test.true, ap length c.sources-source-items.ensures.value, length-map items source_of) in
    (kept (IsNumberedSource arch) source_of items arch.sources c.loop-source.source-index c.source-item.result c.sources-source-items.ensures.value c.sources-source-items.ensures.numbered.sources c.source-item.is within).message

pub loop-source-preserved : goal.loop-source-preserved
loop-source-preserved c =
    let table = table_of c.args.arch.now.records in
    let m = c.args.measure in
    let more = greatest_of_views-more (λ t. measured m (shape_in table t)) (λ (x : Source). x.message) source_of c.sources-source-items.result.now c.loop-source.source-index c.source-item.result c.loop-source-test.true in
    let here = subst (λ (x : SourceValue). c.type_width.result ≡ saturated (measured m (shape_in table (ty_of x.message)))) c.source-item.is c.type_width.ensures in
    greatest_step c.loop-source.most c.type_width.result c.max-most.result _ _ _ c.loop-source.invariant here c.max-most.ensures more
