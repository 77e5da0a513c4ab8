use Rattle.std.proofs.Common.{◌≡◌, length, subst, sym}
use Rattle.tower_types.specs.Ty.{table_of, shape_in}
use Rattle.tower_types.specs.View.{fields_of}
use Rattle.tower_types.specs.Records.{saturated}
use Rattle.tower_syntax.specs.declared.body.Body.{Body as BodyValue}
use Rattle.tower_syntax.specs.Arch.{Body}
use Rattle.tower_syntax.specs.View.{body_of}
use Rattle.tower_syntax.specs.WellNumbered.{AreNumberedFields}
use Rattle.channel_graph.proofs.Sized.{each_view}
use Rattle.arch_checks.specs.Sizes.{types_of_fields}
use Rattle.arch_checks.specs.Measured.{measured, greatest_of}
use Rattle.arch_checks.proofs.Greatest.{greatest_of_each-more, greatest_step}
use Rattle.arch_checks.proofs.widths.binders_width.Goals as goal

pub fields_width-requires : goal.fields_width-requires
fields_width-requires c =
    subst (λ fs. AreNumberedFields (length c.args.arch.now.records) (fields_of fs)) (sym c.as_slice.ensures)
    (each_view (λ b. AreNumberedFields (length c.args.arch.now.records) b.binders) body_of c.args.bodies.now c.loop-body.body-index c.body-item.result c.requires c.loop-body-test.true c.body-item.is)

pub loop-body-preserved : goal.loop-body-preserved
loop-body-preserved c =
    let table = table_of c.args.arch.now.records in
    let m = c.args.measure in
    let more = greatest_of_each-more (λ t. measured m (shape_in table t)) (λ (b : Body). types_of_fields b.binders) body_of c.args.bodies.now c.loop-body.body-index c.body-item.result c.loop-body-test.true in
    let whole = subst (λ fs. c.fields_width.result ≡ saturated (greatest_of m table (types_of_fields (fields_of fs)))) c.as_slice.ensures c.fields_width.ensures in
    let here = subst (λ (b : BodyValue). c.fields_width.result ≡ saturated (greatest_of m table (types_of_fields (fields_of b.binders)))) c.body-item.is whole in
    greatest_step c.loop-body.most c.fields_width.result c.max-most.result _ _ _ c.loop-body.invariant here c.max-most.ensures more
