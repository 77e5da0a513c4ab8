use Rattle.std.proofs.Common.{◌≡◌, length, subst}
use Rattle.tower_types.specs.declared.ty.Ty.{Ty as TyValue}
use Rattle.tower_types.specs.Ty.{Name, Ty, shape_in, table_of}
use Rattle.tower_types.specs.View.{ty_of}
use Rattle.tower_types.specs.Records.{saturated}
use Rattle.tower_syntax.specs.WellNumbered.{IsNumberedType}
use Rattle.channel_graph.proofs.Sized.{each_view}
use Rattle.arch_checks.specs.Measured.{measured}
use Rattle.arch_checks.proofs.Greatest.{greatest_of_views-more, greatest_step}
use Rattle.arch_checks.proofs.widths.fields_width.Goals as goal

pub type_width-requires : goal.type_width-requires
type_width-requires c =
    each_view (λ f. IsNumberedType (length c.args.arch.now.records) f.1) (λ f. (f.0, ty_of f.1)) c.args.fields.now c.loop-ty.ty-index c.loop-ty-item.result c.requires.1 c.loop-ty-test.true c.loop-ty-item.is

pub loop-ty-preserved : goal.loop-ty-preserved
loop-ty-preserved c =
    let table = table_of c.args.arch.now.records in
    let m = c.args.measure in
    let more = greatest_of_views-more (λ t. measured m (shape_in table t)) (λ (f : Name × Ty). f.1) (λ (f : Name × TyValue). (f.0, ty_of f.1)) c.args.fields.now c.loop-ty.ty-index c.loop-ty-item.result c.loop-ty-test.true in
    let here = subst (λ (f : Name × TyValue). c.type_width.result ≡ saturated (measured m (shape_in table (ty_of f.1)))) c.loop-ty-item.is c.type_width.ensures in
    greatest_step c.loop-ty.most c.type_width.result c.max-most.result _ _ _ c.loop-ty.invariant here c.max-most.ensures more
