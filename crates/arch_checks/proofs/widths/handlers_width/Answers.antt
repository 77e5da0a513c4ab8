use Rattle.std.proofs.Common.{◌≡◌, ◌<◌, All, map, length, arith, ap, subst, sym}
use Rattle.std.proofs.lemmas.List.{length-map}
use Rattle.tower_types.specs.Ty.{table_of, shape_in}
use Rattle.tower_types.specs.Records.{saturated}
use Rattle.tower_syntax.specs.declared.arch.Handler.{Handler as HandlerValue}
use Rattle.tower_syntax.specs.View.{handler_of, body_of}
use Rattle.tower_syntax.specs.WellNumbered.{AreNumberedFields, IsNumberedHandler}
use Rattle.tower_syntax.proofs.Elements.{kept}
use Rattle.arch_types.specs.Outline.{each}
use Rattle.arch_checks.specs.Sizes.{types_of_fields, bound_types}
use Rattle.arch_checks.specs.Measured.{measured, greatest_of}
use Rattle.arch_checks.proofs.Greatest.{greatest_of_each-more, greatest_step}
use Rattle.arch_checks.proofs.widths.handlers_width.Goals as goal

pub binders_width-requires : goal.binders_width-requires
binders_width-requires c =
    let arch = c.args.arch.now in
    let items = c.handlers-handler-items.result.now in
    let within : c.loop-handler.handler-index < length arch.handlers = omega (arith, c.loop-handler-test.true, ap length c.handlers-handler-items.ensures.value, length-map items handler_of) in
    let h : IsNumberedHandler arch (handler_of c.handler-item.result) = kept (IsNumberedHandler arch) handler_of items arch.handlers c.loop-handler.handler-index c.handler-item.result c.handlers-handler-items.ensures.value c.handlers-handler-items.ensures.numbered.handlers c.handler-item.is within in
    subst (λ bs. All (λ b. AreNumberedFields (length arch.records) b.binders) (map body_of bs)) (sym c.as_slice.ensures) (λ k d l. (h.callbacks k d l).binders)

pub loop-handler-preserved : goal.loop-handler-preserved
loop-handler-preserved c =
    let table = table_of c.args.arch.now.records in
    let m = c.args.measure in
    let more = greatest_of_each-more (λ t. measured m (shape_in table t)) bound_types handler_of c.handlers-handler-items.result.now c.loop-handler.handler-index c.handler-item.result c.loop-handler-test.true in
    let whole = subst (λ bs. c.binders_width.result ≡ saturated (greatest_of m table (each (λ b. types_of_fields b.binders) (map body_of bs)))) c.as_slice.ensures c.binders_width.ensures in
    let here = subst (λ (x : HandlerValue). c.binders_width.result ≡ saturated (greatest_of m table (each (λ b. types_of_fields b.binders) (map body_of x.callbacks)))) c.handler-item.is whole in
    greatest_step c.loop-handler.most c.binders_width.result c.max-most.result _ _ _ c.loop-handler.invariant here c.max-most.ensures more
