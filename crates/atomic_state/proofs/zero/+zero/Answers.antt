use Rattle.std.proofs.Common.{◌≡◌, ◌<◌, ◌∙◌, length, map, rules, arith, ap, sym}
use Rattle.std.proofs.lemmas.List.{map-append}
use Rattle.std.proofs.lemmas.Option.{slice_get_within}
use Rattle.tower_types.specs.Value.{parts, values_of, zero_of}
use Rattle.tower_types.proofs.Seen.{ty_of-Array}
use Rattle.tower_types.specs.Ty.{array, table_of, shape_of, shape_of_fields, depth}
use Rattle.tower_types.specs.View.{ty_of, fields_of}
use Rattle.tower_types.proofs.Kept.{type_at}
use Rattle.tower_types.proofs.Shapes.{all_among_more}
use Rattle.tower_types.proofs.Taken.{field_shallower, record_shape}
use Rattle.atomic_state.specs.TreeView.{tree_of}
use Rattle.atomic_state.proofs.Zeros.{copied, listed_zeros}
use Rattle.atomic_state.proofs.Trees.{tree_of-Parts}
use Rattle.atomic_state.proofs.zero.+zero.Goals as goal

pub zero_fields-zero-requires : goal.zero_fields-zero-requires
zero_fields-zero-requires t c =
    let table = table_of c.args.records.now in (
      omega (arith, field_shallower table _ _ _ c.loop-t-test.true c.loop-t-item.is),
      type_at _ _ _ _ c.requires c.loop-t-test.true c.loop-t-item.is,
    )

pub zero-zero_fields-requires : goal.zero-zero_fields-requires
zero-zero_fields-requires t c =
    let records = c.args.records.now in
    let s : shape_of records (ty_of c.args.t.now) ≡ shape_of_fields (table_of records) (fields_of c.fields.result.now) = record_shape records _ _ _ c.in-Rec.is c.fields.ensures.shape in
    let r : c.in-Rec.r < length records = slice_get_within _ _ _ c.fields.ensures.value in
    (omega (arith, ap depth s), all_among_more _ _ _ (omega arith) c.fields.ensures.earlier)

pub zero-returns-in_ok-parts-in-Array : goal.zero-returns-in_ok-parts-in-Array
zero-returns-in_ok-parts-in-Array t c =
    let records = c.args.records.now in
    let e : ty_of c.args.t.now ≡ array c.in-Array.len (ty_of c.get.result.now) = ap ty_of c.in-Array.is ∙ ty_of-Array _ _ ∙ ap (λ u. array c.in-Array.len (ty_of u)) (sym c.get.ensures) in
    tree_of-Parts c.in_ok-parts-in-Array.parts ∙ ap (λ l. parts (values_of l)) c.in_ok-parts-in-Array.ensures ∙ ap parts (copied c.in-Array.len (zero_of (shape_of records (ty_of c.get.result.now))))
    ∙ ap (λ u. zero_of (shape_of records u)) (sym e)

pub zero-returns-in_ok-parts-in-Rec : goal.zero-returns-in_ok-parts-in-Rec
zero-returns-in_ok-parts-in-Rec t c =
    let records = c.args.records.now in
    let s : shape_of records (ty_of c.args.t.now) ≡ shape_of_fields (table_of records) (fields_of c.fields.result.now) = record_shape records _ _ _ c.in-Rec.is c.fields.ensures.shape in
    tree_of-Parts c.in_ok-parts-in-Rec.parts ∙ ap (λ l. parts (values_of l)) c.in_ok-parts-in-Rec.ensures ∙ ap parts (listed_zeros (table_of records) (fields_of c.fields.result.now)) ∙ ap zero_of (sym s)
