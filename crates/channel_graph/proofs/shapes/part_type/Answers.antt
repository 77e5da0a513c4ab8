use Rattle.std.proofs.Common.{◌≡◌, ◌∙◌, sym, subst, slice_get, Some, refl, inl, inr}
use Rattle.tower_types.specs.Ty.{Records, rec, shape_of, shape_of_fields, table_of}
use Rattle.tower_types.specs.View.{ty_of, fields_of}
use Rattle.channel_graph.specs.Scoped.{HasShape}
use Rattle.channel_graph.proofs.Shaped.{part_field, part_element_scalar, part_element_record, record_is_all, fields_numbered}
use Rattle.channel_graph.proofs.Looked.{field_found, field_none}
use Rattle.channel_graph.proofs.shapes.part_type.Goals as goal

pub returns-in-Some : goal.returns-in-Some
returns-in-Some c =
    let arch = c.args.arch.now in
    let same = c.records-records.ensures.value in
    let fields = fields_of c.fields.result.now in
    let shape = subst (λ (rs : Records). shape_of rs (rec c.in-Rec.r) ≡ shape_of_fields (table_of rs) fields) same c.fields.ensures.shape in
    let found = subst (λ (rs : Records). slice_get rs c.in-Rec.r ≡ Some fields) same c.fields.ensures.value in
    let at = c.in-Some.ensures.lookup.3 in
    let part = part_field arch c.args.step.now c.args.ty.now c.in-Field.k c.in-Rec.r c.fields.result.now c.in-Field.is c.in-Rec.is shape in
    let numbered = fields_numbered arch c.in-Rec.r fields c.records-records.ensures.numbered.records.1 found in
    subst (λ s. HasShape arch s (ty_of c.in-Some.field-0.now.1)) (sym part) (field_found arch fields c.fields.result.now c.in-Field.k c.in-Some.field-0.now numbered refl at.0 (at.1 c.in-Some.field-0.now))

pub returns-in-None : goal.returns-in-None
returns-in-None c =
    let arch = c.args.arch.now in
    let fields = fields_of c.fields.result.now in
    let shape = subst (λ (rs : Records). shape_of rs (rec c.in-Rec.r) ≡ shape_of_fields (table_of rs) fields) c.records-records.ensures.value c.fields.ensures.shape in
    part_field arch c.args.step.now c.args.ty.now c.in-Field.k c.in-Rec.r c.fields.result.now c.in-Field.is c.in-Rec.is shape ∙ field_none arch fields c.fields.result.now c.in-Field.k refl c.in-None.ensures.lookup.3

pub returns-in-Scalar-ty : goal.returns-in-Scalar-ty
returns-in-Scalar-ty c =
    let arch = c.args.arch.now in
    elim c.in-Scalar-ty.is [
      | inl s ↦ part_element_scalar arch c.args.step.now c.args.ty.now c.in-At.field-0 s.0 c.in-At.is s.1
      | inr r ↦
          let whole = record_is_all arch c.args.ty.now r.0 c.records-records.ensures.numbered.records.0 c.requires.0 r.1 in
          part_element_record arch c.args.step.now c.args.ty.now c.in-At.field-0 r.0 whole.0 c.in-At.is r.1 whole.1
    ]
