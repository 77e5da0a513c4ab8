use Rattle.std.proofs.Common.{ap, sym, ◌∙◌, Some}
use Rattle.tower_types.specs.View.{fields_of}
use Rattle.tower_types.proofs.Kept.{kept_at}
use Rattle.tower_types.proofs.Shapes.{shape_of-rec}
use Rattle.tower_types.proofs.records.Records.fields.Goals as goal

pub returns-clause-earlier : goal.returns-clause-earlier
returns-clause-earlier c =
    let k = kept_at c.self.inside.records c.as_slice.result.now c.args.self.now c.args.r c.index-as_slice-r.result c.self.view_is c.as_slice.ensures c.self.invariant c.requires in
    k.0 c.args.r _ (k.1 ∙ ap (λ fs. Some (fields_of fs)) (sym c.as_slice-2.ensures))

pub returns-clause-shape : goal.returns-clause-shape
returns-clause-shape c =
    let k = kept_at c.self.inside.records c.as_slice.result.now c.args.self.now c.args.r c.index-as_slice-r.result c.self.view_is c.as_slice.ensures c.self.invariant c.requires in
    shape_of-rec c.args.self.now c.args.r _ k.0 (k.1 ∙ ap (λ fs. Some (fields_of fs)) (sym c.as_slice-2.ensures))
