use Rattle.tower_syntax.specs.Arch.{Body}
use Rattle.tower_syntax.specs.declared.body.Body.{Body as BodyValue}
use Rattle.tower_types.specs.Records.{saturated}
use Rattle.channel_graph.proofs.Saturating.{saturating_step}
use Rattle.std.proofs.Common.{◌≡◌, length, subst, sym, sum, map}
use Rattle.tower_types.specs.Ty.{words, table_of}
use Rattle.tower_types.specs.View.{fields_of}
use Rattle.tower_syntax.specs.View.{body_of}
use Rattle.tower_syntax.specs.Weights.{field_shapes}
use Rattle.tower_syntax.specs.WellNumbered.{AreNumberedFields}
use Rattle.channel_graph.proofs.Sized.{each_view}
use Rattle.channel_graph.proofs.Counted.{sum_of_all-more}
use Rattle.channel_graph.proofs.size.binder_words.Goals as goal

pub fields_words-requires : goal.fields_words-requires
fields_words-requires c =
    subst (λ fs. AreNumberedFields (length c.args.arch.now.records) (fields_of fs)) (sym c.as_slice.ensures)
    (each_view (λ b. AreNumberedFields (length c.args.arch.now.records) b.binders) body_of c.args.bodies.now c.loop-body.body-index c.body-item.result c.requires c.loop-body-test.true c.body-item.is)

pub loop-body-preserved : goal.loop-body-preserved
loop-body-preserved c =
    let table = table_of c.args.arch.now.records in
    let more = sum_of_all-more (λ (b : Body). sum (map words (field_shapes table b.binders))) body_of c.args.bodies.now c.loop-body.body-index c.body-item.result c.loop-body-test.true in
    let whole = subst (λ fs. c.fields_words.result ≡ saturated (sum (map words (field_shapes table (fields_of fs))))) c.as_slice.ensures c.fields_words.ensures in
    let here = subst (λ (b : BodyValue). c.fields_words.result ≡ saturated (sum (map words (field_shapes table (fields_of b.binders))))) c.body-item.is whole in
    saturating_step c.loop-body.total c.fields_words.result c.saturating_add-total.result _ _ _ c.loop-body.invariant here c.saturating_add-total.ensures more
