use Rattle.std.proofs.Common.{◌≡◌, length, subst}
use Rattle.tower_types.specs.declared.ty.Ty.{Ty as TyValue}
use Rattle.tower_types.specs.Records.{saturated}
use Rattle.channel_graph.proofs.Saturating.{saturating_step}
use Rattle.tower_types.specs.Ty.{Ty, Name, words, shape_in, table_of}
use Rattle.tower_types.specs.View.{ty_of}
use Rattle.tower_syntax.specs.WellNumbered.{IsNumberedType}
use Rattle.channel_graph.proofs.Sized.{each_view, sum_of_views-more}
use Rattle.task_build.proofs.sizes.fields_words.Goals as goal

pub type_words-requires : goal.type_words-requires
type_words-requires c =
    each_view (λ f. IsNumberedType (length c.args.arch.now.records) f.1) (λ f. (f.0, ty_of f.1)) c.args.fields.now c.loop-ty.ty-index c.loop-ty-item.result c.requires.1 c.loop-ty-test.true c.loop-ty-item.is

pub loop-ty-preserved : goal.loop-ty-preserved
loop-ty-preserved c =
    let table = table_of c.args.arch.now.records in
    let more = sum_of_views-more words (λ (f : Name × Ty). shape_in table f.1) (λ (f : Name × TyValue). (f.0, ty_of f.1)) c.args.fields.now c.loop-ty.ty-index c.loop-ty-item.result c.loop-ty-test.true in
    let here = subst (λ (f : Name × TyValue). c.type_words.result ≡ saturated (words (shape_in table (ty_of f.1)))) c.loop-ty-item.is c.type_words.ensures in
    saturating_step c.loop-ty.total c.type_words.result c.saturating_add-total.result _ _ _ c.loop-ty.invariant here c.saturating_add-total.ensures more
