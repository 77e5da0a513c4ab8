use Rattle.std.proofs.Common.{length}
use Rattle.tower_types.specs.View.{ty_of}
use Rattle.tower_syntax.specs.WellNumbered.{IsNumberedType}
use Rattle.channel_graph.proofs.Sized.{each_view}
use Rattle.stmt_code.proofs.framing.lay_names.Goals as goal

pub type_words-requires : goal.type_words-requires
type_words-requires c =
    each_view (λ f. IsNumberedType (length c.args.arch.now.records) f.1) (λ f. (f.0, ty_of f.1)) c.args.fields.now c.loop-ty.ty-index c.loop-ty-item.result c.requires.1 c.loop-ty-test.true c.loop-ty-item.is
