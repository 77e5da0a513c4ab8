use Rattle.std.proofs.Common.{length, subst, sym}
use Rattle.tower_types.specs.View.{fields_of}
use Rattle.tower_syntax.specs.View.{body_of}
use Rattle.tower_syntax.specs.WellNumbered.{AreNumberedFields}
use Rattle.channel_graph.proofs.Sized.{each_view}
use Rattle.stmt_code.proofs.framing.lay_bodies.Goals as goal

pub lay_names-requires : goal.lay_names-requires
lay_names-requires c =
    subst (λ fs. AreNumberedFields (length c.args.arch.now.records) (fields_of fs)) (sym c.as_slice.ensures)
    (each_view (λ b. AreNumberedFields (length c.args.arch.now.records) b.binders) body_of c.args.bodies.now c.loop-body.body-index c.body-item.result c.requires c.loop-body-test.true c.body-item.is)
