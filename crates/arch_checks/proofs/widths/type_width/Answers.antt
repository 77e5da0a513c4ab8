use Rattle.std.proofs.Common.{length, subst, sym}
use Rattle.tower_types.specs.View.{ty_of}
use Rattle.tower_types.specs.Records.{IsTypeAmong}
use Rattle.channel_graph.proofs.Sized.{type_among}
use Rattle.arch_checks.proofs.widths.type_width.Goals as goal

pub depth-requires : goal.depth-requires
depth-requires c =
    subst (λ rs. IsTypeAmong (length rs) (ty_of c.args.t.now)) (sym c.records.ensures.value) (type_among (length c.args.arch.now.records) (ty_of c.args.t.now) c.requires)

pub words-requires : goal.words-requires
words-requires c =
    subst (λ rs. IsTypeAmong (length rs) (ty_of c.args.t.now)) (sym c.records-in-Words.ensures.value) (type_among (length c.args.arch.now.records) (ty_of c.args.t.now) c.requires)
