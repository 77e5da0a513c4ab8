use Rattle.std.proofs.Common.{take, length}
use Rattle.tower_types.specs.View.{ty_of}
use Rattle.tower_syntax.specs.Weights.{root_shape}
use Rattle.tower_syntax.specs.WellNumbered.{IsNumberedType}
use Rattle.channel_graph.specs.Site.{scope_at}
use Rattle.channel_graph.specs.Scoped.{shape_by}
use Rattle.channel_graph.proofs.Shaped.{Comes}
use Rattle.channel_graph.proofs.scope.Scope.place_type.Given as goal

abbrev pub invariant-loop-step : goal.invariant-loop-step
invariant-loop-step l =
    IsNumberedType (length l.self.arch.records) (ty_of l.ty)
    × Comes (root_shape (scope_at l.self) l.p.root) (take l.step-index l.step-items) (shape_by l.self.arch (ty_of l.ty))
