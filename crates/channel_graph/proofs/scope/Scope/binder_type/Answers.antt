use Rattle.std.proofs.Common.{◌∙◌, ap, subst}
use Rattle.tower_types.specs.View.{fields_of}
use Rattle.channel_graph.specs.Site.{IsSite}
use Rattle.channel_graph.proofs.Looked.{field_found, field_none}
use Rattle.channel_graph.proofs.scope.Scope.binder_type.Goals as goal

pub returns-in-Some : goal.returns-in-Some
returns-in-Some c =
    let site = subst IsSite c.self.view_is c.self.invariant in
    let same = ap fields_of c.as_slice.ensures ∙ ap (λ s. s.body.binders) c.self.view_is in
    let at = c.in-Some.ensures.lookup.3 in
    field_found c.args.self.now.arch c.args.self.now.body.binders c.as_slice.result.now c.args.k c.in-Some.field-0.now site.body.binders same at.0 (at.1 c.in-Some.field-0.now)

pub returns-in-None : goal.returns-in-None
returns-in-None c =
    let same = ap fields_of c.as_slice.ensures ∙ ap (λ s. s.body.binders) c.self.view_is in
    field_none c.args.self.now.arch c.args.self.now.body.binders c.as_slice.result.now c.args.k same c.in-None.ensures.lookup.3
