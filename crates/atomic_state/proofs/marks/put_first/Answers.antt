use Rattle.std.proofs.Common.{◌≡◌, ◌∙◌, ◌++◌, ◌∷◌, [], ap, refl, arith}
use Rattle.atomic_state.specs.StateView.{atomic_of}
use Rattle.tower_syntax.specs.declared.arch.Listener.TheVariants as to
use Rattle.atomic_state.proofs.Pending.{first_within}
use Rattle.atomic_state.proofs.Marked.{put_done, nothing_first}
use Rattle.atomic_state.proofs.marks.put_first.Goals as goal

pub returns-in-Some-clause-steps : goal.returns-in-Some-clause-steps
returns-in-Some-clause-steps c =
    put_done (atomic_of c.args.parts.now) c.args.parts.now.pending.items c.args.x c.args.o c.index_mut.result.now c.pop.new.self c.in-Some.field-0-0 c.in-Some.message c.args.parts.now.outputs.items c.push_reserved.new.self.items
    refl refl (first_within c.args.parts.now.pending.items c.args.x (to.Output c.args.o) c.requires) c.index_mut.ensures.value c.in-Some.ensures.items (c.push_reserved.ensures.items ∙ ap (λ l. l ++ (c.args.o, c.in-Some.message) ∷ []) c.reserve.ensures.items) c.requires

pub returns-in-None-clause-steps : goal.returns-in-None-clause-steps
returns-in-None-clause-steps c =
    nothing_first c.args.parts.now.pending.items c.args.x c.index_mut.result.now (to.Output c.args.o) (first_within c.args.parts.now.pending.items c.args.x (to.Output c.args.o) c.requires) c.index_mut.ensures.value (omega (arith, c.in-None.ensures.cases.0)) c.requires
