use Rattle.std.proofs.Common.{◌≡◌, ◌∙◌, ap, arith, length}
use Rattle.std.proofs.lemmas.Bool.{false≢true}
use Rattle.std.proofs.lemmas.List.{length-map}
use Rattle.tower_types.specs.View.{value_of}
use Rattle.tower_syntax.specs.declared.arch.On.TheVariants as on
use Rattle.tower_meaning.specs.System.{items}
use Rattle.atomic_state.proofs.Marked.{first_waits}
use Rattle.atomic_state.proofs.marks.first_items.Goals as goal

pub returns-in_ok-items-in-Some : goal.returns-in_ok-items-in-Some
returns-in_ok-items-in-Some c = λ v rest e.
    c.in_ok-items-in-Some.ensures ∙ ap (items c.args.arch.now (on.Source c.args.x)) (first_waits c.args.queue.now.waiting.items c.in-Some.message.now v rest c.in-Some.ensures.lookup e)

pub returns-in-None : goal.returns-in-None
returns-in-None c = λ v rest e. absurd (false≢true (c.in-None.ensures.variant.1 (omega (arith, ap length e, length-map c.args.queue.now.waiting.items value_of))))
