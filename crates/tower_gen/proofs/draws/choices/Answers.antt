use Rattle.std.proofs.Common.{List, sym, subst}
use Rattle.tower_syntax.specs.declared.event.Choice.{Choice}
use Rattle.tower_gen.proofs.Drawing.{Chosen, none_chosen, chosen_more, all_chosen}
use Rattle.tower_gen.proofs.draws.choices.Goals as goal

pub loop-init : goal.loop-init
loop-init c =
    let first = c.args.generator.now in
    subst (λ (cs : List Choice). Chosen first first 400 0 cs) (sym c.in_ok-choices.ensures.items) (none_chosen first 400)

pub loop-preserved : goal.loop-preserved
loop-preserved c =
    chosen_more c.args.generator.now c.loop.generator c.choice-next.new.generator 400 c.loop.counter c.loop.choices.items _ c.choice-next.result c.loop.invariant
    c.loop-test.true c.choice-next.ensures.value c.choice-next.ensures.moved c.in_ok-push.ensures.items

pub returns : goal.returns
returns c = all_chosen c.args.generator.now c.loop.generator 400 c.loop.counter c.loop.choices.items c.loop.invariant c.loop-test.false
