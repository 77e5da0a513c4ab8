use Rattle.std.proofs.Common.{◌≡◌, ◌∙◌, ap, sym, rules, FitsSigned}
use Rattle.std.specs.Int.{w128}
use Rattle.std.proofs.lemmas.Int.{to_z-of_z}
use Rattle.tower_types.specs.Value.{word}
use Rattle.tower_syntax.specs.View.{expr_of}
use Rattle.tower_meaning.specs.Body.{expr_value}
use Rattle.atomic_state.specs.FrameView.{env_of, execution_of}
use Rattle.atomic_state.proofs.Executed.{set_done}
use Rattle.atomic_state.proofs.Numbers.{is_word}
use Rattle.atomic_state.proofs.Trees.{tree_of-Word}
use Rattle.atomic_state.proofs.execute.set.Goals as goal

pub returns-clause-execution : goal.returns-clause-execution
returns-clause-execution c = λ hp hn.
    let env = env_of c.args.frame.now in
    let e = expr_of c.args.e.now in
    let fit : FitsSigned w128 c.number-n.result = search rules in
    set_done env (execution_of c.args.frame.now) _ c.args.p.now c.in_ok-path.path.items (expr_value env e) _ c.in_ok-write.ensures.execution (c.in_ok-path.ensures hp)
    (tree_of-Word _ ∙ ap word (to_z-of_z w128 c.number-n.result fit ∙ c.number-n.ensures hn) ∙ sym (is_word env e hn))
