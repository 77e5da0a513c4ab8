use Rattle.std.proofs.Common.{◌≡◌, ◌∙◌, ap, sym, subst, map}
use Rattle.tower_types.specs.Ty.{table_of}
use Rattle.tower_types.specs.View.{value_of, fields_of}
use Rattle.tower_syntax.specs.View.{body_of, all_stmts_of}
use Rattle.tower_meaning.specs.Body.{zeros_of_fields}
use Rattle.atomic_state.specs.FrameView.{execution_of}
use Rattle.atomic_state.specs.Items.{effect_in}
use Rattle.atomic_state.specs.TreeView.{tree_of}
use Rattle.atomic_state.proofs.Executed.{DoesAll}
use Rattle.atomic_state.proofs.Handled.{began, called}
use Rattle.atomic_state.proofs.handle.call.Goals as goal

pub returns-clause-effect : goal.returns-clause-effect
returns-clause-effect c =
    let table = table_of c.args.arch.now.records in
    let zeros = map tree_of c.as_slice-4.result.now in
    let names = map tree_of c.in_ok-binders.binders.items in
    let m = tree_of c.in_ok-tree.tree in
    let y = execution_of c.execute_all.new.frame in
    let are_zeros : zeros ≡ zeros_of_fields table (fields_of c.args.body.now.binders) =
    ap (map tree_of) c.as_slice-4.ensures.value ∙ c.in_ok-zeros.ensures
    ∙ ap (λ r. zeros_of_fields (table_of r) (fields_of c.as_slice.result.now)) c.records.ensures.value ∙ ap (λ fs. zeros_of_fields table (fields_of fs)) c.as_slice.ensures in
    let same : names ≡ zeros = c.in_ok-binders.ensures ∙ ap (map tree_of) (c.as_slice-2.ensures.value ∙ sym c.as_slice-4.ensures.value) in
    called c.args.arch.now (value_of c.args.message.now) m (effect_in c.args.frame.now) (body_of c.args.body.now) zeros names y are_zeros c.in_ok-tree.ensures same
    (subst (λ l. DoesAll zeros (all_stmts_of l) (began m (effect_in c.args.frame.now) names) y) c.as_slice-3.ensures c.in_ok-execute_all.ensures.execution)
