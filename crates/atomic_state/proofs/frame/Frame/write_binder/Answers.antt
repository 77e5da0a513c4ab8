use Rattle.std.proofs.Common.{◌≡◌, ◌∙◌, ap, arith, slice_set, map}
use Rattle.tower_meaning.specs.Body.{with_part_at}
use Rattle.atomic_state.specs.FrameView.{execution_of}
use Rattle.atomic_state.specs.TreeView.{tree_of}
use Rattle.atomic_state.proofs.Lists.{map_set, got_map}
use Rattle.atomic_state.proofs.frame.Frame.write_binder.Goals as goal

pub returns-then-b-len-clause-execution : goal.returns-then-b-len-clause-execution
returns-then-b-len-clause-execution c =
    let xs = c.args.self.now.binders.items in
    ap (λ bs. record { env = record { message = tree_of c.args.self.now.message; binders = bs; states = c.args.self.now.states.value }; lists = (execution_of c.args.self.now).lists })
    (map_set tree_of xs c.args.b c.exchange.new.tree
    ∙ ap (slice_set (map tree_of xs) c.args.b)
    (c.exchange.ensures.after ∙ ap (with_part_at c.args.path.now (tree_of c.args.new)) (got_map tree_of xs c.args.b c.index_mut.result.now _ (omega arith) c.index_mut.ensures.value)))
