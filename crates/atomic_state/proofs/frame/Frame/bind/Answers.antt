use Rattle.std.proofs.Common.{ap}
use Rattle.tower_meaning.specs.Body.{Execution}
use Rattle.atomic_state.specs.FrameView.{execution_of}
use Rattle.atomic_state.specs.TreeView.{tree_of}
use Rattle.atomic_state.proofs.Lists.{map_set}
use Rattle.atomic_state.proofs.frame.Frame.bind.Goals as goal

pub returns-then-b-len-clause-execution : goal.returns-then-b-len-clause-execution
returns-then-b-len-clause-execution c =
    ap (λ bs. record { env = record { message = tree_of c.args.self.now.message; binders = bs; states = c.args.self.now.states.value }; lists = (execution_of c.args.self.now).lists })
    (map_set tree_of c.args.self.now.binders.items c.args.b c.args.value)
