-- The environment and the lists of a frame.
use Rattle.std.specs.Prelude.{map}
use Rattle.tower_types.specs.View.{value_of}
use Rattle.tower_meaning.specs.Body.{Environment, Execution}
use Rattle.atomic_state.specs.declared.frame.Frame.{Frame}
use Rattle.atomic_state.specs.TreeView.{tree_of}

abbrev pub env_of : Frame → Environment
env_of f = record { message = tree_of f.message; binders = map tree_of f.binders.items; states = f.states.value }

abbrev pub execution_of : Frame → Execution
execution_of f = record { env = env_of f; lists = map (map value_of) f.lists.items }
