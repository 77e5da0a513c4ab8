-- In which order a system has what its file declares.
use Rattle.std.specs.Prelude.{◌≡◌, List, [], ◌∷◌, map}
use Rattle.std.specs.List.Sorted.{IsNonDecreasingBy}
use Rattle.tower_types.specs.Ty.{Name}
use Rattle.tower_syntax.specs.declared.arch.Listener.{Listener}
use Rattle.tower_syntax.specs.declared.arch.Listener.TheVariants as to
use Rattle.tower_syntax.specs.RawTree.{Link, RawPart, state, handler, RawItem, output, monitor, Raw}
use Rattle.tower_syntax.specs.Arch.{Arch}
use Rattle.tower_syntax.specs.Graph as graph
use Rattle.arch_types.specs.Outline.{each}

-- the names of a file's outputs and handlers, as they stand in the text
abbrev pub handler_name : RawPart Link → List Name
handler_name (state at i t) = []
handler_name (handler at i u hs) = i.name ∷ []

abbrev pub listener_names : RawItem Link → List Name
listener_names (output at i u) = i.name ∷ []
listener_names (monitor at i ps) = each handler_name ps
listener_names _ = []

abbrev pub name_of : Arch → Listener → Name
name_of arch (to.Output o) = (graph.output arch o).name
name_of arch (to.Handler h) = (graph.handler arch h).name

-- the handlers ascend by monitor, and the listeners stand in text order
pub record IsInFileOrder (raw : Raw Link) (arch : Arch) : Type 0 where
  pub handlers : IsNonDecreasingBy (λ h. h.monitor) arch.handlers
  pub listeners : map (name_of arch) arch.listeners ≡ each listener_names raw.items
