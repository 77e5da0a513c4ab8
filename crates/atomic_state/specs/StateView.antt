-- What the parts of an atomic state stand for.
use Rattle.std.specs.Prelude.{ℕ, ◌+◌, List, map, reverse}
use Rattle.tower_types.specs.Value.{Value}
use Rattle.tower_types.specs.View.{value_of}
use Rattle.tower_types.specs.declared.value.Value.{Value as ValueValue}
use Rattle.tower_syntax.specs.declared.arch.Listener.{Listener}
use Rattle.tower_meaning.specs.Atomic.{Atomic}
use Rattle.tower_meaning.specs.System.{Item}
use Rattle.atomic_state.specs.declared.parts.Parts.{Parts}
use Rattle.atomic_state.specs.Items.{item_of}
use Rattle.atomic_state.specs.Kept.{Kept}
use Rattle.atomic_state.specs.Queues.{waiting_of}
use Rattle.atomic_state.specs.TreeView.{tree_of}

-- a pending list stands with its first item last
abbrev pub pending_of : List (Listener × ValueValue) → List Item
pending_of items = reverse (map item_of items)

abbrev pub output_of : ℕ × ValueValue → ℕ × Value
output_of o = (o.0, value_of o.1)

abbrev pub atomic_of : Parts → Atomic
atomic_of p = record {
  monitors = map tree_of p.monitors.items;
  queues = map waiting_of p.queues.items;
  pending = map (λ items. pending_of items.items) p.pending.items;
  lost = map (λ q. q.lost) p.queues.items;
  outputs = map output_of p.outputs.items;
  place = p.place;
}

abbrev pub kept_of : Parts → Kept
kept_of p = record { state = atomic_of p; ticks = p.ticks }

-- the place moves on by one
abbrev pub moved_on : Atomic → Atomic
moved_on s = record s { place = s.place + 1 }
