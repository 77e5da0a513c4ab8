-- The text of a replay: the outputs, the state that the marks lead to, and the first misfit. Monitors and sources are
-- numbers here.
use Rattle.std.specs.Prelude.{ℕ, List, [], ◌∷◌, ◌++◌, flat_map, length, Option, Some, None, codes, decimal, slice_index_or}
use Rattle.tower_types.specs.Ty.{shapes_of}
use Rattle.tower_types.specs.Value.{Value, parts, no_values}
use Rattle.tower_syntax.specs.declared.event.Mark.{Mark}
use Rattle.tower_syntax.specs.Arch.{Arch, Events}
use Rattle.tower_syntax.specs.Graph.{numbers_before}
use Rattle.tower_syntax.specs.Weights.{states_of}
use Rattle.tower_meaning.specs.System.{system_of}
use Rattle.tower_meaning.specs.Atomic.{Atomic}
use Rattle.tower_meaning.specs.Replayed.{replayed}
use Rattle.arch_checks.specs.Offences.{source_name}
use Rattle.tower_report.specs.Bytes.{Bytes, line}
use Rattle.tower_report.specs.ValueText.{value_text, texts_of_values, parts_of, shapes_in}
use Rattle.tower_report.specs.MarkText.{output_name, output_shape}
use Rattle.tower_report.specs.EndText.{monitor_name, state_lines, losses_text}

-- an output with its message
abbrev pub message_line : Arch → ℕ × Value → Bytes
message_line arch w = line (codes "out" ∷ output_name arch w.0 ∷ value_text (output_shape arch w.0) w.1 ∷ [])

-- the states of a monitor that has this value
abbrev pub monitor_value_text : Arch → ℕ → Value → Bytes
monitor_value_text arch m v =
    state_lines (monitor_name arch m) (states_of arch m) (texts_of_values (shapes_of (shapes_in arch.records (states_of arch m))) (parts_of v))

abbrev pub waiting_line : Bytes → ℕ → Bytes
waiting_line source n = line (codes "waiting" ∷ source ∷ decimal n ∷ [])

abbrev pub pending_line : Bytes → ℕ → Bytes
pending_line source n = line (codes "pending" ∷ source ∷ decimal n ∷ [])

-- how many messages wait at a source, and how many items are pending there
abbrev pub source_text : Arch → ℕ → ℕ → ℕ → Bytes
source_text arch x waiting pending = waiting_line (source_name arch x) waiting ++ pending_line (source_name arch x) pending

abbrev pub misfit_line : ℕ → Bytes
misfit_line k = line (codes "misfit" ∷ decimal k ∷ [])

abbrev pub replay_end : Option ℕ → Bytes
replay_end None = line (codes "done" ∷ [])
replay_end (Some k) = misfit_line k

abbrev pub state_text : Arch → Atomic → Bytes
state_text arch s =
    flat_map (message_line arch) s.outputs
    ++ flat_map (λ m. monitor_value_text arch m (slice_index_or s.monitors m (parts no_values))) (numbers_before (length arch.monitors) [])
    ++ flat_map (λ x. source_text arch x (length (slice_index_or s.queues x [])) (length (slice_index_or s.pending x []))) (numbers_before (length arch.sources) [])
    ++ losses_text arch s.lost

-- with the state before the first misfit, where there is one
abbrev pub replay_text : Arch → Events → List Mark → Bytes
replay_text arch events marks =
    let r = replayed (system_of arch) events marks in
    state_text arch r.state ++ replay_end r.misfit
