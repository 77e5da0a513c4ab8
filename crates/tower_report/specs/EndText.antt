-- The lines at the end of a run. Monitors and sources are numbers here.
use Rattle.std.specs.Prelude.{ℕ, ℤ, List, [], ◌∷◌, ◌++◌, map, flat_map, length, cond, Bool, Option, Some, None, codes, decimal, slice_get, slice_index, slice_index_or}
use Rattle.std.specs.List.{zip}
use Rattle.tower_types.specs.Ty.{Fields, Records, shapes_of}
use Rattle.tower_syntax.specs.Arch.{Arch, Source}
use Rattle.tower_syntax.specs.Graph.{numbers_before}
use Rattle.tower_syntax.specs.Weights.{states_of}
use Rattle.tower_syntax.specs.WellNumbered.{has_depth}
use Rattle.task_code.specs.Machine.{Machine, Lock, Free}
use Rattle.tower_report.specs.Bytes.{Bytes, line}
use Rattle.tower_report.specs.ValueText.{texts_of_words, shapes_in}

-- ---- monitors

abbrev pub monitor_name : Arch → ℕ → Bytes
monitor_name arch m = slice_index_or (map (λ x. x.name) arch.monitors) m []

-- a state of a monitor, with the text of its value
abbrev pub state_line : Bytes → Bytes → Bytes → Bytes
state_line monitor state text = line (codes "state" ∷ monitor ∷ state ∷ text ∷ [])

-- each state with the text of its value
abbrev pub state_lines : Bytes → Fields → List Bytes → Bytes
state_lines monitor states texts = flat_map (λ s. state_line monitor s.0.0 s.1) (zip states texts)

-- each state from its part of the monitor's words
abbrev pub states_text : Records → Bytes → Fields → List ℤ → Bytes
states_text records monitor states ws = state_lines monitor states (texts_of_words (shapes_of (shapes_in records states)) ws)

-- a monitor that is locked shows no words
abbrev pub monitor_text : Arch → ℕ → Option (List ℤ) → Bytes
monitor_text arch m None = line (codes "held" ∷ monitor_name arch m ∷ [])
monitor_text arch m (Some ws) = states_text arch.records (monitor_name arch m) (states_of arch m) ws

abbrev pub shown_by : Option Lock → Option (List ℤ)
shown_by (Some (Free ws)) = Some ws
shown_by _ = None

abbrev pub monitors_text : Arch → List Lock → Bytes
monitors_text arch locks = flat_map (λ m. monitor_text arch m (shown_by (slice_get locks m))) (numbers_before (length arch.monitors) [])

-- ---- sources

-- of a period or signal in version 2, the number of messages that were lost
abbrev pub lost_line : ℕ → Source → ℕ → Bytes
lost_line version s n = cond (has_depth version s.kind) (line (codes "lost" ∷ s.name ∷ decimal n ∷ [])) []

abbrev pub lost_text : Arch → ℕ → ℕ → Bytes
lost_text arch x n = slice_index_or (map (λ s. lost_line arch.version s n) arch.sources) x []

abbrev pub losses_text : Arch → List ℕ → Bytes
losses_text arch lost = flat_map (λ x. lost_text arch x (slice_index lost x)) (numbers_before (length arch.sources) [])

-- ---- the last lines

abbrev pub count_line : ℕ → Bytes
count_line n = line (codes "count" ∷ decimal n ∷ [])

abbrev pub waits_line : ℕ → Bytes
waits_line n = line (codes "waits" ∷ decimal n ∷ [])

-- where a rule was given, the number of instructions before which it named a waiting task
abbrev pub waits_text : Option ℕ → Bytes
waits_text None = []
waits_text (Some n) = waits_line n

abbrev pub core_line : ℕ → ℕ → Bytes
core_line i n = line (codes "core" ∷ decimal i ∷ decimal n ∷ [])

-- of each core, the number of its instructions
abbrev pub cores_text : List ℕ → Bytes
cores_text counts = flat_map (λ i. core_line i (slice_index counts i)) (numbers_before (length counts) [])

abbrev pub last_line : Bool → Bytes
last_line stopped = line (cond stopped (codes "stopped") (codes "done") ∷ [])

-- what was counted of a run: its instructions, those before which a given rule named a waiting task, and those on each
-- core where there are several
pub record Tally : Type 0 where
  pub count : ℕ
  pub waits : Option ℕ
  pub cores : List ℕ

abbrev pub tally_text : Tally → Bytes
tally_text t = count_line t.count ++ waits_text t.waits ++ cores_text t.cores

-- the machine at the end of a run
abbrev pub end_text : Arch → Machine → Tally → Bool → Bytes
end_text arch m tally stopped = monitors_text arch m.locks ++ losses_text arch m.lost ++ tally_text tally ++ last_line stopped
