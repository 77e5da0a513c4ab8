-- The shape of a program for a system.
use Rattle.std.specs.Prelude.{◌≡◌, ℕ, ◌≤◌, List, map, flat_map, All, Some, slice_get}
use Rattle.tower_types.specs.Ty.{shape_of, words}
use Rattle.tower_syntax.specs.declared.arch.On.TheVariants as on
use Rattle.tower_syntax.specs.Arch.{Arch, Source, Output, Emitter}
use Rattle.tower_syntax.specs.Graph.{handler, reached_by}
use Rattle.tower_syntax.specs.Weights.{message_words, emitter_words, monitor_words, source_numbers, memory, code}
use Rattle.task_code.specs.declared.program.Buffer.{Buffer}
use Rattle.task_code.specs.declared.program.Task.{Task}
use Rattle.task_code.specs.declared.program.Instr.TheVariants.{Take}
use Rattle.task_code.specs.Program.{Program}
use Rattle.task_code.specs.Rules.{all_words, all_instructions}

abbrev pub priority_and_words : Arch → Source → ℕ × ℕ
priority_and_words arch s = (s.priority, words (shape_of arch.records s.message))

abbrev pub output_words : Arch → Output → ℕ
output_words arch o = message_words arch (on.Channel o.channel)

abbrev pub buffer_of : Arch → Emitter → Buffer
buffer_of arch e = record { width = emitter_words arch e; bound = e.bound }

-- one buffer for each emitter, handlers ascending and emitters in declared order
abbrev pub buffer_table : Arch → List ℕ → List Buffer
buffer_table arch hs = flat_map (λ h. map (buffer_of arch) (handler arch h).emitters) hs

abbrev pub BeginsWithTake : Task → Type 0
BeginsWithTake t = (a : ℕ) × (slice_get t.code 0 ≡ Some (Take a))

pub record Shaped (arch : Arch) (p : Program) : Type 0 where
  -- one task for each source in file order, with its priority and the words of its messages
  pub tasks : map (λ t. (t.priority, t.message)) p.tasks ≡ map (priority_and_words arch) arch.sources
  pub monitors : p.monitors ≡ map (monitor_words arch) arch.monitors
  pub outputs : p.outputs ≡ map (output_words arch) arch.outputs
  pub begins : All BeginsWithTake p.tasks
  pub buffers : map (λ t. t.buffers) p.tasks ≡ map (λ x. buffer_table arch (reached_by arch x)) (source_numbers arch)
  pub memory : all_words p ≤ memory arch
  pub code : all_instructions p ≤ code arch
