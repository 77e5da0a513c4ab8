use Rattle.std.proofs.Common.{◌≡◌, ◌∙◌, ◌≤◌, map, ap, sym, subst}
use Rattle.tower_types.specs.Ty.{words, shape_in, table_of}
use Rattle.tower_syntax.specs.Arch.{Arch}
use Rattle.tower_syntax.specs.Weights.{monitor_words, channel_message, memory, code}
use Rattle.task_code.specs.Program.{Program}
use Rattle.task_code.specs.declared.program.Task.{Task}
use Rattle.task_code.specs.Rules.{KeepsRules, all_words, all_instructions}
use Rattle.lock_reduction.specs.Reduce.{Sound}
use Rattle.std.proofs.Common.{ℕ, List}
use Rattle.task_build.specs.CodeOf.{code_of, tasks_from}
use Rattle.task_build.proofs.Closing.{sound}
use Rattle.task_build.proofs.Ruled.{rules_kept}
use Rattle.task_build.proofs.building.build.Goals as goal

monitors_in : (a b : Arch) (ns : List ℕ) → ns ≡ map (monitor_words a) a.monitors → a ≡ b → ns ≡ map (monitor_words b) b.monitors
monitors_in a b ns is same = is ∙ ap (λ (z : Arch). map (monitor_words z) z.monitors) same

outputs_in : (a b : Arch) (ns : List ℕ) → ns ≡ map (λ o. words (shape_in (table_of a.records) (channel_message a o.channel))) a.outputs → a ≡ b
    → ns ≡ map (λ o. words (shape_in (table_of b.records) (channel_message b o.channel))) b.outputs
outputs_in a b ns is same = is ∙ ap (λ (z : Arch). map (λ o. words (shape_in (table_of z.records) (channel_message z o.channel))) z.outputs) same

measured_tasks : (a b : Arch) (tasks : List Task) → tasks ≡ tasks_from a 0 a.sources → a ≡ b → tasks ≡ tasks_from b 0 b.sources
measured_tasks a b tasks is same = is ∙ ap (λ (z : Arch). tasks_from z 0 z.sources) same

-- the program from its parts
parts : (a b : Arch) (monitors outputs : List ℕ) (tasks : List Task) → monitors ≡ map (monitor_words a) a.monitors → outputs ≡ map (λ o. words (shape_in (table_of a.records) (channel_message a o.channel))) a.outputs → a ≡ b → tasks ≡ tasks_from b 0 b.sources
    → (p : Program) → p ≡ record { monitors = monitors; outputs = outputs; tasks = tasks } → p ≡ code_of b
parts a b monitors outputs tasks is_monitors is_outputs same is_tasks p is =
    let one = monitors_in a b monitors is_monitors same in
    let two = outputs_in a b outputs is_outputs same in
    is ∙ (λ t. record { monitors = one t; outputs = two t; tasks = is_tasks t })

pub new-requires-2 : goal.new-requires-2
new-requires-2 c =
    let arch = c.args.arch.now in
    let whole : Program = record { monitors = c.in_ok-monitors.monitors; outputs = c.in_ok-outputs.outputs; tasks = c.in_ok-tasks.tasks } in
    let is : whole ≡ code_of arch = parts c.arch-system.result.now arch c.in_ok-monitors.monitors c.in_ok-outputs.outputs c.in_ok-tasks.tasks c.in_ok-monitors.ensures c.in_ok-outputs.ensures c.arch-system.ensures.value (measured_tasks c.new-measured.result c.args.arch.now c.in_ok-tasks.tasks c.in_ok-tasks.ensures c.new-measured.ensures) whole (λ t. whole) in
    subst KeepsRules (sym is) (rules_kept c.arch-system.ensures.accepted.0 arch c.arch-system.ensures.accepted.1)

pub returns-clause-program : goal.returns-clause-program
returns-clause-program c =
    parts c.arch-system.result.now c.args.arch.now c.in_ok-monitors.monitors c.in_ok-outputs.outputs c.in_ok-tasks.tasks c.in_ok-monitors.ensures c.in_ok-outputs.ensures c.arch-system.ensures.value (measured_tasks c.new-measured.result c.args.arch.now c.in_ok-tasks.tasks c.in_ok-tasks.ensures c.new-measured.ensures) c.new-2.result c.new-2.ensures

pub returns-clause-sound : goal.returns-clause-sound
returns-clause-sound c =
    let arch = c.args.arch.now in
    let is = parts c.arch-system.result.now arch c.in_ok-monitors.monitors c.in_ok-outputs.outputs c.in_ok-tasks.tasks c.in_ok-monitors.ensures c.in_ok-outputs.ensures c.arch-system.ensures.value (measured_tasks c.new-measured.result c.args.arch.now c.in_ok-tasks.tasks c.in_ok-tasks.ensures c.new-measured.ensures) c.new-2.result c.new-2.ensures in
    subst (Sound arch) (sym is) (sound c.arch-system.ensures.accepted.0 arch c.arch-system.ensures.accepted.1)

pub returns-clause-words : goal.returns-clause-words
returns-clause-words c =
    let arch = c.args.arch.now in
    let is = parts c.arch-system.result.now arch c.in_ok-monitors.monitors c.in_ok-outputs.outputs c.in_ok-tasks.tasks c.in_ok-monitors.ensures c.in_ok-outputs.ensures c.arch-system.ensures.value (measured_tasks c.new-measured.result c.args.arch.now c.in_ok-tasks.tasks c.in_ok-tasks.ensures c.new-measured.ensures) c.new-2.result c.new-2.ensures in
    subst (λ (p : Program). all_words p ≤ memory arch) (sym is) (sound c.arch-system.ensures.accepted.0 arch c.arch-system.ensures.accepted.1).shaped.memory

pub returns-clause-instructions : goal.returns-clause-instructions
returns-clause-instructions c =
    let arch = c.args.arch.now in
    let is = parts c.arch-system.result.now arch c.in_ok-monitors.monitors c.in_ok-outputs.outputs c.in_ok-tasks.tasks c.in_ok-monitors.ensures c.in_ok-outputs.ensures c.arch-system.ensures.value (measured_tasks c.new-measured.result c.args.arch.now c.in_ok-tasks.tasks c.in_ok-tasks.ensures c.new-measured.ensures) c.new-2.result c.new-2.ensures in
    subst (λ (p : Program). all_instructions p ≤ code arch) (sym is) (sound c.arch-system.ensures.accepted.0 arch c.arch-system.ensures.accepted.1).shaped.code
