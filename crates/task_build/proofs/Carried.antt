-- Each entry of a task of an accepted system carries out its item.
use Rattle.std.proofs.Common.{ℕ, ◌<◌, ◌≤◌, List, length, refl, arith}
use Rattle.std.proofs.lemmas.Option.{slice_get_within}
use Rattle.tower_syntax.specs.Arch.{Arch, Source}
use Rattle.tower_syntax.specs.Graph.{handler, Reaches}
use Rattle.tower_syntax.specs.WellNumbered.{AreListeners}
use Rattle.tower_syntax.specs.Weights.{deliver, handler_memory, memory}
use Rattle.tower_meaning.proofs.KeepsTypes.{keeps_types}
use Rattle.task_code.specs.declared.program.Task.{Task}
use Rattle.channel_graph.specs.Chain.{LeadsAlong}
use Rattle.channel_graph.proofs.Recursed.{deliver_recurs}
use Rattle.arch_checks.specs.declared.fault.What.TheVariants as what
use Rattle.arch_checks.specs.Laws.{IsSafe}
use Rattle.arch_checks.proofs.Accepted.{safe}
use Rattle.arch_checks.proofs.Facts.{walks_short}
use Rattle.task_build.specs.CodeOf.{task_of, code_of}
use Rattle.task_build.specs.TaskEntries.{entries_of, Planned}
use Rattle.task_build.specs.Laws.{TasksArePlanned, EntriesCarry}
use Rattle.task_build.proofs.Handled.{sections_run, entry_visits}
use Rattle.task_build.proofs.Lone.{no_cycle, walk_to}
use Rattle.task_build.proofs.Roots.{handler_in_memory}
use Rattle.task_build.proofs.Coded.{planned, headed}
use Rattle.task_build.proofs.Closing.{small_bounds}

plan : (arch : Arch) → IsSafe arch → (x : ℕ) (source : Source) → Planned arch (code_of arch) (task_of arch x source) x (entries_of arch x)
plan arch s x source = planned arch s.numbered.listeners x source (small_bounds arch s.numbers)

pub are_planned : TasksArePlanned
are_planned bs arch accepted x source there =
    let s : IsSafe arch = safe bs arch accepted in
    (headed arch s.numbered.listeners x source, plan arch s x source)

pub entries_carry : EntriesCarry
entries_carry bs arch accepted x source there h r calls room =
    let s : IsSafe arch = safe bs arch accepted in
    let listed : AreListeners arch = s.numbered.listeners in
    let t : Task = task_of arch x source in
    let exists : x < length arch.sources = slice_get_within arch.sources x source there in
    let short : (k : ℕ) → Reaches arch x k → (ks : List ℕ) → LeadsAlong arch k ks → length ks < 100 = λ k rk ks along.
    let w = walk_to arch x exists k rk ks along in
    let one : length ks < length w.0 = w.2 in
    let two : length w.0 ≤ 100 = walks_short bs arch accepted w.0 w.1 in
    omega (arith, one, two) in
    let within : (k : ℕ) → Reaches arch x k → handler_memory arch (handler arch k) ≤ 1048576 = λ k rk.
    let whole : memory arch ≤ 1048576 = s.within what.Memory (memory arch) refl in
    let part = handler_in_memory arch s.numbered x k rk in
    omega (arith, whole, part) in
    entry_visits arch (code_of arch) t x (entries_of arch x) (plan arch s x source) listed (λ k rk b. no_cycle arch 100 k (short k rk) b) (keeps_types arch s.numbered s.typed) (deliver arch)
    (deliver_recurs arch x listed s.acyclic exists) (λ k rk. sections_run arch (code_of arch) t x (entries_of arch x) (plan arch s x source) s k rk (within k rk)) 100 h r (short h r) calls room
