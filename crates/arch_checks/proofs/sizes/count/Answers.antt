use Rattle.std.proofs.Common.{◌≡◌, ◌≤◌, ◌^◌, ℕ, List, length, map, refl, sym, ap, subst, arith}
use Rattle.std.proofs.lemmas.List.{length-map}
use Rattle.tower_types.specs.Records.{saturated}
use Rattle.tower_syntax.specs.Arch.{Arch}
use Rattle.tower_syntax.specs.View.{source_of, channel_of, output_of, monitor_of, handler_of}
use Rattle.arch_checks.specs.declared.fault.What.{What}
use Rattle.arch_checks.specs.declared.fault.What.TheVariants as what
use Rattle.arch_checks.specs.Sizes.{Counts}
use Rattle.arch_checks.proofs.sizes.count.Goals as goal

-- the length of a list that is short enough for its numbers
counted : {X Y : Type 0} (arch : Arch) (v w : What) (items : List X) (ys : List Y) (view : X → Y) → v ≡ w → Counts arch v (length ys) → map view items ≡ ys → length ys ≤ 2 ^ 32 → (m : ℕ) × Counts arch w m × (length items ≡ saturated m)
counted arch v w items ys view same counts e few = (length ys, subst (λ x. Counts arch x (length ys)) same counts, omega (arith, ap length e, length-map items view, few))

pub returns-in-Sources : goal.returns-in-Sources
returns-in-Sources c = λ a. counted c.args.arch.now what.Sources c.args.what c.sources.result.now c.args.arch.now.sources source_of (sym c.in-Sources.is) refl c.sources.ensures.value c.sources.ensures.numbered.countable.sources

pub returns-in-Channels : goal.returns-in-Channels
returns-in-Channels c = λ a. counted c.args.arch.now what.Channels c.args.what c.channels.result.now c.args.arch.now.channels channel_of (sym c.in-Channels.is) refl c.channels.ensures.value c.channels.ensures.numbered.countable.channels

pub returns-in-Outputs : goal.returns-in-Outputs
returns-in-Outputs c = λ a. counted c.args.arch.now what.Outputs c.args.what c.outputs.result.now c.args.arch.now.outputs output_of (sym c.in-Outputs.is) refl c.outputs.ensures.value c.outputs.ensures.numbered.countable.outputs

pub returns-in-Monitors : goal.returns-in-Monitors
returns-in-Monitors c = λ a. counted c.args.arch.now what.Monitors c.args.what c.monitors.result.now c.args.arch.now.monitors monitor_of (sym c.in-Monitors.is) refl c.monitors.ensures.value c.monitors.ensures.numbered.countable.monitors

pub returns-in-Handlers : goal.returns-in-Handlers
returns-in-Handlers c = λ a. counted c.args.arch.now what.Handlers c.args.what c.handlers.result.now c.args.arch.now.handlers handler_of (sym c.in-Handlers.is) refl c.handlers.ensures.value c.handlers.ensures.numbered.countable.handlers
