-- What a source reaches is part of the system's memory.
use Rattle.std.proofs.Common.{ℕ, ◌<◌, ◌≤◌, length, subst, arith}
use Rattle.std.proofs.lemmas.List.Elements.{All-get_or}
use Rattle.tower_syntax.specs.declared.arch.On.TheVariants as on
use Rattle.tower_syntax.specs.declared.arch.Listener.TheVariants as to
use Rattle.tower_syntax.specs.Arch.{Arch}
use Rattle.tower_syntax.specs.Graph.{no_handler, handler, subs, hears, Reaches, begins, goes, reached_by}
use Rattle.tower_syntax.specs.Weights.{handler_memory, source_memory, source_numbers, memory}
use Rattle.tower_syntax.specs.WellNumbered.{IsWellNumbered, IsNumberedHandler, IsNumberedOn}
use Rattle.tower_meaning.proofs.Effects.{Exists}
use Rattle.tower_meaning.proofs.KeepsTypes.{listeners_exist}
use Rattle.channel_graph.proofs.Members.{filter_has, In-from_contains, below_number}
use Rattle.channel_graph.proofs.Closed.{reached_is_listed}
use Rattle.stmt_code.proofs.Roots.{in_sum}
use Rattle.emit_code.proofs.Listed.{all_in}
use Rattle.task_build.proofs.Headed.{same_on_source}

module _ (arch : Arch) (w : IsWellNumbered arch) where
  -- a source that reaches a handler exists
  pub source_exists : (x h : ℕ) → Reaches arch x h → x < length arch.sources
  source_exists x h (begins k c) =
      let there = filter_has (hears arch (on.Source x)) arch.listeners (to.Handler k) (In-from_contains (subs arch (on.Source x)) (to.Handler k) c) in
      let here : k < length arch.handlers = all_in (Exists arch) arch.listeners (to.Handler k) (listeners_exist arch w) there.0 in
      let numbered : IsNumberedHandler arch (handler arch k) = All-get_or (IsNumberedHandler arch) arch.handlers k no_handler here w.handlers in
      subst (IsNumberedOn arch) (same_on_source (handler arch k).on x there.1) numbered.on
  source_exists x h (goes g k r led) = source_exists x g r

  -- the memory of a reached handler is part of its system's
  pub handler_in_memory : (x h : ℕ) → Reaches arch x h → handler_memory arch (handler arch h) ≤ memory arch
  handler_in_memory x h r =
      let q1 = in_sum (λ k. handler_memory arch (handler arch k)) (reached_by arch x) h (reached_is_listed arch x h w.listeners r) in
      let q2 = in_sum (source_memory arch) (source_numbers arch) x (below_number (length arch.sources) x (source_exists x h r)) in
      omega (arith, q1, q2)
