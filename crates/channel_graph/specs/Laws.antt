-- What the laws say of the definitions.
use Rattle.std.specs.Prelude.{ℕ, ◌+◌, ◌<◌, ◌≤◌, ◌≡◌, ◌↔◌, Some, length, map, sum}
use Rattle.tower_syntax.specs.declared.arch.On.TheVariants as on
use Rattle.tower_syntax.specs.Arch.{Arch}
use Rattle.tower_syntax.specs.Graph.{handler, subs, Reaches}
use Rattle.tower_syntax.specs.Weights.{section, emitter_weight, subscribers_weight, message_words, deliver, cost}
use Rattle.tower_syntax.specs.WellNumbered.{AreListeners}
use Rattle.channel_graph.specs.declared.circuit.CycleFound.{CycleFound}
use Rattle.channel_graph.specs.Circuit.{IsAcyclic, shown}
use Rattle.channel_graph.specs.Chain.{IsChain}
use Rattle.channel_graph.specs.Shown.{IsShown}

-- each handler that the source reaches costs its section and all that its emitters hold, where those that these lead to cost as said
abbrev pub IsDelivery : Arch → ℕ → (ℕ → ℕ) → Type 0
IsDelivery arch s of_handler =
    (h : ℕ) → Reaches arch s h → of_handler h ≡ section arch (handler arch h) + sum (map (emitter_weight arch of_handler) (handler arch h).emitters)

-- where no source reaches a cycle, `deliver` is a recursion on the links
abbrev pub DeliverRecurs : Type 0
DeliverRecurs = (arch : Arch) (s : ℕ) → AreListeners arch → IsAcyclic arch → s < length arch.sources → IsDelivery arch s (deliver arch)

-- and whatever else is that recursion says the same
abbrev pub DeliverIsOnly : Type 0
DeliverIsOnly =
    (arch : Arch) (s : ℕ) (of_handler : ℕ → ℕ) → AreListeners arch → IsAcyclic arch → s < length arch.sources → IsDelivery arch s of_handler → (h : ℕ) → Reaches arch s h → of_handler h ≡ deliver arch h

-- so the cost of a source is the one that any such recursion gives
abbrev pub CostFollows : Type 0
CostFollows =
    (arch : Arch) (s : ℕ) (of_handler : ℕ → ℕ) → AreListeners arch → IsAcyclic arch → s < length arch.sources → IsDelivery arch s of_handler → cost arch s ≡ 64 + subscribers_weight of_handler (message_words arch (on.Source s)) (subs arch (on.Source s))

-- `shown` computes the one cycle that is shown
abbrev pub ShownIs : Type 0
ShownIs = (arch : Arch) (c : CycleFound) → AreListeners arch → (shown arch ≡ Some c) ↔ IsShown arch c

-- a walk from a source than which none is longer, with no more handlers than there are
pub record HasChain (arch : Arch) : Type 0 where
  pub handlers : ℕ
  pub is : IsChain arch handlers
  pub few : handlers ≤ length arch.handlers

-- where no source reaches a cycle there is one
abbrev pub ChainsExist : Type 0
ChainsExist = (arch : Arch) → AreListeners arch → IsAcyclic arch → HasChain arch
