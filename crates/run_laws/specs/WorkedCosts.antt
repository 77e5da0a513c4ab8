-- Worked cases of what messages cost.
use Rattle.std.specs.Prelude.{◌≡◌, pos, [], ◌∷◌, ◌++◌, replicate, None, Some}
use Rattle.tower_types.specs.Value.{word}
use Rattle.tower_syntax.specs.declared.arch.SourceKind.TheVariants.{Init, Period, Signal}
use Rattle.tower_syntax.specs.Arch.{tick, signal, Events}
use Rattle.tower_syntax.specs.Examples.{clock}
use Rattle.task_code.specs.WorkedListing.{ticking}
use Rattle.run_laws.specs.Costs.{messages, costs}

-- an init source, two periods and a signal, with six ticks and an entry of the signal behind the third
abbrev pub mixed : Events
mixed = record {
  kinds = Init ∷ Period 2 ∷ Period 3 ∷ Signal ∷ [];
  depths = None ∷ None ∷ None ∷ Some 1 ∷ [];
  entries = replicate 3 tick ++ signal 3 (word (pos 7)) ∷ replicate 3 tick;
}

pub record WorkedCosts : Type 0 where
  pub sources : messages mixed ≡ 0 ∷ 1 ∷ 2 ∷ 3 ∷ 1 ∷ 1 ∷ 2 ∷ []
  -- 25 ticks bring two messages to a period of 10 ms, of which each costs 216
  pub clock_costs : costs clock ticking ≡ 432
