-- A value that is being changed.
use Rattle.tower_types.specs.Value.{Value}

pub record Drafted : Type 0 where
  pub value : Value
  pub before : Value
