-- Items, and what a handler needs and leaves.
use Rattle.std.specs.Prelude.{◌≡◌, ℕ, List, map, true}
use Rattle.tower_types.specs.Ty.{Shape, shapes_of, all, shape_in, table_of}
use Rattle.tower_types.specs.Value.{Value, fits}
use Rattle.tower_types.specs.View.{value_of}
use Rattle.tower_types.specs.declared.value.Value.{Value as ValueValue}
use Rattle.tower_syntax.specs.declared.arch.Listener.{Listener}
use Rattle.tower_syntax.specs.Arch.{Arch, Handler}
use Rattle.tower_syntax.specs.Typed.{IsTypedHandler}
use Rattle.tower_syntax.specs.Weights.{field_shapes, channel_message, states_of}
use Rattle.tower_syntax.specs.WellNumbered.{IsNumberedHandler}
use Rattle.tower_meaning.specs.Body.{Effect}
use Rattle.tower_meaning.specs.System.{Item}
use Rattle.tower_meaning.specs.Fits.{fits_on}
use Rattle.tower_meaning.specs.Fitting.{AreFittingLists}
use Rattle.atomic_state.specs.declared.frame.Frame.{Frame}

abbrev pub item_of : Listener × ValueValue → Item
item_of i = (i.0, value_of i.1)

-- the monitor's value and the lists of a frame
abbrev pub effect_in : Frame → Effect
effect_in f = record { states = f.states.value; lists = map (map value_of) f.lists.items }

-- the handler is typed, and the message, the monitor's value and the lists fit it
pub record CanHandle (arch : Arch) (h : Handler) (message : Value) (before : Effect) : Type 0 where
  pub numbered : IsNumberedHandler arch h
  pub typed : IsTypedHandler arch h
  pub message_fits : fits_on arch h.on message ≡ true
  pub states_fit : fits (all (shapes_of (field_shapes (table_of arch.records) (states_of arch h.monitor)))) before.states ≡ true
  pub lists_fit : AreFittingLists (map (λ e. shape_in (table_of arch.records) (channel_message arch e.channel)) h.emitters) before.lists
