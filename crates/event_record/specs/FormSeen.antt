-- The form of a mark, as definitions see it.
use Rattle.std.specs.Prelude.{◌≡◌, Option, Some, None}
use Rattle.event_record.specs.declared.order.Form.{Form as FormMade}
use Rattle.event_record.specs.declared.order.Form.TheVariants as made
use Rattle.event_record.specs.Order.{Form, arrives, marked}

abbrev pub IsForm : Option Form → Option FormMade → Type 0
IsForm wanted None = wanted ≡ None
IsForm wanted (Some made.Arrives) = wanted ≡ Some arrives
IsForm wanted (Some (made.Marked act name)) = wanted ≡ Some (marked act name.now)
