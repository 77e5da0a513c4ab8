-- A small system that is well numbered.
use Rattle.std.proofs.Common.{◌≡◌, ◌<◌, ℕ, All, slice_get, [], ◌∷◌, codes, Some, refl, lit≤, lit<}
use Rattle.std.proofs.lemmas.List.Elements.{All-nil, All-cons}
use Rattle.tower_types.specs.declared.scalar.Scalar.TheVariants.{U32}
use Rattle.tower_types.specs.declared.scalar.BinOp.TheVariants.{Add}
use Rattle.tower_types.specs.Ty.{Fields, scalar}
use Rattle.tower_types.specs.Records.{IsTypeAmong}
use Rattle.tower_syntax.specs.declared.body.Root.TheVariants.{State}
use Rattle.tower_syntax.specs.declared.arch.On.TheVariants as on
use Rattle.tower_syntax.specs.Tree.{bin, set}
use Rattle.tower_syntax.specs.Arch.{Source, Monitor, Handler, Body}
use Rattle.tower_syntax.specs.Examples.{clock, period, monitor, handler, callback, whole, value_at, number}
use Rattle.tower_syntax.specs.WellNumbered.{IsWellNumbered, IsNumberedSource, IsNumberedHandler, IsNumberedBody, IsNumberedType, AreNumberedFields}

abbrev clock_source : Source
clock_source = period (codes "beat") 10 5

abbrev clock_monitor : Monitor
clock_monitor = monitor (codes "count") ((codes "n", scalar U32) ∷ [])

abbrev clock_body : Body
clock_body = callback (codes "t") [] (set (whole (State 0)) (bin Add U32 (value_at (State 0)) (number U32 1)) ∷ [])

abbrev clock_handler : Handler
clock_handler = handler (codes "tick") 0 (on.Source 0) [] clock_body

nothing_named : (r : ℕ) (fs : Fields) → slice_get {X = Fields} [] r ≡ Some fs → All (λ f. IsTypeAmong r f.1) fs
nothing_named r fs h = absurd (cc)

clock_handler_is_numbered : IsNumberedHandler clock clock_handler
clock_handler_is_numbered =
    record {
      monitor = lit< tt;
      on = lit< tt;
      few = lit≤ tt;
      emitters = All-nil (λ e. e.channel < 0);
      callbacks =
          All-cons (IsNumberedBody clock clock_handler) clock_body []
          (record { binders = (lit≤ tt, All-nil (λ f. IsNumberedType 0 f.1)); stmts = (((lit< tt, tt), ((lit< tt, tt), tt)), tt); shallow = lit≤ tt })
          (All-nil (IsNumberedBody clock clock_handler));
    }

pub clock_is_well_numbered : IsWellNumbered clock
clock_is_well_numbered =
    record {
      version = (lit≤ tt, lit≤ tt);
      countable = record { records = lit≤ tt; sources = lit≤ tt; channels = lit≤ tt; outputs = lit≤ tt; monitors = lit≤ tt; handlers = lit≤ tt };
      records = (nothing_named, All-nil (AreNumberedFields 0));
      record_names = refl;
      sources = All-cons (IsNumberedSource clock) clock_source [] (record { message = (tt, lit≤ tt); depth = refl }) (All-nil (IsNumberedSource clock));
      channels = All-nil (λ c. IsNumberedType 0 c.message);
      outputs = All-nil (λ o. o.channel < 0);
      monitors = All-cons (λ m. AreNumberedFields 0 m.states) clock_monitor [] (lit≤ tt, All-cons (λ f. IsNumberedType 0 f.1) (codes "n", scalar U32) [] (tt, lit≤ tt) (All-nil (λ f. IsNumberedType 0 f.1))) (All-nil (λ m. AreNumberedFields 0 m.states));
      handlers = All-cons (IsNumberedHandler clock) clock_handler [] clock_handler_is_numbered (All-nil (IsNumberedHandler clock));
      listeners = record { outputs = refl; handlers = refl };
    }
