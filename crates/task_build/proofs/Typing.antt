-- What typing says of handlers, places and messages.
use Rattle.std.proofs.Common.{◌≡◌, ℕ, zero, suc, List, [], ◌∷◌, map, All, Some, ap, slice_get, slice_index_or}
use Rattle.std.proofs.lemmas.List.Elements.{All-head, All-tail, All-nil}
use Rattle.std.proofs.lemmas.Option.{same_Some, none-some}
use Rattle.tower_types.specs.declared.scalar.Scalar.TheVariants.{I64}
use Rattle.tower_types.specs.Ty.{Ty, scalar, Shape, one, many, all, words, shape_in, table_of}
use Rattle.tower_syntax.specs.declared.arch.On.TheVariants as on
use Rattle.tower_syntax.specs.Arch.{Arch, Source, Handler}
use Rattle.tower_syntax.specs.Graph.{handler, no_handler}
use Rattle.tower_syntax.specs.Tree.{Place, place, Steps, no_steps, field, at}
use Rattle.tower_syntax.specs.Weights.{Scope, root_shape, steps_shape, place_shape, message_words}
use Rattle.tower_syntax.specs.Typed.{Names, HasShape, Leads, IsTyped, IsTypedHandler}

-- each handler's callbacks are typed, also where none stands
pub typed_handler : (arch : Arch) → IsTyped arch → (h : ℕ) → IsTypedHandler arch (handler arch h)
typed_handler arch typed h = looked arch.handlers h typed.handlers
  where
    none : IsTypedHandler arch no_handler
    none = record { names = All-nil _; callbacks = All-nil _ }

    looked : (hs : List Handler) (h : ℕ) → All (IsTypedHandler arch) hs → IsTypedHandler arch (slice_index_or hs h no_handler)
    looked [] h each = none
    looked (q ∷ hs) zero each = All-head (IsTypedHandler arch) q hs each
    looked (q ∷ hs) (suc h) each = looked hs h (All-tail (IsTypedHandler arch) q hs each)

-- steps that are typed lead to the shape that they have
leads_shape : (scope : Scope) (names : Names) (steps : Steps) (s t : Shape) → Leads scope names s steps t → steps_shape s steps ≡ t
leads_shape scope names no_steps s t h = h
leads_shape scope names (field k rest) (one c) t h = absurd h
leads_shape scope names (field k rest) (many n s) t h = absurd h
leads_shape scope names (field k rest) (all ss) t h = leads_shape scope names rest _ t h.1
leads_shape scope names (at e rest) (one c) t h = absurd h
leads_shape scope names (at e rest) (many n s) t h = leads_shape scope names rest s t h.1
leads_shape scope names (at e rest) (all ss) t h = absurd h

pub shape_is : (scope : Scope) (names : Names) (p : Place) (s : Shape) → HasShape scope names p s → place_shape scope p ≡ s
shape_is scope names (place r steps) s h = leads_shape scope names steps (root_shape scope r) s h.1

message_found : (sources : List Source) (x : ℕ) (q : Source) (d : Ty) → slice_get sources x ≡ Some q → slice_index_or (map (λ s. s.message) sources) x d ≡ q.message
message_found [] x q d e = absurd (none-some q e)
message_found (s ∷ sources) zero q d e = ap (λ s. s.message) (same_Some s q e)
message_found (s ∷ sources) (suc x) q d e = message_found sources x q d e

pub message_is : (arch : Arch) (x : ℕ) (q : Source) → slice_get arch.sources x ≡ Some q → message_words arch (on.Source x) ≡ words (shape_in (table_of arch.records) q.message)
message_is arch x q e = ap (λ t. words (shape_in (table_of arch.records) t)) (message_found arch.sources x q (scalar I64) e)
