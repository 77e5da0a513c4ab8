-- The handlers of a file as they are computed, in text order; the first that is wrong ends it.
use Rattle.std.specs.Prelude.{◌≡◌, ◌⊎◌, ℕ, List, [], ◌∷◌, ◌++◌, Option, Some, None, Result, Ok, Err}
use Rattle.tower_syntax.specs.RawTree.{Id, Link, RawItem, RawStmts}
use Rattle.tower_syntax.specs.View.{stmts_of}
use Rattle.tower_syntax.specs.Arch.{Arch, Body, Handler}
use Rattle.tower_syntax.specs.Weights.{states_of}
use Rattle.arch_types.specs.declared.fault.TypeFault.{TypeFault}
use Rattle.arch_types.specs.declared.fault.TypeFault.TheVariants as fault
use Rattle.arch_types.specs.declared.high.High.{High}
use Rattle.arch_types.specs.Outline.{each, Written, on_of, emitter_of, callback_of, handlers_from}
use Rattle.arch_types.specs.File.{message_on, messages}
use Rattle.arch_types.specs.Walk.{Known, and_then, deep, walked_all}

-- each element in turn
abbrev pub in_turn : {X Y : Type 0} → (X → Result Y TypeFault) → List X → Result (List Y) TypeFault
in_turn f [] = Ok []
in_turn f (x ∷ xs) = and_then (f x) (λ y. and_then (in_turn f xs) (λ ys. Ok (y ∷ ys)))

-- behind what was made
abbrev pub put_after : {Y : Type 0} → List Y → Result (List Y) TypeFault → Result (List Y) TypeFault
put_after made r = and_then r (λ ys. Ok (made ++ ys))

-- some elements were gone through, whatever follows them
abbrev pub Went : {X Y : Type 0} → List Y → (X → Result Y TypeFault) → List X → List Y → Type 0
Went {X} {Y} old f xs new = (rest : List X) → put_after old (in_turn f (xs ++ rest)) ≡ put_after new (in_turn f rest)

-- memory ended, or one of the elements has a fault, whatever follows them
abbrev pub Stops : {X Y : Type 0} → (X → Result Y TypeFault) → List X → TypeFault → Type 0
Stops {X} {Y} f xs e = (e ≡ fault.NoMemory) ⊎ ((rest : List X) → in_turn f (xs ++ rest) ≡ Err e)

-- what is too high is the fault where there is no other
abbrev pub finished : Option High → Body → Result Body TypeFault
finished None b = Ok b
finished (Some d) b = Err (deep d)

abbrev pub bodied : Known → Id × RawStmts Link → Result Body TypeFault
bodied γ c = and_then (walked_all γ c.1) (λ r. finished r.high (record { param = c.0.name; binders = r.binders; stmts = stmts_of r.trees }))

-- what a handler's callbacks know at their beginning
abbrev pub known_in : Arch → Written → Known
known_in arch w = record {
  names = arch.record_names;
  records = arch.records;
  message = message_on arch (on_of w.on.target);
  states = states_of arch w.monitor;
  emitters = messages arch (each emitter_of w.parts);
  binders = [];
  writable = [];
}

abbrev pub handled : Arch → Written → Result Handler TypeFault
handled arch w = and_then (in_turn (bodied (known_in arch w)) (each callback_of w.parts)) (λ bs. Ok (record {
  name = w.name.name;
  monitor = w.monitor;
  on = on_of w.on.target;
  emitters = each emitter_of w.parts;
  callbacks = bs;
}))

-- the same of an item, whose handlers are those of the monitor with this number; the next monitor's number behind it
abbrev pub WentItem : (Written → Result Handler TypeFault) → List Handler → ℕ → RawItem Link → List Handler → ℕ → Type 0
WentItem f old m item new n = (rest : List (RawItem Link)) → put_after old (in_turn f (handlers_from m (item ∷ rest))) ≡ put_after new (in_turn f (handlers_from n rest))

abbrev pub StopsItem : (Written → Result Handler TypeFault) → ℕ → RawItem Link → TypeFault → Type 0
StopsItem f m item e = (e ≡ fault.NoMemory) ⊎ ((rest : List (RawItem Link)) → in_turn f (handlers_from m (item ∷ rest)) ≡ Err e)
