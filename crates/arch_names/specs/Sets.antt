-- The sets of names of a file, each in text order, with the numbers of what they declare.
use Rattle.std.specs.Prelude.{ℕ, ◌+◌, List, [], ◌∷◌, ◌++◌}
use Rattle.tower_types.specs.Ty.{Name}
use Rattle.tower_syntax.specs.declared.named.Target.{Target}
use Rattle.tower_syntax.specs.declared.named.Target.TheVariants as target
use Rattle.tower_syntax.specs.RawTree.{Id, RawField, RawHpart, emitter, callback, RawPart, state, handler, RawItem, fields, init, period, signal, channel, output, monitor}
use Rattle.arch_names.specs.declared.names.Declared.{Declared}
use Rattle.arch_names.specs.declared.names.Thing.{Thing}
use Rattle.arch_names.specs.declared.names.Thing.TheVariants as thing
use Rattle.arch_names.specs.declared.names.Counts.{Counts}
use Rattle.arch_names.specs.Names.{Names}

abbrev pub declared_as : {T : Type 0} → Id → T → Name × Declared T
declared_as x what = (x.name, record { at = x.at; what = what })

-- what each element declares, one after the other
abbrev pub each : {X Y : Type 0} → (X → List Y) → List X → List Y
each of [] = []
each of (x ∷ xs) = of x ++ each of xs

-- the same where what an element declares depends on a number, or several, that the next element takes on
abbrev pub counting : {N X Y : Type 0} → (N → X → List Y) → (N → X → N) → N → List X → List Y
counting of next n [] = []
counting of next n (x ∷ xs) = of n x ++ counting of next (next n x) xs

-- the fields of a record
abbrev pub fields_of : List (RawField Id) → Names (Unit {0})
fields_of fs = each (λ f. declared_as f.name tt ∷ []) fs

-- the emitters of a handler
abbrev pub emitter_of : ℕ → RawHpart Id → Names Target
emitter_of n (emitter at x u bound) = declared_as x (target.Emitter n) ∷ []
emitter_of n (callback at x ss) = []

abbrev pub next_emitter : ℕ → RawHpart Id → ℕ
next_emitter n (emitter at x u bound) = n + 1
next_emitter n (callback at x ss) = n

abbrev pub emitters_of : List (RawHpart Id) → Names Target
emitters_of hs = counting emitter_of next_emitter 0 hs

-- the states of a monitor
abbrev pub state_of : ℕ → RawPart Id → Names Target
state_of n (state at x t) = declared_as x (target.State n) ∷ []
state_of n (handler at x u hs) = []

abbrev pub next_state : ℕ → RawPart Id → ℕ
next_state n (state at x t) = n + 1
next_state n (handler at x u hs) = n

abbrev pub states_of : List (RawPart Id) → Names Target
states_of ps = counting state_of next_state 0 ps

-- its handlers
abbrev pub handler_of : RawPart Id → Names Thing
handler_of (state at x t) = []
handler_of (handler at x u hs) = declared_as x thing.Handler ∷ []

-- what an item declares in the file's one set, where so many records, sources and channels stand before it
abbrev pub declared_by : Counts → RawItem Id → Names Thing
declared_by n (fields at x fs) = declared_as x (thing.Record n.records) ∷ []
declared_by n (init at x p) = declared_as x (thing.Source n.sources) ∷ []
declared_by n (period at x ms p d) = declared_as x (thing.Source n.sources) ∷ []
declared_by n (signal at x t p d) = declared_as x (thing.Source n.sources) ∷ []
declared_by n (channel at x t) = declared_as x (thing.Channel n.channels) ∷ []
declared_by n (output at x u) = declared_as x thing.Output ∷ []
declared_by n (monitor at x ps) = declared_as x thing.Monitor ∷ each handler_of ps

-- how many stand before the next item
abbrev pub counted : Counts → RawItem Id → Counts
counted n (fields at x fs) = record n { records = n.records + 1 }
counted n (init at x p) = record n { sources = n.sources + 1 }
counted n (period at x ms p d) = record n { sources = n.sources + 1 }
counted n (signal at x t p d) = record n { sources = n.sources + 1 }
counted n (channel at x t) = record n { channels = n.channels + 1 }
counted n (output at x u) = n
counted n (monitor at x ps) = n

abbrev pub none_before : Counts
none_before = record { records = 0; sources = 0; channels = 0 }

-- the file's one set
abbrev pub declared_in : List (RawItem Id) → Names Thing
declared_in is = counting declared_by counted none_before is
