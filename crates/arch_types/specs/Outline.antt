-- What a file declares, in text order: all of its checked tree but the handlers.
use Rattle.std.specs.Prelude.{ℕ, ◌+◌, List, [], ◌∷◌, ◌++◌, map, None}
use Rattle.tower_types.specs.declared.scalar.Scalar.TheVariants.{I64}
use Rattle.tower_types.specs.Ty.{Ty, Name, Fields, scalar}
use Rattle.tower_syntax.specs.declared.named.Target.{Target}
use Rattle.tower_syntax.specs.declared.named.Target.TheVariants as target
use Rattle.tower_syntax.specs.declared.arch.SourceKind.TheVariants as kind
use Rattle.tower_syntax.specs.declared.arch.On.{On}
use Rattle.tower_syntax.specs.declared.arch.On.TheVariants as on
use Rattle.tower_syntax.specs.declared.arch.Listener.{Listener}
use Rattle.tower_syntax.specs.declared.arch.Listener.TheVariants as to
use Rattle.tower_syntax.specs.RawTree.{Id, Link, RawField, RawHpart, emitter, callback, RawPart, state, handler, RawItem, fields, init, period, signal, channel, output, monitor, Raw, RawStmts}
use Rattle.tower_syntax.specs.Arch.{Source, Channel, Output, Monitor, Emitter, Handler, Arch}
use Rattle.arch_types.specs.Typing.{type_of}

-- what each element gives, one after the other
abbrev pub each : {X Y : Type 0} → (X → List Y) → List X → List Y
each of [] = []
each of (x ∷ xs) = of x ++ each of xs

abbrev pub field : RawField Link → Name × Ty
field f = (f.name.name, type_of f.ty)

abbrev pub record_of : RawItem Link → List Fields
record_of (fields at i fs) = map field fs ∷ []
record_of _ = []

abbrev pub record_name_of : RawItem Link → List Name
record_name_of (fields at i fs) = i.name ∷ []
record_name_of _ = []

-- the message of an initialisation or a period is an i64
abbrev pub source_of : RawItem Link → List Source
source_of (init at i p) = record { name = i.name; kind = kind.Init; priority = p; message = scalar I64; depth = None } ∷ []
source_of (period at i ms p d) = record { name = i.name; kind = kind.Period ms; priority = p; message = scalar I64; depth = d } ∷ []
source_of (signal at i t p d) = record { name = i.name; kind = kind.Signal; priority = p; message = type_of t; depth = d } ∷ []
source_of _ = []

abbrev pub channel_of : RawItem Link → List Channel
channel_of (channel at i t) = record { name = i.name; message = type_of t } ∷ []
channel_of _ = []

abbrev pub channel_number : Target → ℕ
channel_number (target.Channel c) = c
channel_number _ = 0

abbrev pub output_of : RawItem Link → List Output
output_of (output at i u) = record { name = i.name; channel = channel_number u.target } ∷ []
output_of _ = []

abbrev pub state_of : RawPart Link → Fields
state_of (state at i t) = (i.name, type_of t) ∷ []
state_of (handler at i u hs) = []

abbrev pub monitor_of : RawItem Link → List Monitor
monitor_of (monitor at i ps) = record { name = i.name; states = each state_of ps } ∷ []
monitor_of _ = []

-- the outputs and handlers, each kind numbered from a number on
abbrev pub part_listeners : ℕ → List (RawPart Link) → List Listener
part_listeners h [] = []
part_listeners h (state at i t ∷ ps) = part_listeners h ps
part_listeners h (handler at i u hs ∷ ps) = to.Handler h ∷ part_listeners (h + 1) ps

abbrev pub handlers_in : List (RawPart Link) → ℕ
handlers_in [] = 0
handlers_in (state at i t ∷ ps) = handlers_in ps
handlers_in (handler at i u hs ∷ ps) = handlers_in ps + 1

abbrev pub listeners : ℕ → ℕ → List (RawItem Link) → List Listener
listeners o h [] = []
listeners o h (output at i u ∷ items) = to.Output o ∷ listeners (o + 1) h items
listeners o h (monitor at i ps ∷ items) = part_listeners h ps ++ listeners o (h + handlers_in ps) items
listeners o h (_ ∷ items) = listeners o h items

abbrev pub outline : Raw Link → Arch
outline raw = record {
  version = raw.version;
  name = raw.name.name;
  records = each record_of raw.items;
  record_names = each record_name_of raw.items;
  sources = each source_of raw.items;
  channels = each channel_of raw.items;
  outputs = each output_of raw.items;
  monitors = each monitor_of raw.items;
  handlers = [];
  listeners = listeners 0 0 raw.items;
}

abbrev pub with_handlers : Arch → List Handler → Arch
with_handlers arch hs = record {
  version = arch.version;
  name = arch.name;
  records = arch.records;
  record_names = arch.record_names;
  sources = arch.sources;
  channels = arch.channels;
  outputs = arch.outputs;
  monitors = arch.monitors;
  handlers = hs;
  listeners = arch.listeners;
}

-- a handler as it stands in the text, with the number of its monitor
pub record Written : Type 0 where
  pub monitor : ℕ
  pub name : Id
  pub on : Link
  pub parts : List (RawHpart Link)

abbrev pub written_of : ℕ → RawPart Link → List Written
written_of m (state at i t) = []
written_of m (handler at i u hs) = record { monitor = m; name = i; on = u; parts = hs } ∷ []

abbrev pub handlers_from : ℕ → List (RawItem Link) → List Written
handlers_from m [] = []
handlers_from m (monitor at i ps ∷ items) = each (written_of m) ps ++ handlers_from (m + 1) items
handlers_from m (_ ∷ items) = handlers_from m items

abbrev pub handlers_of : Raw Link → List Written
handlers_of raw = handlers_from 0 raw.items

abbrev pub on_of : Target → On
on_of (target.Source s) = on.Source s
on_of (target.Channel c) = on.Channel c
on_of _ = on.Source 0

abbrev pub emitter_of : RawHpart Link → List Emitter
emitter_of (emitter at i u n) = record { name = i.name; channel = channel_number u.target; bound = n } ∷ []
emitter_of (callback at i ss) = []

-- a callback's name with its statements
abbrev pub callback_of : RawHpart Link → List (Id × RawStmts Link)
callback_of (emitter at i u n) = []
callback_of (callback at i ss) = (i, ss) ∷ []
