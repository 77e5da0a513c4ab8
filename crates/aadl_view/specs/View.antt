-- The architecture of a system: its names, types, kinds, links, bounds and touched monitors, without states and bodies.
use Rattle.std.specs.Prelude.{ℕ, suc, List, [], ◌∷◌, map, Option}
use Rattle.tower_types.specs.Ty.{Ty, Name, Records}
use Rattle.tower_syntax.specs.declared.arch.SourceKind.{SourceKind}
use Rattle.tower_syntax.specs.declared.arch.On.{On}
use Rattle.tower_syntax.specs.declared.arch.Listener.{Listener}
use Rattle.tower_syntax.specs.declared.arch.Listener.TheVariants as to
use Rattle.tower_syntax.specs.Arch.{Arch, Source, Channel, Output, Emitter, Handler}
use Rattle.tower_syntax.specs.Graph.{handler, output, reached_by}
use Rattle.thread_split.specs.Plans.{monitors_of}

-- `touches` are the monitors of the handlers that the source reaches, ascending
pub record SourceView : Type 0 where
  pub name : Name
  pub kind : SourceKind
  pub priority : ℕ
  pub message : Ty
  pub depth : Option ℕ
  pub touches : List ℕ

pub record HandlerView : Type 0 where
  pub name : Name
  pub monitor : ℕ
  pub on : On
  pub emitters : List Emitter

pub data ListenerView : Type 0 where
  hears : Name → ℕ → ListenerView  -- an output, and its channel
  handles : HandlerView → ListenerView

pub record ArchView : Type 0 where
  pub version : ℕ
  pub name : Name
  pub records : Records
  pub record_names : List Name
  pub sources : List SourceView
  pub channels : List Channel
  pub listeners : List ListenerView
  pub monitors : List Name

-- ---- that of a system

abbrev pub source_view : Arch → ℕ → Source → SourceView
source_view arch x s = record {
  name = s.name;
  kind = s.kind;
  priority = s.priority;
  message = s.message;
  depth = s.depth;
  touches = monitors_of arch (reached_by arch x);
}

-- of the sources from number x on
abbrev pub source_views : Arch → ℕ → List Source → List SourceView
source_views arch x [] = []
source_views arch x (s ∷ ss) = source_view arch x s ∷ source_views arch (suc x) ss

abbrev pub output_view : Output → ListenerView
output_view o = hears o.name o.channel

abbrev pub handler_view : Handler → ListenerView
handler_view h = handles (record { name = h.name; monitor = h.monitor; on = h.on; emitters = h.emitters })

abbrev pub listener_view : Arch → Listener → ListenerView
listener_view arch (to.Output o) = output_view (output arch o)
listener_view arch (to.Handler h) = handler_view (handler arch h)

abbrev pub view : Arch → ArchView
view arch = record {
  version = arch.version;
  name = arch.name;
  records = arch.records;
  record_names = arch.record_names;
  sources = source_views arch 0 arch.sources;
  channels = arch.channels;
  listeners = map (listener_view arch) arch.listeners;
  monitors = map (λ m. m.name) arch.monitors;
}
