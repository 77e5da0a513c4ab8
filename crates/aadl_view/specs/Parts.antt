-- The view that the program's parts stand for.
use Rattle.std.specs.Prelude.{List, map}
use Rattle.tower_types.specs.View.{ty_of}
use Rattle.tower_syntax.specs.View.{channel_of, emitter_of}
use Rattle.aadl_view.specs.declared.view.SourceView.{SourceView as SourceValue}
use Rattle.aadl_view.specs.declared.view.HandlerView.{HandlerView as HandlerValue}
use Rattle.aadl_view.specs.declared.view.ListenerView.{ListenerView as ListenerValue}
use Rattle.aadl_view.specs.declared.view.ListenerView.TheVariants as listener
use Rattle.aadl_view.specs.declared.view.ViewParts.{ViewParts}
use Rattle.aadl_view.specs.View.{SourceView, HandlerView, ListenerView, hears, handles, ArchView}

abbrev pub source_view_of : SourceValue → SourceView
source_view_of s = record { name = s.name; kind = s.kind; priority = s.priority; message = ty_of s.message; depth = s.depth; touches = s.touches }

abbrev pub handler_view_of : HandlerValue → HandlerView
handler_view_of h = record { name = h.name; monitor = h.monitor; on = h.on; emitters = map emitter_of h.emitters }

abbrev pub listener_view_of : ListenerValue → ListenerView
listener_view_of (listener.Output n c) = hears n c
listener_view_of (listener.Handler h) = handles (handler_view_of h)

abbrev pub arch_view_of : ViewParts → ArchView
arch_view_of p = record {
  version = p.version;
  name = p.name;
  records = p.records;
  record_names = p.record_names;
  sources = map source_view_of p.sources;
  channels = map channel_of p.channels;
  listeners = map listener_view_of p.listeners;
  monitors = p.monitors;
}
