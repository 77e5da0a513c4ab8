-- The trees that the program's values stand for.
use Rattle.std.specs.Prelude.{List, [], ◌∷◌, map}
use Rattle.tower_types.specs.View.{ty_of, fields_of, value_of}
use Rattle.tower_syntax.specs.Tree.{Expr, lit, read, un, bin, choose, cast, Place, place, Steps, no_steps, field, at, Stmt, bind, local, set, copy, branch, loop, emit, Stmts, no_stmts, stmt}
use Rattle.tower_syntax.specs.Arch.{Source, Channel, Output, Monitor, Emitter, Body, Handler, Arch, Entry, tick, signal, Events}
use Rattle.tower_syntax.specs.declared.arch.Source.{Source as SourceValue}
use Rattle.tower_syntax.specs.declared.arch.Channel.{Channel as ChannelValue}
use Rattle.tower_syntax.specs.declared.arch.Output.{Output as OutputValue}
use Rattle.tower_syntax.specs.declared.arch.Monitor.{Monitor as MonitorValue}
use Rattle.tower_syntax.specs.declared.arch.Emitter.{Emitter as EmitterValue}
use Rattle.tower_syntax.specs.declared.arch.Handler.{Handler as HandlerValue}
use Rattle.tower_syntax.specs.declared.arch.ArchParts.{ArchParts as ArchValue}
use Rattle.tower_syntax.specs.declared.body.Body.{Body as BodyValue}
use Rattle.tower_syntax.specs.declared.body.Expr.{Expr as ExprValue}
use Rattle.tower_syntax.specs.declared.body.Place.{Place as PlaceValue}
use Rattle.tower_syntax.specs.declared.body.Expr.TheOpen.{PlaceStep-F, Place-F, Expr-F}
use Rattle.tower_syntax.specs.declared.body.Expr.TheFolds.{fold-Expr, fold-Place}
use Rattle.tower_syntax.specs.declared.body.Stmt.{Stmt as StmtValue}
use Rattle.tower_syntax.specs.declared.body.Stmt.TheOpen.{Stmt-F}
use Rattle.tower_syntax.specs.declared.body.Stmt.TheFolds.{fold-Stmt}
use Rattle.tower_syntax.specs.declared.event.Entry.{Entry as EntryValue}
use Rattle.tower_syntax.specs.declared.event.Entry.TheVariants as entry
use Rattle.tower_syntax.specs.declared.event.Events.{Events as EventsValue}

-- one step of a place, put before the rest
abbrev pub Step : Type 0
Step = Steps → Steps

abbrev pub step_step : PlaceStep-F Expr Step Place → Step
step_step (PlaceStep-F.Field k) rest = field k rest
step_step (PlaceStep-F.At e) rest = at e rest

abbrev pub steps_of : List Step → Steps
steps_of [] = no_steps
steps_of (s ∷ ss) = s (steps_of ss)

abbrev pub place_step : Place-F Expr Step Place → Place
place_step p = place p.root (steps_of p.steps)

abbrev pub expr_step : Expr-F Expr Step Place → Expr
expr_step (Expr-F.Lit t n) = lit t n
expr_step (Expr-F.Read p) = read p
expr_step (Expr-F.Un op t a) = un op t a
expr_step (Expr-F.Bin op t a b) = bin op t a b
expr_step (Expr-F.Cond c a b) = choose c a b
expr_step (Expr-F.Cast t a) = cast t a

abbrev pub expr_of : ExprValue → Expr
expr_of = fold-Expr Expr Step Place expr_step step_step place_step

abbrev pub place_of : PlaceValue → Place
place_of = fold-Place Expr Step Place expr_step step_step place_step

abbrev pub stmts_of : List Stmt → Stmts
stmts_of [] = no_stmts
stmts_of (s ∷ ss) = stmt s (stmts_of ss)

abbrev pub stmt_step : Stmt-F Stmt → Stmt
stmt_step (Stmt-F.Bind b e) = bind b (expr_of e)
stmt_step (Stmt-F.Local b) = local b
stmt_step (Stmt-F.Set p e) = set (place_of p) (expr_of e)
stmt_step (Stmt-F.Copy p q) = copy (place_of p) (place_of q)
stmt_step (Stmt-F.Branch e a b) = branch (expr_of e) (stmts_of a) (stmts_of b)
stmt_step (Stmt-F.Loop b n body) = loop b n (stmts_of body)
stmt_step (Stmt-F.Emit k e) = emit k (expr_of e)

abbrev pub stmt_of : StmtValue → Stmt
stmt_of = fold-Stmt Stmt stmt_step

abbrev pub all_stmts_of : List StmtValue → Stmts
all_stmts_of ss = stmts_of (map stmt_of ss)

abbrev pub source_of : SourceValue → Source
source_of s = record { name = s.name; kind = s.kind; priority = s.priority; message = ty_of s.message; depth = s.depth }

abbrev pub channel_of : ChannelValue → Channel
channel_of c = record { name = c.name; message = ty_of c.message }

abbrev pub output_of : OutputValue → Output
output_of o = record { name = o.name; channel = o.channel }

abbrev pub monitor_of : MonitorValue → Monitor
monitor_of m = record { name = m.name; states = fields_of m.states }

abbrev pub emitter_of : EmitterValue → Emitter
emitter_of e = record { name = e.name; channel = e.channel; bound = e.bound }

abbrev pub body_of : BodyValue → Body
body_of b = record { param = b.param; binders = fields_of b.binders; stmts = all_stmts_of b.stmts }

abbrev pub handler_of : HandlerValue → Handler
handler_of h = record { name = h.name; monitor = h.monitor; on = h.on; emitters = map emitter_of h.emitters; callbacks = map body_of h.callbacks }

abbrev pub arch_of : ArchValue → Arch
arch_of a =
    record {
      version = a.version;
      name = a.name;
      records = a.records;
      record_names = a.record_names;
      sources = map source_of a.sources;
      channels = map channel_of a.channels;
      outputs = map output_of a.outputs;
      monitors = map monitor_of a.monitors;
      handlers = map handler_of a.handlers;
      listeners = a.listeners;
    }

abbrev pub entry_of : EntryValue → Entry
entry_of entry.Tick = tick
entry_of (entry.Signal x v) = signal x (value_of v)

abbrev pub events_of : EventsValue → Events
events_of e = record { kinds = e.kinds; depths = e.depths; entries = map entry_of e.entries }
