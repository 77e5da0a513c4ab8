-- The system that a generated file is.
use Rattle.std.specs.Prelude.{ℕ, ◌+◌, Bool, nat_lt, if◌then◌else◌, List, [], ◌∷◌, ◌++◌, map, codes, pos, None}
use Rattle.tower_types.specs.declared.scalar.Scalar.TheVariants.{U32, I64, Ix}
use Rattle.tower_types.specs.declared.scalar.BinOp.TheVariants.{Add, Mul}
use Rattle.tower_types.specs.Ty.{scalar, array, Fields}
use Rattle.tower_syntax.specs.declared.body.Root.TheVariants.{Param, Binder, State}
use Rattle.tower_syntax.specs.declared.arch.SourceKind.TheVariants.{Period}
use Rattle.tower_syntax.specs.declared.arch.On.{On}
use Rattle.tower_syntax.specs.declared.arch.On.TheVariants as on
use Rattle.tower_syntax.specs.declared.arch.Listener.TheVariants as to
use Rattle.tower_syntax.specs.Tree.{Expr, Place, Stmts, lit, read, bin, cast, place, no_steps, at, set, loop, emit, no_stmts, stmt}
use Rattle.tower_syntax.specs.Arch.{Source, Channel, Output, Monitor, Emitter, Handler, Arch}
use Rattle.tower_gen.specs.Draws.{Drawn}
use Rattle.tower_gen.specs.File.{upto, period_name, channel_name, output_name, monitor_name, handler_name, heard, told}

abbrev pub a_source : Drawn → ℕ → Source
a_source d i = record { name = period_name i; kind = Period (d.ms i); priority = d.priority i; message = scalar I64; depth = None }

abbrev pub a_channel : ℕ → Channel
a_channel i = record { name = channel_name i; message = scalar U32 }

abbrev pub an_output : ℕ → Output
an_output i = record { name = output_name i; channel = 12 + i }

abbrev pub a_monitor : ℕ → Monitor
a_monitor i = record { name = monitor_name i; states = (codes "a", scalar U32) ∷ (codes "v", array 8 (scalar U32)) ∷ (codes "pos", scalar (Ix 8)) ∷ [] }

abbrev pub hears_on : ℕ → On
hears_on i = if nat_lt i 32 then on.Source i else on.Channel (heard i)

abbrev pub emitters_of : ℕ → List Emitter
emitters_of i = if nat_lt i 56 then record { name = codes "e"; channel = told i; bound = 1 } ∷ [] else []

abbrev pub sum_place : Place
sum_place = place (State 0) no_steps

abbrev pub place_of_pos : Place
place_of_pos = place (State 2) no_steps

abbrev pub cell : Expr → Place
cell e = place (State 1) (at e no_steps)

abbrev pub message_expr : Bool → Expr
message_expr first = if first then cast U32 (read (place Param no_steps)) else read (place Param no_steps)

abbrev pub emit_stmts : Bool → Stmts
emit_stmts emits = if emits then stmt (emit 0 (read sum_place)) no_stmts else no_stmts

-- the statements of a handler, on a period or on a channel, with an emitter or without
abbrev pub stmts_by : ℕ → Bool → Bool → Stmts
stmts_by factor first emits =
    stmt (set (cell (read place_of_pos)) (message_expr first))
    (stmt (set place_of_pos (bin Add (Ix 8) (read place_of_pos) (lit (Ix 8) (pos 1))))
    (stmt (loop 0 8 (stmt (set sum_place (bin Add U32 (bin Mul U32 (read sum_place) (lit U32 (pos factor))) (read (cell (read (place (Binder 0) no_steps)))))) no_stmts))
    (emit_stmts emits)))

abbrev pub stmts_in : Drawn → ℕ → Stmts
stmts_in d i = stmts_by (d.factor i) (nat_lt i 32) (nat_lt i 56)

abbrev pub states : Fields
states = (codes "a", scalar U32) ∷ (codes "v", array 8 (scalar U32)) ∷ (codes "pos", scalar (Ix 8)) ∷ []

abbrev pub a_handler : Drawn → ℕ → Handler
a_handler d i = record {
  name = handler_name i;
  monitor = i;
  on = hears_on i;
  emitters = emitters_of i;
  callbacks = record { param = codes "x"; binders = (codes "i", scalar (Ix 8)) ∷ []; stmts = stmts_in d i } ∷ [];
}

abbrev pub system : Drawn → Arch
system d = record {
  version = 1;
  name = codes "gen";
  records = [];
  record_names = [];
  sources = map (a_source d) (upto 32);
  channels = map a_channel (upto 16);
  outputs = map an_output (upto 4);
  monitors = map a_monitor (upto 64);
  handlers = map (a_handler d) (upto 64);
  listeners = map to.Output (upto 4) ++ map to.Handler (upto 64);
}
