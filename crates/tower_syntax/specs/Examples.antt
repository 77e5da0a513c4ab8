-- Small systems as trees, each beside the text that it stands for.
use Rattle.std.specs.Prelude.{ℕ, List, [], ◌∷◌, pos, Option, Some, None, codes}
use Rattle.tower_types.specs.declared.scalar.Scalar.{Scalar}
use Rattle.tower_types.specs.declared.scalar.Scalar.TheVariants.{U8, U32, I32, I64, Ix}
use Rattle.tower_types.specs.declared.scalar.BinOp.TheVariants.{Add, Mul}
use Rattle.tower_types.specs.Ty.{Ty, scalar, array, rec, Name, Fields}
use Rattle.tower_syntax.specs.declared.body.Root.{Root}
use Rattle.tower_syntax.specs.declared.body.Root.TheVariants.{Param, Binder, State}
use Rattle.tower_syntax.specs.declared.arch.SourceKind.TheVariants.{Init, Period, Signal}
use Rattle.tower_syntax.specs.declared.arch.On.{On}
use Rattle.tower_syntax.specs.declared.arch.On.TheVariants as on
use Rattle.tower_syntax.specs.declared.arch.Listener.TheVariants as to
use Rattle.tower_syntax.specs.Tree.{Expr, lit, read, bin, Place, place, no_steps, at, Stmt, local, set, copy, emit}
use Rattle.tower_syntax.specs.Arch.{Arch, Source, Channel, Output, Monitor, Emitter, Body, Handler}
use Rattle.tower_syntax.specs.View.{stmts_of}

-- ---- words to write them with

abbrev pub whole : Root → Place
whole r = place r no_steps

abbrev pub value_at : Root → Expr
value_at r = read (whole r)

abbrev pub number : Scalar → ℕ → Expr
number t n = lit t (pos n)

abbrev pub init : Name → ℕ → Source
init name priority = record { name = name; kind = Init; priority = priority; message = scalar I64; depth = None }

abbrev pub period : Name → ℕ → ℕ → Source
period name ms priority = record { name = name; kind = Period ms; priority = priority; message = scalar I64; depth = None }

abbrev pub signal : Name → Ty → ℕ → Option ℕ → Source
signal name message priority depth = record { name = name; kind = Signal; priority = priority; message = message; depth = depth }

abbrev pub channel : Name → Ty → Channel
channel name message = record { name = name; message = message }

abbrev pub output : Name → ℕ → Output
output name c = record { name = name; channel = c }

abbrev pub monitor : Name → Fields → Monitor
monitor name states = record { name = name; states = states }

abbrev pub emitter : Name → ℕ → ℕ → Emitter
emitter name c bound = record { name = name; channel = c; bound = bound }

-- a callback that binds these names
abbrev pub callback : Name → Fields → List Stmt → Body
callback name binders stmts = record { param = name; binders = binders; stmts = stmts_of stmts }

-- a handler with one callback
abbrev pub handler : Name → ℕ → On → List Emitter → Body → Handler
handler name m c emitters body = record { name = name; monitor = m; on = c; emitters = emitters; callbacks = body ∷ [] }

-- ---- the systems

-- (tower clock (period beat 10 5)
--  (monitor count (state n u32)
--   (handler tick beat (callback t (set n (+ n (u32 1)))))))
abbrev pub clock : Arch
clock = record {
  version = 1;
  name = codes "clock";
  records = [];
  record_names = [];
  sources = period (codes "beat") 10 5 ∷ [];
  channels = [];
  outputs = [];
  monitors = monitor (codes "count") ((codes "n", scalar U32) ∷ []) ∷ [];
  handlers =
      handler (codes "tick") 0 (on.Source 0) [] (callback (codes "t") []
      (set (whole (State 0)) (bin Add U32 (value_at (State 0)) (number U32 1)) ∷ []))
      ∷ [];
  listeners = to.Handler 0 ∷ [];
}

-- (tower two (period p2 2 5) (period p3 3 5)
--  (monitor m (state x u32)
--   (handler ha p2 (callback t (set x (+ (* x (u32 2)) (u32 1)))))
--   (handler hb p3 (callback t (set x (* x (u32 3)))))))
abbrev pub two : Arch
two = record {
  version = 1;
  name = codes "two";
  records = [];
  record_names = [];
  sources = period (codes "p2") 2 5 ∷ period (codes "p3") 3 5 ∷ [];
  channels = [];
  outputs = [];
  monitors = monitor (codes "m") ((codes "x", scalar U32) ∷ []) ∷ [];
  handlers =
      handler (codes "ha") 0 (on.Source 0) [] (callback (codes "t") []
      (set (whole (State 0)) (bin Add U32 (bin Mul U32 (value_at (State 0)) (number U32 2)) (number U32 1)) ∷ []))
      ∷ handler (codes "hb") 0 (on.Source 1) [] (callback (codes "t") []
      (set (whole (State 0)) (bin Mul U32 (value_at (State 0)) (number U32 3)) ∷ []))
      ∷ [];
  listeners = to.Handler 0 ∷ to.Handler 1 ∷ [];
}

-- (tower inv (period low 10 1) (signal high u32 9) (channel log u32) (output seen log)
--  (monitor m (state x u32)
--   (handler slow low (emitter e log 1) (callback t (set x (+ x (u32 1))) (emit e x)))
--   (handler fast high (emitter f log 1) (callback v (set x (+ x v)) (emit f x)))))
abbrev pub inv : Arch
inv = record {
  version = 1;
  name = codes "inv";
  records = [];
  record_names = [];
  sources = period (codes "low") 10 1 ∷ signal (codes "high") (scalar U32) 9 None ∷ [];
  channels = channel (codes "log") (scalar U32) ∷ [];
  outputs = output (codes "seen") 0 ∷ [];
  monitors = monitor (codes "m") ((codes "x", scalar U32) ∷ []) ∷ [];
  handlers =
      handler (codes "slow") 0 (on.Source 0) (emitter (codes "e") 0 1 ∷ []) (callback (codes "t") []
      (set (whole (State 0)) (bin Add U32 (value_at (State 0)) (number U32 1)) ∷ emit 0 (value_at (State 0)) ∷ []))
      ∷ handler (codes "fast") 0 (on.Source 1) (emitter (codes "f") 0 1 ∷ []) (callback (codes "v") []
      (set (whole (State 0)) (bin Add U32 (value_at (State 0)) (value_at Param)) ∷ emit 0 (value_at (State 0)) ∷ []))
      ∷ [];
  listeners = to.Output 0 ∷ to.Handler 0 ∷ to.Handler 1 ∷ [];
}

-- (tower share (signal a u8 1) (signal b u8 2) (signal d u8 3)
--  (channel c u8) (channel z u8) (output screen z)
--  (monitor m
--   (handler ha a (emitter e c 1) (callback v (emit e v)))
--   (handler hb b (emitter e c 1) (callback v (emit e v)))
--   (handler hd d (emitter e c 1) (callback v (emit e v))))
--  (monitor k (state s u8)
--   (handler h c (emitter f z 2) (callback v (set s (+ s v)) (emit f s) (emit f v)))))
abbrev pub share : Arch
share =
    let passes_on = callback (codes "v") [] (emit 0 (value_at Param) ∷ []) in
    let e = emitter (codes "e") 0 1 ∷ [] in
    record {
      version = 1;
      name = codes "share";
      records = [];
      record_names = [];
      sources = signal (codes "a") (scalar U8) 1 None ∷ signal (codes "b") (scalar U8) 2 None ∷ signal (codes "d") (scalar U8) 3 None ∷ [];
      channels = channel (codes "c") (scalar U8) ∷ channel (codes "z") (scalar U8) ∷ [];
      outputs = output (codes "screen") 1 ∷ [];
      monitors = monitor (codes "m") [] ∷ monitor (codes "k") ((codes "s", scalar U8) ∷ []) ∷ [];
      handlers =
          handler (codes "ha") 0 (on.Source 0) e passes_on
          ∷ handler (codes "hb") 0 (on.Source 1) e passes_on
          ∷ handler (codes "hd") 0 (on.Source 2) e passes_on
          ∷ handler (codes "h") 1 (on.Channel 0) (emitter (codes "f") 1 2 ∷ []) (callback (codes "v") []
          (set (whole (State 0)) (bin Add U8 (value_at (State 0)) (value_at Param)) ∷ emit 0 (value_at (State 0)) ∷ emit 0 (value_at Param) ∷ []))
          ∷ [];
      listeners = to.Output 0 ∷ to.Handler 0 ∷ to.Handler 1 ∷ to.Handler 2 ∷ to.Handler 3 ∷ [];
    }

-- (tower dia (signal start u8 1) (channel c1 u8) (channel c2 u8) (output screen c2)
--  (monitor m
--   (handler top start (emitter e c1 2) (callback v (emit e v) (emit e (+ v (u8 1)))))
--   (handler left c1 (emitter f c2 1) (callback v (emit f (* v (u8 2)))))
--   (handler right c1 (emitter g c2 1) (callback v (emit g (* v (u8 3)))))))
abbrev pub dia : Arch
dia = record {
  version = 1;
  name = codes "dia";
  records = [];
  record_names = [];
  sources = signal (codes "start") (scalar U8) 1 None ∷ [];
  channels = channel (codes "c1") (scalar U8) ∷ channel (codes "c2") (scalar U8) ∷ [];
  outputs = output (codes "screen") 1 ∷ [];
  monitors = monitor (codes "m") [] ∷ [];
  handlers =
      handler (codes "top") 0 (on.Source 0) (emitter (codes "e") 0 2 ∷ []) (callback (codes "v") []
      (emit 0 (value_at Param) ∷ emit 0 (bin Add U8 (value_at Param) (number U8 1)) ∷ []))
      ∷ handler (codes "left") 0 (on.Channel 0) (emitter (codes "f") 1 1 ∷ []) (callback (codes "v") []
      (emit 0 (bin Mul U8 (value_at Param) (number U8 2)) ∷ []))
      ∷ handler (codes "right") 0 (on.Channel 0) (emitter (codes "g") 1 1 ∷ []) (callback (codes "v") []
      (emit 0 (bin Mul U8 (value_at Param) (number U8 3)) ∷ []))
      ∷ [];
  listeners = to.Output 0 ∷ to.Handler 0 ∷ to.Handler 1 ∷ to.Handler 2 ∷ [];
}

-- (tower order (signal go u8 1) (channel c u8) (output screen c)
--  (monitor m
--   (handler h go (emitter e1 c 2) (emitter e2 c 1)
--    (callback v (emit e1 (u8 1)) (emit e2 (u8 2)) (emit e1 (u8 3))))))
abbrev pub order : Arch
order = record {
  version = 1;
  name = codes "order";
  records = [];
  record_names = [];
  sources = signal (codes "go") (scalar U8) 1 None ∷ [];
  channels = channel (codes "c") (scalar U8) ∷ [];
  outputs = output (codes "screen") 0 ∷ [];
  monitors = monitor (codes "m") [] ∷ [];
  handlers =
      handler (codes "h") 0 (on.Source 0) (emitter (codes "e1") 0 2 ∷ emitter (codes "e2") 0 1 ∷ []) (callback (codes "v") []
      (emit 0 (number U8 1) ∷ emit 1 (number U8 2) ∷ emit 0 (number U8 3) ∷ []))
      ∷ [];
  listeners = to.Output 0 ∷ to.Handler 0 ∷ [];
}

-- a cycle that no source reaches:
-- (tower cyc (signal s u8 1) (channel a u8) (channel b u8)
--  (monitor m
--   (handler h a (emitter e b 1) (callback v (emit e v)))
--   (handler k b (emitter e a 1) (callback v (emit e v)))))
abbrev pub cyc : Arch
cyc =
    let passes_on = callback (codes "v") [] (emit 0 (value_at Param) ∷ []) in
    record {
      version = 1;
      name = codes "cyc";
      records = [];
      record_names = [];
      sources = signal (codes "s") (scalar U8) 1 None ∷ [];
      channels = channel (codes "a") (scalar U8) ∷ channel (codes "b") (scalar U8) ∷ [];
      outputs = [];
      monitors = monitor (codes "m") [] ∷ [];
      handlers =
          handler (codes "h") 0 (on.Channel 0) (emitter (codes "e") 1 1 ∷ []) passes_on
          ∷ handler (codes "k") 0 (on.Channel 1) (emitter (codes "e") 0 1 ∷ []) passes_on
          ∷ [];
      listeners = to.Handler 0 ∷ to.Handler 1 ∷ [];
    }

-- (tower nav (record fix (field lat i32) (field lon i32)) (signal gps fix 3)
--  (monitor log (state ring (array 4 fix)) (state pos (ix 4))
--   (handler keep gps (callback f (local tmp fix) (copy tmp f)
--    (copy (at ring pos) tmp) (set pos (+ pos (ix 4 1)))))))
abbrev pub nav : Arch
nav = record {
  version = 1;
  name = codes "nav";
  records = ((codes "lat", scalar I32) ∷ (codes "lon", scalar I32) ∷ []) ∷ [];
  record_names = codes "fix" ∷ [];
  sources = signal (codes "gps") (rec 0) 3 None ∷ [];
  channels = [];
  outputs = [];
  monitors = monitor (codes "log") ((codes "ring", array 4 (rec 0)) ∷ (codes "pos", scalar (Ix 4)) ∷ []) ∷ [];
  handlers =
      handler (codes "keep") 0 (on.Source 0) [] (callback (codes "f") ((codes "tmp", rec 0) ∷ [])
      (local 0
      ∷ copy (whole (Binder 0)) (whole Param)
      ∷ copy (place (State 0) (at (value_at (State 1)) no_steps)) (whole (Binder 0))
      ∷ set (whole (State 1)) (bin Add (Ix 4) (value_at (State 1)) (number (Ix 4) 1))
      ∷ []))
      ∷ [];
  listeners = to.Handler 0 ∷ [];
}

-- (tower late (init boot 1) (signal go u32 9)
--  (monitor m (state x u32)
--   (handler hb boot (callback t (set x (+ x (u32 1)))))
--   (handler hg go (callback v (set x (* x v))))))
abbrev pub late : Arch
late = record {
  version = 1;
  name = codes "late";
  records = [];
  record_names = [];
  sources = init (codes "boot") 1 ∷ signal (codes "go") (scalar U32) 9 None ∷ [];
  channels = [];
  outputs = [];
  monitors = monitor (codes "m") ((codes "x", scalar U32) ∷ []) ∷ [];
  handlers =
      handler (codes "hb") 0 (on.Source 0) [] (callback (codes "t") []
      (set (whole (State 0)) (bin Add U32 (value_at (State 0)) (number U32 1)) ∷ []))
      ∷ handler (codes "hg") 0 (on.Source 1) [] (callback (codes "v") []
      (set (whole (State 0)) (bin Mul U32 (value_at (State 0)) (value_at Param)) ∷ []))
      ∷ [];
  listeners = to.Handler 0 ∷ to.Handler 1 ∷ [];
}

-- (tower2 burst (signal s u8 1 2)
--  (monitor m (state x u8) (handler h s (callback v (set x (+ x v))))))
abbrev pub burst : Arch
burst = record {
  version = 2;
  name = codes "burst";
  records = [];
  record_names = [];
  sources = signal (codes "s") (scalar U8) 1 (Some 2) ∷ [];
  channels = [];
  outputs = [];
  monitors = monitor (codes "m") ((codes "x", scalar U8) ∷ []) ∷ [];
  handlers =
      handler (codes "h") 0 (on.Source 0) [] (callback (codes "v") []
      (set (whole (State 0)) (bin Add U8 (value_at (State 0)) (value_at Param)) ∷ []))
      ∷ [];
  listeners = to.Handler 0 ∷ [];
}
