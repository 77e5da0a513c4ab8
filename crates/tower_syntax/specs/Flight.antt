-- A system of ordinary use, as a tree beside its text:
-- (tower flight
--  (record att (field roll i32) (field pitch i32))
--  (init boot 250) (period fast 1 200) (period mid 5 150) (period slow 20 100)
--  (signal gps att 180) (signal cmd i32 160)
--  (channel rate i32) (channel pose att) (channel motor i32) (channel beat u8)
--  (output pwm motor) (output radio beat)
--  (monitor gyro (state raw i32)
--   (handler gyro_init boot (callback t (set raw (i32 100))))
--   (handler sample fast (emitter e rate 1)
--    (callback t (set raw (+ raw (cast i32 t))) (emit e raw))))
--  (monitor fuse
--   (state now att) (state hist (array 4 i32)) (state pos (ix 4))
--   (handler on_rate rate
--    (callback w (set (at hist pos) w) (set pos (+ pos (ix 4 1)))))
--   (handler on_gps gps (callback p (copy now p)))
--   (handler publish mid (emitter e pose 1)
--    (callback t
--     (local sum i32)
--     (for i 4 (set sum (+ sum (at hist i))))
--     (set (get now roll) (/ sum (i32 4)))
--     (emit e now))))
--  (monitor ctl (state goal i32)
--   (handler on_cmd cmd (callback v (set goal v)))
--   (handler steer pose (emitter e motor 1)
--    (callback p (emit e (- goal (get p roll))))))
--  (monitor life (state n u8)
--   (handler alive slow (emitter e beat 1)
--    (callback t (set n (+ n (u8 1))) (emit e n)))))
use Rattle.std.specs.Prelude.{[], ◌∷◌, None, codes}
use Rattle.tower_types.specs.declared.scalar.Scalar.TheVariants.{U8, I32, Ix}
use Rattle.tower_types.specs.declared.scalar.BinOp.TheVariants.{Add, Sub, Div}
use Rattle.tower_types.specs.Ty.{scalar, array, rec}
use Rattle.tower_syntax.specs.declared.body.Root.TheVariants.{Param, Binder, State}
use Rattle.tower_syntax.specs.declared.arch.On.TheVariants as on
use Rattle.tower_syntax.specs.declared.arch.Listener.TheVariants as to
use Rattle.tower_syntax.specs.Tree.{read, bin, cast, place, no_steps, field, at, local, set, copy, loop, emit, no_stmts, stmt}
use Rattle.tower_syntax.specs.Arch.{Arch, Handler}
use Rattle.tower_syntax.specs.Examples.{whole, value_at, number, init, period, signal, channel, output, monitor, emitter, callback, handler}

abbrev pub gyro_init : Handler
gyro_init = handler (codes "gyro_init") 0 (on.Source 0) [] (callback (codes "t") []
    (set (whole (State 0)) (number I32 100) ∷ []))

abbrev pub sample : Handler
sample = handler (codes "sample") 0 (on.Source 1) (emitter (codes "e") 0 1 ∷ []) (callback (codes "t") []
    (set (whole (State 0)) (bin Add I32 (value_at (State 0)) (cast I32 (value_at Param)))
    ∷ emit 0 (value_at (State 0))
    ∷ []))

abbrev pub on_rate : Handler
on_rate = handler (codes "on_rate") 1 (on.Channel 0) [] (callback (codes "w") []
    (set (place (State 1) (at (value_at (State 2)) no_steps)) (value_at Param)
    ∷ set (whole (State 2)) (bin Add (Ix 4) (value_at (State 2)) (number (Ix 4) 1))
    ∷ []))

abbrev pub on_gps : Handler
on_gps = handler (codes "on_gps") 1 (on.Source 4) [] (callback (codes "p") []
    (copy (whole (State 0)) (whole Param) ∷ []))

abbrev pub publish : Handler
publish = handler (codes "publish") 1 (on.Source 2) (emitter (codes "e") 1 1 ∷ [])
    (callback (codes "t") ((codes "sum", scalar I32) ∷ (codes "i", scalar (Ix 4)) ∷ [])
    (local 0
    ∷ loop 1 4 (stmt (set (whole (Binder 0)) (bin Add I32 (value_at (Binder 0)) (read (place (State 1) (at (value_at (Binder 1)) no_steps))))) no_stmts)
    ∷ set (place (State 0) (field 0 no_steps)) (bin Div I32 (value_at (Binder 0)) (number I32 4))
    ∷ emit 0 (value_at (State 0))
    ∷ []))

abbrev pub on_cmd : Handler
on_cmd = handler (codes "on_cmd") 2 (on.Source 5) [] (callback (codes "v") []
    (set (whole (State 0)) (value_at Param) ∷ []))

abbrev pub steer : Handler
steer = handler (codes "steer") 2 (on.Channel 1) (emitter (codes "e") 2 1 ∷ []) (callback (codes "p") []
    (emit 0 (bin Sub I32 (value_at (State 0)) (read (place Param (field 0 no_steps)))) ∷ []))

abbrev pub alive : Handler
alive = handler (codes "alive") 3 (on.Source 3) (emitter (codes "e") 3 1 ∷ []) (callback (codes "t") []
    (set (whole (State 0)) (bin Add U8 (value_at (State 0)) (number U8 1))
    ∷ emit 0 (value_at (State 0))
    ∷ []))

abbrev pub flight : Arch
flight = record {
  version = 1;
  name = codes "flight";
  records = ((codes "roll", scalar I32) ∷ (codes "pitch", scalar I32) ∷ []) ∷ [];
  record_names = codes "att" ∷ [];
  sources =
      init (codes "boot") 250
      ∷ period (codes "fast") 1 200
      ∷ period (codes "mid") 5 150
      ∷ period (codes "slow") 20 100
      ∷ signal (codes "gps") (rec 0) 180 None
      ∷ signal (codes "cmd") (scalar I32) 160 None
      ∷ [];
  channels =
      channel (codes "rate") (scalar I32)
      ∷ channel (codes "pose") (rec 0)
      ∷ channel (codes "motor") (scalar I32)
      ∷ channel (codes "beat") (scalar U8)
      ∷ [];
  outputs = output (codes "pwm") 2 ∷ output (codes "radio") 3 ∷ [];
  monitors =
      monitor (codes "gyro") ((codes "raw", scalar I32) ∷ [])
      ∷ monitor (codes "fuse") ((codes "now", rec 0) ∷ (codes "hist", array 4 (scalar I32)) ∷ (codes "pos", scalar (Ix 4)) ∷ [])
      ∷ monitor (codes "ctl") ((codes "goal", scalar I32) ∷ [])
      ∷ monitor (codes "life") ((codes "n", scalar U8) ∷ [])
      ∷ [];
  handlers = gyro_init ∷ sample ∷ on_rate ∷ on_gps ∷ publish ∷ on_cmd ∷ steer ∷ alive ∷ [];
  listeners =
      to.Output 0 ∷ to.Output 1
      ∷ to.Handler 0 ∷ to.Handler 1 ∷ to.Handler 2 ∷ to.Handler 3 ∷ to.Handler 4 ∷ to.Handler 5 ∷ to.Handler 6 ∷ to.Handler 7
      ∷ [];
}
