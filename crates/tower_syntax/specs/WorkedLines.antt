-- The lines of small files, and two that are printable.
use Rattle.std.specs.Prelude.{◌≡◌, codes}
use Rattle.tower_syntax.specs.Form.{text}
use Rattle.tower_syntax.specs.Printed.{raw_form}
use Rattle.tower_syntax.specs.Printable.{IsPrintable}
use Rattle.tower_syntax.specs.RawExamples.{none, clock, burst, every, flight}

pub record WorkedLines : Type 0 where
  pub none_line : text (raw_form none) ≡ codes "(tower none)"
  pub clock_line : text (raw_form clock) ≡ codes "(tower clock (period beat 10 5) (monitor count (state n u32) (handler tick beat (callback t (set n (+ n (u32 1)))))))"
  pub burst_line : text (raw_form burst) ≡ codes "(tower2 burst (signal s u8 1 2) (monitor m (state x u8) (handler h s (callback v (set x (+ x v))))))"
  pub every_line : text (raw_form every) ≡ codes "(tower every (record r (field f (array 3 bool))) (monitor m (state x i8) (state z r) (handler h s (callback v (let a (cond (not (= (neg x) (i8 -128))) true (get z f))) (let b (/ (ix 4 3) (% (ix 4 0) (ix 4 1)))) (if (and (or a false) (< (- x x) (* x x))) (then) (else (copy (at (get z f) b) q))) (let c (& (| (u8 1) (u16 2)) (^ (u64 18446744073709551615) (i64 -9223372036854775808)))) (for i 65536 (let d (<= (cast i16 (i16 5)) (i32 0))))))))"
  pub flight_line : text (raw_form flight) ≡ codes "(tower flight (record att (field roll i32) (field pitch i32)) (init boot 250) (period fast 1 200) (period mid 5 150) (period slow 20 100) (signal gps att 180) (signal cmd i32 160) (channel rate i32) (channel pose att) (channel motor i32) (channel beat u8) (output pwm motor) (output radio beat) (monitor gyro (state raw i32) (handler gyro_init boot (callback t (set raw (i32 100)))) (handler sample fast (emitter e rate 1) (callback t (set raw (+ raw (cast i32 t))) (emit e raw)))) (monitor fuse (state now att) (state hist (array 4 i32)) (state pos (ix 4)) (handler on_rate rate (callback w (set (at hist pos) w) (set pos (+ pos (ix 4 1))))) (handler on_gps gps (callback p (copy now p))) (handler publish mid (emitter e pose 1) (callback t (local sum i32) (for i 4 (set sum (+ sum (at hist i)))) (set (get now roll) (/ sum (i32 4))) (emit e now)))) (monitor ctl (state goal i32) (handler on_cmd cmd (callback v (set goal v))) (handler steer pose (emitter e motor 1) (callback p (emit e (- goal (get p roll)))))) (monitor life (state n u8) (handler alive slow (emitter e beat 1) (callback t (set n (+ n (u8 1))) (emit e n)))))"
  pub none_is_printable : IsPrintable none
  pub clock_is_printable : IsPrintable clock
