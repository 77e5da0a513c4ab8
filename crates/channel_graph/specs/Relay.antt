-- A small system with a link: h on the source emits on a channel that k and an output are on.
use Rattle.std.specs.Prelude.{ℕ, [], ◌∷◌, codes}
use Rattle.tower_types.specs.declared.scalar.Scalar.TheVariants.{U32}
use Rattle.tower_types.specs.Ty.{scalar}
use Rattle.tower_syntax.specs.declared.body.Root.TheVariants.{Param, State}
use Rattle.tower_syntax.specs.declared.arch.On.TheVariants as on
use Rattle.tower_syntax.specs.declared.arch.Listener.TheVariants as to
use Rattle.tower_syntax.specs.Tree.{set, emit}
use Rattle.tower_syntax.specs.Arch.{Arch, Source, Channel, Output, Monitor, Handler, Body, Emitter}
use Rattle.tower_syntax.specs.Examples.{period, channel, output, monitor, emitter, callback, handler, value_at, whole}

abbrev pub relay_source : Source
relay_source = period (codes "beat") 10 5

abbrev pub relay_channel : Channel
relay_channel = channel (codes "a") (scalar U32)

abbrev pub relay_output : Output
relay_output = output (codes "seen") 0

abbrev pub relay_monitor : Monitor
relay_monitor = monitor (codes "m") ((codes "n", scalar U32) ∷ [])

abbrev pub sends : Body
sends = callback (codes "t") [] (emit 0 (value_at (State 0)) ∷ [])

abbrev pub keeps : Body
keeps = callback (codes "v") [] (set (whole (State 0)) (value_at Param) ∷ [])

abbrev pub sending : ℕ → Emitter
sending bound = emitter (codes "e") 0 bound

abbrev pub sender : ℕ → Handler
sender bound = handler (codes "h") 0 (on.Source 0) (sending bound ∷ []) sends

abbrev pub keeper : Handler
keeper = handler (codes "k") 0 (on.Channel 0) [] keeps

-- (tower relay (period beat 10 5) (channel a u32) (output seen a)
--  (monitor m (state n u32)
--   (handler h beat (emitter e a BOUND) (callback t (emit e n)))
--   (handler k a (callback v (set n v)))))
abbrev pub relay : ℕ → Arch
relay bound = record {
  version = 1;
  name = codes "relay";
  records = [];
  record_names = [];
  sources = relay_source ∷ [];
  channels = relay_channel ∷ [];
  outputs = relay_output ∷ [];
  monitors = relay_monitor ∷ [];
  handlers = sender bound ∷ keeper ∷ [];
  listeners = to.Output 0 ∷ to.Handler 0 ∷ to.Handler 1 ∷ [];
}
