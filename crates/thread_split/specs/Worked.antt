-- The plans of small systems.
use Rattle.std.specs.Prelude.{◌≡◌, ℕ, List, [], ◌∷◌, None, codes}
use Rattle.tower_types.specs.declared.scalar.Scalar.TheVariants.{U8}
use Rattle.tower_types.specs.declared.scalar.BinOp.TheVariants.{Add}
use Rattle.tower_types.specs.Ty.{scalar}
use Rattle.tower_syntax.specs.declared.body.Root.TheVariants.{Param, State}
use Rattle.tower_syntax.specs.declared.arch.On.TheVariants as on
use Rattle.tower_syntax.specs.declared.arch.Listener.TheVariants as to
use Rattle.tower_syntax.specs.Tree.{bin, set, emit}
use Rattle.tower_syntax.specs.Arch.{Arch}
use Rattle.tower_syntax.specs.Examples.{dia, share, whole, value_at, number, signal, channel, output, monitor, emitter, callback, handler}
use Rattle.tower_syntax.specs.Flight.{flight}
use Rattle.thread_split.specs.declared.plan.TaskPlan.{TaskPlan}
use Rattle.thread_split.specs.Plans.{plans_of}

-- two walks lead to a handler, behind which an output stands on its channel:
-- (tower walks (signal s u8 1) (channel a u8) (channel b u8)
--  (monitor m (state n u8)
--   (handler h s (emitter e a 1) (emitter f b 1) (callback v (emit e v) (emit f v)))
--   (handler k a (emitter g b 1) (callback v (emit g (+ v (u8 1)))))
--   (handler j b (callback v (set n (+ n v)))))
--  (output seen b))
abbrev pub walks : Arch
walks = record {
  version = 1;
  name = codes "walks";
  records = [];
  record_names = [];
  sources = signal (codes "s") (scalar U8) 1 None ∷ [];
  channels = channel (codes "a") (scalar U8) ∷ channel (codes "b") (scalar U8) ∷ [];
  outputs = output (codes "seen") 1 ∷ [];
  monitors = monitor (codes "m") ((codes "n", scalar U8) ∷ []) ∷ [];
  handlers =
      handler (codes "h") 0 (on.Source 0) (emitter (codes "e") 0 1 ∷ emitter (codes "f") 1 1 ∷ []) (callback (codes "v") []
      (emit 0 (value_at Param) ∷ emit 1 (value_at Param) ∷ []))
      ∷ handler (codes "k") 0 (on.Channel 0) (emitter (codes "g") 1 1 ∷ []) (callback (codes "v") []
      (emit 0 (bin Add U8 (value_at Param) (number U8 1)) ∷ []))
      ∷ handler (codes "j") 0 (on.Channel 1) [] (callback (codes "v") []
      (set (whole (State 0)) (bin Add U8 (value_at (State 0)) (value_at Param)) ∷ []))
      ∷ [];
  listeners = to.Handler 0 ∷ to.Handler 1 ∷ to.Handler 2 ∷ to.Output 0 ∷ [];
}

abbrev pub plan : ℕ → ℕ → List ℕ → List ℕ → TaskPlan
plan s priority handlers monitors = record { source = s; priority = priority; handlers = handlers; monitors = monitors }

pub record WorkedPlans : Type 0 where
  -- a monitor of several handlers stands once
  pub of_dia : plans_of dia ≡ plan 0 1 (0 ∷ 1 ∷ 2 ∷ []) (0 ∷ []) ∷ []
  -- so does a handler to which two walks lead
  pub of_walks : plans_of walks ≡ plan 0 1 (0 ∷ 1 ∷ 2 ∷ []) (0 ∷ []) ∷ []
  -- a handler is in the plan of each source that reaches it
  pub of_share : plans_of share ≡
      plan 0 1 (0 ∷ 3 ∷ []) (0 ∷ 1 ∷ [])
      ∷ plan 1 2 (1 ∷ 3 ∷ []) (0 ∷ 1 ∷ [])
      ∷ plan 2 3 (2 ∷ 3 ∷ []) (0 ∷ 1 ∷ [])
      ∷ []
  pub of_flight : plans_of flight ≡
      plan 0 250 (0 ∷ []) (0 ∷ [])
      ∷ plan 1 200 (1 ∷ 2 ∷ []) (0 ∷ 1 ∷ [])
      ∷ plan 2 150 (4 ∷ 6 ∷ []) (1 ∷ 2 ∷ [])
      ∷ plan 3 100 (7 ∷ []) (3 ∷ [])
      ∷ plan 4 180 (3 ∷ []) (1 ∷ [])
      ∷ plan 5 160 (5 ∷ []) (2 ∷ [])
      ∷ []
