-- Texts that are accepted, as which systems; and texts whose first fault is in their bounds or links.
use Rattle.std.specs.Prelude.{◌≡◌, ℕ, List, [], ◌∷◌, ◌++◌, map, codes}
use Rattle.tower_syntax.specs.Arch.{Arch}
use Rattle.tower_syntax.specs.Examples as example
use Rattle.tower_syntax.specs.Weights.{cost, memory, code, source_numbers}
use Rattle.arch_checks.specs.declared.fault.Fault.TheVariants as fault
use Rattle.arch_checks.specs.Offences.{IsFault, IsAccepted}

abbrev pub HasAccepted : List ℕ → Type 0
HasAccepted bs = (arch : Arch) × IsAccepted bs arch

pub record WorkedSystems : Type 0 where
  pub clock : IsAccepted (codes "(tower clock (period beat 10 5) (monitor count (state n u32) (handler tick beat (callback t (set n (+ n (u32 1)))))))") example.clock
  pub two : IsAccepted (codes "(tower two (period p2 2 5) (period p3 3 5) (monitor m (state x u32) (handler ha p2 (callback t (set x (+ (* x (u32 2)) (u32 1))))) (handler hb p3 (callback t (set x (* x (u32 3)))))))") example.two
  pub inv : IsAccepted (codes "(tower inv (period low 10 1) (signal high u32 9) (channel log u32) (output seen log) (monitor m (state x u32) (handler slow low (emitter e log 1) (callback t (set x (+ x (u32 1))) (emit e x))) (handler fast high (emitter f log 1) (callback v (set x (+ x v)) (emit f x)))))") example.inv
  pub share : IsAccepted (codes "(tower share (signal a u8 1) (signal b u8 2) (signal d u8 3) (channel c u8) (channel z u8) (output screen z) (monitor m (handler ha a (emitter e c 1) (callback v (emit e v))) (handler hb b (emitter e c 1) (callback v (emit e v))) (handler hd d (emitter e c 1) (callback v (emit e v)))) (monitor k (state s u8) (handler h c (emitter f z 2) (callback v (set s (+ s v)) (emit f s) (emit f v)))))") example.share
  pub dia : IsAccepted (codes "(tower dia (signal start u8 1) (channel c1 u8) (channel c2 u8) (output screen c2) (monitor m (handler top start (emitter e c1 2) (callback v (emit e v) (emit e (+ v (u8 1))))) (handler left c1 (emitter f c2 1) (callback v (emit f (* v (u8 2))))) (handler right c1 (emitter g c2 1) (callback v (emit g (* v (u8 3)))))))") example.dia
  pub emitters : IsAccepted (codes "(tower order (signal go u8 1) (channel c u8) (output screen c) (monitor m (handler h go (emitter e1 c 2) (emitter e2 c 1) (callback v (emit e1 (u8 1)) (emit e2 (u8 2)) (emit e1 (u8 3))))))") example.order
  pub cyc : IsAccepted (codes "(tower cyc (signal s u8 1) (channel a u8) (channel b u8) (monitor m (handler h a (emitter e b 1) (callback v (emit e v))) (handler k b (emitter e a 1) (callback v (emit e v)))))") example.cyc
  pub nav : IsAccepted (codes "(tower nav (record fix (field lat i32) (field lon i32)) (signal gps fix 3) (monitor log (state ring (array 4 fix)) (state pos (ix 4)) (handler keep gps (callback f (local tmp fix) (copy tmp f) (copy (at ring pos) tmp) (set pos (+ pos (ix 4 1)))))))") example.nav
  pub late : IsAccepted (codes "(tower late (init boot 1) (signal go u32 9) (monitor m (state x u32) (handler hb boot (callback t (set x (+ x (u32 1))))) (handler hg go (callback v (set x (* x v))))))") example.late
  pub burst : IsAccepted (codes "(tower2 burst (signal s u8 1 2) (monitor m (state x u8) (handler h s (callback v (set x (+ x v))))))") example.burst

-- A handler h on the signal s, whose emitter e has this bound, and whose callback has these statements.
abbrev pub emitting : List ℕ → List ℕ → List ℕ
emitting bound statements =
    codes "(tower t (signal s u8 1) (channel c u8) (monitor m (handler h s (emitter e c " ++ bound ++ codes ") (callback v " ++ statements ++ codes "))))"

-- A handler g on the signal s with an emitter to the channel a, these parts behind it, and then these handlers.
abbrev pub linking : List ℕ → List ℕ → List ℕ
linking parts handlers =
    codes "(tower t (signal s u8 1) (channel a u8) (channel b u8) (monitor m (handler g s (emitter e a 1)" ++ parts ++ codes ")" ++ handlers ++ codes "))"

pub record WorkedBounds : Type 0 where
  pub turns : HasAccepted (emitting (codes "4") (codes "(for i 4 (emit e v))"))
  pub too_many_turns : IsFault (emitting (codes "3") (codes "(for i 4 (emit e v))")) (fault.Bound (codes "h") (codes "e") 4 3)
  pub greater_branch : HasAccepted (emitting (codes "2") (codes "(if true (then (emit e v) (emit e v)) (else (emit e v)))"))
  pub none_allowed : IsFault (emitting (codes "0") (codes "(emit e v)")) (fault.Bound (codes "h") (codes "e") 1 0)

-- links count whether an emitter is used or not
pub record WorkedLinks : Type 0 where
  pub round : IsFault (linking (codes "(callback v (emit e v))") (codes "(handler h a (emitter e b 1)) (handler k b (emitter e a 1))")) (fault.Cycle (codes "s") (codes "h" ∷ codes "k" ∷ []))
  pub to_itself : IsFault (linking [] (codes "(handler h a (emitter e a 1))")) (fault.Cycle (codes "s") (codes "h" ∷ []))
  -- a cycle that no source reaches is no fault
  pub not_reached : HasAccepted (linking [] (codes "(handler h b (emitter e b 1))"))
  pub bound_before_cycle : IsFault (linking (codes "(callback v (emit e v) (emit e v))") (codes "(handler h a (emitter e a 1))")) (fault.Bound (codes "g") (codes "e") 2 1)

-- the text is accepted, and these are the costs of its sources and its other weights
abbrev pub Weighs : List ℕ → List ℕ → ℕ → ℕ → Type 0
Weighs bs costs m c = (arch : Arch) × IsAccepted bs arch × (map (cost arch) (source_numbers arch) ≡ costs) × (memory arch ≡ m) × (code arch ≡ c)

pub record WorkedWeights : Type 0 where
  -- a name of a loop has one word, the message and all names count twice, and emitters count unused and with the bound 0 too
  pub unused : Weighs (codes "(tower t (signal s u8 1) (channel c u8) (monitor m (handler h s (emitter e c 0) (emitter f c 2) (callback v (for i 3 (let q v)) (local l (array 2 u8))))))") (508 ∷ []) 145 388
  -- an emission of a place that is no scalar reads nothing
  pub whole : Weighs (codes "(tower t (record r (field a u8) (field b u8)) (signal s r 1) (channel c r) (monitor m (handler h s (emitter e c 1) (callback v (emit e v)))))") (388 ∷ []) 140 356
