-- Small systems with cycles, and one with loops, beside what is shown and counted.
use Rattle.std.specs.Prelude.{◌≡◌, [], ◌∷◌, Some, None, codes, map}
use Rattle.tower_types.specs.declared.scalar.Scalar.TheVariants.{Bool, Ix}
use Rattle.tower_types.specs.Ty.{scalar}
use Rattle.tower_syntax.specs.declared.body.Root.TheVariants.{Param, State}
use Rattle.tower_syntax.specs.declared.arch.On.TheVariants as on
use Rattle.tower_syntax.specs.declared.arch.Listener.TheVariants as to
use Rattle.tower_syntax.specs.Tree.{set, emit, loop, branch, stmt, no_stmts}
use Rattle.tower_syntax.specs.Arch.{Arch, Handler}
use Rattle.tower_syntax.specs.Graph.{reached_by, subs}
use Rattle.tower_syntax.specs.Weights.{most, cost, memory, code, source_numbers}
use Rattle.tower_syntax.specs.Examples.{cyc, clock, emitter, callback, handler, number, value_at, whole}
use Rattle.tower_syntax.specs.Flight.{flight}
use Rattle.channel_graph.specs.Circuit.{shown}
use Rattle.channel_graph.specs.Relay.{relay}

-- `cyc` with a first handler g on s that emits on a
abbrev pub ring : Arch
ring =
    let passes_on = callback (codes "v") [] (emit 0 (value_at Param) ∷ []) in
    record cyc {
      handlers =
          handler (codes "g") 0 (on.Source 0) (emitter (codes "e") 0 1 ∷ []) passes_on
          ∷ handler (codes "h") 0 (on.Channel 0) (emitter (codes "e") 1 1 ∷ []) passes_on
          ∷ handler (codes "k") 0 (on.Channel 1) (emitter (codes "e") 0 1 ∷ []) passes_on
          ∷ [];
      listeners = to.Handler 0 ∷ to.Handler 1 ∷ to.Handler 2 ∷ [];
    }

-- `ring` where g emits on b, k leads to itself as well, and h emits nothing
abbrev pub knot : Arch
knot =
    let passes_on = callback (codes "v") [] (emit 0 (value_at Param) ∷ []) in
    record ring {
      handlers =
          handler (codes "g") 0 (on.Source 0) (emitter (codes "e") 1 1 ∷ []) passes_on
          ∷ handler (codes "h") 0 (on.Channel 0) [] (callback (codes "v") [] [])
          ∷ handler (codes "k") 0 (on.Channel 1) (emitter (codes "e") 0 1 ∷ emitter (codes "f") 1 1 ∷ []) passes_on
          ∷ [];
    }

-- a loop of four emits
abbrev pub four_turns : Handler
four_turns = handler (codes "h") 0 (on.Source 0) (emitter (codes "e") 0 4 ∷ [])
    (callback (codes "v") ((codes "i", scalar (Ix 4)) ∷ []) (loop 0 4 (stmt (emit 0 (value_at Param)) no_stmts) ∷ []))

-- an `if` of two emits and one
abbrev pub two_or_one : Handler
two_or_one = handler (codes "h") 0 (on.Source 0) (emitter (codes "e") 0 2 ∷ [])
    (callback (codes "v") [] (branch (number Bool 1) (stmt (emit 0 (value_at Param)) (stmt (emit 0 (value_at Param)) no_stmts)) (stmt (emit 0 (value_at Param)) no_stmts) ∷ []))

-- `clock` whose callback is two loops of 65,536 turns round `(set n n)`
abbrev pub long_clock : Arch
long_clock =
    record clock {
      handlers =
          handler (codes "tick") 0 (on.Source 0) []
          (callback (codes "t") ((codes "i", scalar (Ix 65536)) ∷ (codes "j", scalar (Ix 65536)) ∷ [])
          (loop 0 65536 (stmt (loop 1 65536 (stmt (set (whole (State 0)) (value_at (State 0))) no_stmts)) no_stmts) ∷ []))
          ∷ [];
    }

pub record WorkedGraph : Type 0 where
  pub ring_is_shown : shown ring ≡ Some (record { source = 0; walk = 1 ∷ 2 ∷ [] })
  pub itself_is_shown : shown knot ≡ Some (record { source = 0; walk = 2 ∷ [] })
  -- a cycle that no source reaches is not shown
  pub cyc_is_not : shown cyc ≡ None
  pub flight_has_none : shown flight ≡ None
  pub flight_reaches : map (reached_by flight) (source_numbers flight) ≡ (0 ∷ []) ∷ (1 ∷ 2 ∷ []) ∷ (4 ∷ 6 ∷ []) ∷ (7 ∷ []) ∷ (3 ∷ []) ∷ (5 ∷ []) ∷ []
  pub flight_motor : subs flight (on.Channel 2) ≡ to.Output 0 ∷ []
  pub loop_of_four : most four_turns 0 ≡ 4
  pub greater_branch : most two_or_one 0 ≡ 2
  pub long_loops : cost long_clock 0 ≡ 154620920016
  pub relay_cost : cost (relay 2) 0 ≡ 800
  pub relay_memory : memory (relay 2) ≡ 202
  pub relay_code : code (relay 2) ≡ 524
