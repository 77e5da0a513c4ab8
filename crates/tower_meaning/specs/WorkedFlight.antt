-- A system of ordinary use over twenty ticks and two signals.
use Rattle.std.specs.Prelude.{◌≡◌, [], ◌∷◌, ◌++◌, List, replicate, length, pos, negsuc}
use Rattle.tower_types.specs.Value.{word}
use Rattle.tower_syntax.specs.declared.event.Mark.{Mark}
use Rattle.tower_syntax.specs.declared.event.Mark.TheVariants.{Arrive, Start, Run, Out}
use Rattle.tower_syntax.specs.Arch.{Entry, tick, signal}
use Rattle.tower_syntax.specs.Flight.{flight}
use Rattle.tower_meaning.specs.WorkedBodies.{list, whole, holding}
use Rattle.tower_meaning.specs.WorkedRuns.{PutsOut, Leaves, Waits, times, turn, sig}

abbrev pub flight_entries : List Entry
flight_entries = replicate 5 tick ++ (signal 4 (list (word (pos 7) ∷ word (negsuc 2) ∷ [])) ∷ sig 5 150 ∷ []) ++ replicate 15 tick

-- boot is 0, fast 1, mid 2, slow 3, gps 4 and cmd 5; pwm is output 0 and radio 1
abbrev pub five_ticks : List Mark
five_ticks = times 5 (Arrive ∷ Start 1 ∷ Run 1 ∷ Run 1 ∷ []) ++ Start 2 ∷ Run 2 ∷ Run 2 ∷ Out 2 ∷ []

abbrev pub flight_marks : List Mark
flight_marks = turn 0 ++ five_ticks ++ Arrive ∷ turn 4 ++ Arrive ∷ turn 5 ++ times 3 five_ticks ++ Start 3 ∷ Run 3 ∷ Out 3 ∷ []

pub record Flight : Type 0 where
  pub marks : length flight_marks ≡ 107
  pub outputs : PutsOut flight flight_entries flight_marks
      ((0, word (negsuc 107)) ∷ (0, word (pos 9)) ∷ (0, word (negsuc 47)) ∷ (0, word (negsuc 130)) ∷ (1, word (pos 1)) ∷ [])
  pub monitors : Leaves flight flight_entries flight_marks
      (holding 310
      ∷ list (list (whole 281 ∷ word (negsuc 2) ∷ []) ∷ list (whole 253 ∷ whole 271 ∷ whole 290 ∷ whole 310 ∷ []) ∷ whole 0 ∷ [])
      ∷ holding 150
      ∷ holding 1
      ∷ [])
  pub all_done : Waits flight flight_entries flight_marks (replicate 6 0) (replicate 6 0) (replicate 6 0)
