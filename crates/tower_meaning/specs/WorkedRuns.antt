-- Worked cases of the atomic meaning.
use Rattle.std.specs.Prelude.{◌≡◌, ℕ, zero, suc, ◌-◌, List, [], ◌∷◌, ◌++◌, map, take, replicate, length, Option, Some, None, option_map, pos, negsuc}
use Rattle.tower_types.specs.Value.{Value, word}
use Rattle.tower_syntax.specs.declared.event.Mark.{Mark}
use Rattle.tower_syntax.specs.declared.event.Mark.TheVariants.{Arrive, Start, Run, Out}
use Rattle.tower_syntax.specs.Arch.{Arch, Entry, tick, signal, Events}
use Rattle.tower_syntax.specs.Examples.{clock, two, inv, share, dia, order, nav, late, burst}
use Rattle.tower_meaning.specs.System.{system_of}
use Rattle.tower_meaning.specs.Atomic.{Atomic, replay}
use Rattle.tower_meaning.specs.Replayed.{first_misfit}
use Rattle.tower_meaning.specs.WorkedBodies.{list, whole, holding}

-- ---- words to say them with

abbrev pub events_of : Arch → List Entry → Events
events_of arch entries = record { kinds = map (λ s. s.kind) arch.sources; depths = map (λ s. s.depth) arch.sources; entries = entries }

abbrev pub replayed : Arch → List Entry → List Mark → Option Atomic
replayed arch entries marks = replay (system_of arch) (events_of arch entries) marks

abbrev pub misfit : Arch → List Entry → List Mark → Option ℕ
misfit arch entries marks = first_misfit (system_of arch) (events_of arch entries) marks

-- the marks fit, and this is what they have put out
abbrev pub PutsOut : Arch → List Entry → List Mark → List (ℕ × Value) → Type 0
PutsOut arch entries marks outputs = option_map (λ s. s.outputs) (replayed arch entries marks) ≡ Some outputs

-- the marks fit, and these are the monitors' values after them
abbrev pub Leaves : Arch → List Entry → List Mark → List Value → Type 0
Leaves arch entries marks monitors = option_map (λ s. s.monitors) (replayed arch entries marks) ≡ Some monitors

-- how many messages wait, how many items are pending, how many messages were lost, by source
abbrev pub counts : Atomic → List ℕ × List ℕ × List ℕ
counts s = (map length s.queues, map length s.pending, s.lost)

abbrev pub Waits : Arch → List Entry → List Mark → List ℕ → List ℕ → List ℕ → Type 0
Waits arch entries marks waiting pending lost = option_map counts (replayed arch entries marks) ≡ Some (waiting, pending, lost)

abbrev pub before : ℕ → List Mark → List Mark
before k marks = take (k - 1) marks

-- numbers that one output got
abbrev pub on_output : ℕ → List ℕ → List (ℕ × Value)
on_output o ns = map (λ n. (o, whole n)) ns

abbrev pub times : ℕ → List Mark → List Mark
times zero marks = []
times (suc n) marks = marks ++ times n marks

-- ---- deliveries

abbrev pub dia_marks : List Mark
dia_marks = Arrive ∷ Start 0 ∷ Run 0 ∷ Run 0 ∷ Out 0 ∷ Run 0 ∷ Out 0 ∷ Run 0 ∷ Out 0 ∷ Run 0 ∷ Out 0 ∷ []

abbrev pub sig : ℕ → ℕ → Entry
sig x n = signal x (whole n)

abbrev pub share_marks : List Mark
share_marks =
    Arrive ∷ Start 0 ∷ Run 0 ∷ Run 0 ∷ Out 0
    ∷ Arrive ∷ Start 1 ∷ Run 1 ∷ Run 1 ∷ Out 1
    ∷ Arrive ∷ Start 2 ∷ Run 2 ∷ Run 2 ∷ Out 2 ∷ Out 2
    ∷ Out 1 ∷ Out 0 ∷ []

abbrev pub share_entries : List Entry
share_entries = sig 0 1 ∷ sig 1 10 ∷ sig 2 100 ∷ []

pub record Deliveries : Type 0 where
  pub eleven : length dia_marks ≡ 11
  pub eighteen : length share_marks ≡ 18
  -- all that follows from one message comes before the next message
  pub depth_first : PutsOut dia (sig 0 5 ∷ []) dia_marks (on_output 0 (10 ∷ 15 ∷ 12 ∷ 18 ∷ []))
  pub all_delivered : Waits dia (sig 0 5 ∷ []) dia_marks (0 ∷ []) (0 ∷ []) (0 ∷ [])
  -- one handler on three sources, whose outputs are overtaken
  pub shared : PutsOut share share_entries share_marks (on_output 0 (1 ∷ 11 ∷ 111 ∷ 100 ∷ 10 ∷ 1 ∷ []))
  pub shared_state : Leaves share share_entries share_marks (list [] ∷ holding 111 ∷ [])
  -- one emitter after another
  pub by_emitter : PutsOut order (sig 0 0 ∷ []) (Arrive ∷ Start 0 ∷ Run 0 ∷ Out 0 ∷ Out 0 ∷ Out 0 ∷ []) (on_output 0 (1 ∷ 3 ∷ 2 ∷ []))

-- ---- orders of the marks

abbrev pub clock_marks : List Mark
clock_marks = times 10 (Arrive ∷ []) ++ (Start 0 ∷ Run 0 ∷ []) ++ times 10 (Arrive ∷ []) ++ (Start 0 ∷ Run 0 ∷ []) ++ times 5 (Arrive ∷ [])

-- the source with the number x takes a message and runs its handler
abbrev pub turn : ℕ → List Mark
turn x = Start x ∷ Run x ∷ []

abbrev pub two_marks : List Mark
two_marks = Arrive ∷ Arrive ∷ (turn 0 ++ Arrive ∷ turn 1 ++ Arrive ∷ turn 0 ++ Arrive ∷ Arrive ∷ turn 0 ++ turn 1)

abbrev pub two_marks_exchanged : List Mark
two_marks_exchanged = Arrive ∷ Arrive ∷ (turn 0 ++ Arrive ∷ turn 1 ++ Arrive ∷ turn 0 ++ Arrive ∷ Arrive ∷ turn 1 ++ turn 0)

abbrev pub inv_entries : List Entry
inv_entries = replicate 10 tick ++ sig 1 5 ∷ []

-- low has taken its message when the signal comes, and goes on with its section after that
abbrev pub inv_waits : List Mark
inv_waits = times 10 (Arrive ∷ []) ++ Start 0 ∷ Arrive ∷ Start 1 ∷ Run 0 ∷ Run 1 ∷ Out 1 ∷ Out 0 ∷ []

abbrev pub inv_after : List Mark
inv_after = times 10 (Arrive ∷ []) ++ Start 0 ∷ Run 0 ∷ Arrive ∷ Start 1 ∷ Run 1 ∷ Out 1 ∷ Out 0 ∷ []

abbrev pub inv_in_order : List Mark
inv_in_order = times 10 (Arrive ∷ []) ++ Start 0 ∷ Run 0 ∷ Out 0 ∷ Arrive ∷ Start 1 ∷ Run 1 ∷ Out 1 ∷ []

-- an output before its handler
abbrev pub inv_output_early : List Mark
inv_output_early = times 10 (Arrive ∷ []) ++ Start 0 ∷ Arrive ∷ Start 1 ∷ Run 0 ∷ Out 1 ∷ Run 1 ∷ Out 0 ∷ []

-- the handlers the other way round
abbrev pub inv_handlers_exchanged : List Mark
inv_handlers_exchanged = times 10 (Arrive ∷ []) ++ Start 0 ∷ Arrive ∷ Start 1 ∷ Run 1 ∷ Run 0 ∷ Out 1 ∷ Out 0 ∷ []

pub record Orders : Type 0 where
  pub periods : Leaves clock (replicate 25 tick) clock_marks (holding 2 ∷ [])
  pub same_tick : Leaves two (replicate 6 tick) two_marks (holding 45 ∷ [])
  pub same_tick_exchanged : Leaves two (replicate 6 tick) two_marks_exchanged (holding 43 ∷ [])
  pub waits : PutsOut inv inv_entries inv_waits (on_output 0 (6 ∷ 1 ∷ []))
  pub waits_state : Leaves inv inv_entries inv_waits (holding 6 ∷ [])
  pub waits_end : Waits inv inv_entries inv_waits (0 ∷ 0 ∷ []) (0 ∷ 0 ∷ []) (0 ∷ 0 ∷ [])
  pub after_section : PutsOut inv inv_entries inv_after (on_output 0 (6 ∷ 1 ∷ []))
  pub in_order : PutsOut inv inv_entries inv_in_order (on_output 0 (1 ∷ 6 ∷ []))

pub record Misfits : Type 0 where
  pub output_early : misfit inv inv_entries inv_output_early ≡ Some 15
  pub output_early_outputs : PutsOut inv inv_entries (before 15 inv_output_early) []
  pub output_early_state : Leaves inv inv_entries (before 15 inv_output_early) (holding 1 ∷ [])
  pub output_early_waits : Waits inv inv_entries (before 15 inv_output_early) (0 ∷ 0 ∷ []) (1 ∷ 1 ∷ []) (0 ∷ 0 ∷ [])
  pub handlers_exchanged : misfit inv inv_entries inv_handlers_exchanged ≡ None
  pub handlers_exchanged_outputs : PutsOut inv inv_entries inv_handlers_exchanged (on_output 0 (5 ∷ 6 ∷ []))
  pub handlers_exchanged_state : Leaves inv inv_entries inv_handlers_exchanged (holding 6 ∷ [])
  pub nothing_waits : misfit inv inv_entries (Start 1 ∷ []) ≡ Some 1
  -- a source does not take a message while an item of the one before is pending
  pub busy : misfit dia (sig 0 5 ∷ sig 0 6 ∷ []) (Arrive ∷ Arrive ∷ Start 0 ∷ Start 0 ∷ []) ≡ Some 4
  pub handler_first : misfit dia (sig 0 5 ∷ []) (Arrive ∷ Start 0 ∷ Out 0 ∷ []) ≡ Some 3
  -- there is no source with the number 2, and no twelfth entry
  pub no_source : misfit inv inv_entries (Start 2 ∷ []) ≡ Some 1
  pub no_entry : misfit inv inv_entries (times 12 (Arrive ∷ [])) ≡ Some 12

-- ---- places, the barrier and depths

abbrev pub nav_entries : List Entry
nav_entries = signal 0 (list (word (pos 7) ∷ word (negsuc 2) ∷ [])) ∷ []

pub record Places : Type 0 where
  pub ring : Leaves nav nav_entries (Arrive ∷ turn 0)
      (list (list (list (whole 7 ∷ word (negsuc 2) ∷ []) ∷ list (whole 0 ∷ whole 0 ∷ []) ∷ list (whole 0 ∷ whole 0 ∷ []) ∷ list (whole 0 ∷ whole 0 ∷ []) ∷ []) ∷ whole 1 ∷ []) ∷ [])

abbrev pub late_marks : List Mark
late_marks = Start 0 ∷ Arrive ∷ Run 0 ∷ turn 1

abbrev pub late_marks_early : List Mark
late_marks_early = Start 0 ∷ Arrive ∷ (turn 1 ++ Run 0 ∷ [])

pub record Barrier : Type 0 where
  pub in_order : Leaves late (sig 1 5 ∷ []) late_marks (holding 5 ∷ [])
  pub early : misfit late (sig 1 5 ∷ []) late_marks_early ≡ Some 3
  pub early_state : Leaves late (sig 1 5 ∷ []) (before 3 late_marks_early) (holding 0 ∷ [])
  pub early_waits : Waits late (sig 1 5 ∷ []) (before 3 late_marks_early) (0 ∷ 1 ∷ []) (1 ∷ 0 ∷ []) (0 ∷ 0 ∷ [])

abbrev pub burst_entries : List Entry
burst_entries = sig 0 1 ∷ sig 0 2 ∷ sig 0 4 ∷ []

abbrev pub burst_at_once : List Mark
burst_at_once = Arrive ∷ Arrive ∷ Arrive ∷ (turn 0 ++ turn 0)

abbrev pub burst_one_by_one : List Mark
burst_one_by_one = times 3 (Arrive ∷ turn 0)

pub record Depths : Type 0 where
  pub at_once : Leaves burst burst_entries burst_at_once (holding 3 ∷ [])
  pub at_once_lost : Waits burst burst_entries burst_at_once (0 ∷ []) (0 ∷ []) (1 ∷ [])
  pub one_by_one : Leaves burst burst_entries burst_one_by_one (holding 7 ∷ [])
  pub one_by_one_lost : Waits burst burst_entries burst_one_by_one (0 ∷ []) (0 ∷ []) (0 ∷ [])
