-- The ceiling rule names of all tasks that are not idle whom it names of the ready ones.
use Rattle.std.proofs.Common.{◌≡◌, ◌∙◌, inl, inr, ℕ, zero, suc, ◌<◌, ◌≤◌, Bool, true, false, not, List, [], ◌∷◌, map, length, Option, Some, None, refl, sym, ap, arith, slice_get, slice_index, slice_index_or}
use Rattle.std.specs.Prelude.{max, filter, is_some}
use Rattle.std.proofs.lemmas.Bool.{cases_Bool, false≢true}
use Rattle.std.proofs.lemmas.List.{length-map}
use Rattle.std.proofs.lemmas.Option.{get_or_from_slice_get, slice_get_within}
use Rattle.tower_syntax.specs.Arch.{Arch, Source, Events}
use Rattle.tower_syntax.specs.Graph.{numbers_before}
use Rattle.tower_syntax.specs.Weights.{source_numbers}
use Rattle.tower_syntax.specs.WellNumbered.{IsWellNumbered}
use Rattle.tower_meaning.specs.Atomic.{Fit}
use Rattle.task_code.specs.declared.program.Task.{Task}
use Rattle.task_code.specs.Program.{Program}
use Rattle.task_code.specs.Own.{held_monitor}
use Rattle.task_code.specs.Standing.{Standing, IsStuck, IsIdle, IsWaiting, IsReady, standing, standings, is_ready, is_idle}
use Rattle.task_code.specs.Run.{Run, Step, reached}
use Rattle.task_code.specs.Policy.{places_from, at_turn, priorities}
use Rattle.task_code.specs.Ceiling.{raised, active_priority, is_holder, foremost, touches, source_priority, ceiling_of, ceilings, ceiling}
use Rattle.task_alone.proofs.Lists.{get_map}
use Rattle.lock_reduction.specs.Reduce.{Sound}
use Rattle.lock_reduction.specs.Shaped.{priority_and_words}
use Rattle.channel_graph.proofs.Members.{filter_has, has_filter, number_below, below_number}
use Rattle.ceiling_law.specs.ByPolicy.{named_ready, named_busy}
use Rattle.ceiling_law.specs.Ceilings.{Holds}
use Rattle.ceiling_law.proofs.Places.{places_of, number_at}
use Rattle.ceiling_law.proofs.Foremost.{filter_skip, greatest_has, IsForemost, GiveWay, foremost_is, same_foremost}
use Rattle.ceiling_law.proofs.Held.{holder_is, waiter_is, never_stuck, ready_there}

-- ---- tests of standings

pub ready_is : (s : Standing) → is_ready s ≡ true → s ≡ IsReady
ready_is IsStuck e = cc
ready_is IsIdle e = cc
ready_is (IsWaiting m) e = cc
ready_is IsReady e = refl

ready_busy : (s : Standing) → is_ready s ≡ true → not (is_idle s) ≡ true
ready_busy IsStuck e = cc
ready_busy IsIdle e = cc
ready_busy (IsWaiting m) e = cc
ready_busy IsReady e = refl

-- ---- ceilings

-- a source that touches a monitor is not above its ceiling
pub touches_below : (arch : Arch) (x m : ℕ) → x < length arch.sources → touches arch x m ≡ true → source_priority arch x ≤ ceiling_of arch m
touches_below arch x m l t =
    greatest_has (source_priority arch) x (filter (λ s. touches arch s m) (source_numbers arch))
    (has_filter (λ s. touches arch s m) (source_numbers arch) x (below_number (length arch.sources) x l) t)

pub ceiling_at : (arch : Arch) (m : ℕ) → m < length arch.monitors → slice_index (ceilings arch) m ≡ ceiling_of arch m
ceiling_at arch m l =
    get_or_from_slice_get (ceilings arch) m (ceiling_of arch m) 0
    (get_map (ceiling_of arch) (numbers_before (length arch.monitors) []) m m (number_at (length arch.monitors) m l))

map_map : {X Y Z : Type 0} (f : X → Y) (g : Y → Z) (xs : List X) → map g (map f xs) ≡ map (λ x. g (f x)) xs
map_map f g [] = refl
map_map f g (x ∷ xs) = ap (λ l. g (f x) ∷ l) (map_map f g xs)

-- the priorities of the tasks are those of the sources
pub same_priorities : (arch : Arch) (p : Program) → Sound arch p → priorities p ≡ map (λ s. s.priority) arch.sources
same_priorities arch p sound =
    sym (map_map (λ (t : Task). (t.priority, t.message)) (λ q. q.0) p.tasks)
    ∙ ap (map (λ q. q.0)) sound.shaped.tasks
    ∙ map_map (priority_and_words arch) (λ q. q.0) arch.sources

pub same_count : (arch : Arch) (p : Program) → Sound arch p → length p.tasks ≡ length arch.sources
same_count arch p sound = sym (length-map p.tasks (λ (t : Task). t.priority)) ∙ ap length (same_priorities arch p sound) ∙ length-map arch.sources (λ (s : Source). s.priority)

-- ---- the holder of a monitor

is_holder_at : (holds : List (Option ℕ)) (x m : ℕ) → slice_get holds x ≡ Some (Some m) → is_holder holds x ≡ true
is_holder_at holds x m e = ap is_some (get_or_from_slice_get holds x (Some m) None e)

get_there : {X : Type 0} (xs : List (Option X)) (x : ℕ) (v : X) → slice_index_or xs x None ≡ Some v → slice_get xs x ≡ Some (Some v)
get_there [] x v e = cc
get_there (y ∷ xs) zero v e = ap Some e
get_there (y ∷ xs) (suc x) v e = get_there xs x v e

some_of : (o : Option ℕ) → is_some o ≡ true → (m : ℕ) × (o ≡ Some m)
some_of None e = cc
some_of (Some m) e = (m, refl)

none_of : (o : Option ℕ) → is_some o ≡ false → o ≡ None
none_of None e = refl
none_of (Some m) e = cc

module _ (arch : Arch) (p : Program) (events : Events) (numbered : IsWellNumbered arch) (sound : Sound arch p) (fit : Fit arch events) (steps : List Step) (r : Run) (e : reached p events steps ≡ Some r) where
  abbrev holds : List (Option ℕ)
  holds = map held_monitor r.machine.tasks

  abbrev f : ℕ → ℕ
  f = active_priority (priorities p) (ceilings arch) holds

  abbrev h : ℕ → Bool
  h = is_holder holds

  abbrev pub goes : ℕ → Bool
  goes x = is_ready (standing p events r.machine x)

  abbrev pub stays : ℕ → Bool
  stays x = not (is_idle (standing p events r.machine x))

  abbrev pub numbers : List ℕ
  numbers = numbers_before (length p.tasks) []

  pub held_at : (x : ℕ) → h x ≡ true → (m : ℕ) × Holds r x m
  held_at x t = let s = some_of (slice_index_or holds x None) t in (s.0, get_there holds x s.0 s.1)

  -- who holds a monitor is as urgent as its ceiling
  pub active_of_holder : (x m : ℕ) → Holds r x m → ceiling_of arch m ≤ f x
  active_of_holder x m k =
      let is : f x ≡ max (slice_index (priorities p) x) (slice_index (ceilings arch) m) = ap (raised (ceilings arch) (slice_index (priorities p) x)) (get_or_from_slice_get holds x (Some m) None k) in
      omega (arith, is, ceiling_at arch m (holder_is arch p events numbered sound fit steps r e x m k).exists)

  pub active_of_other : (x : ℕ) → h x ≡ false → f x ≡ slice_index (priorities p) x
  active_of_other x n = ap (raised (ceilings arch) (slice_index (priorities p) x)) (none_of (slice_index_or holds x None) n)

  pub touches_low : (x m : ℕ) → x < length p.tasks → touches arch x m ≡ true → slice_index (priorities p) x ≤ ceiling_of arch m
  touches_low x m l t =
      let same : slice_index (priorities p) x ≡ source_priority arch x = ap (λ ps. slice_index ps x) (same_priorities arch p sound) in
      omega (arith, same, touches_below arch x m (omega (arith, l, same_count arch p sound)) t)

  holder_goes : (x : ℕ) → h x ≡ true → goes x ≡ true
  holder_goes x t =
      let k = held_at x t in
      ap is_ready (holder_is arch p events numbered sound fit steps r e x k.0 k.1).ready

  waits_only : (x : ℕ) → x < length p.tasks → (s : Standing) → standing p events r.machine x ≡ s → not (is_idle s) ≡ true → is_ready s ≡ false → (m : ℕ) × (standing p events r.machine x ≡ IsWaiting m)
  waits_only x l IsStuck i b c = absurd (never_stuck arch p events numbered sound fit steps r e x l i)
  waits_only x l IsIdle i b c = cc
  waits_only x l (IsWaiting m) i b c = (m, i)
  waits_only x l IsReady i b c = cc

  give_way : GiveWay f h (filter stays numbers) goes
  give_way = record {
    ready_first = λ x i t. holder_goes x t;
    behind = λ x i n.
        let b = filter_has stays numbers x i in
        let l : x < length p.tasks = number_below (length p.tasks) x b.0 in
        let w = waits_only x l (standing p events r.machine x) refl b.1 n in
        let k = waiter_is arch p events numbered sound fit steps r e x w.0 w.1 in
        let y : ℕ = k.holder in
        let o = holder_is arch p events numbered sound fit steps r e y w.0 k.holds in
        let t = ready_there p events r.machine y o.ready in
        let none : h x ≡ false = elim (cases_Bool (h x)) [ inl t ↦ absurd (false≢true (sym n ∙ holder_goes x t)) | inr t ↦ t ] in (
          y,
          has_filter stays numbers y (below_number (length p.tasks) y (slice_get_within p.tasks y t.0 t.1)) (ready_busy (standing p events r.machine y) (ap is_ready o.ready)),
          is_holder_at holds y w.0 k.holds,
          omega (arith, active_of_other x none, touches_low x w.0 l k.touches, active_of_holder y w.0 k.holds),
        );
  }

  busy_places : places_from 0 (map (λ s. not (is_idle s)) (standings p events r.machine)) ≡ filter stays numbers
  busy_places = places_of (standing p events r.machine) (λ s. not (is_idle s)) (length p.tasks)

  ready_places : places_from 0 (map is_ready (standings p events r.machine)) ≡ filter goes numbers
  ready_places = places_of (standing p events r.machine) is_ready (length p.tasks)

  ready_of_busy : filter goes (filter stays numbers) ≡ filter goes numbers
  ready_of_busy = filter_skip goes stays numbers (λ x i t. ready_busy (standing p events r.machine x) t)

  pub names_the_same : (k : ℕ) → named_busy (ceiling arch p) p events r.machine k ≡ named_ready (ceiling arch p) p events r.machine k
  names_the_same k =
      ap (λ xs. at_turn k (foremost (priorities p) (ceilings arch) holds xs)) busy_places
      ∙ ap (at_turn k) (sym (same_foremost f h goes (filter stays numbers) give_way))
      ∙ ap (λ xs. at_turn k (foremost (priorities p) (ceilings arch) holds xs)) (ready_of_busy ∙ sym ready_places)

  -- whom the rule names of the ready tasks
  pub named_is : (k x : ℕ) → named_ready (ceiling arch p) p events r.machine k ≡ Some x → IsForemost f h (filter goes numbers) x
  named_is k x i = foremost_is f h (filter goes numbers) k x (sym (ap (λ xs. at_turn k (foremost (priorities p) (ceilings arch) holds xs)) ready_places) ∙ i)

  pub names_the_ready : (k x : ℕ) → named_busy (ceiling arch p) p events r.machine k ≡ Some x → standing p events r.machine x ≡ IsReady
  names_the_ready k x i =
      let n = named_is k x (sym (names_the_same k) ∙ i) in
      ready_is (standing p events r.machine x) (filter_has goes numbers x n.given).1
