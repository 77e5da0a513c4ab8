-- The wrong programs are refuted, each by the clause that it breaks.
use Rattle.std.proofs.Common.{◌≡◌, ◌∙◌, ℕ, zero, suc, ◌+◌, ◌<◌, ◌≤◌, ℤ, pos, true, false, List, [], ◌∷◌, ◌++◌, length, map, Option, Some, None, refl, sym, ap, subst, arith, slice_get, slice_index}
use Rattle.std.specs.Prelude.{All, replicate, IsTrue}
use Rattle.std.specs.Option.{option_map}
use Rattle.std.proofs.lemmas.List.Elements.{All-nil, All-cons}
use Rattle.std.proofs.lemmas.Option.{same_Some, none-some}
use Rattle.tower_types.specs.Value.{Value, word, parts, no_values, value, flat}
use Rattle.tower_syntax.specs.declared.arch.SourceKind.TheVariants.{Period}
use Rattle.tower_syntax.specs.declared.arch.Listener.TheVariants as to
use Rattle.tower_syntax.specs.declared.event.Mark.{Mark}
use Rattle.tower_syntax.specs.declared.event.Mark.TheVariants as mark
use Rattle.tower_syntax.specs.Arch.{Arch, Events, tick}
use Rattle.tower_syntax.specs.Examples.{clock}
use Rattle.tower_syntax.specs.Weights.{cost, code, memory}
use Rattle.tower_meaning.specs.Atomic.{Atomic, Fit, FitsEntry, replay}
use Rattle.tower_meaning.specs.System.{System, Item, system_of}
use Rattle.task_code.specs.declared.program.Task.{Task}
use Rattle.task_code.specs.declared.program.Instr.{Instr}
use Rattle.task_code.specs.Program.{Program}
use Rattle.task_code.specs.Rules.{all_words, all_instructions}
use Rattle.task_code.specs.Own.{Filled, Own}
use Rattle.task_code.specs.Holds.{HoldLists, buffers_at}
use Rattle.task_code.specs.Does.{Does, Locks, does, need, popped, returned, indexed, with_lock, without_lock, with_buffer, at_zero}
use Rattle.task_code.specs.Machine.{Free}
use Rattle.task_code.specs.Standing.{IsStuck, IsIdle, standing}
use Rattle.task_code.specs.Run.{Run, Step, Turn, Event, reached}
use Rattle.task_alone.specs.Alone.{FirstIsOf}
use Rattle.task_alone.specs.SettingOf.{setting_of, buffer_places}
use Rattle.lock_reduction.specs.Shaped.{Shaped, BeginsWithTake}
use Rattle.lock_reduction.specs.Sound.{Agrees, IsDue, RanLast, LastHolds}
use Rattle.lock_reduction.specs.Reduce.{Alone, Sound}
use Rattle.lock_reduction.specs.Wrong.{Shows, SticksATask, MisfitsTheReplay, WritesOtherOutputs, LeavesOtherWords, HoldsOtherMessages, LocksAnotherMonitor, IdlesTooSoon, CostsTooMuch, IsRefuted, counting, adds_two, drops, tells_twice, never_locks, reads_before_lock, stores_after_unlock, locks_twice, tell, told, telling, delivers_before_unlock, delivers_in_reverse, emits_past_buffer, pair, paired, passing, locks_another, still, spins}

-- ---- each clause refuses what a run shows against it

same_replay : (arch : Arch) (events : Events) (r : Run) (a b : Atomic) → replay (system_of arch) events r.marks ≡ Some a → replay (system_of arch) events r.marks ≡ Some b → a ≡ b
same_replay arch events r a b e f = same_Some a b (sym e ∙ f)

sticks : (arch : Arch) (p : Program) → Shows arch p (SticksATask arch p) → Sound arch p → ⊥
sticks arch p s sound = let g = sound.agrees s.events s.steps s.run s.fits s.reaches in g.1.never_stuck s.shows.0 s.shows.1 s.shows.2

misfits : (arch : Arch) (p : Program) → Shows arch p (MisfitsTheReplay arch p) → Sound arch p → ⊥
misfits arch p s sound = let g = sound.agrees s.events s.steps s.run s.fits s.reaches in absurd (none-some g.0 (sym s.shows ∙ g.1.replayed))

writes : (arch : Arch) (p : Program) → Shows arch p (WritesOtherOutputs arch p) → Sound arch p → ⊥
writes arch p s sound =
    let g = sound.agrees s.events s.steps s.run s.fits s.reaches in
    let e = same_replay arch s.events s.run g.0 s.shows.0 g.1.replayed s.shows.1 in
    s.shows.2 (subst (λ b. s.run.written ≡ map (λ o. (o.0, flat o.1)) b.outputs) e g.1.outputs)

leaves : (arch : Arch) (p : Program) → Shows arch p (LeavesOtherWords arch p) → Sound arch p → ⊥
leaves arch p s sound =
    let g = sound.agrees s.events s.steps s.run s.fits s.reaches in
    let e = same_replay arch s.events s.run g.0 s.shows.0 g.1.replayed s.shows.3 in
    s.shows.5 (subst (λ b. slice_get (map flat b.monitors) s.shows.1 ≡ Some s.shows.2) e (g.1.monitors s.shows.1 s.shows.2 s.shows.4))

holds_other : (arch : Arch) (p : Program) → Shows arch p (HoldsOtherMessages arch p) → Sound arch p → ⊥
holds_other arch p s sound =
    let g = sound.agrees s.events s.steps s.run s.fits s.reaches in
    s.shows.2 (subst (LastHolds (setting_of arch) s.events s.run) s.shows.1 g.1.last)

locks_other : (arch : Arch) (p : Program) → Shows arch p (LocksAnotherMonitor arch p) → Sound arch p → ⊥
locks_other arch p s sound =
    let g = sound.agrees s.events s.steps s.run s.fits s.reaches in
    let e = same_replay arch s.events s.run g.0 s.shows.0 g.1.replayed s.shows.6 in
    s.shows.10 (subst (λ b. IsDue (setting_of arch) b s.shows.1 s.shows.2) e (g.1.locks_due s.shows.1 s.shows.3 s.shows.4 s.shows.2 s.shows.5 s.shows.7 s.shows.8 s.shows.9))

idles : (arch : Arch) (p : Program) → Shows arch p (IdlesTooSoon arch p) → Sound arch p → ⊥
idles arch p s sound =
    let g = sound.agrees s.events s.steps s.run s.fits s.reaches in
    let e = same_replay arch s.events s.run g.0 s.shows.0 g.1.replayed s.shows.2 in
    s.shows.5 (subst (λ b. slice_get b.pending s.shows.1 ≡ Some []) e (g.1.idle s.shows.1 s.shows.3 s.shows.4))

not_both : (a b : ℕ) → a < b → b ≤ a → ⊥
not_both a b e f = omega arith

costs_more : (arch : Arch) (p : Program) → Shows arch p (CostsTooMuch arch p) → Sound arch p → ⊥
costs_more arch p s sound =
    not_both (cost arch s.shows.0) (slice_index s.run.since s.shows.0) s.shows.2 (sound.counts s.events s.steps s.run s.fits s.reaches s.shows.0 s.shows.1)

-- the first number of what is written
abbrev first_written : List (ℕ × List ℤ) → ℕ
first_written [] = 0
first_written (w ∷ ws) = w.0

abbrev first_of : List ℤ → ℤ
first_of [] = pos 0
first_of (w ∷ ws) = w

one_is_none : suc zero ≡ zero → ⊥
one_is_none e = omega arith

unsnoc : {X : Type 0} (xs ys : List X) (x y : X) → xs ++ x ∷ [] ≡ ys ++ y ∷ [] → xs ≡ ys
unsnoc [] [] x y e = refl
unsnoc [] (z ∷ []) x y e = cc
unsnoc [] (z ∷ w ∷ ys) x y e = cc
unsnoc (z ∷ []) [] x y e = cc
unsnoc (z ∷ w ∷ xs) [] x y e = cc
unsnoc (z ∷ xs) (w ∷ ys) x y e = cc (unsnoc xs ys x y cc)

-- ---- the counter

-- ten ticks: one message for the period
abbrev ticking : Events
ticking = record { kinds = Period 10 ∷ []; depths = None ∷ []; entries = replicate 10 tick }

ticks_fit : (n : ℕ) → All (FitsEntry clock) (replicate n tick)
ticks_fit zero = All-nil (FitsEntry clock)
ticks_fit (suc n) = All-cons (FitsEntry clock) tick (replicate n tick) tt (ticks_fit n)

ticking_fits : Fit clock ticking
ticking_fits = record { kinds = refl; depths = refl; few_ticks = omega arith; entries = ticks_fit 10 }

abbrev ten_and : ℕ → List Step
ten_and n = replicate 10 Event ++ replicate n (Turn 0)

no_lock_shows : Shows clock never_locks (SticksATask clock never_locks)
unfolding does need popped indexed with_lock without_lock
no_lock_shows = record { events = ticking; steps = ten_and 3; run = _; fits = ticking_fits; reaches = refl; shows = (0, omega arith, refl) }

pub no_lock : IsRefuted clock never_locks SticksATask
unfolding does need popped indexed with_lock without_lock
no_lock = record {
  shaped = record { tasks = refl; monitors = refl; outputs = refl; begins = All-cons BeginsWithTake _ [] (0, refl) (All-nil BeginsWithTake); buffers = refl; memory = omega arith; code = omega arith };
  breaks = no_lock_shows;
  unsound = sticks clock never_locks no_lock_shows;
  not_alone = λ alone. ((alone 0 _ refl 4).1.1 (word (pos 1)) refl).1.1.1;
}

early_read_shows : Shows clock reads_before_lock (SticksATask clock reads_before_lock)
unfolding does need popped indexed with_lock without_lock
early_read_shows = record { events = ticking; steps = ten_and 3; run = _; fits = ticking_fits; reaches = refl; shows = (0, omega arith, refl) }

pub early_read : IsRefuted clock reads_before_lock SticksATask
unfolding does need popped indexed with_lock without_lock
early_read = record {
  shaped = record { tasks = refl; monitors = refl; outputs = refl; begins = All-cons BeginsWithTake _ [] (0, refl) (All-nil BeginsWithTake); buffers = refl; memory = omega arith; code = omega arith };
  breaks = early_read_shows;
  unsound = sticks clock reads_before_lock early_read_shows;
  not_alone = λ alone. ((alone 0 _ refl 4).1.1 (word (pos 1)) refl).1.1.1;
}

one_not_zero : (pos 0 ∷ []) ≡ (pos 1 ∷ []) → ⊥
one_not_zero e = absurd (cc e)

zero_value : Value
zero_value = parts (value (word (pos 0)) no_values)

late_store_shows : Shows clock stores_after_unlock (LeavesOtherWords clock stores_after_unlock)
unfolding does need popped indexed with_lock without_lock zero_value
late_store_shows = record { events = ticking; steps = ten_and 8; run = _; fits = ticking_fits; reaches = refl; shows = (_, 0, pos 0 ∷ [], refl, refl, λ e. one_not_zero (same_Some (pos 0 ∷ []) (pos 1 ∷ []) (sym e))) }

pub late_store : IsRefuted clock stores_after_unlock LeavesOtherWords
unfolding does need popped indexed with_lock without_lock zero_value
late_store = record {
  shaped = record { tasks = refl; monitors = refl; outputs = refl; begins = All-cons BeginsWithTake _ [] (0, refl) (All-nil BeginsWithTake); buffers = refl; memory = omega arith; code = omega arith };
  breaks = late_store_shows;
  unsound = leaves clock stores_after_unlock late_store_shows;
  not_alone = λ alone. one_not_zero (((((((((alone 0 _ refl 8).1.1 (word (pos 1)) refl).1.1 zero_value refl).1).1).1).1).1).1.0);
}

second_lock_shows : Shows clock locks_twice (MisfitsTheReplay clock locks_twice)
unfolding does need popped indexed with_lock without_lock zero_value
second_lock_shows = record { events = ticking; steps = ten_and 11; run = _; fits = ticking_fits; reaches = refl; shows = refl }

pub second_lock : IsRefuted clock locks_twice MisfitsTheReplay
unfolding does need popped indexed with_lock without_lock zero_value
second_lock = record {
  shaped = record { tasks = refl; monitors = refl; outputs = refl; begins = All-cons BeginsWithTake _ [] (0, refl) (All-nil BeginsWithTake); buffers = refl; memory = omega arith; code = omega arith };
  breaks = second_lock_shows;
  unsound = misfits clock locks_twice second_lock_shows;
  not_alone = λ alone. ((((((((((alone 0 _ refl 10).1.1 (word (pos 1)) refl).1.1 zero_value refl).1).1).1).1).1).1).1.2).1.0;
}

two_is_none : (pos 2 ∷ []) ≡ (pos 1 ∷ []) → ⊥
two_is_none e = absurd (cc e)

greater_shows : Shows clock adds_two (LeavesOtherWords clock adds_two)
unfolding does need popped indexed with_lock without_lock zero_value
greater_shows = record { events = ticking; steps = ten_and 9; run = _; fits = ticking_fits; reaches = refl; shows = (_, 0, pos 2 ∷ [], refl, refl, λ e. two_is_none (same_Some (pos 2 ∷ []) (pos 1 ∷ []) (sym e))) }

pub greater_sum : IsRefuted clock adds_two LeavesOtherWords
unfolding does need popped indexed with_lock without_lock zero_value
greater_sum = record {
  shaped = record { tasks = refl; monitors = refl; outputs = refl; begins = All-cons BeginsWithTake _ [] (0, refl) (All-nil BeginsWithTake); buffers = refl; memory = omega arith; code = omega arith };
  breaks = greater_shows;
  unsound = leaves clock adds_two greater_shows;
  not_alone = λ alone. two_is_none ((((((((((alone 0 _ refl 9).1.1 (word (pos 1)) refl).1.1 zero_value refl).1).1).1).1).1).1).1.0);
}

some_left : (i : Item) → (i ∷ []) ≡ [] → ⊥
some_left i e = absurd (cc e)

abbrev how_many : Option (List Item) → ℕ
how_many None = 0
how_many (Some items) = length items

dropped_shows : Shows clock drops (IdlesTooSoon clock drops)
unfolding does need popped indexed with_lock without_lock
dropped_shows = record { events = ticking; steps = ten_and 2; run = _; fits = ticking_fits; reaches = refl; shows = (_, 0, refl, omega arith, refl, λ e. one_is_none (ap how_many e)) }

pub dropped : IsRefuted clock drops IdlesTooSoon
unfolding does need popped indexed with_lock without_lock
dropped = record {
  shaped = record { tasks = refl; monitors = refl; outputs = refl; begins = All-cons BeginsWithTake _ [] (0, refl) (All-nil BeginsWithTake); buffers = refl; memory = omega arith; code = omega arith };
  breaks = dropped_shows;
  unsound = idles clock drops dropped_shows;
  not_alone = λ alone. some_left (to.Handler 0, word (pos 1)) (((alone 0 _ refl 3).1.1 (word (pos 1)) refl).1.1.0);
}

-- ---- one message for two outputs

told_fits : Fit tell told
told_fits = record { kinds = refl; depths = refl; few_ticks = omega arith; entries = All-cons (FitsEntry tell) _ [] (refl, refl) (All-nil (FitsEntry tell)) }

abbrev told_and : ℕ → List Step
told_and n = Event ∷ replicate n (Turn 0)

no_words : Value
no_words = parts no_values

early_delivery_shows : Shows tell delivers_before_unlock (SticksATask tell delivers_before_unlock)
unfolding does need popped indexed with_lock without_lock with_buffer no_words
early_delivery_shows = record { events = told; steps = told_and 7; run = _; fits = told_fits; reaches = refl; shows = (0, omega arith, refl) }

pub early_delivery : IsRefuted tell delivers_before_unlock SticksATask
unfolding does need popped indexed with_lock without_lock with_buffer no_words
early_delivery = record {
  shaped = record { tasks = refl; monitors = refl; outputs = refl; begins = All-cons BeginsWithTake _ [] (0, refl) (All-nil BeginsWithTake); buffers = refl; memory = omega arith; code = omega arith };
  breaks = early_delivery_shows;
  unsound = sticks tell delivers_before_unlock early_delivery_shows;
  not_alone = λ alone. ((((((((alone 0 _ refl 8).1.1 (word (pos 5)) refl).1.1 no_words refl).1).1).1).1).1).1;
}

reversed_delivery_shows : Shows tell delivers_in_reverse (WritesOtherOutputs tell delivers_in_reverse)
unfolding does need popped indexed with_lock without_lock with_buffer no_words
reversed_delivery_shows = record { events = told; steps = told_and 10; run = _; fits = told_fits; reaches = refl; shows = (_, refl, λ e. one_is_none (ap first_written e)) }

pub reversed_delivery : IsRefuted tell delivers_in_reverse WritesOtherOutputs
unfolding does need popped indexed with_lock without_lock with_buffer no_words
reversed_delivery = record {
  shaped = record { tasks = refl; monitors = refl; outputs = refl; begins = All-cons BeginsWithTake _ [] (0, refl) (All-nil BeginsWithTake); buffers = refl; memory = omega arith; code = omega arith };
  breaks = reversed_delivery_shows;
  unsound = writes tell delivers_in_reverse reversed_delivery_shows;
  not_alone = λ alone. one_is_none (sym ((((((((((alone 0 _ refl 9).1.1 (word (pos 5)) refl).1.1 no_words refl).1).1).1).1).1).1.2).1.0));
}

third_shows : Shows tell tells_twice (MisfitsTheReplay tell tells_twice)
unfolding does need popped indexed with_lock without_lock with_buffer no_words
third_shows = record { events = told; steps = told_and 11; run = _; fits = told_fits; reaches = refl; shows = refl }

pub third_output : IsRefuted tell tells_twice MisfitsTheReplay
unfolding does need popped indexed with_lock without_lock with_buffer no_words
third_output = record {
  shaped = record { tasks = refl; monitors = refl; outputs = refl; begins = All-cons BeginsWithTake _ [] (0, refl) (All-nil BeginsWithTake); buffers = refl; memory = omega arith; code = omega arith };
  breaks = third_shows;
  unsound = misfits tell tells_twice third_shows;
  not_alone = λ alone. ((((((((((((alone 0 _ refl 12).1.1 (word (pos 5)) refl).1.1 no_words refl).1).1).1).1).1).1.2).1.2).1.2).1);
}

abbrev not_emitted : Own
not_emitted = record { place = 3; words = pos 5 ∷ []; stack = []; calls = []; buffers = record { count = 0; slots = (pos 0 ∷ []) ∷ [] } ∷ []; held = None }

holds_none : (h : ℕ) (message v : Value) (own : Own) → h ≡ 0 → message ≡ word (pos 5) → own ≡ not_emitted
    → HoldLists (buffers_at own (buffer_places tell 0 h)) ((setting_of tell).system.effect h v message).lists → ⊥
holds_none h message v own eh em eo held =
    let at_own : HoldLists (buffers_at not_emitted (buffer_places tell 0 h)) ((setting_of tell).system.effect h v message).lists =
    subst (λ o. HoldLists (buffers_at o (buffer_places tell 0 h)) ((setting_of tell).system.effect h v message).lists) eo held in
    let at_message : HoldLists (buffers_at not_emitted (buffer_places tell 0 h)) ((setting_of tell).system.effect h v (word (pos 5))).lists =
    subst (λ m. HoldLists (buffers_at not_emitted (buffer_places tell 0 h)) ((setting_of tell).system.effect h v m).lists) em at_own in
    let here : HoldLists (buffers_at not_emitted (buffer_places tell 0 0)) ((setting_of tell).system.effect 0 v (word (pos 5))).lists =
    subst (λ k. HoldLists (buffers_at not_emitted (buffer_places tell 0 k)) ((setting_of tell).system.effect k v (word (pos 5))).lists) eh at_message in
    one_is_none (sym here.0)

abbrev first_item : Option (List Item) → Item
first_item (Some (i ∷ is)) = i
first_item _ = (to.Handler 0, word (pos 0))

abbrev handler_of : Item → ℕ
handler_of (to.Handler h, v) = h
handler_of (to.Output o, v) = o

last_is_at_odds : (r : Run) → r.marks ≡ mark.Arrive ∷ mark.Start 0 ∷ mark.Run 0 ∷ [] → slice_get r.machine.tasks 0 ≡ Some not_emitted → RanLast (setting_of tell) told r 0 → ⊥
last_is_at_odds r marks own w =
    let earlier : w.earlier ≡ mark.Arrive ∷ mark.Start 0 ∷ [] = unsnoc w.earlier (mark.Arrive ∷ mark.Start 0 ∷ []) (mark.Run 0) (mark.Run 0) (sym w.marks_are ∙ marks) in
    let before : replay (system_of tell) told (mark.Arrive ∷ mark.Start 0 ∷ []) ≡ Some w.before = subst (λ ms. replay (system_of tell) told ms ≡ Some w.before) earlier w.replayed in
    let pending : Some ((to.Handler 0, word (pos 5)) ∷ []) ≡ Some ((to.Handler w.h, w.message) ∷ w.rest) = ap (λ o. elim o [ None ↦ None | Some a ↦ slice_get a.pending 0 ]) before ∙ w.first in
    holds_none w.h w.message w.value w.own (ap (λ o. handler_of (first_item o)) (sym pending)) (ap (λ o. (first_item o).1) (sym pending)) (same_Some _ _ (sym w.has_own ∙ own)) w.holds

bare_delivery_shows : Shows tell emits_past_buffer (HoldsOtherMessages tell emits_past_buffer)
unfolding does need popped indexed with_lock without_lock with_buffer no_words
bare_delivery_shows = record { events = told; steps = told_and 3; run = _; fits = told_fits; reaches = refl; shows = (0, refl, λ w. last_is_at_odds _ refl refl w) }

pub bare_delivery : IsRefuted tell emits_past_buffer HoldsOtherMessages
unfolding does need popped indexed with_lock without_lock with_buffer no_words
bare_delivery = record {
  shaped = record { tasks = refl; monitors = refl; outputs = refl; begins = All-cons BeginsWithTake _ [] (0, refl) (All-nil BeginsWithTake); buffers = refl; memory = omega arith; code = omega arith };
  breaks = bare_delivery_shows;
  unsound = holds_other tell emits_past_buffer bare_delivery_shows;
  not_alone = λ alone. one_is_none (sym (((alone 0 _ refl 3).1.1 (word (pos 5)) refl).1.1 no_words refl).1.1.0);
}

-- ---- a handler that two sources reach

paired_fits : Fit pair paired
paired_fits = record { kinds = refl; depths = refl; few_ticks = omega arith; entries = All-cons (FitsEntry pair) _ [] (refl, refl) (All-nil (FitsEntry pair)) }

not_due : (items : List Item) → items ≡ (to.Handler 2, word (pos 5)) ∷ [] → FirstIsOf (setting_of pair) 0 items → ⊥
not_due items e first = one_is_none (subst (FirstIsOf (setting_of pair) 0) e first)

some_value : Value
some_value = parts (value (word (pos 0)) no_values)

other_lock_shows : Shows pair locks_another (LocksAnotherMonitor pair locks_another)
unfolding does need popped indexed with_lock without_lock with_buffer some_value
other_lock_shows = record { events = paired; steps = Event ∷ replicate 8 (Turn 1); run = _; fits = paired_fits; reaches = refl; shows = (_, 1, 0, passing 2 0, _, _, refl, refl, refl, refl, λ due. not_due due.0 (same_Some due.0 ((to.Handler 2, word (pos 5)) ∷ []) (sym due.1)) due.2) }

pub other_lock : IsRefuted pair locks_another LocksAnotherMonitor
unfolding does need popped indexed with_lock without_lock with_buffer some_value
other_lock = record {
  shaped = record {
    tasks = refl;
    monitors = refl;
    outputs = refl;
    begins = All-cons BeginsWithTake (passing 1 1) (passing 2 0 ∷ []) (0, refl) (All-cons BeginsWithTake (passing 2 0) [] (0, refl) (All-nil BeginsWithTake));
    buffers = refl;
    memory = omega arith;
    code = omega arith;
  };
  breaks = other_lock_shows;
  unsound = locks_other pair locks_another other_lock_shows;
  not_alone = λ alone. one_is_none ((((((((((alone 1 _ refl 9).1.1 (word (pos 5)) refl).1.1 some_value refl).1).1).1).1).1).1.2).1.0);
}

-- ---- a message that nobody hears

abbrev heard : Events
heard = told

heard_fits : Fit still heard
heard_fits = record { kinds = refl; depths = refl; few_ticks = omega arith; entries = All-cons (FitsEntry still) _ [] (refl, refl) (All-nil (FitsEntry still)) }

too_many : 65 ≤ 64 → ⊥
too_many e = omega arith

spinning_shows : Shows still spins (CostsTooMuch still spins)
unfolding does need popped indexed with_lock without_lock with_buffer
spinning_shows = record { events = heard; steps = Event ∷ replicate 65 (Turn 0); run = _; fits = heard_fits; reaches = refl; shows = (0, omega arith, omega arith) }

pub spinning : IsRefuted still spins CostsTooMuch
unfolding does need popped indexed with_lock without_lock with_buffer
spinning = record {
  shaped = record { tasks = refl; monitors = refl; outputs = refl; begins = All-cons BeginsWithTake _ [] (0, refl) (All-nil BeginsWithTake); buffers = refl; memory = omega arith; code = omega arith };
  breaks = spinning_shows;
  unsound = costs_more still spins spinning_shows;
  not_alone = λ alone. too_many (((((((((((((((((((((((((((((((((((((((((((((((((((((((((((((((((((alone 0 _ refl 66).1.1 (word (pos 5)) refl).1).1).1).1).1).1).1).1).1).1).1).1).1).1).1).1).1).1).1).1).1).1).1).1).1).1).1).1).1).1).1).1).1).1).1).1).1).1).1).1).1).1).1).1).1).1).1).1).1).1).1).1).1).1).1).1).1).1).1).1).1).1).1).1).0);
}
