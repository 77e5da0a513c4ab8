-- What a run owes: its credits, with what the messages cost that the record will bring. At the start that is what all messages
-- cost, and each instruction takes from it.
use Rattle.std.proofs.Common.{◌≡◌, ◌<◌, ◌≤◌, ℕ, zero, suc, ◌+◌, ◌-◌, false, List, [], ◌∷◌, ◌++◌, map, take, drop, length, Option, Some, None, refl, sym, ap, ◌∙◌, subst, arith, slice_get, length-set}
use Rattle.std.specs.List.{sum_by}
use Rattle.std.proofs.lemmas.List.{length-map}
use Rattle.std.proofs.lemmas.List.Sums.{sum_by-append}
use Rattle.std.proofs.lemmas.Option.{same_Some, slice_get_within}
use Rattle.tower_syntax.specs.declared.event.Choice.{Choice}
use Rattle.tower_syntax.specs.declared.event.Mark.TheVariants as mark
use Rattle.tower_types.specs.Value.{Value}
use Rattle.tower_syntax.specs.Arch.{Arch, Entry, Events}
use Rattle.tower_syntax.specs.Arrival.{ticks, brought}
use Rattle.tower_syntax.specs.Weights.{cost}
use Rattle.tower_meaning.specs.Atomic.{Fit}
use Rattle.task_code.specs.declared.program.Task.{Task}
use Rattle.task_code.specs.Program.{Program}
use Rattle.task_code.specs.Does.{Does, Stuck, Private, Takes, Locks, Unlocks, Writes}
use Rattle.task_code.specs.Machine.{Machine, task_does, next_does, received}
use Rattle.task_code.specs.Standing.{IsStuck, IsReady, standing, standing_of}
use Rattle.task_code.specs.Run.{Run, Step, Turn, step, steps_from, reached, first_run, if_ready, came, turned, counted}
use Rattle.task_code.specs.Policy.{Policy}
use Rattle.task_code.specs.Plan.{Planned, goes, comes, step_of, Planning, instructions, stepped, instruct, entered, plan}
use Rattle.lock_reduction.specs.Reduce.{Sound}
use Rattle.run_laws.specs.Costs.{inits_from, brought_after, costs}
use Rattle.run_laws.specs.Enough.{NamesReady}
use Rattle.run_laws.proofs.Plans.{choose_keeps}
use Rattle.run_laws.proofs.Credit.{credits, turn_takes, entry_adds, first_credits, received_place}

-- ---- the record

ticks_more : (es : List Entry) (i : ℕ) (e : Entry) → slice_get es i ≡ Some e → ticks (take (suc i) es) ≡ ticks (take i es) + ticks (e ∷ [])
ticks_more [] i e h = cc
ticks_more (x ∷ es) zero e h = let same : x ≡ e = same_Some x e h in subst (λ z. ticks (x ∷ []) ≡ 0 + ticks (z ∷ [])) same (omega arith)
ticks_more (x ∷ es) (suc i) e h = omega (arith, ticks_more es i e h)

drop_more : {X : Type 0} (xs : List X) (i : ℕ) (x : X) → slice_get xs i ≡ Some x → drop i xs ≡ x ∷ drop (suc i) xs
drop_more [] i x h = cc
drop_more (y ∷ xs) zero x h = ap (λ z. z ∷ xs) (same_Some y x h)
drop_more (y ∷ xs) (suc i) x h = drop_more xs i x h

-- the messages that the record will bring from a place on
abbrev to_come : Events → ℕ → List ℕ
to_come events i = brought_after events.kinds (ticks (take i events.entries)) (drop i events.entries)

come_more : (events : Events) (i : ℕ) (e : Entry) → slice_get events.entries i ≡ Some e
    → to_come events i ≡ map (λ b. b.0) (brought events.kinds (ticks (take (suc i) events.entries)) e) ++ to_come events (suc i)
come_more events i e h =
    ap (brought_after events.kinds (ticks (take i events.entries))) (drop_more events.entries i e h)
    ∙ ap (λ n. map (λ b. b.0) (brought events.kinds n e) ++ brought_after events.kinds n (drop (suc i) events.entries)) (sym (ticks_more events.entries i e h))

ready_inside : (p : Program) (events : Events) (m : Machine) (x : ℕ) (t : Option Task) → slice_get p.tasks x ≡ t → standing p events m x ≡ IsReady → x < length p.tasks
ready_inside p events m x None is e =
    absurd (not_stuck (ap (λ t. standing_of p events m x (task_does p t (slice_get m.tasks x))) (sym is) ∙ e))
  where
    not_stuck : IsStuck ≡ IsReady → ⊥
    not_stuck e = cc
ready_inside p events m x (Some t) is e = slice_get_within p.tasks x t is

-- ---- steps

goes_on : (p : Program) (events : Events) (ss : List Step) (o : Option Run) (r r' : Run) (s : Step) → steps_from p events o ss ≡ Some r → step p events r s ≡ Some r' → steps_from p events o (ss ++ s ∷ []) ≡ Some r'
goes_on p events [] o r r' s e h = subst (λ o. steps_from p events o (s ∷ []) ≡ Some r') (sym e) h
goes_on p events (x ∷ ss) None r r' s e h = cc
goes_on p events (x ∷ ss) (Some q) r r' s e h = goes_on p events ss (step p events q x) r r' s e h

map_push : (zs : List Planned) (z : Planned) → map step_of (zs ++ z ∷ []) ≡ map step_of zs ++ step_of z ∷ []
map_push [] z = refl
map_push (y ∷ zs) z = ap (λ r. step_of y ∷ r) (map_push zs z)

turned_place : (r : Run) (x : ℕ) (d : Does) → (turned r x d).machine.place ≡ r.machine.place
turned_place r x Stuck = refl
turned_place r x (Private own) = refl
turned_place r x (Takes f) = refl
turned_place r x (Locks k f) = refl
turned_place r x (Unlocks h own) = refl
turned_place r x (Writes o ws own) = refl

counted_length : (since : List ℕ) (x : ℕ) (d : Does) → length (counted since x d) ≡ length since
counted_length since x Stuck = length-set since x _
counted_length since x (Private own) = length-set since x _
counted_length since x (Takes f) = length-set since x _
counted_length since x (Locks k f) = length-set since x _
counted_length since x (Unlocks h own) = length-set since x _
counted_length since x (Writes o ws own) = length-set since x _

one_more : (zs : List Planned) (k x : ℕ) → instructions (zs ++ goes k x ∷ []) ≡ suc (instructions zs)
one_more [] k x = refl
one_more (goes j y ∷ zs) k x = ap suc (one_more zs k x)
one_more (comes ∷ zs) k x = one_more zs k x

none_more : (zs : List Planned) → instructions (zs ++ comes ∷ []) ≡ instructions zs
none_more [] = refl
none_more (goes j y ∷ zs) = ap suc (none_more zs)
none_more (comes ∷ zs) = none_more zs

-- ---- a step

module _ (arch : Arch) (p : Program) (events : Events) (sound : Sound arch p) (fit : Fit arch events) where
  -- what is still to be paid
  abbrev owes : Run → ℕ
  owes r = credits (cost arch) p r.machine r.since + sum_by (cost arch) (to_come events r.machine.place)

  -- steps that lead to a run
  pub record Leads (zs : List Planned) (r : Run) : Type 0 where
    pub reaches : reached p events (map step_of zs) ≡ Some r
    pub sized : length r.since ≡ length p.tasks

  leads_on : (zs : List Planned) (z : Planned) (r r' : Run) → Leads zs r → step p events r (step_of z) ≡ Some r' → reached p events (map step_of (zs ++ z ∷ [])) ≡ Some r'
  leads_on zs z r r' h e =
      ap (reached p events) (map_push zs z) ∙ goes_on p events (map step_of zs) (Some (first_run p events)) r r' (step_of z) h.reaches e

  pub record Turned (zs : List Planned) (k x : ℕ) (r r' : Run) : Type 0 where
    pub steps : step p events r (Turn x) ≡ Some r'
    pub leads : Leads (zs ++ goes k x ∷ []) r'
    pub pays : suc (owes r') ≤ owes r

  -- an instruction takes from what is owed
  turn : (zs : List Planned) (k x : ℕ) (r : Run) → Leads zs r → standing p events r.machine x ≡ IsReady → Turned zs k x r (turned r x (next_does p r.machine x))
  turn zs k x r h e =
      let d = next_does p r.machine x in
      let r' = turned r x d in
      let is : step p events r (Turn x) ≡ Some r' = ap (λ st. if_ready st r') e in
      let there = ready_inside p events r.machine x (slice_get p.tasks x) refl e in
      let reaches = leads_on zs (goes k x) r r' h is in
      let few = sound.counts events (map step_of (zs ++ goes k x ∷ [])) r' fit reaches x there in
      let place : sum_by (cost arch) (to_come events r'.machine.place) ≡ sum_by (cost arch) (to_come events r.machine.place) =
      ap (λ i. sum_by (cost arch) (to_come events i)) (turned_place r x d) in
      record {
        steps = is;
        leads = record { reaches = reaches; sized = counted_length r.since x d ∙ h.sized };
        pays = omega (arith, place, turn_takes (cost arch) p events r x e there h.sized few);
      }

  abbrev arrived : Run → Entry → Run
  arrived r e = record r { machine = received events r.machine e; marks = r.marks ++ mark.Arrive ∷ []; ran = None }

  -- an entry adds nothing to it
  entry : (r : Run) (e : Entry) → slice_get events.entries r.machine.place ≡ Some e → owes (arrived r e) ≤ owes r
  entry r e is =
      let place = r.machine.place in
      let bs = map (λ (b : ℕ × Value). b.0) (brought events.kinds (ticks (take (suc place) events.entries)) e) in
      let more : sum_by (cost arch) (to_come events place) ≡ sum_by (cost arch) bs + sum_by (cost arch) (to_come events (suc place)) =
      ap (sum_by (cost arch)) (come_more events place e is) ∙ sum_by-append (cost arch) bs (to_come events (suc place)) in
      let same : sum_by (cost arch) (to_come events (received events r.machine e).place) ≡ sum_by (cost arch) (to_come events (suc place)) =
      ap (λ i. sum_by (cost arch) (to_come events i)) (received_place (cost arch) p events r.machine e) in
      omega (arith, more, same, entry_adds (cost arch) p events r.machine r.since e)

  -- at the start all messages are owed
  first_leads : Leads [] (first_run p events)
  first_leads = record { reaches = refl; sized = length-map p.tasks _ }

  first_owes : owes (first_run p events) ≤ costs arch events
  first_owes =
      omega (
        arith,
        first_credits (cost arch) p events sound.shaped.begins,
        sum_by-append (cost arch) (inits_from 0 events.kinds) (brought_after events.kinds 0 events.entries),
      )

  -- ---- a plan

  module _ (policy : Policy) (limit : ℕ) where
    abbrev first_plan : Planning
    first_plan = record { run = first_run p events; steps = []; left = limit; stopped = false }

    -- it owes no more than the instructions that are left
    pub record Paid (s : Planning) : Type 0 where
      pub leads : Leads s.steps s.run
      pub going : s.stopped ≡ false
      pub pays : owes s.run ≤ s.left

    turn_paid : (k x : ℕ) (s : Planning) → Paid s → standing p events s.run.machine x ≡ IsReady → Paid (instruct policy p events limit k x s s.left)
    turn_paid k x s h e =
        let r' = turned s.run x (next_does p s.run.machine x) in
        let t = turn s.steps k x s.run h.leads e in
        let left : s.left ≡ suc (s.left - 1) = omega (arith, t.pays, h.pays) in
        let now : Paid (stepped policy p events limit k x s (s.left - 1) (Some r')) = record { leads = t.leads; going = refl; pays = omega (arith, t.pays, h.pays) } in
        let then : Paid (stepped policy p events limit k x s (s.left - 1) (step p events s.run (Turn x))) =
        subst (λ o. Paid (stepped policy p events limit k x s (s.left - 1) o)) (sym t.steps) now in
        subst (λ n. Paid (instruct policy p events limit k x s n)) (sym left) then

    entry_paid : (s : Planning) (o : Option Entry) → slice_get events.entries s.run.machine.place ≡ o → Paid s → Paid (entered policy p events limit s (came events s.run o))
    entry_paid s None is h = h
    entry_paid s (Some e) is h = record {
      leads = record { reaches = leads_on s.steps comes s.run (arrived s.run e) h.leads (ap (came events s.run) is); sized = h.leads.sized };
      going = h.going;
      pays = omega (arith, entry s.run e is, h.pays);
    }

    -- it owes, with what it has executed, no more than what all messages cost
    pub record Spent (s : Planning) : Type 0 where
      pub leads : Leads s.steps s.run
      pub spends : instructions s.steps + owes s.run ≤ costs arch events

    turn_spent : (k x : ℕ) (s : Planning) (left : ℕ) → Spent s → standing p events s.run.machine x ≡ IsReady → Spent (instruct policy p events limit k x s left)
    turn_spent k x s zero h e = record { leads = h.leads; spends = h.spends }
    turn_spent k x s (suc left) h e =
        let r' = turned s.run x (next_does p s.run.machine x) in
        let t = turn s.steps k x s.run h.leads e in
        let now : Spent (stepped policy p events limit k x s left (Some r')) = record { leads = t.leads; spends = omega (arith, t.pays, h.spends, one_more s.steps k x) } in
        subst (λ o. Spent (stepped policy p events limit k x s left o)) (sym t.steps) now

    entry_spent : (s : Planning) (o : Option Entry) → slice_get events.entries s.run.machine.place ≡ o → Spent s → Spent (entered policy p events limit s (came events s.run o))
    entry_spent s None is h = h
    entry_spent s (Some e) is h = record {
      leads = record { reaches = leads_on s.steps comes s.run (arrived s.run e) h.leads (ap (came events s.run) is); sized = h.leads.sized };
      spends = omega (arith, entry s.run e is, h.spends, none_more s.steps);
    }

    module _ (names : NamesReady policy) (choices : List Choice) where
      plan_paid : costs arch events ≤ limit → Paid (plan policy p events choices limit)
      plan_paid enough =
          choose_keeps policy p events limit names Paid turn_paid (λ s. entry_paid s (slice_get events.entries s.run.machine.place) refl) choices first_plan
          (record { leads = first_leads; going = refl; pays = omega (arith, enough, first_owes) })

      plan_spent : Spent (plan policy p events choices limit)
      plan_spent =
          choose_keeps policy p events limit names Spent (λ k x s. turn_spent k x s s.left) (λ s. entry_spent s (slice_get events.entries s.run.machine.place) refl) choices first_plan
          (record { leads = first_leads; spends = omega (arith, first_owes) })

      pub never_stopped : costs arch events ≤ limit → (plan policy p events choices limit).stopped ≡ false
      never_stopped enough = (plan_paid enough).going

      pub costs_most : instructions (plan policy p events choices limit).steps ≤ costs arch events
      costs_most = let h = plan_spent in omega (arith, h.spends)
