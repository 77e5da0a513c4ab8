-- Which tasks are ready, and what a named one does.
use Rattle.std.proofs.Common.{◌≡◌, ◌<◌, ℕ, zero, suc, ℤ, List, [], ◌∷◌, ◌++◌, map, length, Option, Some, None, Bool, true, false, ◌&&◌, refl, sym, ap, ◌∙◌, subst, arith, slice_get, append-nil}
use Rattle.std.specs.Prelude.{All, nat_le, cond, take, fold, slice_set, slice_index, slice_index_or}
use Rattle.std.specs.List.{list_any, list_all}
use Rattle.std.proofs.lemmas.Option.{slice_get_within, same_Some}
use Rattle.std.proofs.lemmas.Bool.Decides.{nat_tests}
use Rattle.std.proofs.lemmas.List.{length-map}
use Rattle.task_alone.proofs.Lists.{get_map}
use Rattle.task_machine.proofs.Numbers.{get_over, length_over}
use Rattle.std.proofs.lemmas.List.Elements.{All-head, All-tail}
use Rattle.tower_types.specs.Value.{flat}
use Rattle.tower_syntax.specs.Arch.{Arch, Entry, Events}
use Rattle.tower_syntax.specs.Arrival.{is_full, brought, ticks}
use Rattle.tower_syntax.specs.View.{events_of}
use Rattle.tower_syntax.specs.declared.event.Mark.{Mark}
use Rattle.task_code.specs.declared.program.Task.{Task}
use Rattle.task_code.specs.Program.{Program}
use Rattle.task_code.specs.Does.{Does, Stuck, Private, Takes, Locks, Unlocks, Writes}
use Rattle.task_code.specs.Machine.{Machine, task_does, after, bring, queue, received}
use Rattle.task_code.specs.Standing.{Standing, IsStuck, IsIdle, IsWaiting, IsReady, is_ready, is_idle, standing, standing_of, standings, is_finished}
use Rattle.task_code.specs.Run.{mark_of, written_by}
use Rattle.task_machine.specs.declared.machine.Went.TheVariants as went
use Rattle.task_machine.specs.declared.machine.Came.TheVariants as came_as
use Rattle.task_machine.specs.Policy.{IsLawful}
use Rattle.task_machine.specs.State.{State, Goes, Comes, ready, holds, arrived, first_of, does_next, standing_in, next_entry}
use Rattle.task_machine.specs.State as state
use Rattle.tower_report.specs.MarkText.{IsMarkOf}
use Rattle.tower_report.specs.RunText.{does_text}
use Rattle.tower_run.specs.Pieces.{lines_text, IfMark, IsMessage, IfWrote}

-- ---- is any task ready

pub any_at : (bs : List Bool) (x : ℕ) → slice_get bs x ≡ Some true → list_any (λ b. b) bs ≡ true
any_at [] x e = cc
any_at (true ∷ bs) x e = refl
any_at (false ∷ bs) zero e = cc
any_at (false ∷ bs) (suc x) e = any_at bs x e

pub none_any : (bs : List Bool) → ((x : ℕ) → slice_get bs x ≡ Some true → ⊥) → list_any (λ b. b) bs ≡ false
none_any [] none = refl
none_any (true ∷ bs) none = absurd (none 0 refl)
none_any (false ∷ bs) none = none_any bs (λ x h. none (suc x) h)

some_ready : (bs : List Bool) → list_any (λ b. b) bs ≡ true → ((x : ℕ) → slice_get bs x ≡ Some true → ⊥) → ⊥
some_ready [] e none = cc
some_ready (true ∷ bs) e none = none 0 refl
some_ready (false ∷ bs) e none = some_ready bs e (λ x h. none (suc x) h)

-- a rule that keeps the law names a task where one is ready
pub named_if_any : (bs : List Bool) (o : Option ℕ) → IsLawful bs o → list_any (λ b. b) bs ≡ true → (x : ℕ) × (o ≡ Some x)
named_if_any bs None lawful some = absurd (some_ready bs some lawful)
named_if_any bs (Some x) lawful some = (x, refl)

-- and none where none is
pub none_named : (bs : List Bool) (o : Option ℕ) → IsLawful bs o → list_any (λ b. b) bs ≡ false → o ≡ None
none_named bs None lawful none = refl
none_named bs (Some x) lawful none = absurd (no (list_any (λ b. b) bs) (any_at bs x lawful) none)
  where
    no : (b : Bool) → b ≡ true → b ≡ false → ⊥
    no b e f = cc

-- where one is ready, not all are idle
pub not_all_idle : (ss : List Standing) → list_any (λ b. b) (map is_ready ss) ≡ true → list_all is_idle ss ≡ false
not_all_idle [] e = cc
not_all_idle (IsReady ∷ ss) e = refl
not_all_idle (IsStuck ∷ ss) e = refl
not_all_idle (IsWaiting m ∷ ss) e = refl
not_all_idle (IsIdle ∷ ss) e = not_all_idle ss e

and_false : (a b : Bool) → b ≡ false → (a && b) ≡ false
and_false true b e = e
and_false false b e = refl

false_and : (a b : Bool) → a ≡ false → (a && b) ≡ false
false_and true b e = cc
false_and false b e = refl

pub unfinished_ready : (s : State) → list_any (λ b. b) (ready s) ≡ true → is_finished s.program (events_of s.events) s.machine ≡ false
unfinished_ready s e =
    and_false (nat_le (length (events_of s.events).entries) s.machine.place) (list_all is_idle (standings s.program (events_of s.events) s.machine))
    (not_all_idle (standings s.program (events_of s.events) s.machine) e)

not_le : (m n : ℕ) → n < m → nat_le m n ≡ false
not_le m n h = grind (arith, nat_tests)

pub unfinished_entry : (s : State) (e : Entry) → next_entry s ≡ Some e → is_finished s.program (events_of s.events) s.machine ≡ false
unfinished_entry s e here =
    false_and (nat_le (length (events_of s.events).entries) s.machine.place) (list_all is_idle (standings s.program (events_of s.events) s.machine))
    (not_le (length (events_of s.events).entries) s.machine.place (slice_get_within (events_of s.events).entries s.machine.place e here))

-- ---- a `go` that stepped, and an entry that came

pub record Stepping (s : State) (o : Option ℕ) (m : Option Mark) (t : State) : Type 0 where
  pub task : ℕ
  pub is : o ≡ Some task
  pub stands : standing_in s task ≡ IsReady
  pub mark : m ≡ first_of (mark_of task (does_next s task))
  pub after : t ≡ state.turned s task (does_next s task)

pub stepping : (s : State) (o : Option ℕ) (m : Option Mark) (t : State) → Goes s o (went.Stepped m) t → Stepping s o m t
stepping s None m t h = absurd (no h.0)
  where
    no : went.Stepped m ≡ went.NoneReady → ⊥
    no e = cc
stepping s (Some x) m t h = record { task = x; is = refl; stands = h.0; mark = same m _ h.1; after = h.2 }
  where
    same : (a b : Option Mark) → went.Stepped a ≡ went.Stepped b → a ≡ b
    same a b e = cc

pub not_stepping : (s : State) (o : Option ℕ) (t : State) → Goes s o went.NoneReady t → (o ≡ None) × (t ≡ s)
not_stepping s None t h = (refl, h.1)
not_stepping s (Some x) t h = absurd (no (first_of (mark_of x (does_next s x))) h.1)
  where
    no : (m : Option Mark) → went.NoneReady ≡ went.Stepped m → ⊥
    no m e = cc

pub coming : (s : State) (o : Option Entry) (t : State) → Comes s o came_as.Arrived t → (e : Entry) × (o ≡ Some e) × (t ≡ arrived s e)
coming s None t h = absurd (no h.0)
  where
    no : came_as.Arrived ≡ came_as.NoMore → ⊥
    no e = cc
coming s (Some e) t h = (e, refl, h.1)

pub not_coming : (s : State) (o : Option Entry) (t : State) → Comes s o came_as.NoMore t → (o ≡ None) × (t ≡ s)
not_coming s None t h = (refl, h.1)
not_coming s (Some e) t h = absurd (no h.0)
  where
    no : came_as.NoMore ≡ came_as.Arrived → ⊥
    no e = cc

-- ---- a ready task exists

ready_task : (p : Program) (events : Events) (m : Machine) (x : ℕ) (t : Option Task) → slice_get p.tasks x ≡ t
    → standing_of p events m x (task_does p t (slice_get m.tasks x)) ≡ IsReady → x < length p.tasks
ready_task p events m x None is e = cc
ready_task p events m x (Some t) is e = slice_get_within p.tasks x t is

pub ready_within : (p : Program) (events : Events) (m : Machine) (x : ℕ) → standing p events m x ≡ IsReady → x < length p.tasks
ready_within p events m x e = ready_task p events m x (slice_get p.tasks x) refl e

-- ---- the place in the record

pub after_place : (m : Machine) (x : ℕ) (d : Does) → (after m x d).place ≡ m.place
after_place m x Stuck = refl
after_place m x (Private own) = refl
after_place m x (Takes f) = refl
after_place m x (Locks k f) = refl
after_place m x (Unlocks h own) = refl
after_place m x (Writes o ws own) = refl

cond_place : (b : Bool) (m n : Machine) → m.place ≡ n.place → (cond b m n).place ≡ n.place
cond_place true m n e = e
cond_place false m n e = refl

bring_place : (depths : List (Option ℕ)) (m : Machine) (b : ℕ × List ℤ) → (bring depths m b).place ≡ m.place
bring_place depths m b =
    cond_place (is_full (slice_index_or depths b.0 None) (length (queue m b.0)))
    (record m { lost = slice_set m.lost b.0 (suc (slice_index m.lost b.0)) }) (record m { queues = slice_set m.queues b.0 (queue m b.0 ++ b.1 ∷ []) }) refl

brings_place : (depths : List (Option ℕ)) (bs : List (ℕ × List ℤ)) (m : Machine) → (fold (bring depths) m bs).place ≡ m.place
brings_place depths [] m = refl
brings_place depths (b ∷ bs) m = brings_place depths bs (bring depths m b) ∙ bring_place depths m b

pub received_place : (events : Events) (m : Machine) (e : Entry) → (received events m e).place ≡ suc m.place
received_place events m e =
    brings_place events.depths (map (λ b. (b.0, flat b.1)) (brought events.kinds (ticks (take (suc m.place) events.entries)) e)) (record m { place = suc m.place })

-- ---- the lines of a step

no_lines : (arch : Arch) (n : ℕ) → [] ≡ lines_text arch n None None
no_lines arch n = refl

pub does_lines : (arch : Arch) (n x : ℕ) (d : Does) → does_text arch n x d ≡ lines_text arch n (first_of (mark_of x d)) (first_of (written_by d))
does_lines arch n x Stuck = refl
does_lines arch n x (Private own) = refl
does_lines arch n x (Takes f) = simp append-nil
does_lines arch n x (Locks k f) = refl
does_lines arch n x (Unlocks h own) = simp append-nil
does_lines arch n x (Writes o ws own) = simp append-nil

is_mark : (arch : Arch) (made mk : Mark) → IsMarkOf arch made → Some made ≡ Some mk → IsMarkOf arch mk
is_mark arch made mk h e = subst (IsMarkOf arch) (same_Some made mk e) h

mark_named : (arch : Arch) (x : ℕ) (d : Does) → x < length arch.sources → IfMark arch (first_of (mark_of x d))
mark_named arch x Stuck lt = tt
mark_named arch x (Private own) lt = tt
mark_named arch x (Takes f) lt = lt
mark_named arch x (Locks k f) lt = tt
mark_named arch x (Unlocks h own) lt = lt
mark_named arch x (Writes o ws own) lt = lt

pub mark_fits : (arch : Arch) (x : ℕ) (d : Does) (m : Option Mark) → x < length arch.sources → m ≡ first_of (mark_of x d) → IfMark arch m
mark_fits arch x d m lt e = subst (IfMark arch) (sym e) (mark_named arch x d lt)

all_last : {X : Type 0} (P : X → Type 0) (xs : List X) (x : X) → All P (xs ++ x ∷ []) → P x
all_last P [] x h = All-head P x [] h
all_last P (y ∷ xs) x h = all_last P xs x (All-tail P y (xs ++ x ∷ []) h)

-- the last of what was written
pub last_message : (arch : Arch) (before : List (ℕ × List ℤ)) (d : Does) → All (IsMessage arch) (before ++ written_by d) → IfWrote arch (first_of (written_by d))
last_message arch before Stuck h = tt
last_message arch before (Private own) h = tt
last_message arch before (Takes f) h = tt
last_message arch before (Locks k f) h = tt
last_message arch before (Unlocks u own) h = tt
last_message arch before (Writes o ws own) h = all_last (IsMessage arch) before (o, ws) h

-- ---- a task by its number

-- a task that is ready has its place in the list of those that are
pub ready_at : (s : State) (x : ℕ) → standing_in s x ≡ IsReady → slice_get (ready s) x ≡ Some true
ready_at s x e =
    let n = length s.program.tasks in
    let at : slice_get (standings s.program (events_of s.events) s.machine) x ≡ Some (standing_in s x) = get_over (standing s.program (events_of s.events) s.machine) n x (ready_within s.program (events_of s.events) s.machine x e) in
    get_map is_ready (standings s.program (events_of s.events) s.machine) x (standing_in s x) at ∙ ap (λ st. Some (is_ready st)) e

pub any_ready : (s : State) (x : ℕ) → standing_in s x ≡ IsReady → list_any (λ b. b) (ready s) ≡ true
any_ready s x e = any_at (ready s) x (ready_at s x e)

pub ready_length : (s : State) → length (ready s) ≡ length s.program.tasks
ready_length s = length-map (standings s.program (events_of s.events) s.machine) is_ready ∙ length_over (standing s.program (events_of s.events) s.machine) (length s.program.tasks)

pub is_ready_only : (st : Standing) → is_ready st ≡ true → st ≡ IsReady
is_ready_only IsReady e = refl
is_ready_only IsStuck e = cc
is_ready_only IsIdle e = cc
is_ready_only (IsWaiting m) e = cc

-- and one with a place there is ready
pub stands_at : (s : State) (x : ℕ) → slice_get (ready s) x ≡ Some true → standing_in s x ≡ IsReady
stands_at s x e =
    let n = length s.program.tasks in
    let less : x < n = subst (λ k. x < k) (ready_length s) (slice_get_within (ready s) x true e) in
    let at : slice_get (standings s.program (events_of s.events) s.machine) x ≡ Some (standing_in s x) = get_over (standing s.program (events_of s.events) s.machine) n x less in
    is_ready_only (standing_in s x) (same_Some (is_ready (standing_in s x)) true (sym (get_map is_ready (standings s.program (events_of s.events) s.machine) x (standing_in s x) at) ∙ e))
