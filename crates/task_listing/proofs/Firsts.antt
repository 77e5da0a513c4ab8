-- The verdict of a text is its first fault.
use Rattle.std.proofs.Common.{◌≡◌, ◌⊎◌, ◌∙◌, inl, inr, ℕ, zero, suc, ◌+◌, ◌<◌, ◌≤◌, List, [], ◌∷◌, ◌++◌, length, Bool, true, false, Option, Some, None, Ok, Err, refl, sym, ap, subst, arith, fold}
use Rattle.task_listing.specs.declared.fault.ListKind.{ListKind}
use Rattle.task_listing.specs.declared.fault.ListKind.TheVariants as fault
use Rattle.task_listing.specs.declared.kind.Kind.{Kind}
use Rattle.task_listing.specs.Lines.{Bytes, words}
use Rattle.task_listing.specs.Context.{Context, behind_line, behind_awaited}
use Rattle.task_listing.specs.Faults.{OffendsAt, OffendsFrom, rank, Precedes}
use Rattle.task_listing.specs.Judging.{State, judge, breaks, next, next_by, walk, walk_on, marked}
use Rattle.task_listing.proofs.Ranks.{kind_ranks}

-- no line is awaited, and then all that comes is too much; or the line itself is wrong
abbrev IsEnd : List Kind → Type 0
IsEnd [] = Unit {0}
IsEnd (k ∷ ks) = ⊥

pub judge_ranks : (ks : List Kind) (ws : List Bytes) (k : ListKind) → judge ks ws ≡ Some k → (rank k ≡ 1) ⊎ ((k ≡ fault.After) × (ks ≡ []))
judge_ranks [] ws k h = let e : k ≡ fault.After = cc in inr (e, refl)
judge_ranks (i ∷ ks) ws k h = inl (kind_ranks i ws k h)

context_by : (ks : List Kind) (s : State) (n : ℕ) (l : Bytes) → (next_by ks s n (words l)).context ≡ behind_awaited ks l s.context
context_by [] s n l = refl
context_by (k ∷ ks) s n l = refl

next_context : (s : State) (n : ℕ) (l : Bytes) → (next s n (words l)).context ≡ behind_line s.context l
next_context s n l = context_by s.context.awaits s n l

-- an offence of lines is at one of them
from_on : (c : Context) (n : ℕ) (ls : List Bytes) (m : ℕ) (j : ListKind) → OffendsFrom c n ls m j → n ≤ m
from_on c n [] m j h = absurd h
from_on c n (l ∷ ls) m j (inl h) = let e : m ≡ n = h.0 in omega (arith, e)
from_on c n (l ∷ ls) m j (inr h) = let r = from_on (behind_line c l) (n + 1) ls m j h in omega (arith, r)

at_ranks : (c : Context) (ws : List Bytes) (j : ListKind) → OffendsAt c ws j → 1 ≤ rank j
at_ranks c ws j (inl h) = low (judge_ranks c.awaits ws j h)
  where
    low : (rank j ≡ 1) ⊎ ((j ≡ fault.After) × (c.awaits ≡ [])) → 1 ≤ rank j
    low (inl e) = omega (arith, e)
    low (inr e) = let r : rank j ≡ 3 = ap rank e.0 in omega (arith, r)
at_ranks c ws j (inr h) = let r : rank j ≡ 4 = ap rank h.1 in omega (arith, r)

pub from_ranks : (c : Context) (n : ℕ) (ls : List Bytes) (m : ℕ) (j : ListKind) → OffendsFrom c n ls m j → 1 ≤ rank j
from_ranks c n [] m j h = absurd h
from_ranks c n (l ∷ ls) m j (inl h) = at_ranks c (words l) j h.1
from_ranks c n (l ∷ ls) m j (inr h) = from_ranks (behind_line c l) (n + 1) ls m j h

no_breaks : (ks : List Kind) (c : Context) (ws : List Bytes) → ks ≡ [] → breaks ks c ws ≡ true → ⊥
no_breaks [] c ws e h = cc
no_breaks (k ∷ ks) c ws e h = cc

after_only : (ks : List Kind) (ws : List Bytes) (j : ListKind) → ks ≡ [] → judge ks ws ≡ Some j → j ≡ fault.After
after_only [] ws j e h = cc
after_only (k ∷ ks) ws j e h = cc

stays : (ks : List Kind) (l : Bytes) (c : Context) → ks ≡ [] → behind_awaited ks l c ≡ c
stays [] l c e = refl
stays (k ∷ ks) l c e = cc

-- where no line is awaited, each is too much
all_after : (c : Context) (n : ℕ) (ls : List Bytes) (m : ℕ) (j : ListKind) → c.awaits ≡ [] → OffendsFrom c n ls m j → j ≡ fault.After
all_after c n [] m j e h = absurd h
all_after c n (l ∷ ls) m j e (inl (p, inl h)) = after_only c.awaits (words l) j e h
all_after c n (l ∷ ls) m j e (inl (p, inr h)) = absurd (no_breaks c.awaits c (words l) e h.0)
all_after c n (l ∷ ls) m j e (inr h) = all_after c (n + 1) ls m j e (subst (λ d. OffendsFrom d (n + 1) ls m j) (stays c.awaits l c e) h)

-- an offence of lines, and before all others of them
pub record FirstFrom (c : Context) (n : ℕ) (ls : List Bytes) (m : ℕ) (k : ListKind) : Type 0 where
  pub offends : OffendsFrom c n ls m k
  pub precedes : (i : ℕ) (j : ListKind) → OffendsFrom c n ls i j → ((i ≡ m) × (j ≡ k)) ⊎ Precedes m k i j
  pub soon : rank k ≤ 3

some_same : (o : Option ListKind) (k j : ListKind) → o ≡ Some k → o ≡ Some j → j ≡ k
some_same o k j e f = let g : Some k ≡ Some j = sym e ∙ f in cc

soon_by : (k : ListKind) {P : Type 0} → (rank k ≡ 1) ⊎ ((k ≡ fault.After) × P) → rank k ≤ 3
soon_by k (inl e) = omega (arith, e)
soon_by k (inr e) = let r : rank k ≡ 3 = ap rank e.0 in omega (arith, r)

-- a later offence comes behind that of the first line
later_behind : (c : Context) (n : ℕ) (l : Bytes) (ls : List Bytes) (k : ListKind) (i : ℕ) (j : ListKind) → (rank k ≡ 1) ⊎ ((k ≡ fault.After) × (c.awaits ≡ [])) → OffendsFrom (behind_line c l) (n + 1) ls i j → Precedes n k i j
later_behind c n l ls k i j (inl e) h =
    let a = from_on (behind_line c l) (n + 1) ls i j h in
    let r = from_ranks (behind_line c l) (n + 1) ls i j h in
    by_rank (rank j) refl r (omega (arith, a))
  where
    by_rank : (q : ℕ) → q ≡ rank j → 1 ≤ rank j → n < i → Precedes n k i j
    by_rank zero p r a = absurd (omega (arith, p, r))
    by_rank (suc zero) p r a = let f : rank k ≡ rank j = e ∙ p in inr (f, a)
    by_rank (suc (suc q)) p r a = inl (omega (arith, p, e))
later_behind c n l ls k i j (inr e) h =
    let a = from_on (behind_line c l) (n + 1) ls i j h in
    let g : j ≡ fault.After = all_after c (n + 1) ls i j e.1 (subst (λ d. OffendsFrom d (n + 1) ls i j) (stays c.awaits l c e.1) h) in
    inr (ap rank e.0 ∙ sym (ap rank g), omega (arith, a))

pub first_here : (c : Context) (n : ℕ) (l : Bytes) (ls : List Bytes) (k : ListKind) → judge c.awaits (words l) ≡ Some k → FirstFrom c n (l ∷ ls) n k
first_here c n l ls k e = record { offends = inl (refl, inl e); precedes = others; soon = soon_by k (judge_ranks c.awaits (words l) k e) }
  where
    others : (i : ℕ) (j : ListKind) → OffendsFrom c n (l ∷ ls) i j → ((i ≡ n) × (j ≡ k)) ⊎ Precedes n k i j
    others i j (inl (p, inl h)) = inl (p, some_same (judge c.awaits (words l)) k j e h)
    others i j (inl (p, inr h)) = let r : rank j ≡ 4 = ap rank h.1 in let s = soon_by k (judge_ranks c.awaits (words l) k e) in inr (inl (omega (arith, r, s)))
    others i j (inr h) = inr (later_behind c n l ls k i j (judge_ranks c.awaits (words l) k e) h)

first_later : (c : Context) (n : ℕ) (l : Bytes) (ls : List Bytes) (m : ℕ) (k : ListKind) → judge c.awaits (words l) ≡ None → FirstFrom (behind_line c l) (n + 1) ls m k → FirstFrom c n (l ∷ ls) m k
first_later c n l ls m k e f = record { offends = inr f.offends; precedes = others; soon = f.soon }
  where
    others : (i : ℕ) (j : ListKind) → OffendsFrom c n (l ∷ ls) i j → ((i ≡ m) × (j ≡ k)) ⊎ Precedes m k i j
    others i j (inl (p, inl h)) = let g : None ≡ Some j = sym e ∙ h in cc
    others i j (inl (p, inr h)) = let r : rank j ≡ 4 = ap rank h.1 in let s = f.soon in inr (inl (omega (arith, r, s)))
    others i j (inr h) = f.precedes i j h

stopped_by : (s : State) (n : ℕ) (l : Bytes) (ls more : List Bytes) (m : ℕ) (k : ListKind) → (walk (next s n (words l)) (n + 1) ls ≡ Err (m, k) → FirstFrom (next s n (words l)).context (n + 1) (ls ++ more) m k)
    → (o : Option ListKind) → judge s.context.awaits (words l) ≡ o → walk_on o n (walk (next s n (words l)) (n + 1) ls) ≡ Err (m, k) → FirstFrom s.context n (l ∷ ls ++ more) m k
stopped_by s n l ls more m k ih (Some j) e w =
    let p : (n, j) ≡ (m, k) = cc in
    subst (λ (q : ℕ × ListKind). FirstFrom s.context n (l ∷ ls ++ more) q.0 q.1) p (first_here s.context n l (ls ++ more) j e)
stopped_by s n l ls more m k ih None e w =
    first_later s.context n l (ls ++ more) m k e (subst (λ c. FirstFrom c (n + 1) (ls ++ more) m k) (next_context s n l) (ih w))

-- where the walk stops is the first of all, whatever comes behind these lines
pub stopped_first : (s : State) (n : ℕ) (ls more : List Bytes) (m : ℕ) (k : ListKind) → walk s n ls ≡ Err (m, k) → FirstFrom s.context n (ls ++ more) m k
stopped_first s n [] more m k h = cc
stopped_first s n (l ∷ ls) more m k h = stopped_by s n l ls more m k (stopped_first (next s n (words l)) (n + 1) ls more m k) (judge s.context.awaits (words l)) refl h

-- ---- no line is wrong

-- what the first line that breaks a rule is, after that of the lines before
abbrev pub PlaceIs : Context → ℕ → List Bytes → Option ℕ → Type 0
PlaceIs c n ls None = (i : ℕ) (j : ListKind) → OffendsFrom c n ls i j → ⊥
PlaceIs c n ls (Some m) = OffendsFrom c n ls m fault.Place × ((i : ℕ) (j : ListKind) → OffendsFrom c n ls i j → (j ≡ fault.Place) × (m ≤ i))

pub walk_none : (s : State) (n : ℕ) (l : Bytes) (ls : List Bytes) (t : State) → walk s n (l ∷ ls) ≡ Ok t → (judge s.context.awaits (words l) ≡ None) × (walk (next s n (words l)) (n + 1) ls ≡ Ok t)
walk_none s n l ls t h = by_judge (judge s.context.awaits (words l)) refl h
  where
    by_judge : (o : Option ListKind) → judge s.context.awaits (words l) ≡ o → walk_on o n (walk (next s n (words l)) (n + 1) ls) ≡ Ok t → (judge s.context.awaits (words l) ≡ None) × (walk (next s n (words l)) (n + 1) ls ≡ Ok t)
    by_judge (Some j) e w = cc
    by_judge None e w = (e, w)

pub walked_context : (s : State) (n : ℕ) (ls : List Bytes) (t : State) → walk s n ls ≡ Ok t → t.context ≡ fold behind_line s.context ls
walked_context s n [] t h = let e : s ≡ t = cc in ap (λ s. s.context) (sym e)
walked_context s n (l ∷ ls) t h =
    walked_context (next s n (words l)) (n + 1) ls t (walk_none s n l ls t h).1 ∙ ap (λ c. fold behind_line c ls) (next_context s n l)

place_by : (ks : List Kind) (s : State) (n : ℕ) (ws : List Bytes) → (next_by ks s n ws).place ≡ marked s.place (breaks ks s.context ws) n
place_by [] s n ws = unmarked s.place n
  where
    unmarked : (o : Option ℕ) (n : ℕ) → o ≡ marked o false n
    unmarked None n = refl
    unmarked (Some m) n = refl
place_by (k ∷ ks) s n ws = refl

pub next_place : (s : State) (n : ℕ) (l : Bytes) → (next s n (words l)).place ≡ marked s.place (breaks s.context.awaits s.context (words l)) n
next_place s n l = place_by s.context.awaits s n (words l)

pub walked_marked : (s : State) (n : ℕ) (ls : List Bytes) (t : State) (p : ℕ) → walk s n ls ≡ Ok t → s.place ≡ Some p → t.place ≡ Some p
walked_marked s n [] t p h e = let f : s ≡ t = cc in ap (λ s. s.place) (sym f) ∙ e
walked_marked s n (l ∷ ls) t p h e =
    walked_marked (next s n (words l)) (n + 1) ls t p (walk_none s n l ls t h).1 (next_place s n l ∙ ap (λ o. marked o (breaks s.context.awaits s.context (words l)) n) e)

-- only a rule is broken
pub walked_only : (s : State) (n : ℕ) (ls : List Bytes) (t : State) (i : ℕ) (j : ListKind) → walk s n ls ≡ Ok t → OffendsFrom s.context n ls i j → j ≡ fault.Place
walked_only s n [] t i j h o = absurd o
walked_only s n (l ∷ ls) t i j h (inl (p, inl q)) = let w = (walk_none s n l ls t h).0 in let g : None ≡ Some j = sym w ∙ q in cc
walked_only s n (l ∷ ls) t i j h (inl (p, inr q)) = q.1
walked_only s n (l ∷ ls) t i j h (inr o) =
    walked_only (next s n (words l)) (n + 1) ls t i j (walk_none s n l ls t h).1 (subst (λ c. OffendsFrom c (n + 1) ls i j) (sym (next_context s n l)) o)

unbroken : (s : State) (n : ℕ) (l : Bytes) (ls : List Bytes) → judge s.context.awaits (words l) ≡ None → breaks s.context.awaits s.context (words l) ≡ false → (i : ℕ) (j : ListKind) → OffendsFrom s.context n (l ∷ ls) i j → OffendsFrom (behind_line s.context l) (n + 1) ls i j
unbroken s n l ls w b i j (inl (p, inl q)) = let g : None ≡ Some j = sym w ∙ q in cc
unbroken s n l ls w b i j (inl (p, inr q)) = let g : false ≡ true = sym b ∙ q.0 in cc
unbroken s n l ls w b i j (inr o) = o

place_none : (s : State) (n : ℕ) (l : Bytes) (ls : List Bytes) → judge s.context.awaits (words l) ≡ None → breaks s.context.awaits s.context (words l) ≡ false → (o : Option ℕ) → PlaceIs (behind_line s.context l) (n + 1) ls o → PlaceIs s.context n (l ∷ ls) o
place_none s n l ls w b None h = λ i j o. h i j (unbroken s n l ls w b i j o)
place_none s n l ls w b (Some m) h = (inr h.0, λ i j o. h.1 i j (unbroken s n l ls w b i j o))

place_some : (s t : State) (n : ℕ) (l : Bytes) (ls : List Bytes) → walk s n (l ∷ ls) ≡ Ok t → breaks s.context.awaits s.context (words l) ≡ true → PlaceIs s.context n (l ∷ ls) (Some n)
place_some s t n l ls h b = (inl (refl, inr (b, refl)), all)
  where
    all : (i : ℕ) (j : ListKind) → OffendsFrom s.context n (l ∷ ls) i j → (j ≡ fault.Place) × (n ≤ i)
    all i j o = (walked_only s n (l ∷ ls) t i j h o, from_on s.context n (l ∷ ls) i j o)

place_step : (s t : State) (n : ℕ) (l : Bytes) (ls : List Bytes) → walk s n (l ∷ ls) ≡ Ok t → s.place ≡ None
    → ((next s n (words l)).place ≡ None → PlaceIs (next s n (words l)).context (n + 1) ls t.place)
    → (b : Bool) → breaks s.context.awaits s.context (words l) ≡ b → PlaceIs s.context n (l ∷ ls) t.place
place_step s t n l ls h e ih true b =
    let m : (next s n (words l)).place ≡ Some n = next_place s n l ∙ ap (λ o. marked o (breaks s.context.awaits s.context (words l)) n) e ∙ ap (λ b. marked None b n) b in
    subst (λ o. PlaceIs s.context n (l ∷ ls) o) (sym (walked_marked (next s n (words l)) (n + 1) ls t n (walk_none s n l ls t h).1 m)) (place_some s t n l ls h b)
place_step s t n l ls h e ih false b =
    let m : (next s n (words l)).place ≡ None = next_place s n l ∙ ap (λ o. marked o (breaks s.context.awaits s.context (words l)) n) e ∙ ap (λ b. marked None b n) b in
    place_none s n l ls (walk_none s n l ls t h).0 b t.place (subst (λ c. PlaceIs c (n + 1) ls t.place) (next_context s n l) (ih m))

-- what the walk marks is the first line that breaks a rule
pub walked_place : (s : State) (n : ℕ) (ls : List Bytes) (t : State) → walk s n ls ≡ Ok t → s.place ≡ None → PlaceIs s.context n ls t.place
walked_place s n [] t h e = subst (λ o. PlaceIs s.context n [] o) p (λ i j o. o)
  where
    p : None ≡ t.place
    p = let f : s ≡ t = cc in sym e ∙ ap (λ s. s.place) f
walked_place s n (l ∷ ls) t h e =
    place_step s t n l ls h e (walked_place (next s n (words l)) (n + 1) ls t (walk_none s n l ls t h).1) (breaks s.context.awaits s.context (words l)) refl

-- an offence of lines and more is one of the lines, or of what comes behind
pub from_split : (c : Context) (n : ℕ) (ls more : List Bytes) (i : ℕ) (j : ListKind) → OffendsFrom c n (ls ++ more) i j → OffendsFrom c n ls i j ⊎ OffendsFrom (fold behind_line c ls) (n + length ls) more i j
from_split c n [] more i j o = let e : n + 0 ≡ n = omega arith in inr (subst (λ n. OffendsFrom c n more i j) (sym e) o)
from_split c n (l ∷ ls) more i j (inl o) = inl (inl o)
from_split c n (l ∷ ls) more i j (inr o) = further (from_split (behind_line c l) (n + 1) ls more i j o)
  where
    further : OffendsFrom (behind_line c l) (n + 1) ls i j ⊎ OffendsFrom (fold behind_line (behind_line c l) ls) (n + 1 + length ls) more i j
        → OffendsFrom c n (l ∷ ls) i j ⊎ OffendsFrom (fold behind_line c (l ∷ ls)) (n + length (l ∷ ls)) more i j
    further (inl o) = inl (inr o)
    further (inr o) = let e : n + 1 + length ls ≡ n + length (l ∷ ls) = omega arith in inr (subst (λ n. OffendsFrom (fold behind_line (behind_line c l) ls) n more i j) e o)

pub from_right : (c : Context) (n : ℕ) (ls more : List Bytes) (i : ℕ) (j : ListKind) → OffendsFrom (fold behind_line c ls) (n + length ls) more i j → OffendsFrom c n (ls ++ more) i j
from_right c n [] more i j o = let e : n + 0 ≡ n = omega arith in subst (λ n. OffendsFrom c n more i j) e o
from_right c n (l ∷ ls) more i j o =
    let e : n + length (l ∷ ls) ≡ n + 1 + length ls = omega arith in
    inr (from_right (behind_line c l) (n + 1) ls more i j (subst (λ n. OffendsFrom (fold behind_line (behind_line c l) ls) n more i j) e o))

-- once no line is awaited, none is
pub still_none : (c : Context) (ls : List Bytes) → c.awaits ≡ [] → (fold behind_line c ls).awaits ≡ []
still_none c [] e = e
still_none c (l ∷ ls) e = ap (λ d. (fold behind_line d ls).awaits) (stays c.awaits l c e) ∙ still_none c ls e

end_by : (s : State) (n : ℕ) (l : Bytes) (ls : List Bytes) (m : ℕ) (k : ListKind) → (walk (next s n (words l)) (n + 1) ls ≡ Err (m, k) → (rank k ≡ 1) ⊎ ((fold behind_line (next s n (words l)).context ls).awaits ≡ []))
    → (o : Option ListKind) → judge s.context.awaits (words l) ≡ o → walk_on o n (walk (next s n (words l)) (n + 1) ls) ≡ Err (m, k) → (rank k ≡ 1) ⊎ ((fold behind_line s.context (l ∷ ls)).awaits ≡ [])
end_by s n l ls m k ih (Some j) e w =
    let p : (n, j) ≡ (m, k) = cc in
    kept (judge_ranks s.context.awaits (words l) k (e ∙ ap (λ (q : ℕ × ListKind). Some q.1) p))
  where
    kept : (rank k ≡ 1) ⊎ ((k ≡ fault.After) × (s.context.awaits ≡ [])) → (rank k ≡ 1) ⊎ ((fold behind_line s.context (l ∷ ls)).awaits ≡ [])
    kept (inl r) = inl r
    kept (inr r) = inr (still_none s.context (l ∷ ls) r.1)
end_by s n l ls m k ih None e w = subst (λ c. (rank k ≡ 1) ⊎ ((fold behind_line c ls).awaits ≡ [])) (next_context s n l) (ih w)

-- where the walk stops a line is wrong, or none is awaited
pub stopped_end : (s : State) (n : ℕ) (ls : List Bytes) (m : ℕ) (k : ListKind) → walk s n ls ≡ Err (m, k) → (rank k ≡ 1) ⊎ ((fold behind_line s.context ls).awaits ≡ [])
stopped_end s n [] m k h = cc
stopped_end s n (l ∷ ls) m k h = end_by s n l ls m k (stopped_end (next s n (words l)) (n + 1) ls m k) (judge s.context.awaits (words l)) refl h
