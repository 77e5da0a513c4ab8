-- What a running machine starts with.
use Rattle.std.proofs.Common.{◌≡◌, ℕ, zero, suc, ◌<◌, ℤ, pos, List, [], ◌∷◌, length, map, replicate, Option, Some, None, slice_get, slice_index_or, refl, ap, sym, ◌∙◌, subst, arith}
use Rattle.std.specs.Prelude.{All, slice_index}
use Rattle.std.specs.Option.{option_map}
use Rattle.std.proofs.lemmas.List.{length-map, length-replicate}
use Rattle.std.proofs.lemmas.List.Elements.{All-cons}
use Rattle.tower_syntax.specs.declared.arch.SourceKind.{SourceKind}
use Rattle.tower_syntax.specs.declared.arch.SourceKind.TheVariants as source
use Rattle.tower_syntax.specs.declared.event.Entry.{Entry as EntryValue}
use Rattle.tower_syntax.specs.View.{entry_of}
use Rattle.tower_syntax.specs.Arch.{Events}
use Rattle.task_code.specs.declared.program.Task.{Task}
use Rattle.task_code.specs.Program.{Program}
use Rattle.task_code.specs.Fits.{Fits, FitsKind}
use Rattle.task_code.specs.Own.{first_own, held_monitor}
use Rattle.task_code.specs.Machine.{Lock, Free, first_queue}
use Rattle.task_machine.specs.Queue.{Queue, waiting, lost, capped, is_numbered, IsQueue}
use Rattle.task_machine.specs.Brought.{kind_in, depth_at}
use Rattle.task_machine.specs.Kept.{IsKept, HasWords, coming, signals}
use Rattle.task_machine.specs.Policy.{IsBelow}
use Rattle.task_machine.specs.Start.{IsShallow, Starts}
use Rattle.task_machine.proofs.Lists.{get_at, get_some, get_within, get_map}
use Rattle.task_machine.proofs.Kept.{get_read}

pub shallow_at : (es : List EntryValue) (i : ℕ) (r : EntryValue) → i < length es → r ≡ slice_index_or es i r → All IsShallow (map entry_of es) → IsShallow (entry_of r)
shallow_at es i r h e all =
    let g : slice_get (map entry_of es) i ≡ Some (entry_of r) = get_map entry_of es i ∙ ap (option_map entry_of) (get_read es i r h e) in
    let l = get_within (map entry_of es) i (entry_of r) g in
    subst IsShallow (get_some (map entry_of es) i (entry_of r) (entry_of r) g) (all i (entry_of r) l)

-- maps of lists that agree place by place
map_same : {X Y Z : Type 0} (f : X → Z) (g : Y → Z) (xs : List X) (ys : List Y) → length xs ≡ length ys
    → ((i : ℕ) (x : X) (y : Y) → slice_get xs i ≡ Some x → slice_get ys i ≡ Some y → f x ≡ g y) → map f xs ≡ map g ys
map_same f g [] [] l h = refl
map_same f g [] (y ∷ ys) l h = absurd (omega arith)
map_same f g (x ∷ xs) [] l h = absurd (omega arith)
map_same f g (x ∷ xs) (y ∷ ys) l h =
    let first : f x ≡ g y = h 0 x y refl refl in
    let rest : map f xs ≡ map g ys = map_same f g xs ys (omega arith) (λ i a b e d. h (suc i) a b e d) in
    ap (λ z. z ∷ map f xs) first ∙ ap (λ zs. g y ∷ zs) rest

get_mapped : {X Y : Type 0} (f : X → Y) (xs : List X) (i : ℕ) (y : Y) → slice_get (map f xs) i ≡ Some y → (x : X) × (f x ≡ y)
get_mapped f [] i y e = cc
get_mapped f (x ∷ xs) zero y e = (x, cc)
get_mapped f (x ∷ xs) (suc i) y e = get_mapped f xs i y e

-- the words of each monitor are as many as it has
free_start : (ms : List ℕ) (m : ℕ) (l : Lock) → slice_get (map (λ n. Free (replicate n (pos 0))) ms) m ≡ Some l → HasWords (slice_index ms m) l
free_start [] m l e = cc
free_start (n ∷ ms) zero l e = let f : Free (replicate n (pos 0)) ≡ l = cc in rw (← f) (length-replicate n (pos 0))
free_start (n ∷ ms) (suc m) l e = free_start ms m l e

module _ (p : Program) (events : Events) (qs : List Queue) (count : length qs ≡ length events.kinds)
    (each : (x : ℕ) (q : Queue) → slice_get qs x ≡ Some q → Starts (kind_in events.kinds x) (depth_at events.depths x) (coming (kind_in events.kinds x) x 0 events.entries) q) where
  kind_is : (x : ℕ) (k : SourceKind) → slice_get events.kinds x ≡ Some k → kind_in events.kinds x ≡ k
  kind_is x k e = get_some events.kinds x source.Signal k e

  pub waiting_start : map waiting qs ≡ map first_queue events.kinds
  waiting_start = map_same waiting first_queue qs events.kinds count
      (λ x q k e f. (each x q e).waits ∙ ap first_queue (kind_is x k f))

  pub lost_start : map lost qs ≡ map (λ k. 0) events.kinds
  lost_start = map_same lost (λ k. 0) qs events.kinds count (λ x q k e f. (each x q e).none_lost)

  first_is : (t : Task) (kind : SourceKind) (depth : Option ℕ) (n : ℕ) (q : Queue) → FitsKind kind t depth → Starts kind depth n q → IsQueue t.message depth (is_numbered kind) n 0 q
  first_is t kind depth n q fits is = record {
    messages = subst (λ (ms : List (List ℤ)). All (λ m. length m ≡ t.message) ms) (sym is.waits) (words kind t depth fits);
    within = rw is.waits (few kind t depth fits);
    room = is.room;
    few_lost = let a = is.none_lost in omega (arith, a);
    numbered = is.numbered;
  }
    where
      words : (kind : SourceKind) (t : Task) (depth : Option ℕ) → FitsKind kind t depth → All (λ m. length m ≡ t.message) (first_queue kind)
      words source.Init t depth fits = λ i d h. let z : i ≡ 0 = omega arith in rw z (sym fits.0)
      words (source.Period ms) t depth fits = λ i d h. absurd (omega arith)
      words source.Signal t depth fits = λ i d h. absurd (omega arith)

      few : (kind : SourceKind) (t : Task) (depth : Option ℕ) → FitsKind kind t depth → length (first_queue kind) ≡ capped depth (length (first_queue kind))
      few source.Init t depth fits = rw fits.1 refl
      few (source.Period ms) t None fits = refl
      few (source.Period ms) t (Some d) fits = omega arith
      few source.Signal t None fits = refl
      few source.Signal t (Some d) fits = omega arith

  pub kept_start : Fits p events → IsKept p events (map first_own p.tasks) (map (λ n. Free (replicate n (pos 0))) p.monitors) qs (signals events.entries) (replicate (length p.tasks) None) 0 0
  kept_start fits = record {
    fits = fits;
    owns_count = length-map p.tasks first_own;
    locks_count = length-map p.monitors (λ n. Free (replicate n (pos 0)));
    queues_count = count ∙ sym fits.tasks;
    words = λ x t own at there.
        let e : Some (first_own t) ≡ Some own = sym (get_map first_own p.tasks x ∙ ap (option_map first_own) at) ∙ there in
        let f : first_own t ≡ own = cc in
        rw (← f) (length-replicate t.room (pos 0));
    free = free_start p.monitors;
    held_words = λ x own at.
        let t = get_mapped first_own p.tasks x own at in
        rw (← t.1) tt;
    queues = λ x t q at there.
        let a = get_within qs x q there in
        let in_kinds : x < length events.kinds = omega (arith, a, count) in
        let in_depths : x < length events.depths = let d = fits.depths in omega (arith, in_kinds, d) in
        let fit = fits.sources x (kind_in events.kinds x) t (depth_at events.depths x) (get_at events.kinds x source.Signal in_kinds) at (get_at events.depths x None in_depths) in
        first_is t (kind_in events.kinds x) (depth_at events.depths x) (coming (kind_in events.kinds x) x 0 events.entries) q fit (each x q there);
    to_come = refl;
    holds = none_held p.tasks;
    below = none_below (length p.monitors) (length p.tasks);
    count = refl;
    at = omega arith;
  }
    where
      none_below : (n m : ℕ) → All (IsBelow n) (replicate m None)
      none_below n zero = λ i d h. absurd (omega arith)
      none_below n (suc m) = All-cons (IsBelow n) None (replicate m None) tt (none_below n m)

      none_held : (ts : List Task) → replicate (length ts) None ≡ map held_monitor (map first_own ts)
      none_held [] = refl
      none_held (t ∷ ts) = ap (λ r. None ∷ r) (none_held ts)
