-- How tasks stand, read place by place.
use Rattle.std.proofs.Common.{◌≡◌, ℕ, zero, suc, ◌<◌, ◌≤◌, ℤ, Bool, true, false, List, [], ◌∷◌, length, drop, Option, Some, None, slice_get, slice_index_or, refl, sym, ◌∙◌, arith}
use Rattle.std.specs.Prelude.{IsSomeAnd, ◌&&◌}
use Rattle.std.specs.Option.{option_map}
use Rattle.tower_syntax.specs.declared.arch.SourceKind.{SourceKind}
use Rattle.tower_syntax.specs.declared.arch.SourceKind.TheVariants as kind
use Rattle.tower_syntax.specs.Arrival.{is_init}
use Rattle.task_code.specs.declared.program.Task.{Task}
use Rattle.task_code.specs.Own.{Own, Held}
use Rattle.task_code.specs.Standing.{IsReady, is_clear, clear_if_init, inits_clear}
use Rattle.task_machine.specs.Action.{unlocks}
use Rattle.task_machine.specs.Noted.{stands_by}
use Rattle.task_machine.specs.State.{State}
use Rattle.task_machine.proofs.Lists.{get_at, drop_at}
use Rattle.std.proofs.lemmas.List.{drop_all}

pub get_exists : {X : Type 0} (xs : List X) (i : ℕ) → i < length xs → (x : X) × (slice_get xs i ≡ Some x)
get_exists [] i h = absurd (omega arith)
get_exists (y ∷ xs) zero h = (y, refl)
get_exists (y ∷ xs) (suc i) h = get_exists xs i (omega arith)

no_init : (k : SourceKind) (t : Task) (own : Own) (q : List (List ℤ)) → is_init k ≡ false → clear_if_init k t own q ≡ true
no_init kind.Init t own q e = cc
no_init (kind.Period ms) t own q e = refl
no_init kind.Signal t own q e = refl

an_init : (k : SourceKind) (t : Task) (own : Own) (q : List (List ℤ)) → is_init k ≡ true → clear_if_init k t own q ≡ is_clear t own q
an_init kind.Init t own q e = refl
an_init (kind.Period ms) t own q e = cc
an_init kind.Signal t own q e = cc

module _ (ks : List SourceKind) (ts : List Task) (owns : List Own) (qs : List (List (List ℤ))) where
  -- the inits among the sources from x on are clear
  abbrev pub clear_from : ℕ → Bool
  clear_from x = inits_clear (drop x ks) (drop x ts) (drop x owns) (drop x qs)

  abbrev pub IsClearAt : ℕ → Bool → Type 0
  IsClearAt x b = (t : Task) (own : Own) → slice_get ts x ≡ Some t → slice_get owns x ≡ Some own → b ≡ is_clear t own (slice_index_or qs x [])

  split : (x : ℕ) (k : SourceKind) (t : Task) (own : Own) (q : List (List ℤ)) → slice_get ks x ≡ Some k → slice_get ts x ≡ Some t → slice_get owns x ≡ Some own → slice_get qs x ≡ Some q
      → clear_from x ≡ (clear_if_init k t own q && clear_from (suc x))
  split x k t own q e f g h = rw (drop_at ks x k e, drop_at ts x t f, drop_at owns x own g, drop_at qs x q h) refl

  module _ (x : ℕ) (in_kinds : x < length ks) (in_tasks : x < length ts) (in_owns : x < length owns) (in_queues : x < length qs) where
    step : (t : (t : Task) × (slice_get ts x ≡ Some t)) (own : (o : Own) × (slice_get owns x ≡ Some o))
        → clear_from x ≡ (clear_if_init (slice_index_or ks x kind.Signal) t.0 own.0 (slice_index_or qs x []) && clear_from (suc x))
    step t own = split x (slice_index_or ks x kind.Signal) t.0 own.0 (slice_index_or qs x []) (get_at ks x kind.Signal in_kinds) t.1 own.1 (get_at qs x [] in_queues)

    pub clear_skips : is_init (slice_index_or ks x kind.Signal) ≡ false → clear_from x ≡ clear_from (suc x)
    clear_skips h =
        let t = get_exists ts x in_tasks in
        let own = get_exists owns x in_owns in
        let passes = no_init (slice_index_or ks x kind.Signal) t.0 own.0 (slice_index_or qs x []) h in
        step t own ∙ rw passes refl

    pub clear_goes_on : (b : Bool) → IsClearAt x b → is_init (slice_index_or ks x kind.Signal) ≡ true → b ≡ true → clear_from x ≡ clear_from (suc x)
    clear_goes_on b is h f =
        let t = get_exists ts x in_tasks in
        let own = get_exists owns x in_owns in
        let passes : clear_if_init (slice_index_or ks x kind.Signal) t.0 own.0 (slice_index_or qs x []) ≡ true =
        an_init (slice_index_or ks x kind.Signal) t.0 own.0 (slice_index_or qs x []) h ∙ sym (is t.0 own.0 t.1 own.1) ∙ f in
        step t own ∙ rw passes refl

    pub clear_ends : (b : Bool) → IsClearAt x b → is_init (slice_index_or ks x kind.Signal) ≡ true → b ≡ false → clear_from x ≡ false
    clear_ends b is h f =
        let t = get_exists ts x in_tasks in
        let own = get_exists owns x in_owns in
        let fails : clear_if_init (slice_index_or ks x kind.Signal) t.0 own.0 (slice_index_or qs x []) ≡ false =
        an_init (slice_index_or ks x kind.Signal) t.0 own.0 (slice_index_or qs x []) h ∙ sym (is t.0 own.0 t.1 own.1) ∙ f in
        step t own ∙ rw fails refl

  pub clear_after : (x : ℕ) → length ks ≤ x → clear_from x ≡ true
  clear_after x h = rw (drop_all x ks h) refl

-- a task that unlocks is ready
pub unlocks_ready : (clear : Bool) (s : State) (x : ℕ) (held : Option Held) (own : Own) (P : ℕ → Type 0) → IsSomeAnd (option_map (λ h. h.monitor) held) P
    → stands_by clear s x (unlocks held own) ≡ IsReady
unlocks_ready clear s x None own P h = absurd h
unlocks_ready clear s x (Some l) own P h = refl
