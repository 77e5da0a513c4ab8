-- A message that is brought to a queue, and the messages of a tick.
use Rattle.std.proofs.Common.{◌≡◌, ℕ, zero, suc, ◌+◌, ◌<◌, ℤ, pos, Bool, true, false, cond, List, [], ◌∷◌, ◌++◌, length, map, drop, Option, Some, slice_get, slice_index_or, slice_set, refl, ap, sym, ◌∙◌, arith, add-one}
use Rattle.std.specs.Prelude.{slice_index, fold}
use Rattle.std.specs.Option.{option_map}
use Rattle.tower_syntax.specs.declared.arch.SourceKind.{SourceKind}
use Rattle.tower_syntax.specs.Arrival.{is_full, is_due}
use Rattle.task_code.specs.Machine.{Machine, bring}
use Rattle.task_machine.specs.Queue.{Queue, waiting, lost}
use Rattle.task_machine.specs.Brought.{with_queues, depth_at, Brought, tick_messages}
use Rattle.task_machine.proofs.Lists.{get_some, get_map, set_map, set_same, drop_at}
use Rattle.task_machine.proofs.Kept.{queue_is}

lost_is : (qs : List Queue) (x : ℕ) (q : Queue) → slice_get qs x ≡ Some q → slice_index (map lost qs) x ≡ lost q
lost_is qs x q e = get_some (map lost qs) x 0 (lost q) (get_map lost qs x ∙ ap (option_map lost) e)

module _ (m : Machine) (qs : List Queue) (x : ℕ) (q r : Queue) (message : List ℤ) (at : slice_get qs x ≡ Some q) where
  by_full : (b : Bool) → waiting r ≡ cond b (waiting q) (waiting q ++ message ∷ []) → lost r ≡ cond b (suc (lost q)) (lost q)
      → with_queues m (slice_set qs x r)
      ≡ cond b (record (with_queues m qs) { lost = slice_set (map lost qs) x (suc (lost q)) }) (record (with_queues m qs) { queues = slice_set (map waiting qs) x (waiting q ++ message ∷ []) })
  by_full true e f =
      let stays : map waiting (slice_set qs x r) ≡ map waiting qs =
      sym (set_map waiting qs x r) ∙ set_same (map waiting qs) x (waiting r) (get_map waiting qs x ∙ ap (option_map waiting) at ∙ ap Some (sym e)) in
      let counts : map lost (slice_set qs x r) ≡ slice_set (map lost qs) x (suc (lost q)) = sym (set_map lost qs x r) ∙ ap (slice_set (map lost qs) x) f in
      rw (stays, counts) refl
  by_full false e f =
      let waits : map waiting (slice_set qs x r) ≡ slice_set (map waiting qs) x (waiting q ++ message ∷ []) =
      sym (set_map waiting qs x r) ∙ ap (slice_set (map waiting qs) x) e in
      let stays : map lost (slice_set qs x r) ≡ map lost qs =
      sym (set_map lost qs x r) ∙ set_same (map lost qs) x (lost r) (get_map lost qs x ∙ ap (option_map lost) at ∙ ap Some (sym f)) in
      rw (waits, stays) refl

  pub bring_is : (depths : List (Option ℕ)) → Brought (depth_at depths x) message q r → with_queues m (slice_set qs x r) ≡ bring depths (with_queues m qs) (x, message)
  bring_is depths is =
      rw (queue_is qs x q at, lost_is qs x q at) (by_full (is_full (depth_at depths x) (length (waiting q))) is.waits is.drops)

-- the messages of a tick, source by source
module _ (depths : List (Option ℕ)) (kinds : List SourceKind) (k x : ℕ) (kind : SourceKind) (at : slice_get kinds x ≡ Some kind) where
  pub due_step : is_due k kind ≡ true → (m : Machine) → fold (bring depths) m (tick_messages (drop x kinds) k x)
      ≡ fold (bring depths) (bring depths m (x, pos k ∷ [])) (tick_messages (drop (x + 1) kinds) k (x + 1))
  due_step due m = rw (drop_at kinds x kind at, due, add-one) refl

  pub not_due_step : is_due k kind ≡ false → (m : Machine) → fold (bring depths) m (tick_messages (drop x kinds) k x)
      ≡ fold (bring depths) m (tick_messages (drop (x + 1) kinds) k (x + 1))
  not_due_step due m = rw (drop_at kinds x kind at, due, add-one) refl

pub index_any : {X : Type 0} (xs : List X) (i : ℕ) (d e : X) → i < length xs → slice_index_or xs i d ≡ slice_index_or xs i e
index_any [] i d e h = absurd (omega arith)
index_any (x ∷ xs) zero d e h = refl
index_any (x ∷ xs) (suc i) d e h = index_any xs i d e (omega arith)
