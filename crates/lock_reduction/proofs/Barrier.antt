-- The tasks of init sources, in the machine and in the replay.
use Rattle.std.proofs.Common.{◌≡◌, ℕ, zero, suc, ℤ, Bool, true, false, ◌&&◌, List, [], ◌∷◌, Some, refl, ap₂, subst, slice_get}
use Rattle.std.proofs.lemmas.Option.{same_Some}
use Rattle.std.specs.Prelude.{not, ◌||◌}
use Rattle.tower_types.specs.Value.{Value}
use Rattle.tower_syntax.specs.declared.arch.SourceKind.{SourceKind}
use Rattle.tower_syntax.specs.declared.arch.SourceKind.TheVariants as kind
use Rattle.tower_syntax.specs.Arrival.{is_init}
use Rattle.tower_meaning.specs.System.{Item}
use Rattle.tower_meaning.specs.Atomic.{is_none_left, are_inits_done}
use Rattle.task_code.specs.declared.program.Task.{Task}
use Rattle.task_code.specs.Own.{Own}
use Rattle.task_code.specs.Standing.{is_clear, clear_if_init, inits_clear}

and_first : (a b : Bool) → (a && b) ≡ true → a ≡ true
and_first true b e = refl
and_first false b e = cc

and_second : (a b : Bool) → (a && b) ≡ true → b ≡ true
and_second true b e = e
and_second false b e = cc

and_both : {a b : Bool} → a ≡ true → b ≡ true → (a && b) ≡ true
and_both p q = ap₂ (λ a b. a && b) p q

-- where all init tasks are clear, each is
pub clear_at : (ks : List SourceKind) (ts : List Task) (owns : List Own) (qs : List (List (List ℤ))) → inits_clear ks ts owns qs ≡ true → (x : ℕ) (k : SourceKind) (t : Task) (own : Own) (q : List (List ℤ)) → slice_get ks x ≡ Some k → slice_get ts x ≡ Some t → slice_get owns x ≡ Some own → slice_get qs x ≡ Some q → clear_if_init k t own q ≡ true
clear_at [] ts owns qs e x k t own q a b c d = cc
clear_at (k' ∷ ks) [] owns qs e x k t own q a b c d = cc
clear_at (k' ∷ ks) (t' ∷ ts) [] qs e x k t own q a b c d = cc
clear_at (k' ∷ ks) (t' ∷ ts) (own' ∷ owns) [] e x k t own q a b c d = cc
clear_at (k' ∷ ks) (t' ∷ ts) (own' ∷ owns) (q' ∷ qs) e zero k t own q a b c d =
    let first : clear_if_init k' t' own' q' ≡ true = and_first _ _ e in
    let at_k : k' ≡ k = same_Some k' k a in
    let at_t : t' ≡ t = same_Some t' t b in
    let at_own : own' ≡ own = same_Some own' own c in
    let at_q : q' ≡ q = same_Some q' q d in
    subst (λ k. clear_if_init k t own q ≡ true) at_k
    (subst (λ t. clear_if_init k' t own q ≡ true) at_t
    (subst (λ own. clear_if_init k' t' own q ≡ true) at_own
    (subst (λ q. clear_if_init k' t' own' q ≡ true) at_q first)))
clear_at (k' ∷ ks) (t' ∷ ts) (own' ∷ owns) (q' ∷ qs) e (suc x) k t own q a b c d = clear_at ks ts owns qs (and_second (clear_if_init k' t' own' q') _ e) x k t own q a b c d

-- and where each is, all are
pub clear_all : (ks : List SourceKind) (ts : List Task) (owns : List Own) (qs : List (List (List ℤ))) → ((x : ℕ) (k : SourceKind) (t : Task) (own : Own) (q : List (List ℤ)) → slice_get ks x ≡ Some k → slice_get ts x ≡ Some t → slice_get owns x ≡ Some own → slice_get qs x ≡ Some q → clear_if_init k t own q ≡ true) → inits_clear ks ts owns qs ≡ true
clear_all [] ts owns qs each = refl
clear_all (k ∷ ks) [] owns qs each = refl
clear_all (k ∷ ks) (t ∷ ts) [] qs each = refl
clear_all (k ∷ ks) (t ∷ ts) (own ∷ owns) [] each = refl
clear_all (k ∷ ks) (t ∷ ts) (own ∷ owns) (q ∷ qs) each =
    and_both (each 0 k t own q refl refl refl refl) (clear_all ks ts owns qs (λ x k t own q a b c d. each (suc x) k t own q a b c d))

or_not : (a b : Bool) → (a ≡ true → b ≡ true) → (not a || b) ≡ true
or_not true b h = h refl
or_not false b h = refl

-- where each init source has no message and nothing pending, all initialisation is done
pub done_all : (ks : List SourceKind) (qs : List (List Value)) (ps : List (List Item)) → ((x : ℕ) (k : SourceKind) (q : List Value) (items : List Item) → slice_get ks x ≡ Some k → slice_get qs x ≡ Some q → slice_get ps x ≡ Some items → is_init k ≡ true → is_none_left q items ≡ true) → are_inits_done ks qs ps ≡ true
done_all [] qs ps each = refl
done_all (k ∷ ks) [] ps each = refl
done_all (k ∷ ks) (q ∷ qs) [] each = refl
done_all (k ∷ ks) (q ∷ qs) (items ∷ ps) each =
    and_both (or_not (is_init k) (is_none_left q items) (each 0 k q items refl refl refl))
    (done_all ks qs ps (λ x k q items a b c. each (suc x) k q items a b c))

pub clear_of_init : (k : SourceKind) (t : Task) (own : Own) (q : List (List ℤ)) → is_init k ≡ true → clear_if_init k t own q ≡ true → is_clear t own q ≡ true
clear_of_init kind.Init t own q e h = h
clear_of_init (kind.Period ms) t own q e h = cc
clear_of_init kind.Signal t own q e h = cc

pub init_clears : (k : SourceKind) (t : Task) (own : Own) (q : List (List ℤ)) → (is_init k ≡ true → is_clear t own q ≡ true) → clear_if_init k t own q ≡ true
init_clears kind.Init t own q h = h refl
init_clears (kind.Period ms) t own q h = refl
init_clears kind.Signal t own q h = refl
