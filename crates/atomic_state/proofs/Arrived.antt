-- Messages that come to queues.
use Rattle.std.proofs.Common.{◌≡◌, ◌∙◌, ℕ, zero, suc, ◌+◌, ◌<◌, ◌≤◌, List, [], ◌∷◌, ◌++◌, length, map, fold, drop, get_or, slice_get, slice_set, slice_index, slice_index_or, cond, Bool, true, false, Option, Some, None, pos, refl, ap, sym, subst, arith, inl, inr}
use Rattle.std.proofs.Math.Seq.{drop-length}
use Rattle.std.proofs.lemmas.Bool.{cases_eq}
use Rattle.tower_types.specs.Value.{Value, word}
use Rattle.tower_syntax.specs.declared.arch.SourceKind.{SourceKind}
use Rattle.tower_syntax.specs.Arrival.{is_full, is_due, brought_by_tick}
use Rattle.tower_meaning.specs.Atomic.{Atomic, bring}
use Rattle.tower_meaning.specs.System.{System}
use Rattle.atomic_state.specs.declared.queue.Queue.{Queue}
use Rattle.atomic_state.specs.Queues.{waiting_of, HasRoom, HaveRoom, with_queues}
use Rattle.atomic_state.proofs.Lists.{map_set, got_map, left_of, set_self, get_set_same, get_set_other, some_same, any_default}

abbrev pub lost_of : Queue → ℕ
lost_of q = q.lost

-- ---- room

pub same_set : (qs : List Queue) (x : ℕ) (q r : Queue) → x < length qs → q ≡ get_or qs x q → waiting_of r ≡ waiting_of q → map waiting_of (slice_set qs x r) ≡ map waiting_of qs
same_set qs x q r lt read e =
    map_set waiting_of qs x r ∙ ap (slice_set (map waiting_of qs) x) (e ∙ got_map waiting_of qs x q [] lt read) ∙ set_self (map waiting_of qs) x []

pub same_lost : (qs : List Queue) (x : ℕ) (q r : Queue) → x < length qs → q ≡ get_or qs x q → r.lost ≡ q.lost → map lost_of (slice_set qs x r) ≡ map lost_of qs
same_lost qs x q r lt read e =
    map_set lost_of qs x r ∙ ap (slice_set (map lost_of qs) x) (e ∙ got_map lost_of qs x q 0 lt read) ∙ set_self (map lost_of qs) x 0

-- the first n have room
abbrev pub FirstHaveRoom : ℕ → List Queue → Type 0
FirstHaveRoom n qs = (y : ℕ) (q : Queue) → y < n → slice_get qs y ≡ Some q → HasRoom q

pub one_more_room : (qs : List Queue) (x : ℕ) (r : Queue) → x < length qs → HasRoom r → FirstHaveRoom x qs → FirstHaveRoom (x + 1) (slice_set qs x r)
one_more_room qs x r lt room rooms y q below e = elim (cases_eq y x) [
  | inl here ↦ subst HasRoom (some_same r q (sym (get_set_same qs x r lt) ∙ ap (slice_get (slice_set qs x r)) (sym here) ∙ e)) room
  | inr other ↦ rooms y q (omega (arith, below, other)) (sym (get_set_other qs x y r other) ∙ e)
]

-- ---- one message

pub comes : (system : System) (s : Atomic) (depths : List (Option ℕ)) (qs : List Queue) (x : ℕ) (q r : Queue) (v : Value) → system.depths ≡ depths → x < length qs → q ≡ get_or qs x q
    → waiting_of r ≡ cond (is_full (slice_index_or depths x None) (length (waiting_of q))) (waiting_of q) (waiting_of q ++ v ∷ [])
    → r.lost ≡ cond (is_full (slice_index_or depths x None) (length (waiting_of q))) (q.lost + 1) q.lost
    → with_queues s (slice_set qs x r) ≡ bring system (with_queues s qs) (x, v)
comes system s depths qs x q r v same lt read waits drops =
    ap (λ a. made a (map lost_of (slice_set qs x r))) (map_set waiting_of qs x r) ∙ ap (made (slice_set (map waiting_of qs) x (waiting_of r))) (map_set lost_of qs x r)
    ∙ by (is_full (slice_index_or depths x None) (length (waiting_of q))) refl waits drops
  where
    made : List (List Value) → List ℕ → Atomic
    made a b = record s { queues = a; lost = b }

    queue : List Value
    queue = slice_index_or (map waiting_of qs) x []

    there : waiting_of q ≡ queue
    there = got_map waiting_of qs x q [] lt read

    count : q.lost ≡ slice_index (map lost_of qs) x
    count = got_map lost_of qs x q 0 lt read

    full_is : (b : Bool) → is_full (slice_index_or depths x None) (length (waiting_of q)) ≡ b → is_full (slice_index_or system.depths x None) (length queue) ≡ b
    full_is b e = ap (λ ds. is_full (slice_index_or ds x None) (length queue)) same ∙ ap (λ l. is_full (slice_index_or depths x None) (length l)) (sym there) ∙ e

    by : (b : Bool) → is_full (slice_index_or depths x None) (length (waiting_of q)) ≡ b → waiting_of r ≡ cond b (waiting_of q) (waiting_of q ++ v ∷ []) → r.lost ≡ cond b (q.lost + 1) q.lost
        → made (slice_set (map waiting_of qs) x (waiting_of r)) (slice_set (map lost_of qs) x r.lost) ≡ bring system (with_queues s qs) (x, v)
    by true e w d =
        ap (λ a. made (slice_set (map waiting_of qs) x a) (slice_set (map lost_of qs) x r.lost)) (w ∙ there)
        ∙ ap (λ a. made a (slice_set (map lost_of qs) x r.lost)) (set_self (map waiting_of qs) x [])
        ∙ ap (λ n. made (map waiting_of qs) (slice_set (map lost_of qs) x n)) (d ∙ ap (λ n. n + 1) count)
        ∙ sym (ap (λ f. cond f (made (map waiting_of qs) (slice_set (map lost_of qs) x (slice_index (map lost_of qs) x + 1))) (made (slice_set (map waiting_of qs) x (queue ++ v ∷ [])) (map lost_of qs))) (full_is true e))
    by false e w d =
        ap (λ a. made (slice_set (map waiting_of qs) x a) (slice_set (map lost_of qs) x r.lost)) (w ∙ ap (λ l. l ++ v ∷ []) there)
        ∙ ap (λ n. made (slice_set (map waiting_of qs) x (queue ++ v ∷ [])) (slice_set (map lost_of qs) x n)) (d ∙ count)
        ∙ ap (made (slice_set (map waiting_of qs) x (queue ++ v ∷ []))) (set_self (map lost_of qs) x 0)
        ∙ sym (ap (λ f. cond f (made (map waiting_of qs) (slice_set (map lost_of qs) x (slice_index (map lost_of qs) x + 1))) (made (slice_set (map waiting_of qs) x (queue ++ v ∷ [])) (map lost_of qs))) (full_is false e))

-- ---- a tick

-- with what the tick brings to the sources from x on, this is what it brings to all
abbrev pub IsBrought : List (Option ℕ) → List SourceKind → ℕ → List Queue → ℕ → List Queue → Type 0
IsBrought depths kinds k start x now =
    (system : System) (s : Atomic) → system.depths ≡ depths → fold (bring system) (with_queues s now) (brought_by_tick k x (drop x kinds)) ≡ fold (bring system) (with_queues s start) (brought_by_tick k 0 kinds)

pub one_due : (depths : List (Option ℕ)) (kinds : List SourceKind) (k x : ℕ) (start now then' : List Queue) (a d : SourceKind) → x < length kinds → a ≡ get_or kinds x d → is_due k a ≡ true
    → ((system : System) (s : Atomic) → system.depths ≡ depths → with_queues s then' ≡ bring system (with_queues s now) (x, word (pos k)))
    → IsBrought depths kinds k start x now → IsBrought depths kinds k start (x + 1) then'
one_due depths kinds k x start now then' a d lt read due here before system s same =
    ap (λ t. fold (bring system) t (brought_by_tick k (x + 1) (drop (x + 1) kinds))) (here system s same)
    ∙ sym (ap (λ l. fold (bring system) (with_queues s now) (brought_by_tick k x l)) (left_of kinds x a lt (read ∙ any_default kinds x d a lt))
    ∙ ap (λ b. fold (bring system) (with_queues s now) (cond b ((x, word (pos k)) ∷ []) [] ++ brought_by_tick k (x + 1) (drop (x + 1) kinds))) due)
    ∙ before system s same

pub one_not_due : (depths : List (Option ℕ)) (kinds : List SourceKind) (k x : ℕ) (start now : List Queue) (a d : SourceKind) → x < length kinds → a ≡ get_or kinds x d → is_due k a ≡ false
    → IsBrought depths kinds k start x now → IsBrought depths kinds k start (x + 1) now
one_not_due depths kinds k x start now a d lt read due before system s same =
    sym (ap (λ l. fold (bring system) (with_queues s now) (brought_by_tick k x l)) (left_of kinds x a lt (read ∙ any_default kinds x d a lt))
    ∙ ap (λ b. fold (bring system) (with_queues s now) (cond b ((x, word (pos k)) ∷ []) [] ++ brought_by_tick k (x + 1) (drop (x + 1) kinds))) due)
    ∙ before system s same

pub all_due : (depths : List (Option ℕ)) (kinds : List SourceKind) (k x : ℕ) (start now : List Queue) → x ≡ length kinds → IsBrought depths kinds k start x now
    → (system : System) (s : Atomic) → system.depths ≡ depths → with_queues s now ≡ fold (bring system) (with_queues s start) (brought_by_tick k 0 kinds)
all_due depths kinds k x start now end h system s same =
    sym (ap (λ l. fold (bring system) (with_queues s now) (brought_by_tick k x l)) (ap (λ j. drop j kinds) end ∙ drop-length kinds)) ∙ h system s same
