-- Pending lists, and what waits.
use Rattle.std.proofs.Common.{◌≡◌, ◌∙◌, ℕ, zero, suc, ◌+◌, ◌-◌, ◌<◌, ◌≤◌, min, List, [], ◌∷◌, ◌++◌, length, map, reverse, take, drop, get_or, slice_get, slice_set, Bool, true, false, not, ◌&&◌, ◌||◌, Option, Some, None, Vec, Global, ◌⊎◌, inl, inr, refl, ap, sym, subst, arith}
use Rattle.std.proofs.Math.Seq.{drop-length}
use Rattle.std.proofs.lemmas.List.{map-append, reverse-append, reverse-reverse, length-drop}
use Rattle.std.proofs.lemmas.Option.{none-some}
use Rattle.std.proofs.lemmas.Bool.{false≢true}
use Rattle.tower_types.specs.Value.{Value}
use Rattle.tower_types.specs.View.{value_of}
use Rattle.tower_types.specs.declared.value.Value.{Value as ValueValue}
use Rattle.tower_syntax.specs.declared.arch.SourceKind.{SourceKind}
use Rattle.tower_syntax.specs.declared.arch.Listener.{Listener}
use Rattle.tower_syntax.specs.Arrival.{is_init}
use Rattle.tower_meaning.specs.Atomic.{are_inits_done, is_none_left}
use Rattle.tower_meaning.specs.System.{Item}
use Rattle.atomic_state.specs.declared.queue.Queue.{Queue}
use Rattle.atomic_state.specs.Items.{item_of}
use Rattle.atomic_state.specs.Queues.{waiting_of}
use Rattle.atomic_state.specs.StateView.{pending_of}
use Rattle.atomic_state.specs.Step.{can_take, first_listener}
use Rattle.atomic_state.proofs.Lists.{left_of, some_same}

abbrev pub Held : Type 0
Held = Listener × ValueValue

abbrev pub Pending : Type 0
Pending = Vec Held Global

abbrev pub items_of : Pending → List Item
items_of p = pending_of p.items

map_reverse : {A B : Type 0} (f : A → B) (xs : List A) → map f (reverse xs) ≡ reverse (map f xs)
map_reverse f [] = refl
map_reverse f (x ∷ xs) =
    ap (map f) (reverse-append (x ∷ []) xs) ∙ map-append f (reverse xs) (x ∷ []) ∙ ap (λ l. l ++ f x ∷ []) (map_reverse f xs) ∙ sym (reverse-append (f x ∷ []) (map f xs))

pub pending_push : (xs : List Held) (i : Held) → pending_of (xs ++ i ∷ []) ≡ item_of i ∷ pending_of xs
pending_push xs i = ap reverse (map-append item_of xs (i ∷ [])) ∙ reverse-append (map item_of xs) (item_of i ∷ [])

pub pending_reverse : (xs : List Held) → pending_of (reverse xs) ≡ map item_of xs
pending_reverse xs = ap reverse (map_reverse item_of xs) ∙ reverse-reverse (map item_of xs)

front_last : {A : Type 0} (xs : List A) (k : ℕ) (i : A) → length xs ≡ suc k → slice_get xs k ≡ Some i → xs ≡ take k xs ++ i ∷ []
front_last [] k i e g = absurd (omega arith)
front_last (x ∷ []) zero i e g = ap (λ y. y ∷ []) (some_same x i g)
front_last (x ∷ y ∷ xs) zero i e g = absurd (omega arith)
front_last (x ∷ xs) (suc k) i e g = ap (λ l. x ∷ l) (front_last xs k i (omega arith) g)

pub pending_last : (xs : List Held) (k : ℕ) (i : Held) → length xs ≡ suc k → slice_get xs k ≡ Some i → pending_of xs ≡ item_of i ∷ pending_of (take k xs)
pending_last xs k i e g = ap pending_of (front_last xs k i e g) ∙ pending_push (take k xs) i

pub slot : {A B : Type 0} (f : A → B) (xs : List A) (k : ℕ) (x : A) → k < length xs → x ≡ get_or xs k x → slice_get (map f xs) k ≡ Some (f x)
slot f [] k x lt e = absurd (omega arith)
slot f (y ∷ xs) zero x lt e = ap (λ z. Some (f z)) (sym e)
slot f (y ∷ xs) (suc k) x lt e = slot f xs k x (omega arith) e

no_slot : {A B : Type 0} (f : A → B) (xs : List A) (k : ℕ) → length xs ≤ k → slice_get (map f xs) k ≡ None
no_slot f [] k le = refl
no_slot f (x ∷ xs) zero le = absurd (omega arith)
no_slot f (x ∷ xs) (suc k) le = no_slot f xs k (omega arith)

-- ---- whether a source can take a message

no_queue : (p : Option (List Item)) → can_take p None ≡ false
no_queue None = refl
no_queue (Some []) = refl
no_queue (Some (i ∷ is)) = refl

pub takes_none : (ps : List Pending) (qs : List Queue) (x : ℕ) → (length ps ≤ x) ⊎ (length qs ≤ x) → false ≡ can_take (slice_get (map items_of ps) x) (slice_get (map waiting_of qs) x)
takes_none ps qs x (inl le) = sym (ap (λ p. can_take p (slice_get (map waiting_of qs) x)) (no_slot items_of ps x le))
takes_none ps qs x (inr le) = sym (ap (can_take (slice_get (map items_of ps) x)) (no_slot waiting_of qs x le) ∙ no_queue (slice_get (map items_of ps) x))

pub takes : (ps : List Pending) (qs : List Queue) (x : ℕ) (p : Pending) (q : Queue) (b : Bool) → x < length ps → x < length qs → p ≡ get_or ps x p → q ≡ get_or qs x q → b ≡ can_take (Some (items_of p)) (Some (waiting_of q))
    → b ≡ can_take (slice_get (map items_of ps) x) (slice_get (map waiting_of qs) x)
takes ps qs x p q b lt lt' read read' e =
    e ∙ sym (ap (λ o. can_take o (slice_get (map waiting_of qs) x)) (slot items_of ps x p lt read) ∙ ap (can_take (Some (items_of p))) (slot waiting_of qs x q lt' read'))

-- ---- whether all initialisation has ended

abbrev pub AreDone : List SourceKind → List Queue → List Pending → ℕ → Type 0
AreDone ks qs ps x =
    are_inits_done (drop x ks) (map waiting_of (drop x qs)) (map items_of (drop x ps)) ≡ are_inits_done ks (map waiting_of qs) (map items_of ps)

one_here : (ks : List SourceKind) (qs : List Queue) (ps : List Pending) (x : ℕ) (k : SourceKind) (q : Queue) (p : Pending) → x < length ks → x < length qs → x < length ps
    → k ≡ get_or ks x k → q ≡ get_or qs x q → p ≡ get_or ps x p
    → are_inits_done (drop x ks) (map waiting_of (drop x qs)) (map items_of (drop x ps))
    ≡ ((not (is_init k) || is_none_left (waiting_of q) (items_of p)) && are_inits_done (drop (x + 1) ks) (map waiting_of (drop (x + 1) qs)) (map items_of (drop (x + 1) ps)))
one_here ks qs ps x k q p lt lt' lt'' read read' read'' =
    ap (λ l. are_inits_done l (map waiting_of (drop x qs)) (map items_of (drop x ps))) (left_of ks x k lt read)
    ∙ ap (λ l. are_inits_done (k ∷ drop (x + 1) ks) (map waiting_of l) (map items_of (drop x ps))) (left_of qs x q lt' read')
    ∙ ap (λ l. are_inits_done (k ∷ drop (x + 1) ks) (map waiting_of (q ∷ drop (x + 1) qs)) (map items_of l)) (left_of ps x p lt'' read'')

pub one_done : (ks : List SourceKind) (qs : List Queue) (ps : List Pending) (x : ℕ) (k : SourceKind) (q : Queue) (p : Pending) → x < length ks → x < length qs → x < length ps
    → k ≡ get_or ks x k → q ≡ get_or qs x q → p ≡ get_or ps x p → (not (is_init k) || is_none_left (waiting_of q) (items_of p)) ≡ true → AreDone ks qs ps x → AreDone ks qs ps (x + 1)
one_done ks qs ps x k q p lt lt' lt'' read read' read'' e h =
    sym (one_here ks qs ps x k q p lt lt' lt'' read read' read'' ∙ ap (λ b. b && are_inits_done (drop (x + 1) ks) (map waiting_of (drop (x + 1) qs)) (map items_of (drop (x + 1) ps))) e) ∙ h

pub one_open : (ks : List SourceKind) (qs : List Queue) (ps : List Pending) (x : ℕ) (k : SourceKind) (q : Queue) (p : Pending) → x < length ks → x < length qs → x < length ps
    → k ≡ get_or ks x k → q ≡ get_or qs x q → p ≡ get_or ps x p → (not (is_init k) || is_none_left (waiting_of q) (items_of p)) ≡ false → AreDone ks qs ps x
    → false ≡ are_inits_done ks (map waiting_of qs) (map items_of ps)
one_open ks qs ps x k q p lt lt' lt'' read read' read'' e h =
    sym (one_here ks qs ps x k q p lt lt' lt'' read read' read'' ∙ ap (λ b. b && are_inits_done (drop (x + 1) ks) (map waiting_of (drop (x + 1) qs)) (map items_of (drop (x + 1) ps))) e) ∙ h

pub all_done : (ks : List SourceKind) (qs : List Queue) (ps : List Pending) (x : ℕ) → x ≡ min (min (length ks) (length qs)) (length ps) → AreDone ks qs ps x → true ≡ are_inits_done ks (map waiting_of qs) (map items_of ps)
all_done ks qs ps x end h = sym (by (drop x ks) (drop x qs) (drop x ps) (omega (arith, length-drop x ks, length-drop x qs, length-drop x ps))) ∙ h
  where
    by : (ls : List SourceKind) (rs : List Queue) (is : List Pending) → min (min (length ls) (length rs)) (length is) ≡ 0 → are_inits_done ls (map waiting_of rs) (map items_of is) ≡ true
    by [] rs is e = refl
    by (l ∷ ls) [] is e = refl
    by (l ∷ ls) (r ∷ rs) [] e = refl
    by (l ∷ ls) (r ∷ rs) (i ∷ is) e = absurd (omega arith)

-- ---- a source's first pending item

pub first_is : (ps : List Pending) (x : ℕ) (p : Pending) (i : Held) → x < length ps → p ≡ get_or ps x p → slice_get p.items (length p.items - 1) ≡ Some i → Some i.0 ≡ first_listener (slice_get (map items_of ps) x)
first_is ps x p i lt read e =
    sym (ap first_listener (slot items_of ps x p lt read) ∙ by p.items e)
  where
    by : (xs : List Held) → slice_get xs (length xs - 1) ≡ Some i → first_listener (Some (pending_of xs)) ≡ Some i.0
    by [] e = absurd (none-some i e)
    by (y ∷ xs) e =
        let k : length (y ∷ xs) - 1 ≡ length xs = omega arith in
        ap (λ l. first_listener (Some l)) (pending_last (y ∷ xs) (length xs) i refl (ap (slice_get (y ∷ xs)) (sym k) ∙ e))

pub first_none : (ps : List Pending) (x : ℕ) (p : Pending) → x < length ps → p ≡ get_or ps x p → slice_get p.items (length p.items - 1) ≡ None → None ≡ first_listener (slice_get (map items_of ps) x)
first_none ps x p lt read e =
    sym (ap first_listener (slot items_of ps x p lt read) ∙ by p.items e)
  where
    there : {A : Type 0} (xs : List A) (k : ℕ) → k < length xs → slice_get xs k ≡ None → ⊥
    there [] k lt e = omega arith
    there (x ∷ xs) zero lt e = cc
    there (x ∷ xs) (suc k) lt e = there xs k (omega arith) e

    by : (xs : List Held) → slice_get xs (length xs - 1) ≡ None → first_listener (Some (pending_of xs)) ≡ None
    by [] e = refl
    by (y ∷ xs) e = absurd (there (y ∷ xs) (length (y ∷ xs) - 1) (omega arith) e)

pub first_beyond : (ps : List Pending) (x : ℕ) → length ps ≤ x → None ≡ first_listener (slice_get (map items_of ps) x)
first_beyond ps x le = sym (ap first_listener (no_slot items_of ps x le))

-- the first item itself
pub at_first : (o : Option (List Item)) (l : Listener) → first_listener o ≡ Some l → (v : Value) × (rest : List Item) × (o ≡ Some ((l, v) ∷ rest))
at_first None l e = absurd (none-some l e)
at_first (Some []) l e = absurd (none-some l e)
at_first (Some (i ∷ is)) l e = (i.1, is, ap (λ (k : Listener). Some ((k, i.1) ∷ is)) (some_same i.0 l e))

pub first_within : (ps : List Pending) (x : ℕ) (l : Listener) → first_listener (slice_get (map items_of ps) x) ≡ Some l → x < length ps
first_within [] x l e = absurd (none-some l e)
first_within (p ∷ ps) zero l e = omega arith
first_within (p ∷ ps) (suc x) l e = omega (arith, first_within ps x l e)

pub not_empty : (ps : List Pending) (x : ℕ) (l : Listener) (p : Pending) → first_listener (slice_get (map items_of ps) x) ≡ Some l → p ≡ get_or ps x p → 0 < length p.items
not_empty ps x l p e read = by p.items (sym (ap first_listener (slot items_of ps x p (first_within ps x l e) read)) ∙ e)
  where
    by : (is : List Held) → first_listener (Some (pending_of is)) ≡ Some l → 0 < length is
    by [] f = absurd (none-some l f)
    by (i ∷ is) f = omega arith

pub takes_within : (o : Option (List Item)) (qs : List Queue) (x : ℕ) → can_take o (slice_get (map waiting_of qs) x) ≡ true → x < length qs
takes_within o [] x e = let n = no_queue o in absurd (false≢true (sym n ∙ e))
takes_within o (q ∷ qs) zero e = omega arith
takes_within o (q ∷ qs) (suc x) e = omega (arith, takes_within o qs x e)
