-- Lists of listeners, of items, and of what buffers hold.
use Rattle.std.proofs.Common.{◌≡◌, ℕ, zero, suc, inl, inr, true, List, [], ◌∷◌, ◌++◌, length, map, take, All, Option, Some, None, refl, sym, ap, subst, slice_get}
use Rattle.std.proofs.lemmas.Bool.{eqb-true, false≢true}
use Rattle.std.proofs.lemmas.Option.{same_Some, none-some}
use Rattle.tower_types.specs.Value.{Value, flat}
use Rattle.tower_syntax.specs.declared.arch.On.{On}
use Rattle.tower_syntax.specs.declared.arch.On.TheVariants as on
use Rattle.tower_syntax.specs.declared.arch.Listener.{Listener}
use Rattle.tower_syntax.specs.Arch.{Arch}
use Rattle.tower_syntax.specs.Graph.{same_on}
use Rattle.tower_syntax.specs.WellNumbered.{AreListeners}
use Rattle.task_code.specs.Own.{Filled}
use Rattle.task_code.specs.Holds.{HoldLists}
use Rattle.channel_graph.specs.Listening.{Exists}
use Rattle.channel_graph.proofs.Listed.{listener_exists}
use Rattle.channel_graph.proofs.Members.{In, contains_from_In}

pub get_mapped : {X Y : Type 0} (f : X → Y) (xs : List X) (i : ℕ) (x : X) → slice_get xs i ≡ Some x → slice_get (map f xs) i ≡ Some (f x)
get_mapped f [] i x e = absurd (none-some x e)
get_mapped f (y ∷ xs) zero x e = ap Some (ap f (same_Some y x e))
get_mapped f (y ∷ xs) (suc i) x e = get_mapped f xs i x e

pub in_left : {X : Type 0} (x : X) (xs ys : List X) → In x xs → In x (xs ++ ys)
in_left x [] ys h = absurd h
in_left x (y ∷ xs) ys (inl e) = inl e
in_left x (y ∷ xs) ys (inr h) = inr (in_left x xs ys h)

pub in_right : {X : Type 0} (x : X) (xs ys : List X) → In x ys → In x (xs ++ ys)
in_right x [] ys h = h
in_right x (y ∷ xs) ys h = inr (in_right x xs ys h)

pub in_map : {X Y : Type 0} (f : X → Y) (x : X) (xs : List X) → In x xs → In (f x) (map f xs)
in_map f x [] h = absurd h
in_map f x (y ∷ xs) (inl e) = inl (ap f e)
in_map f x (y ∷ xs) (inr h) = inr (in_map f x xs h)

pub same_on_channel : (o : On) (c : ℕ) → same_on o (on.Channel c) ≡ true → o ≡ on.Channel c
same_on_channel (on.Source s) c e = absurd (false≢true e)
same_on_channel (on.Channel a) c e = ap on.Channel (eqb-true a c e)

pub exists : (arch : Arch) (l : Listener) → AreListeners arch → In l arch.listeners → Exists arch l
exists arch l listed h =
    let r = contains_from_In arch.listeners l h in
    subst (Exists arch) r.2 (listener_exists arch listed r.0 l r.1)

pub all_in : {X : Type 0} (P : X → Type 0) (xs : List X) (x : X) → All P xs → In x xs → P x
all_in P xs x all h =
    let r = contains_from_In xs x h in
    subst P r.2 (all r.0 x r.1)

pub get_in : {X : Type 0} (xs : List X) (i : ℕ) (x : X) → slice_get xs i ≡ Some x → In x xs
get_in [] i x e = absurd (none-some x e)
get_in (y ∷ xs) zero x e = inl (sym (same_Some y x e))
get_in (y ∷ xs) (suc i) x e = inr (get_in xs i x e)

-- the first of the buffers that hold lists
pub first_held : (q : Option Filled) (qs : List (Option Filled)) (vs : List Value) (lists : List (List Value)) → HoldLists (q ∷ qs) (vs ∷ lists) → (f : Filled) × (q ≡ Some f) × (f.count ≡ length vs) × (take f.count f.slots ≡ map flat vs) × HoldLists qs lists
first_held None qs vs lists h = absurd h
first_held (Some f) qs vs lists h = (f, refl, h.0, h.1, h.2)

pub not_held : (q : Option Filled) (qs : List (Option Filled)) → HoldLists (q ∷ qs) [] → ⊥
not_held None qs h = h
not_held (Some f) qs h = h
