-- Lists of numbers, and the listeners of a well numbered system.
use Rattle.std.proofs.Common.{◌≡◌, ℕ, zero, suc, ◌<◌, ◌≤◌, List, [], ◌∷◌, ◌++◌, length, get_or, arith, ap, sym, ◌∙◌, refl, append_assoc}
use Rattle.tower_syntax.specs.declared.arch.On.{On}
use Rattle.tower_syntax.specs.declared.arch.Listener.{Listener}
use Rattle.tower_syntax.specs.declared.arch.Listener.TheVariants as to
use Rattle.tower_syntax.specs.Arch.{Arch}
use Rattle.tower_syntax.specs.Graph.{numbers_before, hears, same_on}
use Rattle.tower_syntax.specs.WellNumbered.{AreListeners, outputs_among, handlers_among}
use Rattle.channel_graph.specs.Listening.{attached, Exists}

-- the least n numbers end in n
pub numbers_before-append : (n : ℕ) (ks : List ℕ) → numbers_before n ks ≡ numbers_before n [] ++ ks
numbers_before-append zero ks = refl
numbers_before-append (suc n) ks = numbers_before-append n (n ∷ ks) ∙ sym (ap (λ xs. xs ++ ks) (numbers_before-append n (n ∷ [])) ∙ append_assoc (numbers_before n []) (n ∷ []) ks)

pub numbers_before-suc : (n : ℕ) → numbers_before (suc n) [] ≡ numbers_before n [] ++ n ∷ []
numbers_before-suc n = numbers_before-append n (n ∷ [])

-- each of these numbers is below n
abbrev pub AllBelow : ℕ → List ℕ → Type 0
AllBelow n [] = Unit {0}
AllBelow n (k ∷ ks) = (k < n) × AllBelow n ks

AllBelow-numbers : (m n : ℕ) (ks : List ℕ) → m ≤ n → AllBelow n ks → AllBelow n (numbers_before m ks)
AllBelow-numbers zero n ks le h = h
AllBelow-numbers (suc m) n ks le h = AllBelow-numbers m n (m ∷ ks) (omega arith) (omega arith, h)

-- each listener exists where the numbers of each kind are small enough
exists_at : (arch : Arch) (ls : List Listener) (i : ℕ) (d : Listener) → AllBelow (length arch.outputs) (outputs_among ls) → AllBelow (length arch.handlers) (handlers_among ls) → i < length ls → Exists arch (get_or ls i d)
exists_at arch [] i d os hs h = absurd (omega arith)
exists_at arch (to.Output o ∷ ls) zero d os hs h = os.0
exists_at arch (to.Handler k ∷ ls) zero d os hs h = hs.0
exists_at arch (to.Output o ∷ ls) (suc i) d os hs h = exists_at arch ls i d os.1 hs (omega arith)
exists_at arch (to.Handler k ∷ ls) (suc i) d os hs h = exists_at arch ls i d os hs.1 (omega arith)

pub listener_exists : (arch : Arch) (listed : AreListeners arch) (i : ℕ) (d : Listener) → i < length arch.listeners → Exists arch (get_or arch.listeners i d)
listener_exists arch listed i d h =
    let os : AllBelow (length arch.outputs) (outputs_among arch.listeners) = rw listed.outputs (AllBelow-numbers (length arch.outputs) (length arch.outputs) [] (omega arith) tt) in
    let hs : AllBelow (length arch.handlers) (handlers_among arch.listeners) = rw listed.handlers (AllBelow-numbers (length arch.handlers) (length arch.handlers) [] (omega arith) tt) in
    exists_at arch arch.listeners i d os hs h

pub hears-attached : (arch : Arch) (c : On) (l : Listener) → hears arch c l ≡ same_on (attached arch l) c
hears-attached arch c (to.Handler h) = refl
hears-attached arch c (to.Output o) = refl
