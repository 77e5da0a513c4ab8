-- Safe for any number of steps is the same as: in every run alone nothing that is asked is missing.
use Rattle.std.proofs.Common.{◌≡◌, ◌∙◌, ℕ, zero, suc, ◌+◌, ◌≤◌, ℤ, true, false, Bool, List, [], ◌∷◌, ◌++◌, Option, Some, None, refl, sym, ap, subst}
use Rattle.std.proofs.lemmas.Option.{same_Some, none-some}
use Rattle.tower_types.specs.Value.{Value, flat}
use Rattle.tower_syntax.specs.declared.arch.Listener.TheVariants as to
use Rattle.tower_meaning.specs.System.{Item}
use Rattle.task_code.specs.declared.program.Task.{Task}
use Rattle.task_code.specs.Program.{Program}
use Rattle.task_code.specs.Own.{Held, Own}
use Rattle.task_code.specs.Does.{Does, Stuck, Private, Takes, Locks, Unlocks, Writes, does}
use Rattle.task_alone.specs.Setting.{Setting}
use Rattle.task_alone.specs.Alone.{State, Asks, UnlockAsks, WriteAsks, Safe, first_state}
use Rattle.task_alone.specs.LoneRun.{IsRight, UnlockIsRight, WriteIsRight, if_fits, unlocked, written, comes, lone_run, NothingIsMissing}

-- ---- one instruction

unlock_right : (s : Setting) (x : ℕ) (a : State) (held : Held) (own : Own) (items : List Item) (Then : State → Type 0) → UnlockAsks s x a held own items Then → UnlockIsRight s x a held own items
unlock_right s x a held own [] Then asks = asks
unlock_right s x a held own ((to.Handler h, v) ∷ rest) Then asks = (asks.0, asks.1)
unlock_right s x a held own ((to.Output o, v) ∷ rest) Then asks = asks

write_right : (a : State) (o : ℕ) (ws : List ℤ) (own : Own) (items : List Item) (Then : State → Type 0) → WriteAsks a o ws own items Then → WriteIsRight o ws items
write_right a o ws own [] Then asks = asks
write_right a o ws own ((to.Handler h, v) ∷ rest) Then asks = asks
write_right a o ws own ((to.Output out, v) ∷ rest) Then asks = (asks.0, asks.1)

-- what is asked is there
right : (s : Setting) (x : ℕ) (a : State) (d : Does) (Then : State → Type 0) → Asks s x a d Then → IsRight s x a d
right s x a Stuck Then asks = asks
right s x a (Private own) Then asks = tt
right s x a (Takes f) Then asks = asks.0
right s x a (Locks m f) Then asks = asks.0
right s x a (Unlocks held own) Then asks = unlock_right s x a held own a.pending Then asks
right s x a (Writes o ws own) Then asks = write_right a o ws own a.pending Then asks

fitting : (b : Bool) (Then : State → Type 0) (a c : State) → (b ≡ true → Then a) → if_fits b a ≡ Some c → Then c
fitting true Then a c go e = subst Then (same_Some a c e) (go refl)
fitting false Then a c go e = absurd (none-some c e)

unlock_then : (s : Setting) (x : ℕ) (a : State) (held : Held) (own : Own) (items : List Item) (Then : State → Type 0) (c : State) → UnlockAsks s x a held own items Then → unlocked s a own items ≡ Some c → Then c
unlock_then s x a held own [] Then c asks e = absurd asks
unlock_then s x a held own ((to.Handler h, v) ∷ rest) Then c asks e = subst Then (same_Some _ c e) asks.2
unlock_then s x a held own ((to.Output o, v) ∷ rest) Then c asks e = absurd asks

write_then : (a : State) (o : ℕ) (ws : List ℤ) (own : Own) (items : List Item) (Then : State → Type 0) (c : State) → WriteAsks a o ws own items Then → written a own items ≡ Some c → Then c
write_then a o ws own [] Then c asks e = absurd asks
write_then a o ws own ((to.Handler h, v) ∷ rest) Then c asks e = absurd asks
write_then a o ws own ((to.Output out, v) ∷ rest) Then c asks e = subst Then (same_Some _ c e) asks.2

-- what comes is what was asked for
then_comes : (s : Setting) (x : ℕ) (a : State) (d : Does) (Then : State → Type 0) (v : Value) (c : State) → Asks s x a d Then → comes s x a d v ≡ Some c → Then c
then_comes s x a Stuck Then v c asks e = absurd asks
then_comes s x a (Private own) Then v c asks e = subst Then (same_Some _ c e) asks
then_comes s x a (Takes f) Then v c asks e = fitting (s.fits_message x v) Then _ c (asks.1 v) e
then_comes s x a (Locks m f) Then v c asks e = fitting (s.fits_monitor m v) Then _ c (asks.1 v) e
then_comes s x a (Unlocks held own) Then v c asks e = unlock_then s x a held own a.pending Then c asks e
then_comes s x a (Writes o ws own) Then v c asks e = write_then a o ws own a.pending Then c asks e

none_comes : (s : Setting) (p : Program) (t : Task) (x : ℕ) (vs : List Value) (a : State) → lone_run s p t x None vs ≡ Some a → ⊥
none_comes s p t x [] a e = none-some a e
none_comes s p t x (v ∷ vs) a e = none-some a e

-- ---- from safe steps to runs

abbrev IsSafe : Setting → Program → Task → ℕ → State → Type 0
IsSafe s p t x a = (n : ℕ) → Safe s p t x n a

after : (s : Setting) (p : Program) (t : Task) (x : ℕ) (a c : State) (v : Value) → IsSafe s p t x a → comes s x a (does p t a.own) v ≡ Some c → IsSafe s p t x c
after s p t x a c v safe e n = then_comes s x a (does p t a.own) (Safe s p t x n) v c ((safe (suc n)).1) e

runs : (s : Setting) (p : Program) (t : Task) (x : ℕ) (vs : List Value) (o : Option State) (b : State) → ((a : State) → o ≡ Some a → IsSafe s p t x a) → lone_run s p t x o vs ≡ Some b → IsSafe s p t x b
runs s p t x [] o b safe e = safe b e
runs s p t x (v ∷ vs) None b safe e = absurd (none-some b e)
runs s p t x (v ∷ vs) (Some a) b safe e = runs s p t x vs (comes s x a (does p t a.own) v) b (λ c f. after s p t x a c v (safe a refl) f) e

pub nothing_missing : (s : Setting) (p : Program) (t : Task) (x : ℕ) → ((n : ℕ) → Safe s p t x n (first_state t)) → NothingIsMissing s p t x
nothing_missing s p t x safe vs a e =
    let at : IsSafe s p t x a = runs s p t x vs (Some (first_state t)) a (λ c f. subst (IsSafe s p t x) (same_Some _ c f) safe) e in
    ((at 1).0, right s x a (does p t a.own) (Safe s p t x 0) ((at 1).1))

-- ---- and back

unlock_asks : (s : Setting) (x : ℕ) (a : State) (held : Held) (own : Own) (items : List Item) (Then : State → Type 0)
    → UnlockIsRight s x a held own items → ((c : State) → unlocked s a own items ≡ Some c → Then c) → UnlockAsks s x a held own items Then
unlock_asks s x a held own [] Then is go = is
unlock_asks s x a held own ((to.Handler h, v) ∷ rest) Then is go = (is.0, is.1, go _ refl)
unlock_asks s x a held own ((to.Output o, v) ∷ rest) Then is go = is

write_asks : (a : State) (o : ℕ) (ws : List ℤ) (own : Own) (items : List Item) (Then : State → Type 0)
    → WriteIsRight o ws items → ((c : State) → written a own items ≡ Some c → Then c) → WriteAsks a o ws own items Then
write_asks a o ws own [] Then is go = is
write_asks a o ws own ((to.Handler h, v) ∷ rest) Then is go = is
write_asks a o ws own ((to.Output out, v) ∷ rest) Then is go = (is.0, is.1, go _ refl)

fits : (b : Bool) (a : State) → b ≡ true → if_fits b a ≡ Some a
fits true a e = refl
fits false a e = absurd (cc e)

-- where what is asked is there, and all that can come is as it should be
asks : (s : Setting) (x : ℕ) (a : State) (d : Does) (Then : State → Type 0) (u : Value) → IsRight s x a d → ((v : Value) (c : State) → comes s x a d v ≡ Some c → Then c) → Asks s x a d Then
asks s x a Stuck Then u is go = is
asks s x a (Private own) Then u is go = go u _ refl
asks s x a (Takes f) Then u is go = (is, λ v e. go v _ (fits (s.fits_message x v) _ e))
asks s x a (Locks m f) Then u is go = (is, λ v e. go v _ (fits (s.fits_monitor m v) _ e))
asks s x a (Unlocks held own) Then u is go = unlock_asks s x a held own a.pending Then is (go u)
asks s x a (Writes o ws own) Then u is go = write_asks a o ws own a.pending Then is (go u)

abbrev Never : Setting → Program → Task → ℕ → State → Type 0
Never s p t x a = (vs : List Value) (b : State) → lone_run s p t x (Some a) vs ≡ Some b → (b.since ≤ s.cost x) × IsRight s x b (does p t b.own)

later : (s : Setting) (p : Program) (t : Task) (x : ℕ) (a c : State) (v : Value) → Never s p t x a → comes s x a (does p t a.own) v ≡ Some c → Never s p t x c
later s p t x a c v never e vs b f = never (v ∷ vs) b (ap (λ o. lone_run s p t x o vs) e ∙ f)

safe_for : (s : Setting) (p : Program) (t : Task) (x n : ℕ) (a : State) → Never s p t x a → Safe s p t x n a
safe_for s p t x zero a never = tt
safe_for s p t x (suc n) a never =
    let here = never [] a refl in
    (here.0, asks s x a (does p t a.own) (Safe s p t x n) a.handed here.1 (λ v c e. safe_for s p t x n c (later s p t x a c v never e)))

pub is_safe : (s : Setting) (p : Program) (t : Task) (x : ℕ) → NothingIsMissing s p t x → (n : ℕ) → Safe s p t x n (first_state t)
is_safe s p t x never n = safe_for s p t x n (first_state t) never
