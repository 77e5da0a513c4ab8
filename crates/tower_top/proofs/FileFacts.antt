-- A text that comes in pieces.
use Rattle.std.proofs.Common.{◌≡◌, ◌<◌, ◌≤◌, ℕ, List, [], ◌++◌, length, take, Option, Some, None, Result, Ok, Err, true, refl, sym, ap, subst, arith, length-append}
use Rattle.std.specs.Prelude.{IfSome, OnOk, is_ok}
use Rattle.std.proofs.lemmas.Bool.{false≢true}
use Rattle.std.proofs.lemmas.List.{take-append-le}
use Rattle.tower_io.specs.Shelves.{Takes}
use Rattle.tower_io.proofs.Taking.{Takes_trans, Takes_whole}
use Rattle.tower_top.specs.File.{IsTold}
use Rattle.tower_top.proofs.InputFacts.{told}

-- nothing is left, so what came is the text
pub all_told : (old new : Option (List ℕ)) (text : List ℕ) → Takes old new text → IfSome new (λ rest. rest ≡ []) → IsTold old text
all_told old new text takes end = told old text (Takes_whole old new text takes end)

-- more came than the limit, so the text is longer
pub long_told : (old new : Option (List ℕ)) (front : List ℕ) → Takes old new front → 1048576 < length front → (text : List ℕ) × IsTold old text × (1048576 < length text)
long_told None new front takes h = (front, tt, h)
long_told (Some text) new front takes h =
    let rest = takes.taken text refl in
    (text, refl, omega (arith, ap length rest.2, length-append front rest.0))

-- the next piece, which lies at the front of the room
pub next_told : (old mid new : Option (List ℕ)) (front room behind : List ℕ) (n : ℕ) → n ≤ length room → Takes old mid front → Takes mid new (take n room) → Takes old new (front ++ take n (room ++ behind))
next_told old mid new front room behind n h before here =
    Takes_trans old mid new front (take n (room ++ behind)) before (subst (Takes mid new) (sym (take-append-le n room behind h)) here)

-- what holds of a call that went well
pub went_well : {T E P : Type 0} (r : Result T E) → true ≡ is_ok r → OnOk r P → P
went_well (Ok x) e h = h
went_well (Err e) wrong h = absurd (false≢true (sym wrong))
