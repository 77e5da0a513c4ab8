-- Marks, one after another.
use Rattle.std.proofs.Common.{◌≡◌, ◌∙◌, ℕ, ◌+◌, ◌<◌, List, [], ◌∷◌, length, drop, get_or, Option, Some, None, refl, ap, sym}
use Rattle.std.proofs.Math.Seq.{drop-length}
use Rattle.tower_syntax.specs.declared.event.Mark.{Mark}
use Rattle.tower_syntax.specs.Arch.{Events}
use Rattle.tower_meaning.specs.Atomic.{Atomic, act, start}
use Rattle.tower_meaning.specs.Replayed.{Replayed, replayed_from, replayed}
use Rattle.tower_meaning.specs.System.{System}
use Rattle.atomic_state.proofs.Lists.{left_of, any_default}

any_before : (system : System) (events : Events) (k : ℕ) (s r t : Atomic) (ms : List Mark) → replayed_from system events k s (Some t) ms ≡ replayed_from system events k r (Some t) ms
any_before system events k s r t [] = refl
any_before system events k s r t (m ∷ ms) = refl

-- with the marks from the i-th on, the state comes to what all marks come to
abbrev pub IsTried : System → Events → List Mark → ℕ → Atomic → Type 0
IsTried system events marks i t = replayed_from system events i t (Some t) (drop i marks) ≡ replayed system events marks

next_mark : (system : System) (events : Events) (marks : List Mark) (i : ℕ) (t : Atomic) (m d : Mark) → i < length marks → m ≡ get_or marks i d → IsTried system events marks i t
    → replayed_from system events (i + 1) t (act system events t m) (drop (i + 1) marks) ≡ replayed system events marks
next_mark system events marks i t m d lt read h =
    sym (ap (replayed_from system events i t (Some t)) (left_of marks i m lt (read ∙ any_default marks i d m lt))) ∙ h

pub one_fits : (system : System) (events : Events) (marks : List Mark) (i : ℕ) (t u : Atomic) (m d : Mark) → i < length marks → m ≡ get_or marks i d → act system events t m ≡ Some u
    → IsTried system events marks i t → IsTried system events marks (i + 1) u
one_fits system events marks i t u m d lt read e h =
    any_before system events (i + 1) u t u (drop (i + 1) marks) ∙ sym (ap (λ o. replayed_from system events (i + 1) t o (drop (i + 1) marks)) e) ∙ next_mark system events marks i t m d lt read h

pub one_misfits : (system : System) (events : Events) (marks : List Mark) (i : ℕ) (t : Atomic) (m d : Mark) → i < length marks → m ≡ get_or marks i d → act system events t m ≡ None
    → IsTried system events marks i t → replayed system events marks ≡ record { state = t; misfit = Some (i + 1) }
one_misfits system events marks i t m d lt read e h =
    sym (sym (ap (λ o. replayed_from system events (i + 1) t o (drop (i + 1) marks)) e) ∙ next_mark system events marks i t m d lt read h)

pub all_fit : (system : System) (events : Events) (marks : List Mark) (i : ℕ) (t : Atomic) → i ≡ length marks → IsTried system events marks i t → replayed system events marks ≡ record { state = t; misfit = None }
all_fit system events marks i t end h = sym (sym (ap (replayed_from system events i t (Some t)) (ap (λ j. drop j marks) end ∙ drop-length marks)) ∙ h)

pub none_tried : (system : System) (events : Events) (marks : List Mark) (t : Atomic) → t ≡ start system → IsTried system events marks 0 t
none_tried system events [] t e = ap (λ s. replayed_from system events 0 s (Some s) []) e
none_tried system events (m ∷ ms) t e = ap (λ s. replayed_from system events 0 s (Some s) (m ∷ ms)) e
