-- What a list of marks comes to: the state that it leads to, or its first misfit and the state before that.
use Rattle.std.specs.Prelude.{◌≡◌, ◌↔◌, ℕ, ◌+◌, List, [], ◌∷◌, ◌++◌, length, Option, Some, None}
use Rattle.tower_syntax.specs.declared.event.Mark.{Mark}
use Rattle.tower_syntax.specs.Arch.{Events}
use Rattle.tower_meaning.specs.System.{System}
use Rattle.tower_meaning.specs.Atomic.{Atomic, start, act, replay}

-- a state, with the number of the first mark that does not fit it, counted from 1, if one does not
pub record Replayed : Type 0 where
  pub state : Atomic
  pub misfit : Option ℕ

-- k marks lead to `next`, or the k-th does not fit s; the other marks follow
abbrev pub replayed_from : System → Events → ℕ → Atomic → (next : Option Atomic) → List Mark → Replayed
replayed_from system events k s None ms = record { state = s; misfit = Some k }
replayed_from system events k s (Some t) [] = record { state = t; misfit = None }
replayed_from system events k s (Some t) (m ∷ ms) = replayed_from system events (k + 1) t (act system events t m) ms

abbrev pub replayed : System → Events → List Mark → Replayed
replayed system events marks = replayed_from system events 0 (start system) (Some (start system)) marks

abbrev pub first_misfit : System → Events → List Mark → Option ℕ
first_misfit system events marks = (replayed system events marks).misfit

-- ---- what this says of the replay

-- the marks before number k lead to s, which that mark does not fit
pub record IsMisfit (system : System) (events : Events) (marks : List Mark) (k : ℕ) (s : Atomic) : Type 0 where
  pub before : List Mark
  pub mark : Mark
  pub behind : List Mark
  pub parts : marks ≡ before ++ mark ∷ behind
  pub number : k ≡ length before + 1
  pub leads : replay system events before ≡ Some s
  pub misfits : act system events s mark ≡ None

-- with no misfit all marks lead to the state
abbrev pub ComesTo : System → Events → List Mark → Option ℕ → Atomic → Type 0
ComesTo system events marks None s = replay system events marks ≡ Some s
ComesTo system events marks (Some k) s = IsMisfit system events marks k s

abbrev pub ReplayedComesTo : Type 0
ReplayedComesTo = (system : System) (events : Events) (marks : List Mark) (r : Replayed) → (replayed system events marks ≡ r) ↔ ComesTo system events marks r.misfit r.state

abbrev pub NoMisfitIsDefined : Type 0
NoMisfitIsDefined = (system : System) (events : Events) (marks : List Mark) → (first_misfit system events marks ≡ None) ↔ ((s : Atomic) × (replay system events marks ≡ Some s))
