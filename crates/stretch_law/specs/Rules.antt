-- Runs that are paced, sampled, spaced and by ceiling.
use Rattle.std.specs.Prelude.{◌≡◌, ◌⊎◌, ℕ, suc, ◌+◌, ◌-◌, ◌%◌, ◌<◌, ◌≤◌, Bool, true, false, ◌&&◌, ◌||◌, not, ◌==◌, cond, List, [], ◌∷◌, Option, Some, None}
use Rattle.stretch_law.specs.Counts.{all_to}
use Rattle.stretch_law.specs.Machine.{Tasks, Seen, IsIdle, IsReady, Move, Turn, Tick, Sent, Machine, active, Clear}
use Rattle.stretch_law.specs.Demand.{urgent, demand}

abbrev pub is_clear : Seen → Bool
is_clear o = o.rests && (o.queued == 0)

-- a stretch that has not ended: the interval that it began with, and its instructions so far
pub data Track : Type 0 where
  Open : (began n : ℕ) → Track
  Ended : Track

-- what is told of a run so far: the instructions of the present interval, the interval of each signal's last
-- entry, and the stretch
pub record Clock : Type 0 where
  pub ran : ℕ
  pub last : ℕ → Option ℕ
  pub track : Track

abbrev pub first_clock : Clock
first_clock = record { ran = 0; last = λ x. None; track = Open 0 0 }

-- an instruction belongs to the stretch where not all are clear before it
abbrev pub turned : Bool → Track → Track
turned true k = Ended
turned false Ended = Ended
turned false (Open b n) = Open b (suc n)

-- where all are clear a stretch begins with tick q
abbrev pub ticked : Bool → ℕ → Track → Track
ticked true q k = Open q 0
ticked false q k = k

-- does a task hold a monitor
abbrev pub IsHolder : Option ℕ → Type 0
IsHolder None = ⊥
IsHolder (Some m) = Unit {0}

-- the last entry came gap intervals before q, or earlier
abbrev pub Apart : ℕ → ℕ → Option ℕ → Type 0
Apart gap q None = Unit {0}
Apart gap q (Some l) = l + gap ≤ q

module _ (t : Tasks) (p : ℕ) (S : Type 0) (v : Machine S) where
  -- are all tasks of p clear
  abbrev pub all_clear : S → Bool
  all_clear s = all_to t.count (λ x. not (urgent t p x) || is_clear (v.see s x))

  abbrev pub passed : S → Move → Clock → Clock
  passed s (Turn x) k = record k { ran = suc k.ran; track = turned (all_clear s) k.track }
  passed s Tick k = record k { ran = 0; track = ticked (all_clear s) (suc (v.ticks s)) k.track }
  passed s (Sent x) k = record k { last = λ y. cond (x == y) (Some (v.ticks s)) (k.last y) }

  abbrev pub Then : Option S → (S → Type 0) → Type 0
  Then None P = ⊥
  Then (Some s) P = P s

  -- each of these moves is defined, and P is so of the clock and the state before each
  abbrev pub Each : (Clock → S → Move → Type 0) → Clock → S → List Move → Type 0
  Each P k s [] = Unit {0}
  Each P k s (m ∷ ms) = P k s m × Then (v.next s m) (λ s'. Each P (passed s m k) s' ms)

  -- the ceiling rule names x of the ready tasks for some number
  pub record Named (s : S) (x : ℕ) : Type 0 where
    pub inside : x < t.count
    pub ready : v.stands s x ≡ IsReady
    pub greatest : (y : ℕ) → y < t.count → v.stands s y ≡ IsReady → active t y (v.see s y) ≤ active t x (v.see s x)
    pub holder_first : (y : ℕ) → y < t.count → v.stands s y ≡ IsReady → active t y (v.see s y) ≡ active t x (v.see s x) → IsHolder (v.see s y).holds → IsHolder (v.see s x).holds

  abbrev pub AllIdle : S → Type 0
  AllIdle s = (x : ℕ) → x < t.count → v.stands s x ≡ IsIdle

  abbrev pub IsPaced : ℕ → Clock → S → Move → Type 0
  IsPaced rate k s (Turn x) = Unit {0}
  IsPaced rate k s Tick = (rate ≤ k.ran) ⊎ AllIdle s
  IsPaced rate k s (Sent x) = Unit {0}

  abbrev pub IsSampled : Clock → Move → Type 0
  IsSampled k (Turn x) = Unit {0}
  IsSampled k Tick = Unit {0}
  IsSampled k (Sent x) = k.ran ≡ 0

  abbrev pub IsSpaced : ℕ → Clock → S → Move → Type 0
  IsSpaced gap k s (Turn x) = Unit {0}
  IsSpaced gap k s Tick = Unit {0}
  IsSpaced gap k s (Sent x) = Apart gap (v.ticks s) (k.last x)

  abbrev pub IsByCeiling : S → Move → Type 0
  IsByCeiling s (Turn x) = Named s x
  IsByCeiling s Tick = Unit {0}
  IsByCeiling s (Sent x) = Unit {0}

  -- sampled, spaced and by ceiling
  abbrev pub IsOrderly : ℕ → Clock → S → Move → Type 0
  IsOrderly gap k s m = IsSampled k m × IsSpaced gap k s m × IsByCeiling s m

  abbrev pub IsTimely : ℕ → ℕ → Clock → S → Move → Type 0
  IsTimely rate gap k s m = IsPaced rate k s m × IsOrderly gap k s m

  -- of a stretch that has come so far
  abbrev pub MostOf : ℕ → ℕ → Track → Type 0
  MostOf gap q Ended = Unit {0}
  MostOf gap q (Open b n) = n ≤ demand t gap p (suc q - b)

  abbrev pub FewerOf : ℕ → ℕ → Track → Type 0
  FewerOf gap q Ended = Unit {0}
  FewerOf gap q (Open b n) = n < demand t gap p (suc q - b)

  abbrev pub IsMiddle : ℕ → Clock → S → Move → Type 0
  IsMiddle gap k s m = MostOf gap (v.ticks s) k.track × (all_clear s ≡ false → FewerOf gap (v.ticks s) k.track)

  -- just before a tick that brings i a message, i is clear
  abbrev pub IsMet : ℕ → ℕ → Clock → S → Move → Type 0
  IsMet i T k s (Turn x) = Unit {0}
  IsMet i T k s Tick = suc (v.ticks s) % T ≡ 0 → Clear (v.see s i)
  IsMet i T k s (Sent x) = Unit {0}
