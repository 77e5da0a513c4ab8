-- What the layers below say of the machine. Good are its reached states.
use Rattle.std.specs.Prelude.{◌≡◌, ◌≢◌, ℕ, suc, ◌+◌, ◌%◌, ◌<◌, ◌≤◌, true, false, ◌==◌, cond, Some, None}
use Rattle.stretch_law.specs.Machine.{Kind, Init, Period, Signal, Tasks, Seen, Standing, IsStuck, IsIdle, IsWaiting, IsReady, Move, Turn, Tick, Sent, Machine, Clear}

-- what an instruction does to its task
pub data Turned (o o' : Seen) : Type 0 where
  took : o.rests ≡ true → o.queued ≡ suc o'.queued → o'.since ≡ 1 → Turned o o'
  went : o.rests ≡ false → o'.queued ≡ o.queued → o'.since ≡ suc o.since → Turned o o'

-- at most n messages have come
pub record Brought (n : ℕ) (o o' : Seen) : Type 0 where
  pub rests : o'.rests ≡ o.rests
  pub holds : o'.holds ≡ o.holds
  pub since : o'.since ≡ o.since
  pub queued : o'.queued ≤ o.queued + n

-- does tick k bring a message
abbrev pub due : Kind → ℕ → ℕ
due Init k = 0
due (Period ms) k = cond (k % ms == 0) 1 0
due Signal k = 0

abbrev pub at_start : Kind → ℕ
at_start Init = 1
at_start (Period ms) = 0
at_start Signal = 0

-- an entry of signal x brings one message to x, and none to another
abbrev pub one_at : ℕ → ℕ → ℕ
one_at x y = cond (x == y) 1 0

module _ (t : Tasks) (S : Type 0) (v : Machine S) where
  abbrev pub InitsClear : S → Type 0
  InitsClear s = (z : ℕ) → z < t.count → t.kind z ≡ Init → Clear (v.see s z)

  -- task x waits for the monitor m
  pub record Waits (s : S) (x m : ℕ) : Type 0 where
    pub busy : (v.see s x).rests ≡ false
    pub inside : m < t.monitors
    pub touches : t.touches x m ≡ true
    pub y : ℕ
    pub y_inside : y < t.count
    pub held : (v.see s y).holds ≡ Some m

  -- an init task that is not clear
  pub record Starts (s : S) : Type 0 where
    pub z : ℕ
    pub inside : z < t.count
    pub is_init : t.kind z ≡ Init
    pub busy : Clear (v.see s z) → ⊥

  -- an idle task is at TAKE, and has no message or is held back
  pub data Idles (s : S) (x : ℕ) : Type 0 where
    empty : Clear (v.see s x) → Idles s x
    held_back : (v.see s x).rests ≡ true → (t.kind x ≡ Init → ⊥) → Starts s → Idles s x

  pub data Readies (s : S) (x : ℕ) : Type 0 where
    runs : (v.see s x).rests ≡ false → Readies s x
    takes : (v.see s x).rests ≡ true → ((v.see s x).queued ≡ 0 → ⊥) → ((t.kind x ≡ Init → ⊥) → InitsClear s) → Readies s x

  abbrev pub Means : S → ℕ → Standing → Type 0
  Means s x IsStuck = ⊥
  Means s x IsIdle = Idles s x
  Means s x (IsWaiting m) = Waits s x m
  Means s x IsReady = Readies s x

  pub record Holder (s : S) (x m : ℕ) : Type 0 where
    pub ready : v.stands s x ≡ IsReady
    pub inside : m < t.monitors
    pub touches : t.touches x m ≡ true

  pub record Facts (Good : S → Type 0) : Type 0 where
    pub touched : (x m : ℕ) → x < t.count → t.touches x m ≡ true → t.priority x ≤ t.ceiling m
    pub periods : (x ms : ℕ) → t.kind x ≡ Period ms → 1 ≤ ms
    pub start_good : Good v.start
    pub start_ticks : v.ticks v.start ≡ 0
    pub start_rests : (x : ℕ) → x < t.count → (v.see v.start x).rests ≡ true
    pub start_queued : (x : ℕ) → x < t.count → (v.see v.start x).queued ≤ at_start (t.kind x)
    pub goes_on : (s s' : S) (m : Move) → Good s → v.next s m ≡ Some s' → Good s'
    pub counts : (s : S) (x : ℕ) → Good s → x < t.count → (v.see s x).since ≤ t.cost x
    pub rest_free : (s : S) (x : ℕ) → Good s → x < t.count → (v.see s x).rests ≡ true → (v.see s x).holds ≡ None
    pub holder : (s : S) (x m : ℕ) → Good s → x < t.count → (v.see s x).holds ≡ Some m → Holder s x m
    pub means : (s : S) (x : ℕ) → Good s → x < t.count → Means s x (v.stands s x)
    pub can : (s : S) (x : ℕ) → Good s → x < t.count → v.stands s x ≡ IsReady → (s' : S) × (v.next s (Turn x) ≡ Some s')
    pub turn_ticks : (s s' : S) (x : ℕ) → Good s → v.next s (Turn x) ≡ Some s' → v.ticks s' ≡ v.ticks s
    pub turn_own : (s s' : S) (x : ℕ) → Good s → x < t.count → v.next s (Turn x) ≡ Some s' → Turned (v.see s x) (v.see s' x)
    pub turn_other : (s s' : S) (x y : ℕ) → Good s → v.next s (Turn x) ≡ Some s' → y ≢ x → v.see s' y ≡ v.see s y
    pub tick_ticks : (s s' : S) → Good s → v.next s Tick ≡ Some s' → v.ticks s' ≡ suc (v.ticks s)
    pub tick_seen : (s s' : S) (x : ℕ) → Good s → v.next s Tick ≡ Some s' → x < t.count → Brought (due (t.kind x) (suc (v.ticks s))) (v.see s x) (v.see s' x)
    pub sent_ticks : (s s' : S) (x : ℕ) → Good s → v.next s (Sent x) ≡ Some s' → v.ticks s' ≡ v.ticks s
    pub sent_kind : (s s' : S) (x : ℕ) → Good s → v.next s (Sent x) ≡ Some s' → t.kind x ≡ Signal
    pub sent_seen : (s s' : S) (x y : ℕ) → Good s → v.next s (Sent x) ≡ Some s' → y < t.count → Brought (one_at x y) (v.see s y) (v.see s' y)
