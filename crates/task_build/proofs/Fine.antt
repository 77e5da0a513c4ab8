-- Each instruction of a piece keeps the rules: the small pieces, expressions and places.
use Rattle.std.proofs.Common.{◌≡◌, ℕ, zero, suc, ◌+◌, ◌*◌, ◌-◌, ◌^◌, ◌<◌, ◌≤◌, ◌||◌, ℤ, pos, negsuc, neg_ℤ, ◌≤ℤ◌, ◌<ℤ◌, Bool, true, false, IsTrue, length, Option, Some, None, subst, arith, slice_index}
use Rattle.std.proofs.Math.Nat.{mul-le-mul_right}
use Rattle.std.proofs.lemmas.Bool.Decides.{nat_tests}
use Rattle.tower_types.specs.declared.scalar.Scalar.{Scalar}
use Rattle.tower_types.specs.declared.scalar.Scalar.TheVariants as scalar
use Rattle.tower_types.specs.Ty.{Shape, one, many, all, Shapes, no_shapes, shape, words, words_of_all}
use Rattle.tower_types.specs.Value.{fits_scalar}
use Rattle.tower_syntax.specs.declared.body.Root.{Root}
use Rattle.tower_syntax.specs.declared.body.Root.TheVariants as root
use Rattle.tower_syntax.specs.Tree.{Expr, lit, read, un, bin, choose, cast, Place, place, Steps, no_steps, field, at}
use Rattle.tower_syntax.specs.Weights.{Scope, shape_at, nth_shape, root_shape}
use Rattle.tower_syntax.specs.Typed.{IsProperScalar, IsProper, AreProper, count, Names, HasRoot, HasScalar, HasShape, Leads}
use Rattle.tower_meaning.proofs.Fitting.{index_below}
use Rattle.task_code.specs.declared.program.Task.{Task}
use Rattle.task_code.specs.Program.{Program}
use Rattle.task_code.specs.Rules.{IsScalar, IsInstr}
use Rattle.task_code.specs.Piece.{Piece, nil, ins, ◌▸◌, end, listed}
use Rattle.stmt_code.specs.Layout.{Layout, Base, private, monitor, plus, root_base, given_index, given_offset, fields_before, fixed_offset, is_moving, moves, place_base, place_span}
use Rattle.stmt_code.specs.Body.{expr_code, steps_code, read_word, before_value, behind_value, scaled, added, if_moving, zeroed, kept, index_from, Moved, word_read, words_copied}
use Rattle.task_code.specs.Emission.{words_put, emission}
use Rattle.arch_types.specs.Scalars.{IsProperExpr, AreProperSteps}
use Rattle.arch_types.proofs.Lists.{AllOf, all_both}
use Rattle.arch_checks.specs.Wide.{IsFull, AreFull, IsWide}
use Rattle.task_build.proofs.Layouts.{IsLaid}
use Rattle.arch_checks.proofs.Goods.{full_words, times}

pub grows : (q : Piece) (a : ℕ) → a ≤ end a q
grows nil a = omega arith
grows (ins i) a = omega arith
grows (x ▸ y) a = let one : a ≤ end a x = grows x a in let two : end a x ≤ end (end a x) y = grows y (end a x) in omega (arith, one, two)

pub scalar_is : (s : Scalar) → IsProperScalar s → IsScalar s
scalar_is scalar.Bool h = tt
scalar_is scalar.U8 h = tt
scalar_is scalar.U16 h = tt
scalar_is scalar.U32 h = tt
scalar_is scalar.U64 h = tt
scalar_is scalar.I8 h = tt
scalar_is scalar.I16 h = tt
scalar_is scalar.I32 h = tt
scalar_is scalar.I64 h = tt
scalar_is (scalar.Ix n) h = (omega (arith, h.0), h.1)

abbrev IsPushed : ℤ → Type 0
IsPushed n = (neg_ℤ (pos (2 ^ 63)) ≤ℤ n) × (n <ℤ pos (2 ^ 64))

pub number_pushed : (n : ℕ) → n ≤ 1048576 → IsPushed (pos n)
number_pushed n h = grind (arith, nat_tests, h)

literal_pushed : (s : Scalar) (n : ℤ) → IsProperScalar s → IsTrue (fits_scalar s n) → IsPushed n
literal_pushed scalar.Bool n p h = grind (arith, nat_tests, h)
literal_pushed scalar.U8 n p h = grind (arith, nat_tests, h)
literal_pushed scalar.U16 n p h = grind (arith, nat_tests, h)
literal_pushed scalar.U32 n p h = grind (arith, nat_tests, h)
literal_pushed scalar.U64 n p h = grind (arith, nat_tests, h)
literal_pushed scalar.I8 n p h = grind (arith, nat_tests, h)
literal_pushed scalar.I16 n p h = grind (arith, nat_tests, h)
literal_pushed scalar.I32 n p h = grind (arith, nat_tests, h)
literal_pushed scalar.I64 n p h = grind (arith, nat_tests, h)
literal_pushed (scalar.Ix k) n p h = grind (arith, nat_tests, h, p)

-- ---- where a part of a shape lies

fields_within : (ss : Shapes) (k : ℕ) → k < count ss → fields_before ss k + words (nth_shape ss k) ≤ words_of_all ss
fields_within no_shapes k h = absurd (omega (arith, h))
fields_within (shape s ss) zero h = omega arith
fields_within (shape s ss) (suc k) h = let r : fields_before ss k + words (nth_shape ss k) ≤ words_of_all ss = fields_within ss k (omega (arith, h)) in omega (arith, r)

nth_proper : (ss : Shapes) (k : ℕ) → k < count ss → AreProper ss → AreFull ss → IsProper (nth_shape ss k) × IsFull (nth_shape ss k)
nth_proper no_shapes k h p f = absurd (omega (arith, h))
nth_proper (shape s ss) zero h p f = (p.0, f.0)
nth_proper (shape s ss) (suc k) h p f = nth_proper ss k (omega (arith, h)) p.1 f.1

chosen : (k n w : ℕ) → k < n → k * w + w ≤ n * w
chosen k n w h = let r : suc k * w ≤ n * w = mul-le-mul_right w h in omega (arith, r)

index_within : (scope : Scope) (names : Names) (e : Expr) (n w : ℕ) → 0 < n → HasScalar scope names e (scalar.Ix n) → given_offset (given_index e) w + w ≤ n * w
index_within scope names (lit s (pos k)) n w some h = chosen k n w (index_below n (pos k) (subst (λ c. fits_scalar c (pos k) ≡ true) h.0 h.1))
index_within scope names (lit s (negsuc k)) n w some h = let r : w ≤ n * w = times n w w some (omega arith) in omega (arith, r)
index_within scope names (read p) n w some h = let r : w ≤ n * w = times n w w some (omega arith) in omega (arith, r)
index_within scope names (un op s a) n w some h = let r : w ≤ n * w = times n w w some (omega arith) in omega (arith, r)
index_within scope names (bin op s a b) n w some h = let r : w ≤ n * w = times n w w some (omega arith) in omega (arith, r)
index_within scope names (choose c a b) n w some h = let r : w ≤ n * w = times n w w some (omega arith) in omega (arith, r)
index_within scope names (cast s a) n w some h = let r : w ≤ n * w = times n w w some (omega arith) in omega (arith, r)

pub record Within (s u : Shape) (offset : ℕ) : Type 0 where
  pub fits : offset + words u ≤ words s
  pub proper : IsProper u
  pub full : IsFull u

pub inner : (scope : Scope) (names : Names) (steps : Steps) (s u : Shape) → Leads scope names s steps u → IsProper s → IsFull s → Within s u (fixed_offset s steps)
inner scope names no_steps s u h p f = subst (λ v. Within s v 0) h (record { fits = omega arith; proper = p; full = f })
inner scope names (field k rest) (one c) u h p f = absurd h
inner scope names (field k rest) (many n s) u h p f = absurd h
inner scope names (field k rest) (all ss) u h p f =
    let nth = nth_proper ss k h.0 p f.1 in
    let r = inner scope names rest (nth_shape ss k) u h.1 nth.0 nth.1 in
    let here : fields_before ss k + words (nth_shape ss k) ≤ words_of_all ss = fields_within ss k h.0 in
    let there : fixed_offset (nth_shape ss k) rest + words u ≤ words (nth_shape ss k) = r.fits in
    record { fits = omega (arith, here, there); proper = r.proper; full = r.full }
inner scope names (at e rest) (one c) u h p f = absurd h
inner scope names (at e rest) (many n s) u h p f =
    let r = inner scope names rest s u h.1 p.2 f in
    let here : given_offset (given_index e) (words s) + words s ≤ n * words s = index_within scope names e n (words s) p.0 h.0 in
    let there : fixed_offset s rest + words u ≤ words s = r.fits in
    record { fits = omega (arith, here, there); proper = r.proper; full = r.full }
inner scope names (at e rest) (all ss) u h p f = absurd h

-- ---- pieces

module _ (p : Program) (t : Task) where
  abbrev pub Fine : Piece → Type 0
  Fine nil = Unit {0}
  Fine (ins i) = IsInstr p t i
  Fine (x ▸ y) = Fine x × Fine y

  pub fine_listed : (q : Piece) → Fine q → AllOf (IsInstr p t) (listed q)
  fine_listed nil h = tt
  fine_listed (ins i) h = (h, tt)
  fine_listed (x ▸ y) h = all_both (IsInstr p t) (listed x) (listed y) (fine_listed x h.0) (fine_listed y h.1)

  -- n words, at least one, stand there
  abbrev pub IsSpot : Base → ℕ → Type 0
  IsSpot (private a) n = (1 ≤ n) × (a + n ≤ t.room)
  IsSpot (monitor m a) n = (m < length p.monitors) × (1 ≤ n) × (a + n ≤ slice_index p.monitors m)

  pub spot_at : (b : Base) (j k n : ℕ) → IsSpot b n → j + k ≤ n → 1 ≤ k → IsSpot (plus b j) (n - j)
  spot_at (private a) j k n h le some = (omega (arith, le, some), let r : a + n ≤ t.room = h.1 in omega (arith, r, le, some))
  spot_at (monitor m a) j k n h le some = (h.0, omega (arith, le, some), let r : a + n ≤ slice_index p.monitors m = h.2 in omega (arith, r, le, some))

  pub read_fine : (moving : Bool) (b : Base) (n : ℕ) → IsSpot b n → Fine (read_word moving b n)
  read_fine true (private a) n h = (h.0, h.1)
  read_fine true (monitor m a) n h = (h.0, (h.1, h.2))
  read_fine false (private a) n h = let r : a + n ≤ t.room = h.1 in let s : 1 ≤ n = h.0 in omega (arith, r, s)
  read_fine false (monitor m a) n h = let r : a + n ≤ slice_index p.monitors m = h.2 in let s : 1 ≤ n = h.1 in (number_pushed 0 (omega arith), (h.0, (omega arith, omega (arith, r, s))))

  pub before_fine : (moving : Bool) (b : Base) → Fine (before_value moving b)
  before_fine true b = tt
  before_fine false (private a) = tt
  before_fine false (monitor m a) = number_pushed 0 (omega arith)

  pub behind_fine : (moving : Bool) (b : Base) (n : ℕ) → IsSpot b n → Fine (behind_value moving b n)
  behind_fine true (private a) n h = (h.0, h.1)
  behind_fine true (monitor m a) n h = (h.0, (h.1, h.2))
  behind_fine false (private a) n h = let r : a + n ≤ t.room = h.1 in let s : 1 ≤ n = h.0 in omega (arith, r, s)
  behind_fine false (monitor m a) n h = let r : a + n ≤ slice_index p.monitors m = h.2 in let s : 1 ≤ n = h.1 in (h.0, (omega arith, omega (arith, r, s)))

  pub scaled_fine : (n : ℕ) → n ≤ 1048576 → Fine (scaled n)
  scaled_fine zero h = (number_pushed 0 (omega arith), tt)
  scaled_fine (suc zero) h = tt
  scaled_fine (suc (suc n)) h = (number_pushed (suc (suc n)) h, tt)

  pub added_fine : (b : Bool) → Fine (added b)
  added_fine true = tt
  added_fine false = tt

  pub zeroed_fine : (n a : ℕ) → a + n ≤ t.room → Fine (zeroed a n)
  zeroed_fine zero a h = tt
  zeroed_fine (suc n) a h = (number_pushed 0 (omega arith), (omega (arith, h), zeroed_fine n (suc a) (omega (arith, h))))

  pub kept_fine : (b : Bool) (a : ℕ) → a < t.room → Fine (kept b a)
  kept_fine true a h = h
  kept_fine false a h = tt

  pub from_fine : (b : Bool) (a : ℕ) → a < t.room → Fine (index_from b a)
  from_fine true a h = h
  from_fine false a h = tt

  -- n words of a place, from the j-th on
  pub record IsMoved (q : Moved) (n : ℕ) : Type 0 where
    pub spot : IsSpot q.base q.span
    pub wide : n ≤ q.span
    pub index : q.index < t.room

  pub word_fine : (q : Moved) (n j : ℕ) → IsMoved q n → j < n → Fine (word_read q j)
  word_fine q n j m h = let wide : n ≤ q.span = m.wide in (from_fine q.moving q.index m.index, read_fine q.moving (plus q.base j) (q.span - j) (spot_at q.base j 1 q.span m.spot (omega (arith, wide, h)) (omega arith)))

  pub copied_fine : (to source : Moved) (n m j : ℕ) → IsMoved to n → IsMoved source n → j + m ≤ n → Fine (words_copied to source j m)
  copied_fine to source n zero j h k le = tt
  copied_fine to source n (suc m) j h k le =
      let wide : n ≤ to.span = h.wide in (
        (from_fine to.moving to.index h.index, (before_fine to.moving (plus to.base j), (word_fine source n j k (omega (arith, le)), behind_fine to.moving (plus to.base j) (to.span - j) (spot_at to.base j 1 to.span h.spot (omega (arith, wide, le)) (omega arith))))),
        copied_fine to source n m (suc j) h k (omega (arith, le)),
      )

  pub put_fine : (a buffer n j : ℕ) → buffer < length t.buffers → a + (j + n) ≤ t.room → j + n ≤ 4096 → Fine (words_put a buffer j n)
  put_fine a buffer zero j b room few = tt
  put_fine a buffer (suc n) j b room few = (number_pushed j (omega (arith, few)), (omega (arith, room), (b, put_fine a buffer n (suc j) b (omega (arith, room)) (omega (arith, few)))))

  pub emission_fine : (a buffer n : ℕ) → buffer < length t.buffers → a + n ≤ t.room → n ≤ 4096 → Fine (emission a buffer n)
  emission_fine a buffer n b room few = (put_fine a buffer n 0 b (omega (arith, room)) (omega (arith, few)), b)

  moving_fine : (o : Option ℕ) (x : Piece) (from : ℕ) → end from (if_moving o x) < length t.code → (end from x < length t.code → Fine x) → Fine (if_moving o x)
  moving_fine None x from room h = h room
  moving_fine (Some k) x from room h = tt

  module _ (w : Layout) (laid : IsLaid p t w) where
    pub wide_root : (names : Names) (r : Root) → HasRoot w.scope names r → IsWide (root_shape w.scope r)
    wide_root names root.Param h = laid.wide_message
    wide_root names (root.Binder b) h = laid.wide_binders b h.0
    wide_root names (root.State k) h = laid.wide_states k h

    root_spot : (names : Names) (r : Root) → HasRoot w.scope names r → IsSpot (root_base w r) (words (root_shape w.scope r))
    root_spot names root.Param h = (full_words w.scope.message laid.wide_message.0 laid.wide_message.1, laid.message_room)
    root_spot names (root.Binder b) h = let k = laid.wide_binders b h.0 in (full_words (shape_at w.scope.binders b) k.0 k.1, laid.binder_room b h.0)
    root_spot names (root.State k) h = let q = laid.wide_states k h in (laid.has_monitor, full_words (shape_at w.scope.states k) q.0 q.1, laid.state_room k h)

    -- a typed place
    pub record IsStanding (q : Place) (s : Shape) : Type 0 where
      pub spot : IsSpot (place_base w q) (place_span w q)
      pub fits : words s ≤ place_span w q
      pub wide : IsWide s

    pub stands : (names : Names) (q : Place) (s : Shape) → HasShape w.scope names q s → IsStanding q s
    stands names (place r steps) s h =
        let whole : Shape = root_shape w.scope r in
        let wide : IsWide whole = wide_root names r h.0 in
        let r' = inner w.scope names steps whole s h.1 wide.0 wide.1 in
        let fits : fixed_offset whole steps + words s ≤ words whole = r'.fits in
        let some : 1 ≤ words s = full_words s r'.proper r'.full in
        let few : words whole ≤ 4096 = wide.2 in
        record {
          spot = spot_at (root_base w r) (fixed_offset whole steps) (words s) (words whole) (root_spot names r h.0) fits some;
          fits = omega (arith, fits);
          wide = (r'.proper, r'.full, omega (arith, fits, few));
        }

    mutual
      pub expr_fine : (names : Names) (e : Expr) (c : Scalar) (from : ℕ) → HasScalar w.scope names e c → IsProperExpr e → end from (expr_code w from e) < length t.code → Fine (expr_code w from e)
      expr_fine names (lit s n) c from h proper room = literal_pushed s n proper h.1
      expr_fine names (read (place r steps)) c from h proper room =
          let whole : Shape = root_shape w.scope r in
          let wide : IsWide whole = wide_root names r h.0 in
          let spot : IsStanding (place r steps) (one c) = stands names (place r steps) (one c) h in
          let before : ℕ = end from (steps_code w from false whole steps) in
          let more : before ≤ end before (read_word (moves steps) (place_base w (place r steps)) (place_span w (place r steps))) = grows (read_word (moves steps) (place_base w (place r steps)) (place_span w (place r steps))) before in
          (steps_fine names steps from false whole (one c) h.1 wide.0 wide.1 wide.2 proper (omega (arith, room, more)), read_fine (moves steps) (place_base w (place r steps)) (place_span w (place r steps)) spot.spot)
      expr_fine names (un op s a) c from h proper room = (expr_fine names a s from h.2 proper.1 (omega (arith, room)), scalar_is s proper.0)
      expr_fine names (bin op s a b) c from h proper room =
          let middle : ℕ = end from (expr_code w from a) in
          let last : ℕ = end middle (expr_code w middle b) in
          let more : middle ≤ last = grows (expr_code w middle b) middle in
          let inside : suc last < length t.code = room in
          (expr_fine names a s from h.2 proper.1 (omega (arith, more, inside)), (expr_fine names b s middle h.3 proper.2 (omega (arith, inside)), scalar_is s proper.0))
      expr_fine names (choose q a b) c from h proper room =
          let test : ℕ = end from (expr_code w from q) in
          let first : ℕ = end (suc test) (expr_code w (suc test) a) in
          let other : ℕ = suc first in
          let last : ℕ = end other (expr_code w other b) in
          let inside : last < length t.code = room in
          let one_more : suc test ≤ first = grows (expr_code w (suc test) a) (suc test) in
          let two_more : other ≤ last = grows (expr_code w other b) other in (
            expr_fine names q scalar.Bool from h.0 proper.0 (omega (arith, inside, one_more, two_more)),
            (omega (arith, inside, two_more), (expr_fine names a c (suc test) h.1 proper.1 (omega (arith, inside, two_more)), (inside, expr_fine names b c other h.2 proper.2 inside))),
          )
      expr_fine names (cast s a) c from h proper room = (expr_fine names a h.3.0 from h.3.2 proper.1 (omega (arith, room)), (scalar_is s proper.0, h.0))

      pub steps_fine : (names : Names) (steps : Steps) (from : ℕ) (begun : Bool) (s u : Shape) → Leads w.scope names s steps u → IsProper s → IsFull s → words s ≤ 4096 → AreProperSteps steps → end from (steps_code w from begun s steps) < length t.code → Fine (steps_code w from begun s steps)
      steps_fine names no_steps from begun s u h p f small proper room = tt
      steps_fine names (field k rest) from begun (one c) u h p f small proper room = absurd h
      steps_fine names (field k rest) from begun (many n s) u h p f small proper room = absurd h
      steps_fine names (field k rest) from begun (all ss) u h p f small proper room =
          let nth = nth_proper ss k h.0 p f.1 in
          let here : fields_before ss k + words (nth_shape ss k) ≤ words_of_all ss = fields_within ss k h.0 in
          let few : words_of_all ss ≤ 4096 = small in
          steps_fine names rest from begun (nth_shape ss k) u h.1 nth.0 nth.1 (omega (arith, here, few)) proper room
      steps_fine names (at e rest) from begun (one c) u h p f small proper room = absurd h
      steps_fine names (at e rest) from begun (all ss) u h p f small proper room = absurd h
      steps_fine names (at e rest) from begun (many n s) u h p f small proper room =
          let x : Piece = expr_code w from e ▸ scaled (words s) ▸ added begun in
          let first : Piece = if_moving (given_index e) x in
          let middle : ℕ = end from first in
          let rest_code : Piece = steps_code w middle (is_moving (given_index e) || begun) s rest in
          let more : middle ≤ end middle rest_code = grows rest_code middle in
          let inside : end middle rest_code < length t.code = room in
          let narrower : words s ≤ n * words s = times n (words s) (words s) p.0 (omega arith) in
          let few : n * words s ≤ 4096 = small in
          let test : ℕ = end from (expr_code w from e) in
          let back : test ≤ end test (scaled (words s) ▸ added begun) = grows (scaled (words s) ▸ added begun) test in (
            moving_fine (given_index e) x from (omega (arith, more, inside)) (λ r. (expr_fine names e (scalar.Ix n) from h.0 proper.0 (omega (arith, back, r)), (scaled_fine (words s) (omega (arith, narrower, few)), added_fine begun))),
            steps_fine names rest middle (is_moving (given_index e) || begun) s u h.1 p.2 f (omega (arith, narrower, few)) proper.1 inside,
          )
