-- The tokens of a written value: that they make one, and what it is at a type.
use Rattle.std.proofs.Common.{◌≡◌, ◌<◌, ◌≤◌, ℕ, zero, suc, ◌+◌, ◌-◌, max, List, [], ◌∷◌, ◌++◌, length, Bool, true, false, not, cond, ◌&&◌, eqb, refl, ap, sym, ◌∙◌, subst, arith, append_assoc, append-nil, length-append, Option, Some, None}
use Rattle.std.specs.Prelude.{nat_lt, option_map, option_and_then}
use Rattle.std.proofs.lemmas.Bool.{ltb-true, lt-ltb, ne_eqb, eqb-true}
use Rattle.tower_types.specs.Ty.{Shape, one, many, all, Shapes, no_shapes, shape}
use Rattle.tower_types.specs.Value.{Value, Values, no_values, value, parts}
use Rattle.event_record.specs.Lines.{Bytes}
use Rattle.event_record.specs.Tokens.{Token, left, right, atom, stray, tokens}
use Rattle.event_record.specs.Written.{Written, literal, list, Writtens, no_more, written, spelling, spellings, is_literal, has_literals, have_literals, written_depth, deepest, depth_limit, IsValue, literal_at, before, as_parts, each_at, value_at, values_at}
use Rattle.event_record.specs.Scanned.{may_begin, makes_value, Taken, with_rest, put_before, closed, then_more, take_each, take_literal, within_list, take_value, take_values, whole_value, is_none}

-- ---- the value at a type

abbrev ended : List Token → Option Values → Taken Values
ended ts None = None
ended ts (Some vs) = Some (vs, ts)

abbrev shut_by : Values → List Token → Taken Values
shut_by vs (right ∷ ts) = Some (vs, ts)
shut_by vs _ = None

-- the parts of a list, which must end behind them
abbrev shut : Taken Values → Taken Values
shut None = None
shut (Some (vs, ts)) = shut_by vs ts

abbrev listed : Taken Values → Taken Value
listed None = None
listed (Some (vs, ts)) = Some (parts vs, ts)

closed_by : (vs : Values) (ts : List Token) → closed (Some (vs, ts)) ≡ listed (shut_by vs ts)
closed_by vs [] = refl
closed_by vs (left ∷ ts) = refl
closed_by vs (right ∷ ts) = refl
closed_by vs (atom w ∷ ts) = refl
closed_by vs (stray ∷ ts) = refl

closed_is : (t : Taken Values) → closed t ≡ listed (shut t)
closed_is None = refl
closed_is (Some (vs, ts)) = closed_by vs ts

shut_put_by : (v : Value) (vs : Values) (ts : List Token) → shut_by (value v vs) ts ≡ put_before v (shut_by vs ts)
shut_put_by v vs [] = refl
shut_put_by v vs (left ∷ ts) = refl
shut_put_by v vs (right ∷ ts) = refl
shut_put_by v vs (atom w ∷ ts) = refl
shut_put_by v vs (stray ∷ ts) = refl

shut_put : (v : Value) (t : Taken Values) → shut (put_before v t) ≡ put_before v (shut t)
shut_put v None = refl
shut_put v (Some (vs, ts)) = shut_put_by v vs ts

ended_put : (ts : List Token) (v : Value) (o : Option Values) → put_before v (ended ts o) ≡ ended ts (before v o)
ended_put ts v None = refl
ended_put ts v (Some vs) = refl

-- no list ends where a value begins
not_shut : (vs : Values) (w : Written) (ts : List Token) → shut_by vs (spelling w ++ ts) ≡ None
not_shut vs (literal text) ts = refl
not_shut vs (list ws) ts = refl

-- what tokens that spell a value are taken for
abbrev Takes : (List Token → Taken Value) → (Written → Option Value) → Type 0
Takes f g = (w : Written) (ts : List Token) → f (spelling w ++ ts) ≡ option_map (with_rest ts) (g w)

one_more : (more : List Token → Taken Values) (rest end : List Token) (t : Taken Value) (o : Option Value) (later : Option Values) → t ≡ option_map (with_rest rest) o → shut (more rest) ≡ ended end later
    → shut (then_more more t) ≡ ended end (option_and_then (λ v. before v later) o)
one_more more rest end t None later e h = ap (λ t. shut (then_more more t)) e
one_more more rest end t (Some v) later e h =
    ap (λ t. shut (then_more more t)) e ∙ shut_put v (more rest) ∙ ap (put_before v) h ∙ ended_put end v later

regroup : (w : Written) (ws : Writtens) (ts : List Token) → spellings (written w ws) ++ right ∷ ts ≡ spelling w ++ (spellings ws ++ right ∷ ts)
regroup w ws ts = append_assoc (spelling w) (spellings ws) (right ∷ ts)

each_is : (f : List Token → Taken Value) (g : Written → Option Value) → Takes f g → ((ts : List Token) → f (right ∷ ts) ≡ None) → (n : ℕ) (ws : Writtens) (ts : List Token) → shut (take_each n f (spellings ws ++ right ∷ ts)) ≡ ended ts (each_at n g ws)
each_is f g h r zero no_more ts = refl
each_is f g h r zero (written w ws) ts = ap (shut_by no_values) (regroup w ws ts) ∙ not_shut no_values w (spellings ws ++ right ∷ ts)
each_is f g h r (suc n) no_more ts = ap (λ t. shut (then_more (take_each n f) t)) (r ts)
each_is f g h r (suc n) (written w ws) ts =
    ap (λ us. shut (then_more (take_each n f) (f us))) (regroup w ws ts)
    ∙ one_more (take_each n f) (spellings ws ++ right ∷ ts) ts (f (spelling w ++ (spellings ws ++ right ∷ ts))) (g w) (each_at n g ws) (h w (spellings ws ++ right ∷ ts)) (each_is f g h r n ws ts)

list_is : (t : Taken Values) (ts : List Token) (o : Option Values) → shut t ≡ ended ts o → closed t ≡ option_map (with_rest ts) (as_parts o)
list_is t ts None h = closed_is t ∙ ap listed h
list_is t ts (Some vs) h = closed_is t ∙ ap listed h

ends_not : (s : Shape) (ts : List Token) → take_value s (right ∷ ts) ≡ None
ends_not (one s) ts = refl
ends_not (many n s) ts = refl
ends_not (all ss) ts = refl

behind_list : (ws : Writtens) (ts : List Token) → (spellings ws ++ right ∷ []) ++ ts ≡ spellings ws ++ right ∷ ts
behind_list ws ts = append_assoc (spellings ws) (right ∷ []) ts

mutual
  taken_is : (s : Shape) → Takes (take_value s) (value_at s)
  taken_is (one s) (literal text) ts = refl
  taken_is (one s) (list ws) ts = refl
  taken_is (many n s) (literal text) ts = refl
  taken_is (many n s) (list ws) ts =
      ap (λ us. closed (take_each n (take_value s) us)) (behind_list ws ts)
      ∙ list_is (take_each n (take_value s) (spellings ws ++ right ∷ ts)) ts (each_at n (value_at s) ws) (each_is (take_value s) (value_at s) (taken_is s) (ends_not s) n ws ts)
  taken_is (all ss) (literal text) ts = refl
  taken_is (all ss) (list ws) ts =
      ap (λ us. closed (take_values ss us)) (behind_list ws ts)
      ∙ list_is (take_values ss (spellings ws ++ right ∷ ts)) ts (values_at ss ws) (fields_are ss ws ts)

  fields_are : (ss : Shapes) (ws : Writtens) (ts : List Token) → shut (take_values ss (spellings ws ++ right ∷ ts)) ≡ ended ts (values_at ss ws)
  fields_are no_shapes no_more ts = refl
  fields_are no_shapes (written w ws) ts = ap (shut_by no_values) (regroup w ws ts) ∙ not_shut no_values w (spellings ws ++ right ∷ ts)
  fields_are (shape s ss) no_more ts = ap (λ t. shut (then_more (take_values ss) t)) (ends_not s ts)
  fields_are (shape s ss) (written w ws) ts =
      ap (λ us. shut (then_more (take_values ss) (take_value s us))) (regroup w ws ts)
      ∙ one_more (take_values ss) (spellings ws ++ right ∷ ts) ts (take_value s (spelling w ++ (spellings ws ++ right ∷ ts))) (value_at s w) (values_at ss ws) (taken_is s w (spellings ws ++ right ∷ ts)) (fields_are ss ws ts)

whole_is : (o : Option Value) → whole_value (option_map (with_rest []) o) ≡ o
whole_is None = refl
whole_is (Some v) = refl

-- the value of a text at a shape
pub value_is : (s : Shape) (text : Bytes) (w : Written) → IsValue text w → whole_value (take_value s (tokens text)) ≡ value_at s w
value_is s text w h =
    ap (λ ts. whole_value (take_value s ts)) (h.spelled ∙ sym (append-nil (spelling w)))
    ∙ ap whole_value (taken_is s w []) ∙ whole_is (value_at s w)

-- ---- the tokens of a value make one

and_is : (a b : Bool) → a ≡ true → a && b ≡ b
and_is true b h = refl
and_is false b h = cc

and_split : (a b : Bool) → a && b ≡ true → (a ≡ true) × (b ≡ true)
and_split true b h = (refl, h)
and_split false b h = cc

nonzero : (e : ℕ) → eqb (e + 1) 0 ≡ false
nonzero e = ne_eqb (e + 1) 0 (λ h. omega (arith, h))

begins : (d : ℕ) → d < 32 → may_begin d false ≡ true
begins d h = lt-ltb d 32 h

mutual
  makes_more : (w : Written) (d : ℕ) (ts : List Token) → has_literals w ≡ true → d + written_depth w ≤ 32 → makes_value d false (spelling w ++ ts) ≡ makes_value d (eqb d 0) ts
  makes_more (literal text) d ts l h =
      let b = begins d (omega (arith, h)) in
      ap (λ m. m && is_literal text && makes_value d (eqb d 0) ts) b ∙ and_is (is_literal text) (makes_value d (eqb d 0) ts) l
  makes_more (list ws) d ts l h =
      let b = begins d (omega (arith, h)) in
      let e : d + 1 - 1 ≡ d = omega arith in
      ap (λ us. may_begin d false && makes_value (d + 1) false us) (behind_list ws ts)
      ∙ and_is (may_begin d false) (makes_value (d + 1) false (spellings ws ++ right ∷ ts)) b
      ∙ make_all ws d (right ∷ ts) l (omega (arith, h))
      ∙ ap (λ z. not z && makes_value (d + 1 - 1) (eqb (d + 1 - 1) 0) ts) (nonzero d)
      ∙ ap (λ d. makes_value d (eqb d 0) ts) e

  make_all : (ws : Writtens) (d : ℕ) (ts : List Token) → have_literals ws ≡ true → d + 1 + deepest ws ≤ 32 → makes_value (d + 1) false (spellings ws ++ ts) ≡ makes_value (d + 1) false ts
  make_all no_more d ts l h = refl
  make_all (written w ws) d ts l h =
      let p = and_split (has_literals w) (have_literals ws) l in
      ap (makes_value (d + 1) false) (append_assoc (spelling w) (spellings ws) ts)
      ∙ makes_more w (d + 1) (spellings ws ++ ts) p.0 (omega (arith, h))
      ∙ ap (λ z. makes_value (d + 1) z (spellings ws ++ ts)) (nonzero d)
      ∙ make_all ws d ts p.1 (omega (arith, h))

pub makes_one : (text : Bytes) (w : Written) → IsValue text w → makes_value 0 false (tokens text) ≡ true
makes_one text w h =
    ap (makes_value 0 false) (h.spelled ∙ sym (append-nil (spelling w))) ∙ makes_more w 0 [] h.literals (omega (arith, h.shallow))

-- ---- what makes a value spells one

-- the rest of a list, inside so many others
record Rest (e : ℕ) (ts : List Token) : Type 0 where
  inside : Writtens
  behind : List Token
  spelled : ts ≡ spellings inside ++ right ∷ behind
  literals : have_literals inside ≡ true
  shallow : e + 1 + deepest inside ≤ 32
  goes_on : makes_value e (eqb e 0) behind ≡ true

begun : (d : ℕ) (b : Bool) → may_begin d false && b ≡ true → (d < 32) × (b ≡ true)
begun d b h = let p = and_split (may_begin d false) b h in (ltb-true d 32 p.0, p.1)

shorter : (ws : Writtens) (ts behind : List Token) → ts ≡ spellings ws ++ right ∷ behind → length behind < length ts
shorter ws ts behind e = omega (arith, ap length e, length-append (spellings ws) (right ∷ behind))

rest_by : (n e : ℕ) (ts : List Token) → length ts ≤ n → e < 32 → makes_value (e + 1) false ts ≡ true → Rest e ts
rest_by n e [] l h m = let p = and_split (eqb (e + 1) 0) false m in cc
rest_by zero e (t ∷ ts) l h m = absurd (omega (arith, l))
rest_by (suc n) e (atom text ∷ ts) l h m =
    let p = and_split (may_begin (e + 1) false && is_literal text) (makes_value (e + 1) (eqb (e + 1) 0) ts) m in
    let q = begun (e + 1) (is_literal text) p.0 in
    let r = rest_by n e ts (omega (arith, l)) h (ap (λ z. makes_value (e + 1) z ts) (sym (nonzero e)) ∙ p.1) in
    record {
      inside = written (literal text) r.inside;
      behind = r.behind;
      spelled = ap (λ us. atom text ∷ us) r.spelled;
      literals = and_is (is_literal text) (have_literals r.inside) q.1 ∙ r.literals;
      shallow = omega (arith, q.0, r.shallow);
      goes_on = r.goes_on;
    }
rest_by (suc n) e (left ∷ ts) l h m =
    let p = begun (e + 1) (makes_value (e + 1 + 1) false ts) m in
    let r = rest_by n (e + 1) ts (omega (arith, l)) p.0 p.1 in
    let s = rest_by n e r.behind (omega (arith, l, shorter r.inside ts r.behind r.spelled)) h (ap (λ z. makes_value (e + 1) z r.behind) (sym (nonzero e)) ∙ r.goes_on) in
    record {
      inside = written (list r.inside) s.inside;
      behind = s.behind;
      spelled = ap (λ us. left ∷ us) (r.spelled ∙ ap (λ us. spellings r.inside ++ right ∷ us) s.spelled ∙ sym (behind_list r.inside (spellings s.inside ++ right ∷ s.behind)) ∙ sym (append_assoc (spellings r.inside ++ right ∷ []) (spellings s.inside) (right ∷ s.behind)));
      literals = and_is (have_literals r.inside) (have_literals s.inside) r.literals ∙ s.literals;
      shallow = omega (arith, r.shallow, s.shallow);
      goes_on = s.goes_on;
    }
rest_by (suc n) e (right ∷ ts) l h m =
    let p = and_split (not (eqb (e + 1) 0)) (makes_value (e + 1 - 1) (eqb (e + 1 - 1) 0) ts) m in
    let q : e + 1 - 1 ≡ e = omega arith in
    record {
      inside = no_more;
      behind = ts;
      spelled = refl;
      literals = refl;
      shallow = omega (arith, h);
      goes_on = ap (λ d. makes_value d (eqb d 0) ts) (sym q) ∙ p.1;
    }
rest_by (suc n) e (stray ∷ ts) l h m = cc

ended_whole : (ts : List Token) → makes_value 0 true ts ≡ true → ts ≡ []
ended_whole [] h = refl
ended_whole (atom text ∷ ts) h = cc
ended_whole (left ∷ ts) h = cc
ended_whole (right ∷ ts) h = cc
ended_whole (stray ∷ ts) h = cc

abbrev Spelled : List Token → Type 0
Spelled ts = (w : Written) × (ts ≡ spelling w) × (has_literals w ≡ true) × (written_depth w ≤ 32)

spelled_by : (ts : List Token) → makes_value 0 false ts ≡ true → Spelled ts
spelled_by [] h = cc
spelled_by (atom text ∷ ts) h =
    let p = and_split (is_literal text) (makes_value 0 true ts) h in
    (literal text, ap (λ us. atom text ∷ us) (ended_whole ts p.1), p.0, omega arith)
spelled_by (left ∷ ts) h =
    let r = rest_by (length ts) 0 ts (omega arith) (omega arith) h in
    (list r.inside, ap (λ us. left ∷ us) (r.spelled ∙ ap (λ us. spellings r.inside ++ right ∷ us) (ended_whole r.behind r.goes_on)), r.literals, omega (arith, r.shallow))
spelled_by (right ∷ ts) h = cc
spelled_by (stray ∷ ts) h = cc

pub is_a_value : (text : Bytes) → makes_value 0 false (tokens text) ≡ true → (w : Written) × IsValue text w
is_a_value text h =
    let r = spelled_by (tokens text) h in
    (r.0, record { spelled = r.1; literals = r.2; shallow = r.3 })
