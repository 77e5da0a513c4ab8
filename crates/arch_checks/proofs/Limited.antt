-- The limits, one after the other.
use Rattle.std.proofs.Common.{◌≡◌, inl, inr, ◌<◌, ◌≤◌, ℕ, zero, suc, ◌+◌, List, [], ◌∷◌, get_or, refl, sym, ap, ◌∙◌, subst, arith}
use Rattle.std.proofs.lemmas.Bool.{cases_order}
use Rattle.tower_types.specs.Records.{saturated}
use Rattle.tower_syntax.specs.Arch.{Arch}
use Rattle.channel_graph.specs.Chain.{IsChain}
use Rattle.arch_checks.specs.declared.fault.What.{What}
use Rattle.arch_checks.specs.declared.fault.What.TheVariants as what
use Rattle.arch_checks.specs.Limits.{limit, order}
use Rattle.arch_checks.specs.Sizes.{Counts}
use Rattle.arch_checks.specs.Firsts.{AreWithin}

-- each of them at its place
abbrev pub whats : List What
whats = what.Sources ∷ what.Channels ∷ what.Outputs ∷ what.Monitors ∷ what.Handlers ∷ what.Records ∷ what.Depth ∷ what.Words ∷ what.Chain ∷ what.Memory ∷ what.Code ∷ []

abbrev pub what_at : ℕ → What
what_at i = get_or whats i what.Sources

what_is : (w : What) → what_at (order w) ≡ w
what_is what.Sources = refl
what_is what.Channels = refl
what_is what.Outputs = refl
what_is what.Monitors = refl
what_is what.Handlers = refl
what_is what.Records = refl
what_is what.Depth = refl
what_is what.Words = refl
what_is what.Chain = refl
what_is what.Memory = refl
what_is what.Code = refl

pub what_once : (v w : What) → order v ≡ order w → v ≡ w
what_once v w e = sym (what_is v) ∙ ap what_at e ∙ what_is w

pub order_at : (i : ℕ) → i < 11 → order (what_at i) ≡ i
order_at zero h = refl
order_at (suc zero) h = refl
order_at (suc (suc zero)) h = refl
order_at (suc (suc (suc zero))) h = refl
order_at (suc (suc (suc (suc zero)))) h = refl
order_at (suc (suc (suc (suc (suc zero))))) h = refl
order_at (suc (suc (suc (suc (suc (suc zero)))))) h = refl
order_at (suc (suc (suc (suc (suc (suc (suc zero))))))) h = refl
order_at (suc (suc (suc (suc (suc (suc (suc (suc zero)))))))) h = refl
order_at (suc (suc (suc (suc (suc (suc (suc (suc (suc zero))))))))) h = refl
order_at (suc (suc (suc (suc (suc (suc (suc (suc (suc (suc zero)))))))))) h = refl
order_at (suc (suc (suc (suc (suc (suc (suc (suc (suc (suc (suc n))))))))))) h = absurd (omega (arith, h))

pub order_below : (w : What) → order w < 11
order_below what.Sources = omega arith
order_below what.Channels = omega arith
order_below what.Outputs = omega arith
order_below what.Monitors = omega arith
order_below what.Handlers = omega arith
order_below what.Records = omega arith
order_below what.Depth = omega arith
order_below what.Words = omega arith
order_below what.Chain = omega arith
order_below what.Memory = omega arith
order_below what.Code = omega arith

limit_below : (w : What) → limit w ≤ 1048576
limit_below what.Sources = omega arith
limit_below what.Channels = omega arith
limit_below what.Outputs = omega arith
limit_below what.Monitors = omega arith
limit_below what.Handlers = omega arith
limit_below what.Records = omega arith
limit_below what.Depth = omega arith
limit_below what.Words = omega arith
limit_below what.Chain = omega arith
limit_below what.Memory = omega arith
limit_below what.Code = omega arith

-- a system has so much of a thing, and no other count of it

chain_once : (arch : Arch) (m n : ℕ) → IsChain arch m → IsChain arch n → m ≡ n
chain_once arch m n h k =
    let p : m ≤ n = subst (λ x. x ≤ n) h.long (k.longest h.walk h.is) in
    let q : n ≤ m = subst (λ x. x ≤ m) k.long (h.longest k.walk k.is) in
    omega (arith, p, q)

pub count_once : (arch : Arch) (w : What) (m n : ℕ) → Counts arch w m → Counts arch w n → m ≡ n
count_once arch what.Sources m n h k = h ∙ sym k
count_once arch what.Channels m n h k = h ∙ sym k
count_once arch what.Outputs m n h k = h ∙ sym k
count_once arch what.Monitors m n h k = h ∙ sym k
count_once arch what.Handlers m n h k = h ∙ sym k
count_once arch what.Records m n h k = h ∙ sym k
count_once arch what.Depth m n h k = h ∙ sym k
count_once arch what.Words m n h k = h ∙ sym k
count_once arch what.Chain m n h k = chain_once arch m n h k
count_once arch what.Memory m n h k = h ∙ sym k
count_once arch what.Code m n h k = h ∙ sym k

-- the next limit is kept too, as the cut count shows
pub within_more : (arch : Arch) (i : ℕ) (w : What) (n cut most : ℕ) → order w ≡ i → AreWithin arch i → Counts arch w n → cut ≡ saturated n → most ≡ limit w → cut ≤ most → AreWithin arch (i + 1)
within_more arch i w n cut most at within counts e f le v m below other = elim (cases_order (order v) i) [
  | inl same ↦
      let vw : v ≡ w = what_once v w (same ∙ sym at) in
      let mn : m ≡ n = count_once arch w m n (subst (λ x. Counts arch x m) vw other) counts in
      let kept : n ≤ limit w = omega (arith, e, f, le, limit_below w) in
      let there : m ≤ limit w = subst (λ x. x ≤ limit w) (sym mn) kept in
      subst (λ x. m ≤ limit x) (sym vw) there
  | inr other_place ↦ elim other_place [ inl l ↦ within v m l other | inr l ↦ absurd (omega (arith, l, below)) ]
]
