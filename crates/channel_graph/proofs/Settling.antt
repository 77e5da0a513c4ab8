-- Costs that one more round keeps are right, a depth at a time.
use Rattle.std.proofs.Common.{◌≡◌, ℕ, zero, suc, ◌+◌, ◌<◌, ◌≤◌, ◌==◌, List, ◌∷◌, length, cond, true, inl, inr, arith, refl, sym, ◌∙◌, ap, subst}
use Rattle.std.proofs.lemmas.Bool.{cases_eq, cases_lt, eq-eqb, ne_eqb}
use Rattle.tower_types.specs.Records.{saturated}
use Rattle.tower_syntax.specs.declared.arch.On.TheVariants as on
use Rattle.tower_syntax.specs.declared.arch.Listener.TheVariants as to
use Rattle.tower_syntax.specs.Arch.{Arch}
use Rattle.tower_syntax.specs.Graph.{leads, subs}
use Rattle.tower_syntax.specs.Weights.{deliver, message_words}
use Rattle.tower_syntax.specs.WellNumbered.{AreListeners}
use Rattle.channel_graph.specs.Chain.{LeadsAlong}
use Rattle.channel_graph.specs.Ranked.{rank}
use Rattle.channel_graph.specs.Table.{IsTable, further, weight_among}
use Rattle.channel_graph.specs.Deep.{AreDepths, IsDeepest}
use Rattle.channel_graph.specs.Kept.{AreKept, AreDeliveries}
use Rattle.channel_graph.proofs.Linked.{source_handler_below}
use Rattle.channel_graph.proofs.Members.{contains_from_In}
use Rattle.channel_graph.proofs.Recursed.{further_agrees, subscribers_agree, round_more}

-- the costs are those by f, which is right up to depth d
record RightTo (arch : Arch) (depths costs : List ℕ) (d : ℕ) : Type 0 where
  f : ℕ → ℕ
  table : IsTable (length arch.handlers) f costs
  right : (k : ℕ) → 0 < rank depths k → rank depths k ≤ d → f k ≡ deliver arch k

-- what a handler leads to has a lesser depth
falls : (arch : Arch) (depths : List ℕ) (k j : ℕ) → AreDepths arch depths → 0 < rank depths k → leads arch k j ≡ true → rank depths j < rank depths k
falls arch depths k j known pos link =
    let s = (known.known j (known.closed k j pos link)).starts in
    let most = (known.known k pos).longest (rank depths j + 1) (record { rest = j ∷ s.rest; along = (link, s.along); long = omega (arith, s.long) }) in
    omega (arith, most)

-- a handler of the next depth, by those that it leads to
step : (arch : Arch) (depths costs : List ℕ) (d k : ℕ) → AreDepths arch depths → suc d ≤ length arch.handlers → (r : RightTo arch depths costs d) → rank depths k ≡ suc d → further arch r.f k ≡ deliver arch k
step arch depths costs d k known few r at =
    let pos : 0 < rank depths k = omega (arith, at) in
    let led : (j : ℕ) → leads arch k j ≡ true → r.f j ≡ deliver arch j = λ j link.
    let less = falls arch depths k j known pos link in
    r.right j (known.closed k j pos link) (omega (arith, less, at)) in
    let short : (hs : List ℕ) → LeadsAlong arch k hs → length hs ≤ d = λ hs along.
    let most = (known.known k pos).longest (length hs + 1) (record { rest = hs; along = along; long = refl }) in
    omega (arith, most, at) in
    further_agrees arch r.f (deliver arch) k led ∙ round_more arch d (length arch.handlers) k short (omega (arith, few))

right_to : (arch : Arch) (depths costs after : List ℕ) (d : ℕ) → AreDepths arch depths → AreKept depths costs after (length arch.handlers) → length costs ≡ length arch.handlers → ((f : ℕ → ℕ) → IsTable (length arch.handlers) f costs → IsTable (length arch.handlers) (further arch f) after) → d ≤ length arch.handlers → RightTo arch depths costs d
right_to arch depths costs after zero known kept each round few = record {
  f = rank costs;
  table = record { each = each; has = kept.cut };
  right = λ k pos none. absurd (omega arith);
}
right_to arch depths costs after (suc d) known kept each round few =
    let r = right_to arch depths costs after d known kept each round (omega (arith, few)) in
    let next : ℕ → ℕ = λ k. cond (rank depths k == suc d) (deliver arch k) (r.f k) in
    let yes_at = λ (k : ℕ) (e : rank depths k ≡ suc d). ap (λ b. cond b (deliver arch k) (r.f k)) (eq-eqb (rank depths k) (suc d) e) in
    let no_at = λ (k : ℕ) (e : rank depths k ≡ suc d → ⊥). ap (λ b. cond b (deliver arch k) (r.f k)) (ne_eqb (rank depths k) (suc d) e) in
    record {
      f = next;
      table = record {
        each = each;
        has = λ k below. elim (cases_eq (rank depths k) (suc d)) [
          | inl at ↦
              let pos : 0 < rank depths k = omega (arith, at) in
              kept.same k below pos ∙ (round r.f r.table).has k below ∙ ap saturated (step arch depths costs d k known few r at ∙ sym (yes_at k at))
          | inr other ↦ r.table.has k below ∙ ap saturated (sym (no_at k other))
        ];
      };
      right = λ k pos le. elim (cases_eq (rank depths k) (suc d)) [
        | inl at ↦ yes_at k at
        | inr other ↦ no_at k other ∙ elim (cases_lt d (rank depths k)) [
          | inl more ↦ let at : rank depths k ≡ suc d = omega (arith, more, le) in absurd (other at)
          | inr less ↦ r.right k pos less
        ]
      ];
    }

pub kept_deliveries : (arch : Arch) (depths costs after : List ℕ) (n : ℕ) → AreListeners arch → AreDepths arch depths → IsDeepest arch depths (length arch.handlers) n → n ≤ length arch.handlers → AreKept depths costs after (length arch.handlers) → length costs ≡ length arch.handlers → ((f : ℕ → ℕ) → IsTable (length arch.handlers) f costs → IsTable (length arch.handlers) (further arch f) after) → AreDeliveries arch costs
kept_deliveries arch depths costs after n listed known deepest few kept each round =
    let r = right_to arch depths costs after (length arch.handlers) known kept each round (omega arith) in
    record {
      of_handler = r.f;
      table = r.table;
      right = λ h o.
          let here = deepest.all h (source_handler_below arch h o.source listed o.on) o in
          r.right h here.0 (omega (arith, here.1, few));
    }

-- lists that are read
pub kept_read : (ds bs cs depths before after : List ℕ) (n : ℕ) → ds ≡ depths → bs ≡ before → cs ≡ after → length depths ≡ n → AreKept ds bs cs (length ds) → AreKept depths before after n
kept_read ds bs cs depths before after n d b c each kept =
    let first = subst (λ xs. AreKept xs bs cs (length xs)) d kept in
    let second = subst (λ xs. AreKept depths xs cs (length depths)) b first in
    let third = subst (λ xs. AreKept depths before xs (length depths)) c second in
    subst (AreKept depths before after) each third

-- what it weighs to deliver one message of a source
pub source_right : (arch : Arch) (costs : List ℕ) (s : ℕ) → s < length arch.sources → (d : AreDeliveries arch costs) → weight_among arch d.of_handler arch.listeners (on.Source s) ≡ weight_among arch (deliver arch) arch.listeners (on.Source s)
source_right arch costs s exists d =
    subscribers_agree d.of_handler (deliver arch) (message_words arch (on.Source s)) (subs arch (on.Source s)) (λ k m.
    d.right k (record { source = s; exists = exists; on = contains_from_In (subs arch (on.Source s)) (to.Handler k) m }))
