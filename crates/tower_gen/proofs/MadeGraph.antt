-- A generated system has no cycle, and is within all limits.
use Rattle.std.proofs.Common.{◌≡◌, ℕ, ◌+◌, ◌<◌, ◌≤◌, List, [], ◌∷◌, length, Bool, true, false, not, ◌||◌, nat_lt, nat_le, None, refl, sym, subst, ◌∙◌, arith, true≢false}
use Rattle.std.proofs.lemmas.Bool.{ltb-true, leb-true}
use Rattle.std.specs.List.{list_all}
use Rattle.tower_syntax.specs.declared.arch.On.TheVariants as on
use Rattle.tower_syntax.specs.Graph.{handler, leads, Reaches, begins, goes}
use Rattle.tower_syntax.specs.Weights.{most, cost}
use Rattle.tower_syntax.specs.WellNumbered.{AreListeners}
use Rattle.channel_graph.specs.Reaching.{is_on}
use Rattle.channel_graph.specs.Reaching as reaching
use Rattle.channel_graph.specs.Circuit.{shown, IsAcyclic, LeadsBack}
use Rattle.channel_graph.specs.Chain.{IsWalk, LeadsAlong}
use Rattle.channel_graph.specs.Over.{bound_of, NoneOver}
use Rattle.channel_graph.proofs.Members.{below_number}
use Rattle.channel_graph.proofs.Linked.{link_of, source_handler_below}
use Rattle.channel_graph.proofs.Acyclic.{shown_none}
use Rattle.arch_checks.specs.declared.fault.What.{What}
use Rattle.arch_checks.specs.declared.fault.What.TheVariants as what
use Rattle.arch_checks.specs.Limits.{limit, work_limit}
use Rattle.arch_checks.specs.Sizes.{Counts}
use Rattle.tower_gen.specs.Draws.{Drawn}
use Rattle.tower_gen.specs.File.{upto}
use Rattle.tower_gen.specs.System.{system}
use Rattle.tower_gen.specs.Rows.{rank, rises, is_bounded}
use Rattle.tower_gen.proofs.Computed
use Rattle.tower_gen.proofs.Picked.{map_at, all_at, both}

implied : (a b : Bool) → a ≡ true → (not a || b) ≡ true → b ≡ true
implied true b e h = h
implied false b e h = absurd (true≢false (sym e))

low_rank : (k : ℕ) → k < 64 → rank k ≤ 4
low_rank k l = leb-true (rank k) 4 (all_at (λ j. nat_le (rank j) 4) (upto 64) Computed.low_ranks k (below_number 64 k l))

few_words : 54208 ≤ 1048576
few_words = omega arith

few_instructions : 291200 ≤ 1000000
few_instructions = omega arith

not_deep : 2 ≤ 32
not_deep = omega arith

not_wide : 8 ≤ 4096
not_wide = omega arith

module _ (d : Drawn) where
  listed : AreListeners (system d)
  listed = record { outputs = refl; handlers = refl }

  record Higher (h k : ℕ) : Type 0 where
    pub below : k < 64
    pub more : rank h < rank k

  higher : (h k : ℕ) → h < 64 → leads (system d) h k ≡ true → Higher h k
  higher h k l e =
      let link = link_of (system d) h k listed e in
      let at_h : list_all (λ j. list_all (rises d h j) (handler (system d) h).emitters) (upto 64) ≡ true = all_at (λ i. list_all (λ j. list_all (rises d i j) (handler (system d) i).emitters) (upto 64)) (upto 64) (Computed.rises d) h (below_number 64 h l) in
      let at_k : list_all (rises d h k) (handler (system d) h).emitters ≡ true = all_at (λ j. list_all (rises d h j) (handler (system d) h).emitters) (upto 64) at_h k (below_number 64 k link.below) in
      record {
        below = link.below;
        more = ltb-true (rank h) (rank k) (implied (is_on (system d) (on.Channel link.emitter.channel) k) (nat_lt (rank h) (rank k)) link.on (all_at (rises d h k) (handler (system d) h).emitters at_k link.emitter link.has));
      }

  reached_below : (s h : ℕ) → Reaches (system d) s h → h < 64
  reached_below s k (begins h c) = source_handler_below (system d) h s listed c
  reached_below s k (goes h j before link) = (higher h j (reached_below s h before) link).below

  further : (h j k : ℕ) → Higher h j → leads (system d) j k ≡ true → Higher h k
  further h j k p link =
      let q = higher j k p.below link in
      let m = p.more in let n = q.more in
      record { below = q.below; more = omega (arith, m, n) }

  back_higher : (h : ℕ) → h < 64 → LeadsBack (system d) h → Higher h h
  back_higher h l back = elim back as (λ k f. Higher h k) [
    | reaching.begins k b ↦ higher h k l b
    | reaching.goes j k (before → p) link ↦ further h j k p link
  ]

  acyclic : IsAcyclic (system d)
  acyclic s h l reach back = let m = (back_higher h (reached_below s h reach) back).more in omega (arith, m)

  pub no_cycle : shown (system d) ≡ None
  no_cycle = (shown_none (system d) (shown (system d)) listed refl).1 acyclic

  along : (h : ℕ) (ks : List ℕ) → h < 64 → LeadsAlong (system d) h ks → rank h + length ks ≤ 4
  along h [] l w = let m = low_rank h l in omega (arith, m)
  along h (k ∷ ks) l w = let p = higher h k l w.0 in let m = p.more in let n = along k ks p.below w.1 in omega (arith, m, n)

  short_walk : (hs : List ℕ) → IsWalk (system d) hs → length hs ≤ 5
  short_walk [] w = omega arith
  short_walk (h ∷ hs) w = let m = along h hs (source_handler_below (system d) h w.0.source listed w.0.on) w.1 in omega (arith, m)

  pub none_over : NoneOver (system d)
  none_over h e over =
      let c = both (nat_le (length (handler (system d) h).emitters) 1) (nat_le (most (handler (system d) h) 0) (bound_of (handler (system d) h) 0)) (all_at (λ i. is_bounded (handler (system d) i)) (upto 64) (Computed.bounded d) h (below_number 64 h over.of)) in
      let few = leb-true (length (handler (system d) h).emitters) 1 c.0 in
      let at = over.at in
      let first : e ≡ 0 = omega (arith, few, at) in
      let kept = leb-true (most (handler (system d) h) 0) (bound_of (handler (system d) h) 0) c.1 in
      let more = subst (λ i. bound_of (handler (system d) h) i < most (handler (system d) h) i) first over.more in
      omega (arith, kept, more)

  pub each_cost : (s : ℕ) → s < 32 → cost (system d) s ≡ 25550
  each_cost s l = map_at (cost (system d)) (λ i. 25550) (upto 32) (Computed.costs d) s (below_number 32 s l)

  pub cheap : (s : ℕ) → s < 32 → cost (system d) s ≤ work_limit
  cheap s l = let e = each_cost s l in omega (arith, e)

  under : (n m most : ℕ) → n ≡ m → m ≤ most → n ≤ most
  under n m most e l = omega (arith, e, l)

  few_enough : (a n : ℕ) → a ≤ 5 → a ≡ n → n ≤ 100
  few_enough a n l e = omega (arith, l, e)

  pub within : (w : What) (n : ℕ) → Counts (system d) w n → n ≤ limit w
  within what.Sources n e = under n 32 64 e (omega arith)
  within what.Channels n e = under n 16 4096 e (omega arith)
  within what.Outputs n e = under n 4 1024 e (omega arith)
  within what.Monitors n e = under n 64 1024 e (omega arith)
  within what.Handlers n e = under n 64 4096 e (omega arith)
  within what.Records n e = under n 0 1024 e (omega arith)
  within what.Depth n e = under n 2 32 (e ∙ (Computed.widths d).0) not_deep
  within what.Words n e = under n 8 4096 (e ∙ (Computed.widths d).1) not_wide
  within what.Chain n e = few_enough (length e.walk) n (short_walk e.walk e.is) e.long
  within what.Memory n e = under n 54208 1048576 (e ∙ Computed.memory d) few_words
  within what.Code n e = under n 291200 1000000 (e ∙ Computed.code d) few_instructions
