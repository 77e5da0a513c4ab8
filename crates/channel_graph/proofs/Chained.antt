-- Where no source reaches a cycle there is a longest walk.
use Rattle.std.proofs.Common.{◌≡◌, ℕ, zero, suc, ◌≤◌, List, [], ◌∷◌, length, Bool, true, false, ◌&&◌, inl, inr, refl, sym, ◌∙◌, subst, arith}
use Rattle.std.specs.List.{list_any}
use Rattle.std.proofs.lemmas.Bool.{false≢true, cases_lt, eq-eqb}
use Rattle.tower_syntax.specs.declared.arch.On.TheVariants as on
use Rattle.tower_syntax.specs.declared.arch.Listener.TheVariants as to
use Rattle.tower_syntax.specs.Arch.{Arch}
use Rattle.tower_syntax.specs.Graph.{subs, is_handler, leads, handler_numbers}
use Rattle.tower_syntax.specs.Weights.{source_numbers}
use Rattle.tower_syntax.specs.WellNumbered.{AreListeners}
use Rattle.channel_graph.specs.Chain.{IsOnSource, LeadsAlong, IsWalk, IsChain}
use Rattle.channel_graph.specs.Laws.{HasChain, ChainsExist}
use Rattle.channel_graph.proofs.Members.{In, any_has, has_any, number_below, below_number, contains_from_In, In-from_contains}
use Rattle.channel_graph.proofs.Linked.{is_handler-true, link_of, source_handler_below}
use Rattle.channel_graph.proofs.Walked.{walk_is_short}

both : (x y : Bool) → (x && y) ≡ true → (x ≡ true) × (y ≡ true)
both true y e = (refl, e)
both false y e = absurd (false≢true e)

and_true : (x y : Bool) → x ≡ true → y ≡ true → (x && y) ≡ true
and_true true y h k = k
and_true false y h k = h

-- is the handler on a source
abbrev starts : Arch → ℕ → Bool
starts arch h = list_any (λ s. list_any (is_handler h) (subs arch (on.Source s))) (source_numbers arch)

-- do n links in a row go from it
abbrev goes_on : Arch → ℕ → ℕ → Bool
goes_on arch zero h = true
goes_on arch (suc n) h = list_any (λ k. leads arch h k && goes_on arch n k) (handler_numbers arch)

-- has a walk n links
abbrev has_walk : Arch → ℕ → Bool
has_walk arch n = list_any (λ h. starts arch h && goes_on arch n h) (handler_numbers arch)

module _ (arch : Arch) (listed : AreListeners arch) where
  start_is : (h : ℕ) → starts arch h ≡ true → IsOnSource arch h
  start_is h e =
      let s = any_has (λ s. list_any (is_handler h) (subs arch (on.Source s))) (source_numbers arch) e in
      let l = any_has (is_handler h) (subs arch (on.Source s.element)) s.passes in
      record {
        source = s.element;
        exists = number_below (length arch.sources) s.element s.has;
        on = contains_from_In (subs arch (on.Source s.element)) (to.Handler h) (subst (λ x. In x (subs arch (on.Source s.element))) (is_handler-true h l.element l.passes) l.has);
      }

  is_start : (h : ℕ) → IsOnSource arch h → starts arch h ≡ true
  is_start h o =
      has_any (λ s. list_any (is_handler h) (subs arch (on.Source s))) (source_numbers arch) o.source (below_number (length arch.sources) o.source o.exists)
      (has_any (is_handler h) (subs arch (on.Source o.source)) (to.Handler h) (In-from_contains (subs arch (on.Source o.source)) (to.Handler h) o.on) (eq-eqb h h refl))

  -- the handlers behind h on a walk
  record Rest (n h : ℕ) : Type 0 where
    rest : List ℕ
    along : LeadsAlong arch h rest
    long : length rest ≡ n

  rest_of : (n h : ℕ) → goes_on arch n h ≡ true → Rest n h
  rest_of zero h e = record { rest = []; along = tt; long = refl }
  rest_of (suc n) h e =
      let p = any_has (λ k. leads arch h k && goes_on arch n k) (handler_numbers arch) e in
      let two = both (leads arch h p.element) (goes_on arch n p.element) p.passes in
      let r = rest_of n p.element two.1 in
      record { rest = p.element ∷ r.rest; along = (two.0, r.along); long = omega (arith, r.long) }

  of_rest : (h : ℕ) (ks : List ℕ) → LeadsAlong arch h ks → goes_on arch (length ks) h ≡ true
  of_rest h [] along = refl
  of_rest h (k ∷ ks) along =
      has_any (λ j. leads arch h j && goes_on arch (length ks) j) (handler_numbers arch) k (below_number (length arch.handlers) k (link_of arch h k listed along.0).below)
      (and_true (leads arch h k) (goes_on arch (length ks) k) along.0 (of_rest k ks along.1))

  chain_from : (n : ℕ) → has_walk arch n ≡ true → ((hs : List ℕ) → IsWalk arch hs → length hs ≤ suc n) → IsChain arch (suc n)
  chain_from n e most =
      let p = any_has (λ h. starts arch h && goes_on arch n h) (handler_numbers arch) e in
      let two = both (starts arch p.element) (goes_on arch n p.element) p.passes in
      let r = rest_of n p.element two.1 in
      record { walk = p.element ∷ r.rest; is = (start_is p.element two.0, r.along); long = omega (arith, r.long); longest = most }

  none_so_long : (n : ℕ) → has_walk arch n ≡ false → ((hs : List ℕ) → IsWalk arch hs → length hs ≤ suc n) → (hs : List ℕ) → IsWalk arch hs → length hs ≤ n
  none_so_long n none most [] walk = omega arith
  none_so_long n none most (h ∷ hs) walk = elim (cases_lt n (length (h ∷ hs))) [
    | inr few ↦ few
    | inl more ↦
        let m : length (h ∷ hs) ≤ suc n = most (h ∷ hs) walk in
        let long : length hs ≡ n = omega (arith, more, m) in
        let below = source_handler_below arch h walk.0.source listed walk.0.on in
        let there : has_walk arch n ≡ true =
        has_any (λ k. starts arch k && goes_on arch n k) (handler_numbers arch) h (below_number (length arch.handlers) h below)
        (and_true (starts arch h) (goes_on arch n h) (is_start h walk.0) (subst (λ j. goes_on arch j h ≡ true) long (of_rest h hs walk.1))) in
        absurd (false≢true (sym none ∙ there))
  ]

  -- the search for it, from a length on that none is above
  search_chain : (n : ℕ) → n ≤ length arch.handlers → ((hs : List ℕ) → IsWalk arch hs → length hs ≤ n) → HasChain arch
  search_chain zero few most = record { handlers = 0; is = record { walk = []; is = tt; long = refl; longest = most }; few = few }
  search_chain (suc n) few most = by (has_walk arch n) refl (λ e. search_chain n (omega (arith, few)) (none_so_long n e most))
    where
      by : (b : Bool) → has_walk arch n ≡ b → (has_walk arch n ≡ false → HasChain arch) → HasChain arch
      by true e shorter = record { handlers = suc n; is = chain_from n e most; few = few }
      by false e shorter = shorter e

pub chain_exists : ChainsExist
chain_exists arch listed acyclic = search_chain arch listed (length arch.handlers) (omega arith) (λ hs walk. walk_is_short arch hs listed acyclic walk)
