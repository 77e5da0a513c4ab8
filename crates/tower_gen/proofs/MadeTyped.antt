-- The handlers of a generated file are typed, and its names are right.
use Rattle.std.proofs.Common.{◌≡◌, ℕ, ◌<◌, ◌≤◌, List, [], ◌∷◌, ◌++◌, map, Bool, true, false, ◌&&◌, nat_lt, Option, Some, None, is_none, Result, Ok, pos, codes, refl, sym, ap, ap₂, subst, ◌∙◌, arith, true≢false}
use Rattle.std.proofs.lemmas.Bool.{le-leb, lt-ltb}
use Rattle.tower_types.specs.declared.scalar.Scalar.TheVariants.{U32, Ix}
use Rattle.tower_types.specs.Ty.{scalar}
use Rattle.tower_types.specs.Value.{fits_scalar}
use Rattle.tower_syntax.specs.RawTree.{Id, Link, Raw, RawItem, RawPart}
use Rattle.tower_syntax.specs.Arch.{Body}
use Rattle.arch_names.specs.Names.{Names, find}
use Rattle.arch_names.specs.Sets.{declared_in, emitters_of}
use Rattle.arch_names.specs.Trees.{AreOnce}
use Rattle.arch_names.specs.Linked.{linked}
use Rattle.arch_types.specs.declared.fault.TypeFault.{TypeFault}
use Rattle.arch_types.specs.Outline.{each, outline, Written, on_of, emitter_of, callback_of}
use Rattle.arch_types.specs.Walk.{and_then}
use Rattle.arch_types.specs.Turns.{in_turn, bodied, known_in, handled}
use Rattle.channel_graph.proofs.Members.{In, below_number, number_below}
use Rattle.printed_files.specs.Fit.{plainly, Each, HasSetsOnce, HasFitNames}
use Rattle.printed_files.specs.Right.{Makes}
use Rattle.tower_gen.specs.Draws.{Drawn}
use Rattle.tower_gen.specs.File.{upto, called, handler_name, period_item, channel_item, output_item, monitor_item, emitters, body, made}
use Rattle.tower_gen.specs.System.{stmts_by, hears_on, a_handler, system}
use Rattle.tower_gen.specs.System as system
use Rattle.tower_gen.specs.Rows.{once, use_of, linked_stmts, linked_body, written, known}
use Rattle.tower_gen.specs.Made.{IsInRange}
use Rattle.tower_gen.proofs.Computed
use Rattle.tower_gen.proofs.Picked.{map_at, both}

-- ---- types

fits : (k : ℕ) → k ≤ 999 → fits_scalar U32 (pos k) ≡ true
fits k l = let h : k < 4294967296 = omega (arith, l) in ap₂ (λ a b. a && b) (le-leb 0 k (omega arith)) (lt-ltb k 4294967296 h)

abbrev a_body : ℕ → Bool → Bool → Body
a_body k first emits = record { param = codes "x"; binders = (codes "i", scalar (Ix 8)) ∷ []; stmts = stmts_by k first emits }

one_body : (k : ℕ) (first emits : Bool) → k ≤ 999 → bodied (known first emits) (called (codes "x"), linked_stmts k first emits) ≡ Ok (a_body k first emits)
one_body k true true l = rw (fits k l) refl
one_body k true false l = rw (fits k l) refl
one_body k false true l = rw (fits k l) refl
one_body k false false l = rw (fits k l) refl

turn_made : {X Y : Type 0} (f : X → Result Y TypeFault) (w : ℕ → X) (h : ℕ → Y) (ks : List ℕ) → ((k : ℕ) → In k ks → f (w k) ≡ Ok (h k)) → in_turn f (map w ks) ≡ Ok (map h ks)
turn_made f w h [] e = refl
turn_made f w h (k ∷ ks) e =
    (λ i. and_then (e k (inl_refl k ks) i) (λ y. and_then (turn_made f w h ks (λ j m. e j (Rattle.std.proofs.Common.inr m)) i) (λ ys. Ok (y ∷ ys))))
  where
    inl_refl : (j : ℕ) (js : List ℕ) → In j (j ∷ js)
    inl_refl j js = Rattle.std.proofs.Common.inl refl

module _ (d : Drawn) (range : IsInRange d) where
  handled_at : (i : ℕ) → i < 64 → handled (system d) (written d i) ≡ Ok (a_handler d i)
  handled_at i l =
      let at = below_number 64 i l in
      let γ : known_in (system d) (written d i) ≡ known (nat_lt i 32) (nat_lt i 56) = map_at (λ k. known_in (system d) (written d k)) (λ k. known (nat_lt k 32) (nat_lt k 56)) (upto 64) (Computed.known_all d) i at in
      let cs : each callback_of (written d i).parts ≡ (called (codes "x"), linked_body d i) ∷ [] = map_at (λ k. each callback_of (written d k).parts) (λ k. (called (codes "x"), linked_body d k) ∷ []) (upto 64) (Computed.callbacks d) i at in
      let es : each emitter_of (written d i).parts ≡ system.emitters_of i = map_at (λ k. each emitter_of (written d k).parts) system.emitters_of (upto 64) (Computed.emitters d) i at in
      let on : on_of (use_of i) ≡ hears_on i = map_at (λ k. on_of (use_of k)) hears_on (upto 64) Computed.hearing i at in
      (λ j. and_then (in_turn (bodied (γ j)) (cs j)) (λ bs. Ok (record { name = handler_name i; monitor = i; on = on j; emitters = es j; callbacks = bs })))
      ∙ (λ j. and_then (and_then (one_body (d.factor i) (nat_lt i 32) (nat_lt i 56) (range.factor i) j) (λ y. and_then (in_turn (bodied (known (nat_lt i 32) (nat_lt i 56))) []) (λ ys. Ok (y ∷ ys)))) (λ bs. Ok (record { name = handler_name i; monitor = i; on = hears_on i; emitters = system.emitters_of i; callbacks = bs })))

  abbrev tree : Raw Link
  tree = linked plainly (made d)

  same_handled : (w : Written) → handled (outline tree) w ≡ handled (system d) w
  same_handled w = ap (λ a. handled a w) (sym (Computed.outlined d))

  pub typed : Makes tree (system d).handlers
  typed =
      ap (in_turn (handled (outline tree))) (Computed.handlers_of d)
      ∙ turn_made (handled (outline tree)) (written d) (a_handler d) (upto 64) (λ k h. same_handled (written d k) ∙ handled_at k (number_below 64 k h))

-- ---- names

none_is : {X : Type 0} (o : Option X) → is_none o ≡ true → o ≡ None
none_is None h = refl
none_is (Some x) h = absurd (true≢false (sym h))

are_once : {T : Type 0} (es : Names T) → once es ≡ true → AreOnce es
are_once [] h = tt
are_once (e ∷ es) h = let p = both (is_none (find es e.0)) (once es) h in (none_is (find es e.0) p.0, are_once es p.1)

each_append : {X : Type 0} (P : X → Type 0) (xs ys : List X) → Each P xs → Each P ys → Each P (xs ++ ys)
each_append P [] ys h k = k
each_append P (x ∷ xs) ys h k = (h.0, each_append P xs ys h.1 k)

each_map : {X : Type 0} (P : X → Type 0) (f : ℕ → X) → ((i : ℕ) → P (f i)) → (ks : List ℕ) → Each P (map f ks)
each_map P f h [] = tt
each_map P f h (k ∷ ks) = (h k, each_map P f h ks)

module _ (d : Drawn) where
  emitter_once : (i : ℕ) (b : Bool) → nat_lt i 56 ≡ b → AreOnce (emitters_of (emitters i ++ Rattle.tower_syntax.specs.RawTree.callback 0 (called (codes "x")) (body d i) ∷ []))
  emitter_once i true e = rw e (refl, tt)
  emitter_once i false e = rw e tt

  sets : (i : ℕ) → HasSetsOnce (monitor_item d i)
  sets i = ((refl, (refl, (refl, tt))), (tt, (tt, (tt, (emitter_once i (nat_lt i 56) refl, tt)))))

  pub fit : HasFitNames (made d)
  fit = record {
    file = are_once (declared_in (made d).items) (Computed.names_once d);
    inside = each_append HasSetsOnce (map (period_item d) (upto 32) ++ map channel_item (upto 16) ++ map output_item (upto 4)) (map (monitor_item d) (upto 64))
        (each_append HasSetsOnce (map (period_item d) (upto 32) ++ map channel_item (upto 16)) (map output_item (upto 4))
        (each_append HasSetsOnce (map (period_item d) (upto 32)) (map channel_item (upto 16)) (each_map HasSetsOnce (period_item d) (λ i. tt) (upto 32)) (each_map HasSetsOnce channel_item (λ i. tt) (upto 16)))
        (each_map HasSetsOnce output_item (λ i. tt) (upto 4)))
        (each_map HasSetsOnce (monitor_item d) sets (upto 64));
    fits = Computed.names_fit d;
  }
