-- What a text comes to by its graph, computed: that it is accepted, or a fault of its bounds or of a cycle.
use Rattle.std.proofs.Common.{◌≡◌, inl, inr, ◌≤◌, ℕ, List, [], length, map, Bool, true, false, nat_lt, Some, None, Result, Ok, Err, refl, sym, ◌∙◌, subst, arith}
use Rattle.std.specs.List.{list_any}
use Rattle.std.proofs.lemmas.Bool.{false≢true, lt-ltb, ltb-true, cases_lt}
use Rattle.tower_types.specs.Records.{saturated}
use Rattle.tower_syntax.specs.Arch.{Arch, Handler}
use Rattle.tower_syntax.specs.Graph.{handler, handler_numbers, numbers_before}
use Rattle.tower_syntax.specs.Weights.{most, cost, memory, code, source_numbers}
use Rattle.tower_syntax.specs.WellNumbered.{IsWellNumbered}
use Rattle.arch_types.proofs.Sound.{well_numbered}
use Rattle.channel_graph.specs.declared.circuit.CycleFound.{CycleFound}
use Rattle.channel_graph.specs.Circuit.{shown}
use Rattle.channel_graph.specs.Over.{bound_of, IsOver}
use Rattle.channel_graph.proofs.Acyclic.{shown_none}
use Rattle.channel_graph.proofs.Members.{In, has_any, below_number}
use Rattle.channel_graph.proofs.Walked.{walk_is_short}
use Rattle.arch_checks.specs.declared.fault.Fault.{Fault}
use Rattle.arch_checks.specs.declared.fault.What.{What}
use Rattle.arch_checks.specs.declared.fault.What.TheVariants as what
use Rattle.arch_checks.specs.Limits.{limit, work_limit}
use Rattle.arch_checks.specs.Sizes.{deepest, widest, Counts}
use Rattle.arch_checks.specs.Offences.{bound_fault, cycle_fault, IsFault, IsAccepted}
use Rattle.arch_checks.specs.WorkedSystems.{HasAccepted, Weighs}
use Rattle.arch_checks.proofs.Trees.{named_numbered}
use Rattle.arch_checks.proofs.Limited.{whats}
use Rattle.arch_checks.proofs.Order.{Typed, Acyclic, bound_is_fault, cycle_is_fault, accepted}
use Rattle.arch_checks.proofs.FirstFaults.{answer_to, passes, typed_text}

-- ---- tests

abbrev is_over : Handler → ℕ → Bool
is_over h e = nat_lt (bound_of h e) (most h e)

abbrev has_over : Handler → Bool
has_over h = list_any (is_over h) (numbers_before (length h.emitters) [])

-- an emitter is over its bound
abbrev pub any_over : Arch → Bool
any_over arch = list_any (λ h. has_over (handler arch h)) (handler_numbers arch)

-- a system in which no source reaches a cycle has at most so much
abbrev size_of : Arch → What → ℕ
size_of arch what.Sources = length arch.sources
size_of arch what.Channels = length arch.channels
size_of arch what.Outputs = length arch.outputs
size_of arch what.Monitors = length arch.monitors
size_of arch what.Handlers = length arch.handlers
size_of arch what.Records = length arch.records
size_of arch what.Depth = deepest arch
size_of arch what.Words = widest arch
size_of arch what.Chain = length arch.handlers
size_of arch what.Memory = memory arch
size_of arch what.Code = code arch

-- something is above its limit
abbrev pub any_large : Arch → Bool
any_large arch = list_any (λ w. nat_lt (limit w) (size_of arch w)) whats

-- a source costs too much
abbrev pub any_dear : Arch → Bool
any_dear arch = list_any (λ s. nat_lt work_limit (cost arch s)) (source_numbers arch)

-- ---- what they tell

what_in : (w : What) → In w whats
what_in what.Sources = inl refl
what_in what.Channels = inr (inl refl)
what_in what.Outputs = inr (inr (inl refl))
what_in what.Monitors = inr (inr (inr (inl refl)))
what_in what.Handlers = inr (inr (inr (inr (inl refl))))
what_in what.Records = inr (inr (inr (inr (inr (inl refl)))))
what_in what.Depth = inr (inr (inr (inr (inr (inr (inl refl))))))
what_in what.Words = inr (inr (inr (inr (inr (inr (inr (inl refl)))))))
what_in what.Chain = inr (inr (inr (inr (inr (inr (inr (inr (inl refl))))))))
what_in what.Memory = inr (inr (inr (inr (inr (inr (inr (inr (inr (inl refl)))))))))
what_in what.Code = inr (inr (inr (inr (inr (inr (inr (inr (inr (inr (inl refl))))))))))

none_of : {X : Type 0} (test : X → Bool) (xs : List X) (x : X) → list_any test xs ≡ false → In x xs → test x ≡ true → ⊥
none_of test xs x e i t = false≢true (sym e ∙ has_any test xs x i t)

none_over : (arch : Arch) → any_over arch ≡ false → (h e : ℕ) → IsOver arch h e → ⊥
none_over arch n h e o =
    none_of (λ h. has_over (handler arch h)) (handler_numbers arch) h n (below_number (length arch.handlers) h o.of)
    (has_any (is_over (handler arch h)) (numbers_before (length (handler arch h).emitters) []) e (below_number (length (handler arch h).emitters) e o.at) (lt-ltb _ _ o.more))

within_by : (m n most : ℕ) → (nat_lt most n ≡ true → ⊥) → m ≤ n → m ≤ most
within_by m n most h l = elim (cases_lt most n) [ inl more ↦ absurd (h (lt-ltb most n more)) | inr less ↦ omega (arith, l, less) ]

same_size : (m n : ℕ) → m ≡ n → m ≤ n
same_size m n e = omega (arith, e)

-- what a count is at most
counted : (arch : Arch) → IsWellNumbered arch → shown arch ≡ None → (w : What) (n : ℕ) → Counts arch w n → n ≤ size_of arch w
counted arch w e what.Sources n c = same_size n _ c
counted arch w e what.Channels n c = same_size n _ c
counted arch w e what.Outputs n c = same_size n _ c
counted arch w e what.Monitors n c = same_size n _ c
counted arch w e what.Handlers n c = same_size n _ c
counted arch w e what.Records n c = same_size n _ c
counted arch w e what.Depth n c = same_size n _ c
counted arch w e what.Words n c = same_size n _ c
counted arch w e what.Chain n c =
    let l = walk_is_short arch c.walk w.listeners ((shown_none arch (shown arch) w.listeners refl).0 e) c.is in
    omega (arith, l, c.long)
counted arch w e what.Memory n c = same_size n _ c
counted arch w e what.Code n c = same_size n _ c

-- ---- the verdict

-- nothing, where no text gives a system
abbrev pub nothing : Arch
nothing = record {
  version = 1;
  name = [];
  records = [];
  record_names = [];
  sources = [];
  channels = [];
  outputs = [];
  monitors = [];
  handlers = [];
  listeners = [];
}

abbrev system_in : Result Arch Fault → Arch
system_in (Ok arch) = arch
system_in (Err f) = nothing

-- the system of a text
abbrev pub system_of_text : List ℕ → Arch
system_of_text bs = system_in (answer_to bs)

module _ (bs : List ℕ) (arch : Arch) (a : answer_to bs ≡ Ok arch) where
  t : Typed bs arch
  t = typed_text bs arch a

  pub accepted_by : any_over arch ≡ false → shown arch ≡ None → any_large arch ≡ false → any_dear arch ≡ false → IsAccepted bs arch
  accepted_by over cycle large dear =
      let w : IsWellNumbered arch = well_numbered t.system.named arch (named_numbered bs t.system.named t.system.is) t.system.checked in
      let acyclic : Acyclic bs arch = record { bounded = record { typed = t; bounded = none_over arch over }; acyclic = cycle } in
      accepted bs arch (record {
        acyclic = acyclic;
        within = λ v n below c. within_by n (size_of arch v) (limit v) (none_of (λ w. nat_lt (limit w) (size_of arch w)) whats v large (what_in v)) (counted arch w cycle v n c);
      })
      (λ s l. within_by (cost arch s) (cost arch s) work_limit (none_of (λ s. nat_lt work_limit (cost arch s)) (source_numbers arch) s dear (below_number (length arch.sources) s l)) (omega arith))

  pub cycle_by : any_over arch ≡ false → (c : CycleFound) → shown arch ≡ Some c → IsFault bs (cycle_fault arch c)
  cycle_by over c e = cycle_is_fault bs arch (cycle_fault arch c) (record { typed = t; bounded = none_over arch over }) (record { found = c; shown = e; told = refl })

  -- the first emitter of the first handler is over its bound
  pub bound_by : nat_lt 0 (length arch.handlers) ≡ true → nat_lt 0 (length (handler arch 0).emitters) ≡ true → is_over (handler arch 0) 0 ≡ true → IsFault bs (bound_fault arch 0 0)
  bound_by hs es over =
      bound_is_fault bs arch (bound_fault arch 0 0) t
      (record {
        over = record { handler = 0; emitter = 0; most = saturated (most (handler arch 0) 0) };
        first = record {
          over = record { of = ltb-true 0 _ hs; at = ltb-true 0 _ es; more = ltb-true _ _ over };
          count = refl;
          first = λ h e before o. elim before [ inl l ↦ omega arith | inr l ↦ omega (arith, l.1) ];
        };
        told = refl;
      })

-- ---- by the system that the text has

is_ok : (r : Result Arch Fault) → passes r ≡ true → r ≡ Ok (system_in r)
is_ok (Ok arch) e = refl
is_ok (Err f) e = absurd (false≢true e)

module _ (bs : List ℕ) (a : passes (answer_to bs) ≡ true) where
  pub accepted_text : any_over (system_of_text bs) ≡ false → shown (system_of_text bs) ≡ None → any_large (system_of_text bs) ≡ false → any_dear (system_of_text bs) ≡ false → HasAccepted bs
  accepted_text over cycle large dear = (system_of_text bs, accepted_by bs (system_of_text bs) (is_ok (answer_to bs) a) over cycle large dear)

  pub cycle_text : any_over (system_of_text bs) ≡ false → (c : CycleFound) → shown (system_of_text bs) ≡ Some c → (f : Fault) → cycle_fault (system_of_text bs) c ≡ f → IsFault bs f
  cycle_text over c e f told = subst (IsFault bs) told (cycle_by bs (system_of_text bs) (is_ok (answer_to bs) a) over c e)

  pub bound_text : nat_lt 0 (length (system_of_text bs).handlers) ≡ true → nat_lt 0 (length (handler (system_of_text bs) 0).emitters) ≡ true → is_over (handler (system_of_text bs) 0) 0 ≡ true
      → (f : Fault) → bound_fault (system_of_text bs) 0 0 ≡ f → IsFault bs f
  bound_text hs es over f told = subst (IsFault bs) told (bound_by bs (system_of_text bs) (is_ok (answer_to bs) a) hs es over)

  pub weighs_text : any_over (system_of_text bs) ≡ false → shown (system_of_text bs) ≡ None → any_large (system_of_text bs) ≡ false → any_dear (system_of_text bs) ≡ false
      → (costs : List ℕ) (m c : ℕ) → map (cost (system_of_text bs)) (source_numbers (system_of_text bs)) ≡ costs → memory (system_of_text bs) ≡ m → code (system_of_text bs) ≡ c → Weighs bs costs m c
  weighs_text over cycle large dear costs m c e f g = (system_of_text bs, accepted_by bs (system_of_text bs) (is_ok (answer_to bs) a) over cycle large dear, e, f, g)
