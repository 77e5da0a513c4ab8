-- The lines of outputs, and those at the end of a run, are passed over.
use Rattle.std.proofs.Common.{◌≡◌, ℕ, zero, suc, ℤ, List, [], ◌∷◌, ◌++◌, map, length, Bool, true, false, ◌&&◌, Option, Some, None, refl, codes, decimal, All, slice_get, slice_index}
use Rattle.std.specs.Prelude.{slice_index_or}
use Rattle.tower_types.specs.Ty.{Name, Fields, shapes_of}
use Rattle.tower_syntax.specs.Arch.{Arch, Source, Output, Monitor}
use Rattle.tower_syntax.specs.Graph.{no_output, numbers_before}
use Rattle.tower_syntax.specs.Weights.{states_of}
use Rattle.tower_syntax.specs.WellNumbered.{has_depth}
use Rattle.tower_syntax.specs.Words.{IsName}
use Rattle.arch_types.proofs.Lists.{AllOf, each_of, looked}
use Rattle.task_code.specs.Machine.{Machine, Lock}
use Rattle.tower_report.specs.Bytes.{line}
use Rattle.tower_report.specs.ValueText.{words_text, texts_of_words, shapes_in}
use Rattle.tower_report.specs.MarkText.{output_name, output_shape, out_line}
use Rattle.tower_report.specs.EndText.{monitor_name, state_line, state_lines, monitor_text, shown_by, monitors_text, lost_line, lost_text, losses_text, count_line, waits_text, core_line, cores_text, last_line, Tally, tally_text, end_text}
use Rattle.event_record.specs.Lines.{Bytes}
use Rattle.declared_names.specs.Laws.{HasNames}
use Rattle.run_order.proofs.Above.{above, are_above, both, and_true, word_above}
use Rattle.run_order.proofs.Digits.{decimal_above}
use Rattle.run_order.proofs.Found.{name_is_word}
use Rattle.run_order.proofs.Values.{words_above, texts_above}
use Rattle.run_order.proofs.Says.{Says, says_none, says_both, says_then, says_passed, says_each, says_if}

name_above : (w : Name) → IsName w → above 10 w ≡ true
name_above w h = word_above w (name_is_word w h.0)

all_true : {X : Type 0} (f : X → Bytes) (xs : List X) → AllOf (λ x. IsName (f x)) xs → AllOf (λ x. above 10 (f x) ≡ true) xs
all_true f [] h = tt
all_true f (x ∷ xs) h = (name_above (f x) h.0, all_true f xs h.1)

-- the name at a number, or none
named_above : {X : Type 0} (f : X → Bytes) (xs : List X) (k : ℕ) → All (λ x. IsName (f x)) xs → above 10 (slice_index_or (map f xs) k []) ≡ true
named_above f xs k h = looked (λ w. above 10 w ≡ true) f xs k [] (all_true f xs (each_of (λ x. IsName (f x)) xs h)) refl

output_above : (os : List Output) (k : ℕ) → AllOf (λ o. IsName o.name) os → above 10 (slice_index_or os k no_output).name ≡ true
output_above [] k h = refl
output_above (o ∷ os) zero h = name_above o.name h.0
output_above (o ∷ os) (suc k) h = output_above os k h.1

two_above : (a b : Bytes) → above 10 a ≡ true → above 10 b ≡ true → are_above (a ∷ b ∷ []) ≡ true
two_above a b h k = and_true (above 10 a) (above 10 b && true) h (and_true (above 10 b) true k refl)

module _ (arch : Arch) (names : HasNames arch) where
  pub out_said : (w : ℕ × List ℤ) → Says arch (out_line arch w) []
  out_said w =
      says_passed arch (codes "out") (output_name arch w.0 ∷ words_text (output_shape arch w.0) w.1 ∷ []) refl refl
      (two_above (output_name arch w.0) (words_text (output_shape arch w.0) w.1) (output_above arch.outputs w.0 (each_of (λ o. IsName o.name) arch.outputs names.outputs)) (words_above (output_shape arch w.0) w.1))

  -- ---- monitors

  monitor_above : (m : ℕ) → above 10 (monitor_name arch m) ≡ true
  monitor_above m = named_above (λ x. x.name) arch.monitors m names.monitors

  states_said : (monitor : Bytes) → above 10 monitor ≡ true → (states : Fields) (texts : List Bytes) → AllOf (λ s. IsName s.0) states → are_above texts ≡ true → Says arch (state_lines monitor states texts) []
  states_said monitor h [] texts named k = says_none arch
  states_said monitor h (s ∷ ss) [] named k = says_none arch
  states_said monitor h (s ∷ ss) (t ∷ ts) named k =
      let p = both (above 10 t) (are_above ts) k in
      says_both arch (state_line monitor s.0 t) (state_lines monitor ss ts) [] []
      (says_passed arch (codes "state") (monitor ∷ s.0 ∷ t ∷ []) refl refl (and_true (above 10 monitor) (are_above (s.0 ∷ t ∷ [])) h (two_above s.0 t (name_above s.0 named.0) p.0)))
      (states_said monitor h ss ts named.1 p.1)

  states_named : (m : ℕ) → AllOf (λ s. IsName s.0) (states_of arch m)
  states_named m = looked (AllOf (λ s. IsName s.0)) (λ x. x.states) arch.monitors m [] (fields_named arch.monitors (each_of (λ m. All (λ s. IsName s.0) m.states) arch.monitors names.states)) tt
    where
      fields_named : (ms : List Monitor) → AllOf (λ m. All (λ s. IsName s.0) m.states) ms → AllOf (λ m. AllOf (λ s. IsName s.0) m.states) ms
      fields_named [] h = tt
      fields_named (m ∷ ms) h = (each_of (λ s. IsName s.0) m.states h.0, fields_named ms h.1)

  monitor_said : (m : ℕ) (shown : Option (List ℤ)) → Says arch (monitor_text arch m shown) []
  monitor_said m None = says_passed arch (codes "held") (monitor_name arch m ∷ []) refl refl (and_true (above 10 (monitor_name arch m)) true (monitor_above m) refl)
  monitor_said m (Some ws) =
      let shapes = shapes_of (shapes_in arch.records (states_of arch m)) in
      states_said (monitor_name arch m) (monitor_above m) (states_of arch m) (texts_of_words shapes ws) (states_named m) (texts_above shapes ws)

  monitors_said : (locks : List Lock) → Says arch (monitors_text arch locks) []
  monitors_said locks = says_each arch (λ m. monitor_text arch m (shown_by (slice_get locks m))) (λ m. monitor_said m (shown_by (slice_get locks m))) (numbers_before (length arch.monitors) [])

  -- ---- sources

  lost_said : (n : ℕ) (ss : List Source) → AllOf (λ s. IsName s.name) ss → AllOf (λ s. Says arch (lost_line arch.version s n) []) ss
  lost_said n [] h = tt
  lost_said n (s ∷ ss) h = (
    says_if arch (has_depth arch.version s.kind) (line (codes "lost" ∷ s.name ∷ decimal n ∷ []))
        (says_passed arch (codes "lost") (s.name ∷ decimal n ∷ []) refl refl (two_above s.name (decimal n) (name_above s.name h.0) (decimal_above n))),
    lost_said n ss h.1,
  )

  sources_named : (ss : List Source) → AllOf IsName (map (λ s. s.name) ss) → AllOf (λ s. IsName s.name) ss
  sources_named [] h = tt
  sources_named (s ∷ ss) h = (h.0, sources_named ss h.1)

  loss_said : (x n : ℕ) → Says arch (lost_text arch x n) []
  loss_said x n =
      looked (λ t. Says arch t []) (λ s. lost_line arch.version s n) arch.sources x []
      (lost_said n arch.sources (sources_named arch.sources (each_of IsName (map (λ s. s.name) arch.sources) names.sources))) (says_none arch)

  losses_said : (lost : List ℕ) → Says arch (losses_text arch lost) []
  losses_said lost = says_each arch (λ x. lost_text arch x (slice_index lost x)) (λ x. loss_said x (slice_index lost x)) (numbers_before (length arch.sources) [])

  -- ---- the last lines

  number_said : (n : ℕ) → are_above (decimal n ∷ []) ≡ true
  number_said n = and_true (above 10 (decimal n)) true (decimal_above n) refl

  count_said : (n : ℕ) → Says arch (count_line n) []
  count_said n = says_passed arch (codes "count") (decimal n ∷ []) refl refl (number_said n)

  waits_said : (waits : Option ℕ) → Says arch (waits_text waits) []
  waits_said None = says_none arch
  waits_said (Some n) = says_passed arch (codes "waits") (decimal n ∷ []) refl refl (number_said n)

  last_said : (stopped : Bool) → Says arch (last_line stopped) []
  last_said true = says_passed arch (codes "stopped") [] refl refl refl
  last_said false = says_passed arch (codes "done") [] refl refl refl

  -- one more text that makes no mark
  then_said : (a b : Bytes) → Says arch a [] → Says arch b [] → Says arch (a ++ b) []
  then_said a b = says_then arch a b []

  cores_said : (counts : List ℕ) → Says arch (cores_text counts) []
  cores_said counts =
      says_each arch (λ i. core_line i (slice_index counts i))
      (λ i. says_passed arch (codes "core") (decimal i ∷ decimal (slice_index counts i) ∷ []) refl refl (two_above (decimal i) (decimal (slice_index counts i)) (decimal_above i) (decimal_above (slice_index counts i))))
      (numbers_before (length counts) [])

  tally_said : (t : Tally) → Says arch (tally_text t) []
  tally_said t =
      then_said (count_line t.count ++ waits_text t.waits) (cores_text t.cores)
      (then_said (count_line t.count) (waits_text t.waits) (count_said t.count) (waits_said t.waits)) (cores_said t.cores)

  pub end_said : (m : Machine) (tally : Tally) (stopped : Bool) → Says arch (end_text arch m tally stopped) []
  end_said m tally stopped =
      then_said (monitors_text arch m.locks ++ losses_text arch m.lost ++ tally_text tally) (last_line stopped)
      (then_said (monitors_text arch m.locks ++ losses_text arch m.lost) (tally_text tally)
      (then_said (monitors_text arch m.locks) (losses_text arch m.lost) (monitors_said m.locks) (losses_said m.lost)) (tally_said tally)) (last_said stopped)
