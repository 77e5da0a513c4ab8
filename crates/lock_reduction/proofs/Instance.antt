-- The law for a typed system and a program of its shape.
use Rattle.std.proofs.Common.{◌≡◌, ◌∙◌, ℕ, zero, suc, ◌+◌, ◌*◌, pos, List, [], ◌∷◌, ◌++◌, length, map, replicate, refl, sym, ap, ap₂, arith}
use Rattle.std.proofs.lemmas.List.{length-map}
use Rattle.tower_types.specs.Ty.{shape_of_fields, table_of, Shape, one, many, all, Shapes, no_shapes, shape, words, words_of_all}
use Rattle.tower_types.specs.Value.{Value, copies, zero_of, zeros_of, flat, flat_all}
use Rattle.tower_syntax.specs.Arch.{Arch, Source, Monitor, Events}
use Rattle.tower_syntax.specs.Typed.{IsTyped}
use Rattle.tower_syntax.specs.WellNumbered.{IsWellNumbered}
use Rattle.tower_syntax.specs.Weights.{monitor_words}
use Rattle.tower_meaning.specs.System.{zero_monitor}
use Rattle.tower_meaning.specs.Atomic.{Fit}
use Rattle.tower_meaning.proofs.KeepsTypes.{keeps_types, brings_fitting}
use Rattle.task_code.specs.declared.program.Task.{Task}
use Rattle.task_code.specs.Program.{Program}
use Rattle.task_alone.specs.Setting.{Setting, KeepsTypes, IsFor, Fits}
use Rattle.lock_reduction.specs.Shaped.{Shaped, priority_and_words}
use Rattle.lock_reduction.specs.Reduce.{Alone, Sound}
use Rattle.task_alone.specs.SettingOf.{setting_of}
use Rattle.lock_reduction.proofs.Start.{reached_keeps}
use Rattle.lock_reduction.proofs.Agree.{agrees, counts_fit}

zeros_joined : (m n : ℕ) → replicate (m + n) (pos 0) ≡ replicate m (pos 0) ++ replicate n (pos 0)
zeros_joined zero n = let e : 0 + n ≡ n = omega arith in ap (λ k. replicate k (pos 0)) e
zeros_joined (suc m) n = let e : suc m + n ≡ suc (m + n) = omega arith in ap (λ k. replicate k (pos 0)) e ∙ ap (λ l. pos 0 ∷ l) (zeros_joined m n)

-- the words of a zero value are zeros
copies_flat : (n k : ℕ) (v : Value) → flat v ≡ replicate k (pos 0) → flat_all (copies n v) ≡ replicate (n * k) (pos 0)
copies_flat zero k v e = let z : 0 * k ≡ 0 = omega arith in sym (ap (λ j. replicate j (pos 0)) z)
copies_flat (suc n) k v e =
    let s : k + n * k ≡ suc n * k = omega arith in
    ap₂ (λ a b. a ++ b) e (copies_flat n k v e) ∙ sym (zeros_joined k (n * k)) ∙ ap (λ j. replicate j (pos 0)) s

mutual
  zero_flat : (s : Shape) → flat (zero_of s) ≡ replicate (words s) (pos 0)
  zero_flat (one t) = refl
  zero_flat (many n s) = copies_flat n (words s) (zero_of s) (zero_flat s)
  zero_flat (all ss) = zeros_flat ss

  zeros_flat : (ss : Shapes) → flat_all (zeros_of ss) ≡ replicate (words_of_all ss) (pos 0)
  zeros_flat no_shapes = refl
  zeros_flat (shape s ss) = ap₂ (λ a b. a ++ b) (zero_flat s) (zeros_flat ss) ∙ sym (zeros_joined (words s) (words_of_all ss))

monitors_flat : (arch : Arch) (ms : List Monitor) → map (λ n. replicate n (pos 0)) (map (monitor_words arch) ms) ≡ map flat (map (zero_monitor arch) ms)
monitors_flat arch [] = refl
monitors_flat arch (m ∷ ms) = ap₂ (λ a l. a ∷ l) (sym (zero_flat (shape_of_fields (table_of arch.records) m.states))) (monitors_flat arch ms)

is_for : (arch : Arch) (p : Program) → Shaped arch p → IsFor (setting_of arch) p
is_for arch p shaped = record {
  tasks = sym (length-map p.tasks (λ (t : Task). (t.priority, t.message))) ∙ ap length shaped.tasks ∙ length-map arch.sources (priority_and_words arch) ∙ sym (length-map arch.sources (λ (s : Source). s.kind));
  monitors = ap (map (λ n. replicate n (pos 0))) shaped.monitors ∙ monitors_flat arch arch.monitors;
}

keeps : (arch : Arch) → IsWellNumbered arch → IsTyped arch → KeepsTypes (setting_of arch)
keeps arch numbered typed =
    let k = keeps_types arch numbered typed in
    record { zeros = k.zeros; first_message = k.first_message; delivered = k.delivered; has_monitor = k.has_monitor; after_fits = k.after_fits; sent_fit = k.sent_fit }

fits : (arch : Arch) (events : Events) → IsTyped arch → Fit arch events → Fits (setting_of arch) events
fits arch events typed fit = record { kinds = fit.kinds; depths = fit.depths; messages = brings_fitting arch events typed fit }

pub reduced : (arch : Arch) (p : Program) → IsWellNumbered arch → IsTyped arch → Shaped arch p → Alone arch p → Sound arch p
reduced arch p numbered typed shaped alone =
    let s : Setting = setting_of arch in
    let k = keeps arch numbered typed in
    let for = is_for arch p shaped in
    record {
      shaped = shaped;
      agrees = λ events steps r fit e.
          let f = fits arch events typed fit in
          let kept = reached_keeps s p events k for alone f steps r e in
          (kept.0, agrees s p events k for f r kept.0 kept.1);
      counts = λ events steps r fit e.
          let f = fits arch events typed fit in
          let kept = reached_keeps s p events k for alone f steps r e in
          counts_fit s p events k for f r kept.0 kept.1;
    }
