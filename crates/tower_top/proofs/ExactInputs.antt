-- Inputs that say one thing.
use Rattle.std.proofs.Common.{ℕ, List, ◌≡◌, ap, sym, ◌∙◌, codes}
use Rattle.arch_checks.proofs.Accepted.{one_system, one_fault, not_both}
use Rattle.event_record.proofs.Outcomes.{records_law, choices_law}
use Rattle.tower_syntax.specs.Arch.{Arch}
use Rattle.tower_report.specs.FaultText.{fault_line}
use Rattle.tower_report.specs.RefusalText.{bad_line}
use Rattle.tower_top.specs.Inputs.{file_input}
use Rattle.tower_top.specs.RecordInput as records
use Rattle.tower_top.specs.RecordInput.{record_input}
use Rattle.tower_top.specs.ChoicesInput as choices
use Rattle.tower_top.specs.ChoicesInput.{choices_input}
use Rattle.tower_top.proofs.Exact.{IsExactInput}

pub file_exact : (name : List ℕ) → IsExactInput (file_input name)
file_exact name = record {
  value = one_system;
  fault = λ text l m a b. a.2 ∙ ap fault_line (one_fault text a.0 b.0 a.1 b.1) ∙ sym b.2;
  never = λ text v l a b. not_both text v b.0 a b.1;
}

pub record_exact : (arch : Arch) (name : List ℕ) → IsExactInput (record_input arch name)
record_exact arch name = record {
  value = λ text v w a b.
      let kinds : v.kinds ≡ w.kinds = a.kinds ∙ sym b.kinds in
      let depths : v.depths ≡ w.depths = a.depths ∙ sym b.depths in
      let entries : v.entries ≡ w.entries = (records_law arch text).one_list v.entries w.entries a.entries b.entries in
      λ i. record { kinds = kinds i; depths = depths i; entries = entries i };
  fault = λ text l m a b.
      let same = (records_law arch text).one_fault a.at b.at a.kind b.kind a.fault b.fault in
      let line : bad_line (codes "record") a.at (records.kind_text a.kind) ≡ bad_line (codes "record") b.at (records.kind_text b.kind) =
      λ i. bad_line (codes "record") (same.0 i) (records.kind_text (same.1 i)) in
      a.tells ∙ line ∙ sym b.tells;
  never = λ text v l a b. (records_law arch text).not_both v.entries b.at b.kind a.entries b.fault;
}

pub choices_exact : (name : List ℕ) → IsExactInput (choices_input name)
choices_exact name = record {
  value = λ text v w a b. (choices_law text).one_list v w a b;
  fault = λ text l m a b.
      let same = (choices_law text).one_fault a.at b.at a.kind b.kind a.fault b.fault in
      let line : bad_line (codes "choices") a.at (choices.kind_text a.kind) ≡ bad_line (codes "choices") b.at (choices.kind_text b.kind) =
      λ i. bad_line (codes "choices") (same.0 i) (choices.kind_text (same.1 i)) in
      a.tells ∙ line ∙ sym b.tells;
  never = λ text v l a b. (choices_law text).not_both v b.at b.kind a b.fault;
}
