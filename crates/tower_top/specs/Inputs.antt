-- The inputs of commands.
use Rattle.std.specs.Prelude.{◌≡◌, ℕ, List}
use Rattle.tower_syntax.specs.Arch.{Arch}
use Rattle.arch_checks.specs.declared.fault.Fault.{Fault}
use Rattle.arch_checks.specs.Offences.{IsFault, IsAccepted}
use Rattle.tower_report.specs.FaultText.{fault_line}
use Rattle.tower_top.specs.declared.status.Status.TheVariants.{Refused, BadInput}
use Rattle.tower_top.specs.Requests.{Input}

-- FILE, of which the text has at most 1,048,576 bytes
abbrev pub file_input : List ℕ → Input
file_input name = record {
  name = name;
  Value = Arch;
  IsValid = IsAccepted;
  IsWrong = λ text line. (f : Fault) × IsFault text f × (line ≡ fault_line f);
  status = Refused;
}
