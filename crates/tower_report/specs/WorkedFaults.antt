-- Worked texts of checks and faults.
use Rattle.std.specs.Prelude.{◌≡◌, [], ◌∷◌, codes}
use Rattle.tower_syntax.specs.Arch.{Arch}
use Rattle.tower_syntax.specs.Examples.{clock}
use Rattle.arch_names.specs.declared.fault.Sort.TheVariants as sort
use Rattle.arch_types.specs.declared.fault.Want.TheVariants as want
use Rattle.arch_checks.specs.declared.fault.What.TheVariants as what
use Rattle.arch_checks.specs.declared.fault.Fault.TheVariants as fault
use Rattle.tower_report.specs.CheckText.{check_text}
use Rattle.tower_report.specs.FaultText.{fault_line}
use Rattle.tower_report.specs.Worked.{worked}
use Rattle.tower_report.specs.WorkedTexts.{lines}

-- (tower none)
abbrev pub none : Arch
none = record {
  version = 1;
  name = codes "none";
  records = [];
  record_names = [];
  sources = [];
  channels = [];
  outputs = [];
  monitors = [];
  handlers = [];
  listeners = [];
}

pub record WorkedChecks : Type 0 where
  pub nothing : check_text none ≡ lines (codes "tower none" ∷ codes "records 0 sources 0 channels 0 outputs 0 monitors 0 handlers 0" ∷ codes "memory 0" ∷ codes "code 0" ∷ codes "ok" ∷ [])
  pub a_counter : check_text clock ≡ lines (codes "tower clock" ∷ codes "records 0 sources 1 channels 0 outputs 0 monitors 1 handlers 1" ∷ codes "cost beat 216" ∷ codes "memory 132" ∷ codes "code 216" ∷ codes "ok" ∷ [])
  -- a source without a handler costs 64; a record has two words, the states have six
  pub without_handlers : check_text worked ≡ lines (codes "tower nav" ∷ codes "records 1 sources 2 channels 1 outputs 1 monitors 1 handlers 0" ∷ codes "cost boot 64" ∷ codes "cost gps 64" ∷ codes "memory 137" ∷ codes "code 128" ∷ codes "ok" ∷ [])

pub record WorkedFaults : Type 0 where
  pub long : fault_line (fault.Long 1048576) ≡ codes "refused: long 1048576\n"
  pub byte : fault_line (fault.Byte 7) ≡ codes "refused: byte 7\n"
  pub unopened : fault_line (fault.Unopened 9) ≡ codes "refused: unopened 9\n"
  pub nest : fault_line (fault.Nest 256) ≡ codes "refused: nest 256\n"
  pub unclosed : fault_line (fault.Unclosed 0) ≡ codes "refused: unclosed 0\n"
  pub empty : fault_line fault.Empty ≡ codes "refused: empty\n"
  pub form : fault_line (fault.Form 9) ≡ codes "refused: form 9\n"
  pub number : fault_line (fault.Number 19) ≡ codes "refused: number 19\n"
  pub length : fault_line (fault.Length 7) ≡ codes "refused: length 7\n"
  pub twice : fault_line (fault.Twice 34 17) ≡ codes "refused: twice 34 17\n"
  pub unknown : fault_line (fault.Unknown 60) ≡ codes "refused: unknown 60\n"
  pub kind : fault_line (fault.Kind 30 sort.Channel sort.Source) ≡ codes "refused: kind 30 channel source\n"
  pub either_kind : fault_line (fault.Kind 30 sort.SourceOrChannel sort.Handler) ≡ codes "refused: kind 30 source-or-channel handler\n"
  pub other_kinds : fault_line (fault.Kind 30 sort.Record sort.Monitor) ≡ codes "refused: kind 30 record monitor\n"
  pub found_output : fault_line (fault.Kind 30 sort.Record sort.Output) ≡ codes "refused: kind 30 record output\n"
  pub mismatch : fault_line (fault.Mismatch 82 (want.Exactly (codes "u16")) (codes "u8")) ≡ codes "refused: mismatch 82 u16 u8\n"
  pub scalar : fault_line (fault.Mismatch 8 want.Scalar (codes "(array 4 fix)")) ≡ codes "refused: mismatch 8 scalar (array 4 fix)\n"
  pub any_number : fault_line (fault.Mismatch 8 want.Number (codes "bool")) ≡ codes "refused: mismatch 8 number bool\n"
  pub unsigned : fault_line (fault.Mismatch 8 want.Unsigned (codes "i8")) ≡ codes "refused: mismatch 8 unsigned i8\n"
  pub array : fault_line (fault.Mismatch 8 want.Array (codes "fix")) ≡ codes "refused: mismatch 8 array fix\n"
  pub a_record : fault_line (fault.Mismatch 8 want.Record (codes "(ix 4)")) ≡ codes "refused: mismatch 8 record (ix 4)\n"
  pub notplace : fault_line (fault.NotPlace 82) ≡ codes "refused: notplace 82\n"
  pub field : fault_line (fault.Field 90) ≡ codes "refused: field 90\n"
  pub range : fault_line (fault.Range 91) ≡ codes "refused: range 91\n"
  pub deep : fault_line (fault.Deep 77 25) ≡ codes "refused: deep 77 25\n"
  pub bound : fault_line (fault.Bound (codes "h") (codes "e") 4 3) ≡ codes "refused: bound h e 4 3\n"
  pub cycle : fault_line (fault.Cycle (codes "s") (codes "h" ∷ codes "k" ∷ [])) ≡ codes "refused: cycle s h k h\n"
  pub own_cycle : fault_line (fault.Cycle (codes "s") (codes "h" ∷ [])) ≡ codes "refused: cycle s h h\n"
  pub sources : fault_line (fault.Size what.Sources 65 64) ≡ codes "refused: size sources 65 64\n"
  pub channels : fault_line (fault.Size what.Channels 4097 4096) ≡ codes "refused: size channels 4097 4096\n"
  pub outputs : fault_line (fault.Size what.Outputs 1025 1024) ≡ codes "refused: size outputs 1025 1024\n"
  pub monitors : fault_line (fault.Size what.Monitors 1025 1024) ≡ codes "refused: size monitors 1025 1024\n"
  pub handlers : fault_line (fault.Size what.Handlers 4097 4096) ≡ codes "refused: size handlers 4097 4096\n"
  pub records : fault_line (fault.Size what.Records 1025 1024) ≡ codes "refused: size records 1025 1024\n"
  pub depth : fault_line (fault.Size what.Depth 33 32) ≡ codes "refused: size depth 33 32\n"
  pub words : fault_line (fault.Size what.Words 4097 4096) ≡ codes "refused: size words 4097 4096\n"
  pub chain : fault_line (fault.Size what.Chain 101 100) ≡ codes "refused: size chain 101 100\n"
  pub memory : fault_line (fault.Size what.Memory 1048577 1048576) ≡ codes "refused: size memory 1048577 1048576\n"
  pub code : fault_line (fault.Size what.Code 1000001 1000000) ≡ codes "refused: size code 1000001 1000000\n"
  pub work : fault_line (fault.Work (codes "s") 1000000001) ≡ codes "refused: work s 1000000001\n"
