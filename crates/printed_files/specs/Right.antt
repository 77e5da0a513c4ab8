-- What is to be proved of a file apart from its offsets.
use Rattle.std.specs.Prelude.{◌≡◌, ℕ, ◌<◌, ◌≤◌, List, length, Ok, None}
use Rattle.tower_syntax.specs.RawTree.{Id, Link, Raw}
use Rattle.tower_syntax.specs.Arch.{Arch, Handler}
use Rattle.tower_syntax.specs.Weights.{cost}
use Rattle.tower_syntax.specs.Form.{text}
use Rattle.tower_syntax.specs.Printed.{raw_form}
use Rattle.tower_syntax.specs.Printable.{IsPrintable}
use Rattle.tower_reader.specs.Spelled.{byte_limit}
use Rattle.arch_names.specs.Linked.{linked}
use Rattle.arch_types.specs.Outline.{outline, with_handlers, handlers_of}
use Rattle.arch_types.specs.Turns.{in_turn, handled}
use Rattle.channel_graph.specs.Circuit.{shown}
use Rattle.channel_graph.specs.Over.{NoneOver}
use Rattle.arch_checks.specs.declared.fault.What.{What}
use Rattle.arch_checks.specs.Limits.{limit, work_limit}
use Rattle.arch_checks.specs.Sizes.{Counts}
use Rattle.arch_checks.specs.Offences.{IsAccepted}
use Rattle.printed_files.specs.Bare.{bare_raw}
use Rattle.printed_files.specs.Fit.{plainly, HasFitNames}

-- the handlers that the walk over a linked tree makes
abbrev pub Makes : Raw Link → List Handler → Type 0
Makes t hs = in_turn (handled (outline t)) (handlers_of t) ≡ Ok hs

-- what is made depends on no offset
abbrev pub TypesHaveNoOffsets : Type 0
TypesHaveNoOffsets = (t u : Raw Link) (hs : List Handler) → bare_raw t ≡ bare_raw u → Makes t hs → Makes u hs

-- a file that is right apart from its offsets, and the system that it is
pub record IsRight (r : Raw Id) (arch : Arch) : Type 0 where
  pub printable : IsPrintable r
  pub short : length (text (raw_form r)) ≤ byte_limit
  pub names : HasFitNames r
  pub outlined : arch ≡ with_handlers (outline (linked plainly r)) arch.handlers
  pub typed : Makes (linked plainly r) arch.handlers
  pub bounded : NoneOver arch
  pub acyclic : shown arch ≡ None
  pub within : (what : What) (n : ℕ) → Counts arch what n → n ≤ limit what
  pub cheap : (s : ℕ) → s < length arch.sources → cost arch s ≤ work_limit

-- its line is accepted as this system
abbrev pub RightFilesAreAccepted : Type 0
RightFilesAreAccepted = (r : Raw Id) (arch : Arch) → IsRight r arch → IsAccepted (text (raw_form r)) arch
