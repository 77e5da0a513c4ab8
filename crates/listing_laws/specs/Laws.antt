-- What is known of the listing of the program of each accepted system.
use Rattle.std.specs.Prelude.{◌≡◌, ◌≤◌, ℕ, List, length}
use Rattle.tower_syntax.specs.Arch.{Arch}
use Rattle.arch_checks.specs.Offences.{IsAccepted}
use Rattle.task_code.specs.Program.{Program}
use Rattle.task_build.specs.CodeOf.{code_of}
use Rattle.task_listing.specs.Lines.{Bytes, byte_limit}
use Rattle.task_listing.specs.Listing.{listing}
use Rattle.task_listing.specs.Faults.{IsFaultless}
use Rattle.task_listing.specs.Laws.{IsProgram}
use Rattle.lock_reduction.specs.Reduce.{Sound}

-- The text is the listing of this program and of no other. It is not too long and has no fault: what is read of it is
-- this program. And the program is sound.
pub record ListsOneSound (arch : Arch) (text : Bytes) (p : Program) : Type 0 where
  pub is_program : IsProgram p
  pub same : text ≡ listing p
  pub one : (q : Program) → IsProgram q → text ≡ listing q → q ≡ p
  pub short : length text ≤ byte_limit
  pub faultless : IsFaultless text
  pub sound : Sound arch p

abbrev pub ProgramsAreListed : Type 0
ProgramsAreListed = (bs : List ℕ) (arch : Arch) → IsAccepted bs arch → ListsOneSound arch (listing (code_of arch)) (code_of arch)
