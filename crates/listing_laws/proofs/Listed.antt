-- The program of an accepted system is listed: by one text, which is read as this program alone.
use Rattle.std.proofs.Common.{◌≡◌, ◌≤◌, ℕ, List, length, refl, sym}
use Rattle.tower_syntax.specs.Arch.{Arch}
use Rattle.arch_checks.specs.Offences.{IsAccepted}
use Rattle.task_build.specs.CodeOf.{code_of}
use Rattle.task_build.proofs.Closing.{sound}
use Rattle.task_build.proofs.Ruled.{rules_kept}
use Rattle.task_listing.specs.Lines.{byte_limit}
use Rattle.task_listing.specs.Listing.{listing}
use Rattle.task_listing.specs.Laws.{IsProgram}
use Rattle.task_listing.proofs.Readings.{of_one, faultless}
use Rattle.listing_laws.specs.Laws.{ProgramsAreListed}
use Rattle.listing_laws.proofs.Priorities.{priorities_low}
use Rattle.listing_laws.proofs.Short.{listing_short}

is_program : (bs : List ℕ) (arch : Arch) → IsAccepted bs arch → IsProgram (code_of arch)
is_program bs arch h = record { rules = rules_kept bs arch h; priorities = priorities_low bs arch h }

pub listed : ProgramsAreListed
listed bs arch h =
    let p : IsProgram (code_of arch) = is_program bs arch h in
    let short : length (listing (code_of arch)) ≤ byte_limit = listing_short bs arch h p in
    record {
      is_program = p;
      same = refl;
      one = λ q k e. of_one q (code_of arch) k p (sym e);
      short = short;
      faultless = faultless (code_of arch) p short;
      sound = sound bs arch h;
    }
