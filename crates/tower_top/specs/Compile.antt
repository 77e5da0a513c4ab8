-- `compile FILE` writes the listing of the program of an accepted file.
use Rattle.std.specs.Prelude.{codes}
use Rattle.tower_syntax.specs.Arch.{Arch}
use Rattle.task_build.specs.CodeOf.{code_of}
use Rattle.task_listing.specs.Listing.{listing}
use Rattle.tower_report.specs.Bytes.{Bytes}
use Rattle.tower_top.specs.declared.status.Status.TheVariants.{Done}
use Rattle.tower_top.specs.Requests.{reads, answers}
use Rattle.tower_top.specs.Inputs.{file_input}
use Rattle.tower_words.specs.Words.{no_options}
use Rattle.tower_top.specs.Commands.{Command}

-- a listing is long: it is opened where it is spoken of
unfoldable pub listing_of : Arch → Bytes
listing_of arch = listing (code_of arch)

abbrev pub compile : Command
compile = record {
  name = codes "compile";
  options = no_options;
  request = λ g. reads (file_input g.file) (λ arch. answers Done (listing_of arch));
}
