-- `check FILE` tells what an accepted file has, and what it weighs.
use Rattle.std.specs.Prelude.{codes}
use Rattle.tower_report.specs.CheckText.{check_text}
use Rattle.tower_top.specs.declared.status.Status.TheVariants.{Done}
use Rattle.tower_top.specs.Requests.{reads, answers}
use Rattle.tower_top.specs.Inputs.{file_input}
use Rattle.tower_words.specs.Words.{no_options}
use Rattle.tower_top.specs.Commands.{Command}

abbrev pub check : Command
check = record {
  name = codes "check";
  options = no_options;
  request = λ g. reads (file_input g.file) (λ arch. answers Done (check_text arch));
}
