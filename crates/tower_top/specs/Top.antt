-- The table of commands, and what words ask for.
use Rattle.std.specs.Prelude.{ℕ, List}
use Rattle.tower_top.specs.Requests.{Request, no_command}
use Rattle.tower_words.specs.Words.{Given, given_by}
use Rattle.tower_top.specs.Commands.{asked_by, where_given}
use Rattle.tower_top.specs.Check.{check}
use Rattle.tower_top.specs.Compile.{compile}
use Rattle.tower_top.specs.Run.{run}

abbrev pub asked : Given → Request
asked g =
    asked_by check g
    (asked_by compile g
    (asked_by run g
    no_command))

-- what the words ask for
unfoldable pub request_of : List (List ℕ) → Request
request_of words = where_given (given_by words) asked
