-- The commands: each with the options that it may have and what it asks for.
use Rattle.std.specs.Prelude.{ℕ, List, Option, Some, None, Bool, true, false, bytes_eq}
use Rattle.tower_words.specs.declared.words.Options.{Options}
use Rattle.tower_top.specs.Requests.{Request, no_command}
use Rattle.tower_words.specs.Words.{Given, has_only}

pub record Command : Type 1 where
  pub name : List ℕ
  pub options : Options
  pub request : Given → Request

abbrev pub choose : Bool → Request → Request → Request
choose true this other = this
choose false this other = other

-- what is asked for by a value, which must be there
abbrev pub where_given : {A : Type 0} → Option A → (A → Request) → Request
where_given None next = no_command
where_given (Some x) next = next x

-- the words, where the command may have them
abbrev pub asked_of : Command → Given → Request
asked_of c g = choose (has_only c.options g) (c.request g) no_command

-- the words, where they name the command
abbrev pub asked_by : Command → Given → Request → Request
asked_by c g other = choose (bytes_eq g.command c.name) (asked_of c g) other
