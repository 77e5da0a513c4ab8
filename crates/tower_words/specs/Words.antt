-- What the words of the command line give, by clap's meaning of a simple command.
use Rattle.std.specs.Prelude.{ℕ, List, [], ◌∷◌, Option, Some, None, option_map, option_and_then, Bool, true, false, ◌&&◌, codes}
use Rattle.clap.specs.Walk.{Row, Rule, first_of}
use Rattle.clap.specs.Simple.{App, new_app, new_rule, with_rule, matches_of}
use Rattle.clap.specs.Faults.{fault_of}
use Rattle.clap.specs.Kinds.{Kinds}
use Rattle.tower_words.specs.declared.words.Given.{Given as GivenWords}
use Rattle.tower_words.specs.declared.words.Options.{Options}

abbrev pub Text : Type 0
Text = List ℕ

-- ---- the simple command

-- a word at its place, which must be there
abbrev pub positional : Text → Rule
positional id = record (new_rule id) { required = true }

-- an option with one value
abbrev pub option : Text → Rule
option id = record (new_rule id) { long = Some id }

abbrev pub with_rules : App → List Rule → App
with_rules a [] = a
with_rules a (r ∷ rs) = with_rules (with_rule a r) rs

abbrev pub towerc : App
towerc = with_rules (new_app (codes "towerc")) (positional (codes "command") ∷ positional (codes "file")
    ∷ option (codes "record") ∷ option (codes "choices") ∷ option (codes "order") ∷ option (codes "steps")
    ∷ option (codes "policy") ∷ option (codes "cores")
    ∷ option (codes "listing") ∷ option (codes "notes") ∷ option (codes "rate") ∷ option (codes "gap") ∷ [])

-- ---- what it finds

-- the words of a command: its name, FILE and the values of its options
pub record Given : Type 0 where
  pub command : Text
  pub file : Text
  pub record_name : Option Text
  pub choices_name : Option Text
  pub order_name : Option Text
  pub steps : Option Text
  pub policy : Option Text
  pub cores : Option Text
  pub listing_name : Option Text
  pub notes_name : Option Text
  pub rate : Option Text
  pub gap : Option Text

abbrev pub gathered : (command file record_name choices_name order_name steps policy cores listing_name notes_name rate gap : Option Text) → Option Given
gathered None file record_name choices_name order_name steps policy cores listing_name notes_name rate gap = None
gathered (Some command) None record_name choices_name order_name steps policy cores listing_name notes_name rate gap = None
gathered (Some command) (Some file) record_name choices_name order_name steps policy cores listing_name notes_name rate gap = Some (record {
  command = command;
  file = file;
  record_name = record_name;
  choices_name = choices_name;
  order_name = order_name;
  steps = steps;
  policy = policy;
  cores = cores;
  listing_name = listing_name;
  notes_name = notes_name;
  rate = rate;
  gap = gap;
})

abbrev pub given_in : List Row → Option Given
given_in rows = gathered (first_of (codes "command") rows) (first_of (codes "file") rows)
    (first_of (codes "record") rows) (first_of (codes "choices") rows) (first_of (codes "order") rows) (first_of (codes "steps") rows)
    (first_of (codes "policy") rows) (first_of (codes "cores") rows) (first_of (codes "listing") rows)
    (first_of (codes "notes") rows) (first_of (codes "rate") rows) (first_of (codes "gap") rows)

abbrev pub unless_refused : {A : Type 0} → Kinds → Option A → Option A
unless_refused [] found = found
unless_refused (k ∷ ks) found = None

-- what the words give, or none where clap refuses them
unfoldable pub given_by : List Text → Option Given
given_by words = unless_refused (fault_of towerc words) (given_in (matches_of towerc words))

-- ---- options

-- none of them
abbrev pub no_options : Options
no_options = record {
  record_name = false;
  choices_name = false;
  order_name = false;
  steps = false;
  policy = false;
  cores = false;
  listing_name = false;
  notes_name = false;
  rate = false;
  gap = false;
}

abbrev pub is_allowed : Bool → Option Text → Bool
is_allowed allowed None = true
is_allowed allowed (Some value) = allowed

-- no option is given but these
abbrev pub has_only : Options → Given → Bool
has_only options g =
    is_allowed options.record_name g.record_name
    && (is_allowed options.choices_name g.choices_name
    && (is_allowed options.order_name g.order_name
    && (is_allowed options.steps g.steps
    && (is_allowed options.policy g.policy
    && (is_allowed options.cores g.cores
    && (is_allowed options.listing_name g.listing_name
    && (is_allowed options.notes_name g.notes_name
    && (is_allowed options.rate g.rate
    && (is_allowed options.gap g.gap)))))))))

-- ---- as the program has them

abbrev pub given_of : GivenWords → Given
given_of g = record {
  command = g.command.now;
  file = g.file.now;
  record_name = option_map (λ s. s.now) g.record_name;
  choices_name = option_map (λ s. s.now) g.choices_name;
  order_name = option_map (λ s. s.now) g.order_name;
  steps = option_map (λ s. s.now) g.steps;
  policy = option_map (λ s. s.now) g.policy;
  cores = option_map (λ s. s.now) g.cores;
  listing_name = option_map (λ s. s.now) g.listing_name;
  notes_name = option_map (λ s. s.now) g.notes_name;
  rate = option_map (λ s. s.now) g.rate;
  gap = option_map (λ s. s.now) g.gap;
}
