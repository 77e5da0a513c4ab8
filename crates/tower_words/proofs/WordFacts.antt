-- What the matches of the simple command give.
use Rattle.std.proofs.Common.{◌≡◌, List, [], ◌∷◌, Option, Some, None, refl, sym, ap, subst, ⊎_elim, ◌∙◌, codes, true, Bool}
use Rattle.std.specs.Prelude.{option_map, if◌then◌else◌}
use Rattle.std.specs.Borrow.{Bor}
use Rattle.clap.specs.declared.parser.matches.Found.{Found}
use Rattle.clap.specs.Matches.{first_value, found_of}
use Rattle.clap.specs.Walk.{Row, first_of, rows_of, is_empty}
use Rattle.clap.specs.Simple.{App, HasMatchesOf, matches_of, is_simple}
use Rattle.clap.specs.Faults.{fault_of, is_simple_and_free}
use Rattle.clap.specs.Kinds.{Kinds, IsAmong, HasKind}
use Rattle.clap.specs.Values.{kind_of}
use Rattle.clap.specs.declared.error.Error.{Error}
use Rattle.clap.specs.declared.error.kind.ErrorKind.{ErrorKind}
use Rattle.clap.specs.declared.error.kind.ErrorKind.TheVariants.{OutOfMemory}
use Rattle.clap.specs.declared.parser.matches.ArgMatches.{ArgMatches}
use Rattle.clap.proofs.WalkLemmas.{first_value-rows}
use Rattle.clap.proofs.OnLiterals.{clap_on_literals}
use Rattle.tower_words.specs.Words.{Text, Given, gathered, given_in, given_by, unless_refused, towerc}

-- what a getter reads is in the rows
pub read_in : (f : Found) (id : Text) (got : Option Text) → got ≡ first_value f id → got ≡ first_of id (rows_of f)
read_in f id got is = is ∙ first_value-rows f id

-- what was gathered from the rows
pub gathered_is : (rows : List Row) (command file record_name choices_name order_name steps policy cores listing_name notes_name rate gap : Option Text)
    → command ≡ first_of (codes "command") rows → file ≡ first_of (codes "file") rows → record_name ≡ first_of (codes "record") rows
    → choices_name ≡ first_of (codes "choices") rows → order_name ≡ first_of (codes "order") rows → steps ≡ first_of (codes "steps") rows
    → policy ≡ first_of (codes "policy") rows → cores ≡ first_of (codes "cores") rows → listing_name ≡ first_of (codes "listing") rows
    → notes_name ≡ first_of (codes "notes") rows → rate ≡ first_of (codes "rate") rows → gap ≡ first_of (codes "gap") rows
    → gathered command file record_name choices_name order_name steps policy cores listing_name notes_name rate gap ≡ given_in rows
gathered_is rows command file record_name choices_name order_name steps policy cores listing_name notes_name rate gap e1 e2 e3 e4 e5 e6 e7 e8 e9 e10 e11 e12 =
    λ i. gathered
    (e1 i) (e2 i) (e3 i) (e4 i) (e5 i) (e6 i) (e7 i) (e8 i) (e9 i) (e10 i) (e11 i) (e12 i)

pub no_command_is : (rows : List Row) → None ≡ first_of (codes "command") rows → None ≡ given_in rows
no_command_is rows e = λ i. gathered (e i) (first_of (codes "file") rows) (first_of (codes "record") rows) (first_of (codes "choices") rows)
    (first_of (codes "order") rows) (first_of (codes "steps") rows) (first_of (codes "policy") rows) (first_of (codes "cores") rows)
    (first_of (codes "listing") rows) (first_of (codes "notes") rows) (first_of (codes "rate") rows) (first_of (codes "gap") rows)

pub no_file_is : (rows : List Row) (command : Text) → Some command ≡ first_of (codes "command") rows → None ≡ first_of (codes "file") rows → None ≡ given_in rows
no_file_is rows command e f = λ i. gathered (e i) (f i) (first_of (codes "record") rows) (first_of (codes "choices") rows) (first_of (codes "order") rows)
    (first_of (codes "steps") rows) (first_of (codes "policy") rows) (first_of (codes "cores") rows) (first_of (codes "listing") rows)
    (first_of (codes "notes") rows) (first_of (codes "rate") rows) (first_of (codes "gap") rows)

pub towerc_is_simple : is_simple_and_free towerc ≡ true
unfolding clap_on_literals
towerc_is_simple = refl

pub towerc_is_plain : is_simple towerc ≡ true
unfolding clap_on_literals
towerc_is_plain = refl

pub given_where_taken : (words : List Text) → fault_of towerc words ≡ [] → given_in (matches_of towerc words) ≡ given_by words
unfolding given_by
given_where_taken words e = let f : Kinds → Option Given = λ k. unless_refused k (given_in (matches_of towerc words)) in ap f (sym e)

none_where_among : (k : ErrorKind) (kinds : Kinds) (found : Option Given) → IsAmong k kinds → None ≡ unless_refused kinds found
none_where_among k [] found among = absurd among
none_where_among k (x ∷ xs) found among = refl

none_where_refused : (k : ErrorKind) (words : List Text) → IsAmong k (fault_of towerc words) → None ≡ given_by words
unfolding given_by
none_where_refused k words among = none_where_among k (fault_of towerc words) (given_in (matches_of towerc words)) among

-- a refusal that is no want of memory
pub refused_is : (a : App) (words : List Text) (e : Error) → a ≡ towerc → (is_simple_and_free a ≡ true → HasKind (fault_of a words) e) → (kind_of e ≡ OutOfMemory → ⊥) → None ≡ given_by words
refused_is a words e same fails other =
    let P : App → Type 0 = λ b. is_simple_and_free b ≡ true → HasKind (fault_of b words) e in
    ⊎_elim (λ h. absurd (other h)) (λ h. none_where_refused (kind_of e) words h) (subst P same fails towerc_is_simple)

-- matches
pub matched_is : (a : App) (words : List Text) (m : ArgMatches) → a ≡ towerc → (is_simple_and_free a ≡ true → fault_of a words ≡ []) → HasMatchesOf a words m → given_in (rows_of (found_of m)) ≡ given_by words
matched_is a words m same clean has =
    let P : App → Type 0 = λ b. is_simple_and_free b ≡ true → fault_of b words ≡ [] in
    let Q : App → Type 0 = λ b. HasMatchesOf b words m in
    ap given_in (subst Q same has towerc_is_plain).0 ∙ given_where_taken words (subst P same clean towerc_is_simple)
