-- The trees and faults of texts, computed.
use Rattle.std.proofs.Common.{refl}
use Rattle.std.specs.Fmt.{digits}
use Rattle.tower_reader.specs.Worked.{WorkedTrees, WorkedTokens, WorkedForms, WorkedNumbers}

pub worked_trees : WorkedTrees
unfolding digits
worked_trees = record { none = refl; comments = refl; version = refl; types = refl; clock = refl }

pub worked_tokens : WorkedTokens
worked_tokens = record { unclosed = refl; unopened = refl; byte = refl; empty = refl; blanks = refl; nested = refl; nested_deeper = refl }

pub worked_forms : WorkedForms
unfolding digits
worked_forms = record { item = refl; depth = refl; no_depth = refl; second = refl; no_list = refl; no_head = refl; list_head = refl; no_name = refl; word = refl; list_for_atom = refl; no_fields = refl; one_word = refl; field_first = refl; before_number = refl; first = refl }

pub worked_numbers : WorkedNumbers
unfolding digits
worked_numbers = record { great = refl; length = refl; depth = refl; zero_first = refl; minus_zero = refl; plus = refl; minus = refl; no_digits = refl; name = refl; before_length = refl }
