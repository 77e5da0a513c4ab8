-- Whatever is drawn, a generated file is accepted.
use Rattle.std.proofs.Common.{ℕ, arith}
use Rattle.tower_gen.specs.Words.{words_of, generator_of}
use Rattle.tower_gen.specs.Draws.{Drawn}
use Rattle.tower_gen.specs.File.{made}
use Rattle.tower_gen.specs.System.{system}
use Rattle.printed_files.specs.Right.{IsRight}
use Rattle.tower_gen.specs.Made.{drawn_of, IsInRange, DrawnFilesAreRight, DrawsAreInRange, MadeFilesAreRight}
use Rattle.tower_gen.proofs.Computed
use Rattle.tower_gen.proofs.MadeGraph.{no_cycle, none_over, each_cost, cheap, within}
use Rattle.tower_gen.proofs.MadeTyped.{typed, fit}
use Rattle.tower_gen.proofs.MadePrinted.{printable, short}
use Rattle.printed_files.proofs.Accepted.{right_files_are_accepted}

right : (d : Drawn) → IsInRange d → IsRight (made d) (system d)
right d range = record {
  printable = printable d range;
  short = short d range;
  names = fit d;
  outlined = Computed.outlined d;
  typed = typed d range;
  bounded = none_over d;
  acyclic = no_cycle d;
  within = within d;
  cheap = cheap d;
}

pub drawn_files_are_right : DrawnFilesAreRight
drawn_files_are_right d range = record {
  printable = printable d range;
  accepted = right_files_are_accepted (made d) (system d) (right d range);
  costs = each_cost d;
  memory_is = Computed.memory d;
  code_is = Computed.code d;
}

pub draws_are_in_range : DrawsAreInRange
draws_are_in_range words = record {
  some_ms = λ i. omega arith;
  few_ms = λ i. omega arith;
  priority = λ i. omega arith;
  factor = λ i. omega arith;
}

pub numbers_are_in_range : (n : ℕ) → IsInRange (drawn_of n)
unfolding drawn_of
numbers_are_in_range n = draws_are_in_range (words_of (generator_of n))

pub made_files_are_right : MadeFilesAreRight
made_files_are_right n = drawn_files_are_right (drawn_of n) (numbers_are_in_range n)
