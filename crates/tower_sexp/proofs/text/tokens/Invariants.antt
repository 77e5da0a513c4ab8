use Rattle.std.proofs.Common.{◌≡◌, take}
use Rattle.tower_sexp.specs.Standing.{StandsFor, count_taken}
use Rattle.tower_sexp.specs.WholeTokens.{whole_tokens}
use Rattle.tower_sexp.proofs.text.tokens.Given as goal

abbrev pub invariant-loop-byte : goal.invariant-loop-byte
invariant-loop-byte l = record {
  stands : StandsFor l.lexer (take l.byte-index l.bytes);
  put : l.tokens.items ≡ whole_tokens (take l.byte-index l.bytes);
  taken : count_taken l.lexer ≡ l.byte-index;
}
