-- The text that a reader stands for.
use Rattle.std.specs.Prelude.{◌≡◌, ◌<◌, ◌≤◌, ℕ, ◌+◌, List, [], ◌∷◌, length, vec_capacity}
use Rattle.tower_sexp.specs.Standing.{StandsFor as LexerStandsFor, count_unclosed}
use Rattle.tower_sexp.specs.WholeTokens.{whole_tokens}
use Rattle.tower_reader.specs.declared.reader.Reader.{Reader}
use Rattle.tower_reader.specs.declared.reader.Stage.{Stage}
use Rattle.tower_reader.specs.declared.reader.Stage.TheVariants as stage
use Rattle.tower_reader.specs.Spelled.{byte_limit}
use Rattle.tower_reader.specs.Machine.{AllLean, bottom, run}
use Rattle.tower_reader.specs.View.{frames_of}

-- Its lexer stands for the text, and its frames are what the whole tokens of the text make: one for the file and one for each
-- list that is unclosed, of which there are at most 256. A frame keeps no part of a child once something was found in its
-- list. There is room for the token that the end may make whole.
pub record Reads (r : Reader) (bs : List ℕ) : Type 0 where
  pub lexer : LexerStandsFor r.lexer bs
  pub frames : frames_of r.lists ≡ run (whole_tokens bs) (bottom ∷ [])
  pub nested : length (frames_of r.lists) ≡ count_unclosed r.lexer + 1
  pub few : count_unclosed r.lexer ≤ 256
  pub lean : AllLean (frames_of r.lists)
  pub room : 0 < vec_capacity r.tokens
  pub within : length bs ≤ byte_limit

abbrev pub StandsBy : Stage → Reader → List ℕ → Type 0
StandsBy stage.Reads r bs = Reads r bs
StandsBy stage.Long r bs = byte_limit < length bs
StandsBy stage.Failed r bs = ⊥

-- opaque to the crates above
unfoldable pub StandsFor : Reader → List ℕ → Type 0
StandsFor r bs = StandsBy r.stage r bs

-- a reader that ran out of memory
abbrev pub HasFailed : Reader → Type 0
HasFailed r = r.stage ≡ stage.Failed
