-- The instructions of some emissions.
use Rattle.std.specs.Prelude.{◌≡◌, [], ◌∷◌, pos}
use Rattle.tower_types.specs.declared.scalar.Scalar.TheVariants.{U32}
use Rattle.tower_types.specs.declared.scalar.BinOp.TheVariants.{Add}
use Rattle.tower_types.specs.Ty.{Shape, one, many}
use Rattle.tower_syntax.specs.declared.body.Root.TheVariants as root
use Rattle.tower_syntax.specs.Tree.{lit, read, bin, place, no_steps, at}
use Rattle.task_code.specs.declared.program.Instr.TheVariants.{Push, Ld, St, Ldx, Ldm, Bin, Bput, Badd}
use Rattle.task_code.specs.Piece.{listed}
use Rattle.stmt_code.specs.Layout.{Layout}
use Rattle.stmt_code.specs.Body.{emit_code}

abbrev pair : Shape
pair = many 2 (one U32)

-- a message of one word at 0, a name of two words at 1, another of four at 3, the words for indices at 7 and 8, the counter at 9,
-- and the words of messages at 10 and 12
abbrev pub small_layout : Layout
small_layout = record {
  scope = record { message = one U32; binders = pair ∷ many 2 pair ∷ []; states = pair ∷ []; emitters = pair ∷ one U32 ∷ [] };
  monitor = 4;
  param = 0;
  binders = 1 ∷ 3 ∷ [];
  temps = 7;
  scratch = 10 ∷ 12 ∷ [];
  first_buffer = 20;
}

pub record WorkedEmissions : Type 0 where
  -- a name is emitted where it stands
  pub name : listed (emit_code small_layout 0 0 (read (place (root.Binder 0) no_steps)))
      ≡ Push (pos 0) ∷ Ld 1 ∷ Bput 20 ∷ Push (pos 1) ∷ Ld 2 ∷ Bput 20 ∷ Badd 20 ∷ []
  -- so is a part with an index that the text gives
  pub part : listed (emit_code small_layout 0 0 (read (place (root.Binder 1) (at (lit U32 (pos 1)) no_steps))))
      ≡ Push (pos 0) ∷ Ld 5 ∷ Bput 20 ∷ Push (pos 1) ∷ Ld 6 ∷ Bput 20 ∷ Badd 20 ∷ []
  -- a state goes through the words of its emitter
  pub state : listed (emit_code small_layout 0 0 (read (place (root.State 0) no_steps)))
      ≡ Push (pos 0) ∷ Ldm 4 0 1 ∷ St 10 ∷ Push (pos 0) ∷ Ldm 4 1 1 ∷ St 11
      ∷ Push (pos 0) ∷ Ld 10 ∷ Bput 20 ∷ Push (pos 1) ∷ Ld 11 ∷ Bput 20 ∷ Badd 20 ∷ []
  -- a place that moves does too
  pub moving : listed (emit_code small_layout 0 1 (read (place (root.Binder 0) (at (read (place root.Param no_steps)) no_steps))))
      ≡ Ld 0 ∷ St 7 ∷ Ld 7 ∷ Ldx 1 2 ∷ St 12 ∷ Push (pos 0) ∷ Ld 12 ∷ Bput 21 ∷ Badd 21 ∷ []
  -- and a number
  pub number : listed (emit_code small_layout 0 1 (bin Add U32 (read (place root.Param no_steps)) (lit U32 (pos 1))))
      ≡ Ld 0 ∷ Push (pos 1) ∷ Bin Add U32 ∷ St 12 ∷ Push (pos 0) ∷ Ld 12 ∷ Bput 21 ∷ Badd 21 ∷ []
