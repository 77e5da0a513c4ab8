-- The instructions of expressions and statements.
use Rattle.std.specs.Prelude.{ℕ, zero, suc, ◌+◌, ◌-◌, ◌||◌, pos, Option, Some, None, Bool, true, false}
use Rattle.tower_types.specs.declared.scalar.Scalar.TheVariants.{U64}
use Rattle.tower_types.specs.declared.scalar.BinOp.TheVariants.{Add, Mul, Less}
use Rattle.tower_types.specs.Ty.{Shape, words}
use Rattle.tower_syntax.specs.Tree.{Expr, lit, read, un, bin, choose, cast, Place, place, Steps, no_steps, field, at, Stmt, bind, local, set, copy, branch, loop, emit, Stmts, no_stmts, stmt}
use Rattle.tower_syntax.specs.Weights.{shape_at, root_shape, field_shape, element_shape, place_shape}
use Rattle.task_code.specs.declared.program.Instr.{Instr}
use Rattle.task_code.specs.declared.program.Instr.TheVariants.{Push, Ld, St, Ldx, Stx, Ldm, Stm, Un, Bin, Cast, Jmp, Jz}
use Rattle.task_code.specs.Piece.{Piece, nil, ins, ◌▸◌, end}
use Rattle.task_code.specs.Emission.{emission}
use Rattle.stmt_code.specs.Layout.{Layout, binder_at, scratch_at, Base, private, monitor, plus, given_index, is_moving, moves, place_root, place_steps, place_base, place_span}

-- reads the word at a fixed place
abbrev pub read_fixed : Base → Piece
read_fixed (private a) = ins (Ld a)
read_fixed (monitor m a) = ins (Push (pos 0)) ▸ ins (Ldm m a 1)

-- reads the word at the index on the stack, which is below n
abbrev pub read_moving : Base → ℕ → Instr
read_moving (private a) n = Ldx a n
read_moving (monitor m a) n = Ldm m a n

abbrev pub write_moving : Base → ℕ → Instr
write_moving (private a) n = Stx a n
write_moving (monitor m a) n = Stm m a n

-- reads a word, with its index on the stack where it moves
abbrev pub read_word : Bool → Base → ℕ → Piece
read_word false b n = read_fixed b
read_word true b n = ins (read_moving b n)

-- what stands before the value that is stored, and behind it
abbrev pub before_value : Bool → Base → Piece
before_value false (private a) = nil
before_value false (monitor m a) = ins (Push (pos 0))
before_value true b = nil

abbrev pub behind_value : Bool → Base → ℕ → Piece
behind_value false (private a) n = ins (St a)
behind_value false (monitor m a) n = ins (Stm m a 1)
behind_value true b n = ins (write_moving b n)

-- an index becomes a number of words
abbrev pub scaled : ℕ → Piece
scaled (suc zero) = nil
scaled n = ins (Push (pos n)) ▸ ins (Bin Mul U64)

abbrev pub added : Bool → Piece
added true = ins (Bin Add U64)
added false = nil

abbrev pub if_moving : Option ℕ → Piece → Piece
if_moving (Some k) x = nil
if_moving None x = x

-- an expression leaves its value on the stack, and steps leave the moving part of the offset, where there is one
abbrev mutual
  pub expr_code : Layout → ℕ → Expr → Piece
  expr_code w from (lit t n) = ins (Push n)
  expr_code w from (read p) = read_code w from p
  expr_code w from (un op t a) = expr_code w from a ▸ ins (Un op t)
  expr_code w from (bin op t a b) = let first = expr_code w from a in first ▸ expr_code w (end from first) b ▸ ins (Bin op t)
  expr_code w from (choose c a b) =
      let test = expr_code w from c in
      let first = expr_code w (suc (end from test)) a in
      let other = suc (end (suc (end from test)) first) in
      let second = expr_code w other b in
      test ▸ ins (Jz other) ▸ first ▸ ins (Jmp (end other second)) ▸ second
  expr_code w from (cast t a) = expr_code w from a ▸ ins (Cast t)

  pub read_code : Layout → ℕ → Place → Piece
  read_code w from (place r steps) =
      steps_code w from false (root_shape w.scope r) steps
      ▸ read_word (moves steps) (place_base w (place r steps)) (place_span w (place r steps))

  pub steps_code : Layout → ℕ → Bool → Shape → Steps → Piece
  steps_code w from begun s no_steps = nil
  steps_code w from begun s (field k rest) = steps_code w from begun (field_shape k s) rest
  steps_code w from begun s (at e rest) =
      let first = if_moving (given_index e) (expr_code w from e ▸ scaled (words (element_shape s)) ▸ added begun) in
      first ▸ steps_code w (end from first) (is_moving (given_index e) || begun) (element_shape s) rest

abbrev pub index_code : Layout → ℕ → Place → Piece
index_code w from p = steps_code w from false (root_shape w.scope (place_root p)) (place_steps p)

abbrev pub place_moves : Place → Bool
place_moves p = moves (place_steps p)

-- n words from a on become 0
abbrev pub zeroed : ℕ → ℕ → Piece
zeroed a zero = nil
zeroed a (suc n) = ins (Push (pos 0)) ▸ ins (St a) ▸ zeroed (suc a) n

-- a moving index is kept in a private word while the words of its place are moved
abbrev pub kept : Bool → ℕ → Piece
kept true t = ins (St t)
kept false t = nil

abbrev pub index_from : Bool → ℕ → Piece
index_from true t = ins (Ld t)
index_from false t = nil

-- a place whose words are moved one by one: does it move, its base, its span, and where its index is kept
pub record Moved : Type 0 where
  pub moving : Bool
  pub base : Base
  pub span : ℕ
  pub index : ℕ

abbrev pub moved : Layout → Place → ℕ → Moved
moved w p t = record { moving = place_moves p; base = place_base w p; span = place_span w p; index = t }

abbrev pub word_read : Moved → ℕ → Piece
word_read p j = index_from p.moving p.index ▸ read_word p.moving (plus p.base j) (p.span - j)

abbrev pub word_copied : Moved → Moved → ℕ → Piece
word_copied to source j =
    index_from to.moving to.index ▸ before_value to.moving (plus to.base j) ▸ word_read source j ▸ behind_value to.moving (plus to.base j) (to.span - j)

-- n words from the j-th on
abbrev pub words_copied : Moved → Moved → ℕ → ℕ → Piece
words_copied to source j zero = nil
words_copied to source j (suc n) = word_copied to source j ▸ words_copied to source (suc j) n

abbrev pub set_code : Layout → ℕ → Place → Expr → Piece
set_code w from p e =
    let first = index_code w from p ▸ before_value (place_moves p) (place_base w p) in
    first ▸ expr_code w (end from first) e ▸ behind_value (place_moves p) (place_base w p) (place_span w p)

abbrev pub copy_code : Layout → ℕ → Place → Place → Piece
copy_code w from p q =
    let to = index_code w from p ▸ kept (place_moves p) w.temps in
    let source = index_code w (end from to) q ▸ kept (place_moves q) (suc w.temps) in
    to ▸ source ▸ words_copied (moved w p w.temps) (moved w q (suc w.temps)) 0 (words (place_shape w.scope p))

-- a message of so many words, with the scratch words of its emitter and the number of its buffer
pub record SentMessage : Type 0 where
  pub scratch : ℕ
  pub buffer : ℕ
  pub width : ℕ

abbrev pub message_of : Layout → ℕ → SentMessage
message_of w k = record { scratch = scratch_at w k; buffer = w.first_buffer + k; width = words (shape_at w.scope.emitters k) }

-- the scratch words, as a place that words are moved to
abbrev pub moved_to : SentMessage → Moved
moved_to m = record { moving = false; base = private m.scratch; span = m.width; index = 0 }

-- words that begin at a fixed place: private ones are emitted where they stand, a monitor's from the scratch words
abbrev pub fixed_emitted : SentMessage → Base → Moved → Piece
fixed_emitted m (private a) p = emission a m.buffer m.width
fixed_emitted m (monitor h a) p = words_copied (moved_to m) p 0 m.width ▸ emission m.scratch m.buffer m.width

-- words at a place, whose moving index is kept, where it has one
abbrev pub place_emitted : SentMessage → Bool → Moved → Piece
place_emitted m false p = fixed_emitted m p.base p
place_emitted m true p = words_copied (moved_to m) p 0 m.width ▸ emission m.scratch m.buffer m.width

abbrev pub emit_code : Layout → ℕ → ℕ → Expr → Piece
emit_code w from k (read p) = index_code w from p ▸ kept (place_moves p) w.temps ▸ place_emitted (message_of w k) (place_moves p) (moved w p w.temps)
emit_code w from k e = let m = message_of w k in expr_code w from e ▸ ins (St m.scratch) ▸ emission m.scratch m.buffer m.width

-- a loop counts in the word of its name, which no statement writes
abbrev mutual
  pub stmt_code : Layout → ℕ → Stmt → Piece
  stmt_code w from (bind b e) = expr_code w from e ▸ ins (St (binder_at w b))
  stmt_code w from (local b) = zeroed (binder_at w b) (words (shape_at w.scope.binders b))
  stmt_code w from (set p e) = set_code w from p e
  stmt_code w from (copy p q) = copy_code w from p q
  stmt_code w from (branch e a b) =
      let test = expr_code w from e in
      let first = stmts_code w (suc (end from test)) a in
      let other = suc (end (suc (end from test)) first) in
      let second = stmts_code w other b in
      test ▸ ins (Jz other) ▸ first ▸ ins (Jmp (end other second)) ▸ second
  stmt_code w from (loop b n body) =
      let turn = from + 2 in
      let inner = stmts_code w (turn + 4) body in
      let out = end (turn + 4) inner + 5 in
      ins (Push (pos 0)) ▸ ins (St (binder_at w b))
      ▸ ins (Ld (binder_at w b)) ▸ ins (Push (pos n)) ▸ ins (Bin Less U64) ▸ ins (Jz out)
      ▸ inner ▸ ins (Ld (binder_at w b)) ▸ ins (Push (pos 1)) ▸ ins (Bin Add U64) ▸ ins (St (binder_at w b)) ▸ ins (Jmp turn)
  stmt_code w from (emit k e) = emit_code w from k e

  pub stmts_code : Layout → ℕ → Stmts → Piece
  stmts_code w from no_stmts = nil
  stmts_code w from (stmt s ss) = let first = stmt_code w from s in first ▸ stmts_code w (end from first) ss
