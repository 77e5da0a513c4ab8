-- The instructions that deliver what a handler emitted.
use Rattle.std.specs.Prelude.{ℕ, zero, suc, ◌+◌, ◌==◌, List, [], ◌∷◌, map, slice_index_or, pos, true, false}
use Rattle.tower_types.specs.declared.scalar.Scalar.TheVariants.{U64}
use Rattle.tower_types.specs.declared.scalar.BinOp.TheVariants.{Add, Less}
use Rattle.tower_syntax.specs.declared.arch.On.TheVariants as on
use Rattle.tower_syntax.specs.declared.arch.Listener.{Listener}
use Rattle.tower_syntax.specs.declared.arch.Listener.TheVariants as to
use Rattle.tower_syntax.specs.Arch.{Arch, Emitter}
use Rattle.tower_syntax.specs.Graph.{subs}
use Rattle.tower_syntax.specs.Weights.{emitter_words}
use Rattle.task_code.specs.declared.program.Instr.TheVariants.{Push, Ld, St, Bin, Jmp, Jz, Call, Out, Bget, Bcnt}
use Rattle.task_code.specs.Piece.{Piece, nil, ins, ◌▸◌, end, joined}
use Rattle.task_code.specs.declared.frame.Frame.{Frame}

-- a handler of a task: its number, its frame, and the place of its first instruction
pub record Entry : Type 0 where
  pub number : ℕ
  pub frame : Frame
  pub place : ℕ

abbrev pub no_entry : Entry
no_entry = record { number = 0; frame = record { param = 0; binders = []; temps = 0; scratch = []; first_buffer = 0; end = 0 }; place = 0 }

abbrev pub entry_of : List Entry → ℕ → Entry
entry_of [] k = no_entry
entry_of (e ∷ es) k = elim (e.number == k) [ true ↦ e | false ↦ entry_of es k ]

-- n words of the message whose number is in the word i go from a buffer to the words from a on
abbrev pub words_got : ℕ → ℕ → ℕ → ℕ → ℕ → Piece
words_got i buffer a j zero = nil
words_got i buffer a j (suc n) = ins (Ld i) ▸ ins (Push (pos j)) ▸ ins (Bget buffer) ▸ ins (St (a + j)) ▸ words_got i buffer a (suc j) n

-- one message of an emitter goes to one subscriber
abbrev pub item_code : List Entry → ℕ → ℕ → ℕ → ℕ → Listener → Piece
item_code entries i buffer scratch width (to.Output o) = words_got i buffer scratch 0 width ▸ ins (Out o scratch)
item_code entries i buffer scratch width (to.Handler k) =
    words_got i buffer (entry_of entries k).frame.param 0 width ▸ ins (Call (entry_of entries k).place)

-- each message of a buffer goes to each subscriber
abbrev pub emitter_code : List Entry → ℕ → ℕ → ℕ → ℕ → ℕ → List Listener → Piece
emitter_code entries from i buffer scratch width listeners =
    let turn = from + 2 in
    let each = joined (map (item_code entries i buffer scratch width) listeners) in
    let out = end (turn + 4) each + 5 in
    ins (Push (pos 0)) ▸ ins (St i)
    ▸ ins (Ld i) ▸ ins (Bcnt buffer) ▸ ins (Bin Less U64) ▸ ins (Jz out)
    ▸ each ▸ ins (Ld i) ▸ ins (Push (pos 1)) ▸ ins (Bin Add U64) ▸ ins (St i) ▸ ins (Jmp turn)

abbrev pub delivery_code : Arch → List Entry → Frame → ℕ → ℕ → List Emitter → Piece
delivery_code arch entries f from k [] = nil
delivery_code arch entries f from k (e ∷ es) =
    let first =
    emitter_code entries from (f.temps + 2) (f.first_buffer + k) (slice_index_or f.scratch k 0) (emitter_words arch e) (subs arch (on.Channel e.channel)) in
    first ▸ delivery_code arch entries f (end from first) (suc k) es
