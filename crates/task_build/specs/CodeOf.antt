-- The program of a system.
use Rattle.std.specs.Prelude.{ℕ, zero, suc, ◌+◌, ◌==◌, List, [], ◌∷◌, ◌++◌, map, length, true, false}
use Rattle.tower_types.specs.Ty.{words, shape_in, table_of}
use Rattle.tower_syntax.specs.declared.arch.On.TheVariants as on
use Rattle.tower_syntax.specs.declared.arch.Listener.{Listener}
use Rattle.tower_syntax.specs.declared.arch.Listener.TheVariants as to
use Rattle.tower_syntax.specs.Arch.{Arch, Source, Emitter}
use Rattle.tower_syntax.specs.Graph.{handler, subs, reached_by}
use Rattle.tower_syntax.specs.Weights.{message_words, emitter_words, channel_message, monitor_words}
use Rattle.task_code.specs.declared.program.Instr.TheVariants.{Ld, St, Jmp, Call, Ret, Take}
use Rattle.task_code.specs.declared.program.Buffer.{Buffer}
use Rattle.task_code.specs.declared.program.Task.{Task}
use Rattle.task_code.specs.Program.{Program}
use Rattle.task_code.specs.Piece.{Piece, nil, ins, ◌▸◌, end, listed, joined}
use Rattle.task_code.specs.declared.frame.Frame.{Frame}
use Rattle.stmt_code.specs.FrameOf.{frame_of}
use Rattle.stmt_code.specs.Section.{section_code}
use Rattle.emit_code.specs.Delivery.{Entry, entry_of, delivery_code}

-- one frame behind the other
abbrev pub frames_from : Arch → ℕ → ℕ → List ℕ → List Frame
frames_from arch base buffer [] = []
frames_from arch base buffer (h ∷ hs) =
    let f = frame_of arch h base buffer in
    f ∷ frames_from arch f.end (buffer + length (handler arch h).emitters) hs

abbrev pub end_of : ℕ → List Frame → ℕ
end_of a [] = a
end_of a (f ∷ fs) = end_of f.end fs

-- called with its message in its frame
abbrev pub handler_code : Arch → List Entry → ℕ → Frame → ℕ → Piece
handler_code arch entries h f from =
    let first = section_code arch (handler arch h) f from in
    first ▸ delivery_code arch entries f (end from first) 0 (handler arch h).emitters ▸ ins Ret

-- n words go from the words at a to those at b
abbrev pub words_passed : ℕ → ℕ → ℕ → Piece
words_passed a b zero = nil
words_passed a b (suc n) = ins (Ld a) ▸ ins (St b) ▸ words_passed (suc a) (suc b) n

-- the message goes to another handler's frame, where it is not there already
abbrev pub passed : ℕ → ℕ → ℕ → Piece
passed a b n = elim (a == b) [ true ↦ nil | false ↦ words_passed a b n ]

abbrev pub call_code : List Entry → ℕ → ℕ → Listener → Piece
call_code entries taken width (to.Output o) = nil
call_code entries taken width (to.Handler k) = passed taken (entry_of entries k).frame.param width ▸ ins (Call (entry_of entries k).place)

-- takes a message, delivers it to each handler on the source, and begins anew
abbrev pub head_code : Arch → List Entry → ℕ → ℕ → ℕ → Piece
head_code arch entries s taken width =
    ins (Take taken) ▸ joined (map (call_code entries taken width) (subs arch (on.Source s))) ▸ ins (Jmp 0)

-- a message is taken into the frame of the first handler on the source
abbrev pub taken_at : List Entry → List Listener → ℕ
taken_at entries [] = 0
taken_at entries (to.Output o ∷ ls) = taken_at entries ls
taken_at entries (to.Handler k ∷ ls) = (entry_of entries k).frame.param

-- the handlers, one behind the other: no length depends on the places
abbrev pub entries_from : Arch → List Entry → ℕ → List ℕ → List Frame → List Entry
entries_from arch known from [] fs = []
entries_from arch known from (h ∷ hs) [] = []
entries_from arch known from (h ∷ hs) (f ∷ fs) =
    record { number = h; frame = f; place = from } ∷ entries_from arch known (end from (handler_code arch known h f from)) hs fs

abbrev pub handlers_code : Arch → List Entry → List Entry → Piece
handlers_code arch entries [] = nil
handlers_code arch entries (e ∷ es) = handler_code arch entries e.number e.frame e.place ▸ handlers_code arch entries es

-- frames with no places yet, which give the lengths
abbrev pub unplaced : List ℕ → List Frame → List Entry
unplaced [] fs = []
unplaced (h ∷ hs) [] = []
unplaced (h ∷ hs) (f ∷ fs) = record { number = h; frame = f; place = 0 } ∷ unplaced hs fs

abbrev pub buffers_of : Arch → List Emitter → List Buffer
buffers_of arch es = map (λ e. record { width = emitter_words arch e; bound = e.bound }) es

abbrev pub all_buffers : Arch → List ℕ → List Buffer
all_buffers arch [] = []
all_buffers arch (h ∷ hs) = buffers_of arch (handler arch h).emitters ++ all_buffers arch hs

-- a message that no handler takes still needs its words
abbrev pub task_of : Arch → ℕ → Source → Task
task_of arch s source =
    let width = message_words arch (on.Source s) in
    let hs = reached_by arch s in
    let frames = frames_from arch 0 0 hs in
    let known = unplaced hs frames in
    let taken = taken_at known (subs arch (on.Source s)) in
    let entries = entries_from arch known (end 0 (head_code arch known s taken width)) hs frames in
    record {
      priority = source.priority;
      message = width;
      room = end_of width frames;
      buffers = all_buffers arch hs;
      code = listed (head_code arch entries s taken width ▸ handlers_code arch entries entries);
    }

abbrev pub tasks_from : Arch → ℕ → List Source → List Task
tasks_from arch s [] = []
tasks_from arch s (x ∷ xs) = task_of arch s x ∷ tasks_from arch (suc s) xs

abbrev pub code_of : Arch → Program
code_of arch = record {
  monitors = map (monitor_words arch) arch.monitors;
  outputs = map (λ o. words (shape_in (table_of arch.records) (channel_message arch o.channel))) arch.outputs;
  tasks = tasks_from arch 0 arch.sources;
}
