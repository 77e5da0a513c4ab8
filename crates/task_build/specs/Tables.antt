-- The handlers of a task as they are listed on the way to its code.
use Rattle.std.specs.Prelude.{◌≡◌, ℕ, List, [], ◌∷◌}
use Rattle.tower_syntax.specs.declared.arch.On.TheVariants as on
use Rattle.tower_syntax.specs.Arch.{Arch}
use Rattle.tower_syntax.specs.Graph.{subs}
use Rattle.tower_syntax.specs.Weights.{message_words}
use Rattle.task_code.specs.declared.frame.Frame.{Frame}
use Rattle.task_code.specs.declared.frame.Frames.{Frames}
use Rattle.task_code.specs.Piece.{Piece, ◌▸◌, end}
use Rattle.emit_code.specs.Delivery.{Entry, entry_of}
use Rattle.emit_code.specs.Framed.{entries_in}
use Rattle.task_build.specs.CodeOf.{handler_code, head_code, handlers_code, taken_at}

-- handlers with their frames and their places
abbrev pub entries_at : List ℕ → List Frame → List ℕ → List Entry
entries_at [] fs ps = []
entries_at (h ∷ hs) [] ps = []
entries_at (h ∷ hs) (f ∷ fs) [] = []
entries_at (h ∷ hs) (f ∷ fs) (p ∷ ps) = record { number = h; frame = f; place = p } ∷ entries_at hs fs ps

-- the same is found of each handler
abbrev pub Agrees : List Entry → Frames → Type 0
Agrees es t = (k : ℕ) → entry_of es k ≡ entry_of (entries_in t) k

-- handlers whose code stands one behind the other, the first at a place
abbrev pub placed_from : Arch → List Entry → ℕ → List ℕ → List Entry
placed_from arch es from [] = []
placed_from arch es from (h ∷ hs) =
    let f = (entry_of es h).frame in
    record { number = h; frame = f; place = from } ∷ placed_from arch es (end from (handler_code arch es h f from)) hs

-- the head of source s, and behind it the code of its handlers
abbrev pub head_of : Arch → List Entry → ℕ → Piece
head_of arch es s = head_code arch es s (taken_at es (subs arch (on.Source s))) (message_words arch (on.Source s))

abbrev pub placed_behind : Arch → List Entry → ℕ → List ℕ → List Entry
placed_behind arch es s hs = placed_from arch es (end 0 (head_of arch es s)) hs

abbrev pub code_behind : Arch → List Entry → ℕ → List ℕ → Piece
code_behind arch es s hs = head_of arch es s ▸ handlers_code arch es (placed_behind arch es s hs)
