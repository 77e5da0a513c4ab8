-- The handlers of a task, as its frames and places are listed by the handlers' numbers.
use Rattle.std.specs.Prelude.{◌≡◌, ℕ, suc, List, [], ◌∷◌, Option, Some, None, slice_get}
use Rattle.tower_syntax.specs.Arch.{Arch}
use Rattle.tower_syntax.specs.Graph.{handler}
use Rattle.task_code.specs.declared.frame.Frame.{Frame}
use Rattle.task_code.specs.declared.frame.Frames.{Frames}
use Rattle.task_code.specs.Piece.{Piece}
use Rattle.emit_code.specs.Delivery.{Entry, entry_of, delivery_code}

-- handler n, where it has a frame, and those behind it
abbrev pub entry_before : ℕ → Option Frame → ℕ → List Entry → List Entry
entry_before n None place es = es
entry_before n (Some f) place es = record { number = n; frame = f; place = place } ∷ es

-- the handlers from n on that have a frame and a place
abbrev pub entries_from : ℕ → List (Option Frame) → List ℕ → List Entry
entries_from n [] places = []
entries_from n (f ∷ fs) [] = []
entries_from n (f ∷ fs) (place ∷ places) = entry_before n f place (entries_from (suc n) fs places)

abbrev pub entries_in : Frames → List Entry
entries_in t = entries_from 0 t.frames t.entries

-- the handler has a frame and a place
pub record HasEntry (t : Frames) (h : ℕ) : Type 0 where
  pub frame : Frame
  pub place : ℕ
  pub framed : slice_get t.frames h ≡ Some (Some frame)
  pub placed : slice_get t.entries h ≡ Some place

-- what delivers all that a handler emitted, in code where so many instructions stand before
abbrev pub delivery_of : Arch → Frames → ℕ → ℕ → Piece
delivery_of arch t h from = delivery_code arch (entries_in t) (entry_of (entries_in t) h).frame from 0 (handler arch h).emitters
