-- The instructions of a handler's section, from its LOCK to its UNLOCK.
use Rattle.std.specs.Prelude.{ℕ, zero, suc, List, [], ◌∷◌, length}
use Rattle.tower_syntax.specs.Arch.{Arch, Handler, Body}
use Rattle.task_code.specs.declared.program.Instr.TheVariants.{Lock, Unlock, Bclr}
use Rattle.task_code.specs.declared.frame.Frame.{Frame}
use Rattle.task_code.specs.Piece.{Piece, nil, ins, ◌▸◌, end}
use Rattle.stmt_code.specs.Layout.{layout_of}
use Rattle.stmt_code.specs.Body.{stmts_code}

-- n buffers from b on are emptied
abbrev pub cleared : ℕ → ℕ → Piece
cleared b zero = nil
cleared b (suc n) = ins (Bclr b) ▸ cleared (suc b) n

abbrev pub bodies_code : Arch → Handler → Frame → ℕ → ℕ → List Body → Piece
bodies_code arch h f i from [] = nil
bodies_code arch h f i from (b ∷ bs) =
    let first = stmts_code (layout_of arch h f i b) from b.stmts in
    first ▸ bodies_code arch h f (suc i) (end from first) bs

abbrev pub section_code : Arch → Handler → Frame → ℕ → Piece
section_code arch h f from =
    let first = ins (Lock h.monitor) ▸ cleared f.first_buffer (length h.emitters) in
    first ▸ bodies_code arch h f 0 (end from first) h.callbacks ▸ ins (Unlock h.monitor)
