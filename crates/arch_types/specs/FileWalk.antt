-- A whole file as it is computed, in text order: its checked tree, or a fault; and what that answer means.
use Rattle.std.specs.Prelude.{ℕ, Result, Ok, Err}
use Rattle.tower_syntax.specs.RawTree.{Link, Raw}
use Rattle.tower_syntax.specs.Arch.{Arch}
use Rattle.arch_types.specs.declared.fault.TypeFault.{TypeFault}
use Rattle.arch_types.specs.Offence.{IsClean, IsFirst}
use Rattle.arch_types.specs.Outline.{outline, with_handlers, handlers_of}
use Rattle.arch_types.specs.File.{IsChecked, Offence, AscendsFile}
use Rattle.arch_types.specs.Numbered.{IsNumbered}
use Rattle.arch_types.specs.Walk.{and_then}
use Rattle.arch_types.specs.Turns.{in_turn, handled}

abbrev pub walked_file : Raw Link → Result Arch TypeFault
walked_file raw = and_then (in_turn (handled (outline raw)) (handlers_of raw)) (λ hs. Ok (with_handlers (outline raw) hs))

-- a tree is the checked tree of the file, in which nothing offends; a fault is the offence with the least offset, where
-- the offsets stand in text order
abbrev pub IsAnswer : Raw Link → Result Arch TypeFault → Type 0
IsAnswer raw (Ok arch) = IsChecked raw arch × IsClean (Offence raw)
IsAnswer raw (Err f) = (end : ℕ) → AscendsFile raw end → IsFirst (Offence raw) f

abbrev pub FileWalkIsRight : Type 0
FileWalkIsRight = (raw : Raw Link) → IsNumbered raw → IsAnswer raw (walked_file raw)
