-- The computed answer of a file is its checked tree, or its first offence.
use Rattle.std.proofs.Common.{◌≡◌, List, Result, Ok, Err, refl}
use Rattle.tower_syntax.specs.RawTree.{Link, Raw}
use Rattle.tower_syntax.specs.Arch.{Handler}
use Rattle.arch_types.specs.declared.fault.TypeFault.{TypeFault}
use Rattle.arch_types.specs.Outline.{outline, with_handlers, handlers_of}
use Rattle.arch_types.specs.Numbered.{IsNumbered}
use Rattle.arch_types.specs.Walk.{and_then}
use Rattle.arch_types.specs.Turns.{in_turn, handled}
use Rattle.arch_types.specs.FileWalk.{IsAnswer, FileWalkIsRight}
use Rattle.arch_types.proofs.FileRight.{file_clean, file_checked, first_is}

pub file_walk_is_right : FileWalkIsRight
file_walk_is_right raw numbered = by (in_turn (handled (outline raw)) (handlers_of raw)) refl
  where
    by : (r : Result (List Handler) TypeFault) → in_turn (handled (outline raw)) (handlers_of raw) ≡ r → IsAnswer raw (and_then r (λ hs. Ok (with_handlers (outline raw) hs)))
    by (Ok hs) e = (file_checked raw numbered (outline raw) refl hs e, file_clean raw numbered (outline raw) refl hs e)
    by (Err f) e = λ end order. first_is raw numbered (outline raw) refl f e end order
