-- A file is well typed, or has a first offence, which is not want of memory.
use Rattle.std.proofs.Common.{◌≡◌, ◌⊎◌, inl, inr, ◌<◌, List, Result, Ok, Err, refl, arith}
use Rattle.tower_syntax.specs.Arch.{Handler}
use Rattle.arch_types.specs.declared.fault.TypeFault.{TypeFault}
use Rattle.arch_types.specs.declared.fault.TypeFault.TheVariants as fault
use Rattle.arch_types.specs.Outline.{outline, with_handlers, handlers_of}
use Rattle.arch_types.specs.Turns.{in_turn, handled}
use Rattle.arch_types.specs.Laws.{IsWellTyped, HasFirst, TypesAreDecided, NoMemoryIsNoOffence}
use Rattle.arch_types.proofs.FileRight.{file_clean, file_checked, first_is, offence_inside}

pub decided : TypesAreDecided
decided raw end numbered order = by (in_turn (handled (outline raw)) (handlers_of raw)) refl
  where
    by : (r : Result (List Handler) TypeFault) → in_turn (handled (outline raw)) (handlers_of raw) ≡ r → IsWellTyped raw ⊎ HasFirst raw
    by (Ok hs) e = inl (record {
      arch = with_handlers (outline raw) hs;
      checked = file_checked raw numbered (outline raw) refl hs e;
      clean = file_clean raw numbered (outline raw) refl hs e;
    })
    by (Err f) e = inr (record { fault = f; first = first_is raw numbered (outline raw) refl f e end order })

pub no_memory : NoMemoryIsNoOffence
no_memory raw end order o = let inside : 0 < 0 = offence_inside raw end order fault.NoMemory o in absurd (omega (arith, inside))
