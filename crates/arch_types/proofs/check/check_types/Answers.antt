use Rattle.std.proofs.Common.{◌≡◌, ◌⊎◌, inl, inr, map, Ok, Err, subst, sym}
use Rattle.tower_syntax.specs.NamedView.{named_item_of, named_of}
use Rattle.tower_syntax.specs.View.{arch_of, handler_of}
use Rattle.tower_syntax.specs.Typed.{IsTyped}
use Rattle.arch_types.specs.Outline.{with_handlers}
use Rattle.arch_types.specs.declared.fault.TypeFault.TheVariants as fault
use Rattle.arch_types.specs.Offence.{IsFirst}
use Rattle.arch_types.specs.File.{IsChecked, Offence}
use Rattle.arch_types.specs.Turns.{handled}
use Rattle.arch_types.proofs.Sound.{well_numbered, typed}
use Rattle.arch_types.proofs.FileRight.{file_clean, file_checked, file_first}
use Rattle.arch_types.proofs.Turned.{exit_stops, of_items}
use Rattle.arch_types.proofs.check.check_types.Goals as goal

pub new-requires : goal.new-requires
new-requires c =
    let raw = named_of c.args.named.now in let made = arch_of c.in_ok-parts.parts in let hs = map handler_of c.in_ok-handlers.handlers in
    well_numbered raw (with_handlers made hs) c.requires.numbered
    (file_checked raw c.requires.numbered made c.in_ok-parts.ensures hs (of_items named_item_of (handled made) _ _ (Ok hs) c.as_slice.ensures c.in_ok-handlers.ensures))

pub returns-in_err-handlers-clause-first : goal.returns-in_err-handlers-clause-first
returns-in_err-handlers-clause-first c end o =
    let raw = named_of c.args.named.now in let made = arch_of c.in_ok-parts.parts in
    exit_stops _ (λ f. (f ≡ fault.NoMemory) ⊎ IsFirst (Offence raw) f) _ c.from_residual-in_err-handlers.ensures.1
    (file_first raw c.requires.numbered made c.in_ok-parts.ensures _
    (elim c.in_err-handlers.ensures [
      | inl i ↦ inl i
      | inr i ↦ inr (of_items named_item_of (handled made) _ _ (Err _) c.as_slice.ensures i)
    ]) end o)

pub returns-clause-clean : goal.returns-clause-clean
returns-clause-clean c =
    let raw = named_of c.args.named.now in let made = arch_of c.in_ok-parts.parts in let hs = map handler_of c.in_ok-handlers.handlers in
    file_clean raw c.requires.numbered made c.in_ok-parts.ensures hs (of_items named_item_of (handled made) _ _ (Ok hs) c.as_slice.ensures c.in_ok-handlers.ensures)

pub returns-clause-checked : goal.returns-clause-checked
returns-clause-checked c =
    let raw = named_of c.args.named.now in let made = arch_of c.in_ok-parts.parts in let hs = map handler_of c.in_ok-handlers.handlers in
    subst (IsChecked raw) (sym c.new.ensures)
    (file_checked raw c.requires.numbered made c.in_ok-parts.ensures hs (of_items named_item_of (handled made) _ _ (Ok hs) c.as_slice.ensures c.in_ok-handlers.ensures))

pub returns-clause-typed : goal.returns-clause-typed
returns-clause-typed c =
    let raw = named_of c.args.named.now in let made = arch_of c.in_ok-parts.parts in let hs = map handler_of c.in_ok-handlers.handlers in
    subst IsTyped (sym c.new.ensures)
    (typed raw (with_handlers made hs) c.requires.numbered
    (file_checked raw c.requires.numbered made c.in_ok-parts.ensures hs (of_items named_item_of (handled made) _ _ (Ok hs) c.as_slice.ensures c.in_ok-handlers.ensures)))
