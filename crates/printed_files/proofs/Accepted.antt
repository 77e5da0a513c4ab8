-- The line of a file that is right apart from its offsets is accepted.
use Rattle.std.proofs.Common.{◌≡◌, ℕ, ◌<◌, List, length, Some, None, refl, sym, ap, subst, ◌∙◌, arith}
use Rattle.std.proofs.lemmas.Option.{none-some}
use Rattle.tower_syntax.specs.RawTree.{Id, Link, Raw}
use Rattle.tower_syntax.specs.Arch.{Arch}
use Rattle.tower_syntax.specs.Weights.{cost}
use Rattle.tower_syntax.specs.Form.{text}
use Rattle.tower_syntax.specs.Printed.{raw_form}
use Rattle.tower_reader.specs.Spelled.{Spells}
use Rattle.tower_reader.specs.Alike.{IsAlike}
use Rattle.tower_reader.proofs.ReadsBack.{reads_back}
use Rattle.tower_reader.proofs.Verdicts.{one_tree}
use Rattle.tower_reader.proofs.Verdicts as reading
use Rattle.arch_names.specs.Resolved.{IsLinked}
use Rattle.arch_names.specs.Resolved as naming
use Rattle.arch_names.specs.Walk.{first}
use Rattle.arch_names.specs.Sites.{sites}
use Rattle.arch_names.specs.Linked.{linked}
use Rattle.arch_names.proofs.Whole.{clean_is}
use Rattle.arch_types.specs.Offence.{IsClean}
use Rattle.arch_types.specs.Outline.{outline, with_handlers}
use Rattle.arch_types.specs.File.{IsChecked}
use Rattle.arch_types.specs.File as typing
use Rattle.arch_types.proofs.FileRight.{file_clean, file_checked}
use Rattle.arch_order.proofs.InOrder.{names_ascend}
use Rattle.channel_graph.specs.Circuit.{shown}
use Rattle.channel_graph.specs.Over.{IsOver}
use Rattle.arch_checks.specs.declared.fault.Fault.{Fault}
use Rattle.arch_checks.specs.Limits.{work_limit}
use Rattle.arch_checks.specs.Sizes.{Counts}
use Rattle.arch_checks.specs.Offences.{IsNamed, IsSystem, Standing, Offends, reads, names, types, bound, cycle, size, work, IsAccepted}
use Rattle.arch_checks.proofs.Trees.{named_once, named_numbered, system_once}
use Rattle.printed_files.specs.Bare.{bare_raw}
use Rattle.printed_files.specs.Fit.{plainly, HasFitNames}
use Rattle.printed_files.specs.Right.{Makes, IsRight, RightFilesAreAccepted}
use Rattle.printed_files.proofs.FileSame.{outline_same, types_have_no_offsets}
use Rattle.printed_files.proofs.NamesSame.{fit_has_no_offsets, links_have_no_offsets}
use Rattle.printed_files.proofs.FitClean.{fit_names_are_clean}

module _ (r : Raw Id) (arch : Arch) (right : IsRight r arch) (s : Raw Id) (spelled : Spells (text (raw_form r)) s) (alike : IsAlike r s) where
  abbrev bs : List ℕ
  bs = text (raw_form r)

  fit : HasFitNames s
  fit = fit_has_no_offsets r s alike right.names

  no_fault : first (sites s) ≡ None
  no_fault = (fit_names_are_clean s (names_ascend bs s spelled) fit).0

  abbrev named : Raw Link
  named = linked plainly s

  links : bare_raw (linked plainly r) ≡ bare_raw named
  links = links_have_no_offsets r s alike

  is_named : IsNamed bs named
  is_named = record { raw = s; spelled = spelled; linked = (fit_names_are_clean s (names_ascend bs s spelled) fit).1 }

  made : Makes named arch.handlers
  made = types_have_no_offsets (linked plainly r) named arch.handlers links right.typed

  same_outline : outline (linked plainly r) ≡ outline named
  same_outline = outline_same (linked plainly r) ∙ ap outline links ∙ sym (outline_same named)

  types_clean : IsClean (typing.Offence named)
  types_clean = file_clean named (named_numbered bs named is_named) (outline named) refl arch.handlers made

  checked : IsChecked named arch
  checked = subst (IsChecked named) (ap (λ a. with_handlers a arch.handlers) (sym same_outline) ∙ sym right.outlined) (file_checked named (named_numbered bs named is_named) (outline named) refl arch.handlers made)

  system : IsSystem bs arch
  system = record { named = named; is = is_named; checked = checked }

  only : (a : Arch) → IsSystem bs a → a ≡ arch
  only a other = system_once bs a arch other system

  clean : (p : Standing) (f : Fault) → Offends bs p f → ⊥
  clean p f (reads g o) = reading.not_both bs s g spelled o
  clean p f (names raw g is o) = clean_is s no_fault g (subst (λ z. naming.Offences z g) (one_tree bs raw s is spelled) o)
  clean p f (types tree g is o) = types_clean g (subst (λ t. typing.Offence t g) (named_once bs tree named is is_named) o)
  clean p f (bound a h e is o) = right.bounded h e (subst (λ z. IsOver z h e) (only a is) o)
  clean p f (cycle a c is o) = none-some c (sym right.acyclic ∙ subst (λ z. shown z ≡ Some c) (only a is) o)
  clean p f (size a w n is counts l) = let m = right.within w n (subst (λ z. Counts z w n) (only a is) counts) in omega (arith, m, l)
  clean p f (work a k is l m) =
      let e = only a is in
      let c = right.cheap k (subst (λ z. k < length z.sources) e l) in
      let more = subst (λ z. work_limit < cost z k) e m in
      omega (arith, c, more)

  accepted : IsAccepted bs arch
  accepted = record { system = system; clean = clean }

pub right_files_are_accepted : RightFilesAreAccepted
right_files_are_accepted r arch right =
    let back = reads_back r right.printable right.short in
    accepted r arch right back.0 back.1 back.2
