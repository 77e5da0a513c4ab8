-- A text has at most one tree, one linked tree and one system.
use Rattle.std.proofs.Common.{◌≡◌, ℕ, List, subst}
use Rattle.tower_syntax.specs.RawTree.{Link, Raw}
use Rattle.tower_syntax.specs.Arch.{Arch}
use Rattle.tower_reader.proofs.Verdicts.{one_tree}
use Rattle.arch_names.specs.Resolved.{IsLinked}
use Rattle.arch_names.proofs.Once.{linked_once}
use Rattle.arch_types.specs.File.{IsChecked}
use Rattle.arch_types.specs.Numbered.{IsNumbered}
use Rattle.arch_types.proofs.SoundOnce.{determined}
use Rattle.arch_order.proofs.Handlers.{numbered}
use Rattle.arch_checks.specs.Offences.{IsNamed, IsSystem}

pub named_once : (bs : List ℕ) (t u : Raw Link) → IsNamed bs t → IsNamed bs u → t ≡ u
named_once bs t u h k = linked_once h.raw t u h.linked (subst (λ r. IsLinked r u) (one_tree bs k.raw h.raw k.spelled h.spelled) k.linked)

pub named_numbered : (bs : List ℕ) (t : Raw Link) → IsNamed bs t → IsNumbered t
named_numbered bs t h = numbered bs h.raw t h.spelled h.linked

pub system_once : (bs : List ℕ) (a b : Arch) → IsSystem bs a → IsSystem bs b → a ≡ b
system_once bs a b h k =
    determined h.named a b (named_numbered bs h.named h.is) h.checked (subst (λ n. IsChecked n b) (named_once bs k.named h.named k.is h.is) k.checked)
