-- An accepted system is in the order of its file.
use Rattle.std.proofs.Common.{subst}
use Rattle.arch_types.specs.File.{IsChecked}
use Rattle.arch_types.proofs.InOrder.{in_file_order}
use Rattle.arch_checks.specs.Laws.{SystemsAreInFileOrder}
use Rattle.arch_checks.proofs.Trees.{named_once}

pub system_in_order : SystemsAreInFileOrder
system_in_order bs named arch is accepted =
    let s = accepted.system in
    in_file_order named arch (subst (λ t. IsChecked t arch) (named_once bs s.named named s.is is) s.checked)
