use Rattle.std.proofs.Common.{sym, subst}
use Rattle.tower_sexp.specs.Pieces.{Splits}
use Rattle.tower_sexp.proofs.Splitting.{splits_are, text_splits}
use Rattle.tower_sexp.proofs.laws.marks_law.Goals as goal

pub returns : goal.returns
returns c = λ bs ms. (λ s. splits_are s, λ e. subst (Splits 0 bs) (sym e) (text_splits bs))
