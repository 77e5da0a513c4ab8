use Rattle.std.proofs.Common.{◌∙◌, ap, sym}
use Rattle.std.proofs.lemmas.Result.{IfOk-weaker, IfErr-weaker}
use Rattle.task_listing.specs.Listing.{listing}
use Rattle.task_listing.proofs.Readings.{is_read, read_back}
use Rattle.task_listing.proofs.Verdicts.{none_is_faultless, is_told}
use Rattle.task_listing.proofs.listings.read.Goals as goal

pub returns-clause-program : goal.returns-clause-program
returns-clause-program c = IfOk-weaker c.read_lines.result _ _ (λ p w. (is_read c.args.text.now w.0 w.1).same ∙ ap listing (sym w.2)) c.read_lines.ensures.program

pub returns-clause-none : goal.returns-clause-none
returns-clause-none c = IfOk-weaker c.read_lines.result _ _ (λ p w. none_is_faultless c.args.text.now w.0 w.1) c.read_lines.ensures.program

pub returns-clause-fault : goal.returns-clause-fault
returns-clause-fault c = IfErr-weaker c.read_lines.result _ _ (λ f w. is_told c.args.text.now f w) c.read_lines.ensures.fault

pub returns-clause-back : goal.returns-clause-back
returns-clause-back c = read_back c.args.text.now c.read_lines.result c.read_lines.ensures.program c.read_lines.ensures.fault
