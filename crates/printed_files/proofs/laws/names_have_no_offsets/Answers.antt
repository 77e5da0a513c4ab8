use Rattle.printed_files.proofs.FitClean.{fit_names_are_clean}
use Rattle.printed_files.proofs.NamesSame.{fit_has_no_offsets, links_have_no_offsets}
use Rattle.printed_files.proofs.laws.names_have_no_offsets.Goals as goal

pub returns-clause-clean : goal.returns-clause-clean
returns-clause-clean c = fit_names_are_clean

pub returns-clause-fit : goal.returns-clause-fit
returns-clause-fit c = fit_has_no_offsets

pub returns-clause-links : goal.returns-clause-links
returns-clause-links c = links_have_no_offsets
