use Rattle.tower_syntax.specs.RawView.{raw_of}
use Rattle.arch_names.proofs.Whole.{fault_exit, first_exit, clean_is, linked_is}
use Rattle.arch_names.proofs.resolving.resolve.Goals as goal

pub returns-in_err-named-clause-fault : goal.returns-in_err-named-clause-fault
returns-in_err-named-clause-fault c = fault_exit (raw_of c.args.raw.now) _ _ c.from_residual.ensures.1 c.in_err-named.ensures.err

pub returns-in_err-named-clause-first : goal.returns-in_err-named-clause-first
returns-in_err-named-clause-first c = first_exit (raw_of c.args.raw.now) _ _ c.from_residual.ensures.1 c.in_err-named.ensures.err

pub returns-clause-clean : goal.returns-clause-clean
returns-clause-clean c = clean_is (raw_of c.args.raw.now) c.in_ok-named.ensures.ok.0

pub returns-clause-linked : goal.returns-clause-linked
returns-clause-linked c = linked_is (raw_of c.args.raw.now) _ c.in_ok-named.ensures.ok.0 c.in_ok-named.ensures.ok.1
