use Rattle.tower_sexp.proofs.Firsts.{computed_is_fault, fault_is_computed, wrong_is_fault, fault_is_wrong, computed_is_faultless, faultless_is_computed}
use Rattle.tower_sexp.proofs.laws.fault_law.Goals as goal

pub returns-clause-fault : goal.returns-clause-fault
returns-clause-fault c = λ bs f. (computed_is_fault bs f, fault_is_computed bs f)

pub returns-clause-wrong : goal.returns-clause-wrong
returns-clause-wrong c = λ bs f. (wrong_is_fault bs f, λ h. fault_is_wrong bs f h.0 h.1)

pub returns-clause-faultless : goal.returns-clause-faultless
returns-clause-faultless c = λ bs. (computed_is_faultless bs, faultless_is_computed bs)
