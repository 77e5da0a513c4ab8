use Rattle.lock_reduction.proofs.laws.wrong_programs_are_refused.Goals as goal
use Rattle.lock_reduction.proofs.Wrong as wrong

pub returns-clause-never_locks : goal.returns-clause-never_locks
returns-clause-never_locks c = wrong.no_lock

pub returns-clause-reads_before_lock : goal.returns-clause-reads_before_lock
returns-clause-reads_before_lock c = wrong.early_read

pub returns-clause-stores_after_unlock : goal.returns-clause-stores_after_unlock
returns-clause-stores_after_unlock c = wrong.late_store

pub returns-clause-locks_twice : goal.returns-clause-locks_twice
returns-clause-locks_twice c = wrong.second_lock

pub returns-clause-delivers_before_unlock : goal.returns-clause-delivers_before_unlock
returns-clause-delivers_before_unlock c = wrong.early_delivery

pub returns-clause-delivers_in_reverse : goal.returns-clause-delivers_in_reverse
returns-clause-delivers_in_reverse c = wrong.reversed_delivery

pub returns-clause-spins : goal.returns-clause-spins
returns-clause-spins c = wrong.spinning

pub returns-clause-emits_past_buffer : goal.returns-clause-emits_past_buffer
returns-clause-emits_past_buffer c = wrong.bare_delivery

pub returns-clause-locks_another : goal.returns-clause-locks_another
returns-clause-locks_another c = wrong.other_lock

pub returns-clause-adds_two : goal.returns-clause-adds_two
returns-clause-adds_two c = wrong.greater_sum

pub returns-clause-drops : goal.returns-clause-drops
returns-clause-drops c = wrong.dropped

pub returns-clause-tells_twice : goal.returns-clause-tells_twice
returns-clause-tells_twice c = wrong.third_output
