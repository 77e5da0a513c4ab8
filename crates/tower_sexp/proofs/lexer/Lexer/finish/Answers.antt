use Rattle.std.proofs.Common.{ap, Err, rules}
use Rattle.tower_sexp.proofs.Firsts.{one_fault}
use Rattle.tower_sexp.proofs.Ends.{stopped_fault, has_memory, end_fault, no_fault, all_tokens, last_list, empty, not_empty}
use Rattle.tower_sexp.proofs.lexer.Lexer.finish.Goals as goal

pub returns-in-Some-clause-fault : goal.returns-in-Some-clause-fault
returns-in-Some-clause-fault c = λ _ bs h. stopped_fault c.args.self bs c.in-Some.fault c.in-Some.is h

pub returns-in-Some-clause-told : goal.returns-in-Some-clause-told
returns-in-Some-clause-told c = λ bs f h g. ap Err (one_fault bs _ f (stopped_fault c.args.self bs c.in-Some.fault c.in-Some.is h) g)

pub returns-in-Some-clause-room : goal.returns-in-Some-clause-room
returns-in-Some-clause-room c = λ bs h l e. has_memory c.args.self bs c.in-Some.fault c.in-Some.is h cc

pub returns-in-Some-pop-clause-fault : goal.returns-in-Some-pop-clause-fault
returns-in-Some-pop-clause-fault c = λ _ bs h. end_fault c.args.self bs _ c.in_default.is (last_list _ _ _ _ c.in-Some-pop.ensures) h

pub returns-in-Some-pop-clause-told : goal.returns-in-Some-pop-clause-told
returns-in-Some-pop-clause-told c = λ bs f h g. ap Err (one_fault bs _ f (end_fault c.args.self bs _ c.in_default.is (last_list _ _ _ _ c.in-Some-pop.ensures) h) g)

pub returns-then-has_no_token-clause-fault : goal.returns-then-has_no_token-clause-fault
returns-then-has_no_token-clause-fault c = λ _ bs h. end_fault c.args.self bs _ c.in_default.is (empty _ _ c.in_default-pop.ensures.0 (search rules)) h

pub returns-then-has_no_token-clause-told : goal.returns-then-has_no_token-clause-told
returns-then-has_no_token-clause-told c = λ bs f h g. ap Err (one_fault bs _ f (end_fault c.args.self bs _ c.in_default.is (empty _ _ c.in_default-pop.ensures.0 (search rules)) h) g)

pub returns-in_err-end_atom-clause-told : goal.returns-in_err-end_atom-clause-told
returns-in_err-end_atom-clause-told c = λ bs f h g. absurd (no_fault c.args.self bs c.in_default.is (not_empty _ _ c.in_default-pop.ensures.0 (search rules)) h f g.offends)

pub returns-clause-told : goal.returns-clause-told
returns-clause-told c = λ bs f h g. absurd (no_fault c.args.self bs c.in_default.is (not_empty _ _ c.in_default-pop.ensures.0 (search rules)) h f g.offends)

pub returns-clause-ok : goal.returns-clause-ok
returns-clause-ok c = λ bs h. (
  no_fault c.args.self bs c.in_default.is (not_empty _ _ c.in_default-pop.ensures.0 (search rules)) h,
  record { more = _; put = c.in_ok-end_atom.ensures.put; made = all_tokens c.args.self bs c.in_default.is h },
)
