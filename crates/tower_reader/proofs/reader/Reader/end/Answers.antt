use Rattle.std.proofs.Common.{◌<◌, [], sym, subst, ap, ◌∙◌, arith, Err, vec_len, vec_capacity}
use Rattle.std.proofs.lemmas.Bool.{false≢true}
use Rattle.tower_sexp.specs.WholeTokens.{EndsInAtom}
use Rattle.tower_reader.specs.Machine.{run}
use Rattle.tower_reader.specs.View.{frames_of}
use Rattle.tower_reader.specs.Verdict.{verdict, Fails}
use Rattle.tower_reader.proofs.Standing.{reads_on, token_verdict, token_told, end_verdict, end_gives, end_file}
use Rattle.tower_reader.proofs.reader.Reader.end.Goals as goal

pub returns-in-Err-clause-gives : goal.returns-in-Err-clause-gives
returns-in-Err-clause-gives c = λ bs h. subst (λ f. Fails f (verdict bs)) (sym c.fault_of.ensures) (token_verdict c.args.self bs _ c.requires h c.in-Err.ensures.fault)

pub returns-in-Err-clause-told : goal.returns-in-Err-clause-told
returns-in-Err-clause-told c = λ bs f h v.
    let t = reads_on c.args.self bs c.requires h in
    let room : vec_len c.clear.new.self < vec_capacity c.clear.new.self = omega (arith, c.clear.ensures.len, c.clear.ensures.capacity, t.room) in
    ap Err (c.fault_of.ensures ∙ token_told c.args.self bs _ f c.requires h c.in-Err.ensures.fault (λ n. c.in-Err.ensures.room bs t.lexer room (ap Err n)) v)

pub returns-in_err-read_tokens-in-Ok-clause-told : goal.returns-in_err-read_tokens-in-Ok-clause-told
returns-in_err-read_tokens-in-Ok-clause-told c = λ bs f h v.
    let file = end_file c.args.self bs _ _ c.requires h c.in-Ok.ensures.ok c.clear.ensures.items c.in-Ok.ensures.last in
    let ends : EndsInAtom [] c.finish.new.out.items = subst (λ ts. EndsInAtom ts c.finish.new.out.items) c.clear.ensures.items c.in-Ok.ensures.last in
    absurd (false≢true (c.in_err-read_tokens-in-Ok.ensures.told (subst (EndsInAtom []) (sym c.as_slice.ensures.value) ends) file))

pub returns-in_ok-read_tokens-in-Ok-clause-gives : goal.returns-in_ok-read_tokens-in-Ok-clause-gives
returns-in_ok-read_tokens-in-Ok-clause-gives c = λ bs h.
    let fs = c.in_ok-read_tokens-in-Ok.ensures.read ∙ ap (λ ts. run ts (frames_of c.args.self.lists)) c.as_slice.ensures.value in
    end_gives c.args.self bs _ _ _ _ c.requires h c.in-Ok.ensures.ok c.clear.ensures.items fs c.finish-in-Ok.ensures.gives

pub returns-in_ok-read_tokens-in-Ok-clause-told : goal.returns-in_ok-read_tokens-in-Ok-clause-told
returns-in_ok-read_tokens-in-Ok-clause-told c = λ bs f h v.
    let fs = c.in_ok-read_tokens-in-Ok.ensures.read ∙ ap (λ ts. run ts (frames_of c.args.self.lists)) c.as_slice.ensures.value in
    c.finish-in-Ok.ensures.told f (sym (end_verdict c.args.self bs _ _ _ c.requires h c.in-Ok.ensures.ok c.clear.ensures.items fs) ∙ v)
