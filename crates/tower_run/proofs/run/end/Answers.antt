use Rattle.std.proofs.Common.{ℕ, List, Option, sym, ap, ◌∙◌, subst}
use Rattle.tower_io.specs.declared.answers.Put.TheVariants as put
use Rattle.tower_report.specs.EndText.{Tally, end_text}
use Rattle.tower_run.specs.declared.run.Ran.{Ran}
use Rattle.tower_run.specs.Paging.{PutsOver}
use Rattle.tower_run.specs.Ending.{Ended}
use Rattle.tower_run.proofs.Ends.{ended, ended_failed}
use Rattle.tower_run.proofs.run.end.Goals as goal

abbrev of : ℕ → Option ℕ → List ℕ → Tally
of n v cs = record { count = n; waits = v; cores = cs }

pub returns-in-Done : goal.returns-in-Done
returns-in-Done g c = λ d s first told.
    let w = g.O.Sink.written in
    let f = g.O.Sink.faults in
    let j = c.args.job.now in
    let r = c.args.run.now in
    let P : Tally → Type 0 = λ t. PutsOver w f c.args.out.now r.page.held c.put_ending.new.out c.put_ending.new.page.held (end_text j.arch.now r.machine.machine t c.args.stopped) put.Done in
    let E : Ran → Type 0 = λ a. Ended w f d s first c.flush.new.out a in
    subst E (sym c.answer.ensures)
    (ended w f d s c.args.stopped first j r c.args.out.now told c.put_ending.new.out c.put_ending.new.page.held c.flush.new.out c.flush.result
    (subst P (ap (λ v. of r.count v c.as_slice.result.now) c.waits_of.ensures ∙ ap (of r.count _) c.as_slice.ensures.value) c.in-Done.ensures) c.flush.ensures.puts)

pub returns-in-Failed : goal.returns-in-Failed
returns-in-Failed g c = λ d s first told.
    let w = g.O.Sink.written in
    let f = g.O.Sink.faults in
    let j = c.args.job.now in
    let r = c.args.run.now in
    let P : Tally → Type 0 = λ t. PutsOver w f c.args.out.now r.page.held c.put_ending.new.out c.put_ending.new.page.held (end_text j.arch.now r.machine.machine t c.args.stopped) put.Failed in
    ended_failed w f d s c.args.stopped first j r c.args.out.now told c.put_ending.new.out c.put_ending.new.page.held
    (subst P (ap (λ v. of r.count v c.as_slice.result.now) c.waits_of.ensures ∙ ap (of r.count _) c.as_slice.ensures.value) c.in-Failed.ensures)
