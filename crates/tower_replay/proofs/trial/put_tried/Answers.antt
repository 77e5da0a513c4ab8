use Rattle.std.proofs.Common.{subst, sym}
use Rattle.tower_replay.specs.Pieces.{verdict_text}
use Rattle.tower_replay.specs.declared.trial.Replayed.{Replayed}
use Rattle.tower_replay.specs.Trial.{PutsTried}
use Rattle.tower_replay.proofs.Ended.{flushed, failed}
use Rattle.tower_replay.proofs.trial.put_tried.Goals as goal

pub returns-in-Done : goal.returns-in-Done
returns-in-Done g c =
    let w = g.O.Sink.written in
    let f = g.O.Sink.faults in
    let t = c.args.tried.now in
    let text = verdict_text c.args.arch.now t.verdict in
    let P : Replayed → Type 0 = λ r. PutsTried w f c.args.out.now c.flush.new.out text t.verdict.misfit r in
    subst P (sym c.answer.ensures)
    (flushed w f c.args.out.now c.put_verdict-put.new.out c.put_verdict-put.new.page.held t.page.held text c.requires.empty t.verdict.misfit c.flush.new.out c.flush.result c.in-Done.ensures c.flush.ensures.puts)

pub returns-in-Failed : goal.returns-in-Failed
returns-in-Failed g c =
    let w = g.O.Sink.written in
    let f = g.O.Sink.faults in
    let t = c.args.tried.now in
    failed w f c.args.out.now c.put_verdict-put.new.out c.put_verdict-put.new.page.held t.page.held (verdict_text c.args.arch.now t.verdict) c.requires.empty t.verdict.misfit c.in-Failed.ensures
