use Rattle.std.proofs.Common.{◌++◌, [], ◌∷◌, ap, sym, ◌∙◌}
use Rattle.channel_graph.proofs.Roughly.{undone, covers_change}
use Rattle.channel_graph.proofs.rough.Counts.undo.Goals as goal

pub returns-in_ok-push-clause-back : goal.returns-in_ok-push-clause-back
returns-in_ok-push-clause-back c mid place total made =
    let last = c.in-Some.change in
    undone place total mid c.args.self.now c.write.new.self last made (c.in-Some.ensures ∙ ap (λ ns. ns ++ last ∷ []) (sym c.write.ensures.log)) c.write.ensures.totals

pub returns-in_ok-push-clause-peaks : goal.returns-in_ok-push-clause-peaks
returns-in_ok-push-clause-peaks c =
    covers_change c.args.self.now.totals c.write.new.self.totals c.args.peaks.now c.push.new.self (record { place = c.in-Some.change.place; total = c.total-total.result }) c.in-Some.change.total c.total-total.ensures c.write.ensures.totals c.in_ok-push.ensures.ok
