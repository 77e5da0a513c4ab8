use Rattle.std.proofs.Common.{◌≡◌, ◌+◌, ◌-◌, ◌^◌, min, get_or, sym, subst, List, ℕ}
use Rattle.tower_syntax.specs.WellNumbered.{IsNumberedOn}
use Rattle.channel_graph.proofs.Delivered.{joins_channel}
use Rattle.channel_graph.proofs.channels.add_subscriber.Goals as goal

pub returns-in-Channel-clause-joins : goal.returns-in-Channel-clause-joins
returns-in-Channel-clause-joins c =
    let below = subst (IsNumberedOn c.args.arch.now) (sym c.in-Channel.ensures) c.requires.numbered in
    let more = subst (λ (x : ℕ). c.saturating_add-more.result ≡ min (get_or c.args.moves.now c.in-Channel.c 0 + x) (2 ^ 64 - 1)) c.cost_of.ensures c.saturating_add-more.ensures in
    let total = subst (λ (xs : List ℕ). c.saturating_add-total.result ≡ min (get_or xs c.in-Channel.c 0 + c.saturating_add-more.result) (2 ^ 64 - 1)) c.as_slice.ensures c.saturating_add-total.ensures in
    joins_channel c.args.arch.now c.args.costs.now c.args.moves.now c.args.totals.now c.set.new.self c.args.listener c.in-Channel.c c.saturating_add-more.result c.saturating_add-total.result
    c.requires.moves c.requires.exists below c.in-Channel.ensures more total c.set.ensures
