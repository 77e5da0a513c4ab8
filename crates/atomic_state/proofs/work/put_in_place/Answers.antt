use Rattle.std.proofs.Common.{◌≡◌, ◌∙◌, ◌++◌, ◌-◌, suc, length, map, ap, arith}
use Rattle.atomic_state.specs.Items.{item_of}
use Rattle.atomic_state.specs.StateView.{pending_of}
use Rattle.atomic_state.proofs.Working.{dropped}
use Rattle.atomic_state.proofs.work.put_in_place.Goals as goal

pub returns : goal.returns
returns c =
    let n : length c.args.pending.now.items ≡ suc (c.len.result - 1) = omega (arith, c.len.ensures, c.requires.some) in
    c.push_all.ensures ∙ ap (λ l. map item_of c.args.items.items ++ l) (ap pending_of c.truncate.ensures.items ∙ dropped c.args.pending.now.items (c.len.result - 1) n)
