use Rattle.std.proofs.Common.{◌<◌, ℕ, length, ap, sym, ◌∙◌, subst}
use Rattle.tower_run.proofs.Busy.{busy_length, within}
use Rattle.tower_run.proofs.waits.is_wait.Goals as goal

pub name_among-requires-clause-given : goal.name_among-requires-clause-given
name_among-requires-clause-given c =
    let m = c.args.machine.now in
    ap length (c.as_slice.ensures.value ∙ c.note_busy.ensures) ∙ busy_length m ∙ sym c.requires.rule

pub waits_for_lock-requires : goal.waits_for_lock-requires
waits_for_lock-requires c =
    let m = c.args.machine.now in
    let L : ℕ → Type 0 = λ n. c.in-Some.x < n in
    subst L (ap length (c.as_slice.ensures.value ∙ c.note_busy.ensures) ∙ busy_length m)
    (within c.args.job.now.rule c.as_slice.result.now c.holds.result.now c.args.k c.in-Some.x (sym c.in-Some.ensures))

pub returns-in-Some-clause-busy : goal.returns-in-Some-clause-busy
returns-in-Some-clause-busy c = ap length c.note_busy.ensures ∙ busy_length c.args.machine.now ∙ sym c.requires.busy

pub returns-in-None-clause-busy : goal.returns-in-None-clause-busy
returns-in-None-clause-busy c = ap length c.note_busy.ensures ∙ busy_length c.args.machine.now ∙ sym c.requires.busy
