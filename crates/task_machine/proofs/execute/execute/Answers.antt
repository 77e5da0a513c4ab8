use Rattle.std.proofs.Common.{◌∙◌, subst}
use Rattle.task_code.specs.Rules.{IsInstr}
use Rattle.task_code.specs.declared.program.Instr.{Instr}
use Rattle.task_machine.proofs.execute.execute.Goals as goal

pub returns-in-Push-clause-within : goal.returns-in-Push-clause-within
returns-in-Push-clause-within c =
    c.private.ensures.within c.args.program.now c.args.task.now

pub returns-in-Drop-clause-within : goal.returns-in-Drop-clause-within
returns-in-Drop-clause-within c =
    c.private-in-Drop.ensures.within c.args.program.now c.args.task.now

pub returns-in-Dup-clause-within : goal.returns-in-Dup-clause-within
returns-in-Dup-clause-within c =
    c.private-in-Dup.ensures.within c.args.program.now c.args.task.now

pub returns-in-Ld-clause-within : goal.returns-in-Ld-clause-within
returns-in-Ld-clause-within c =
    c.private-in-Ld.ensures.within c.args.program.now c.args.task.now

pub returns-in-St-clause-within : goal.returns-in-St-clause-within
returns-in-St-clause-within c =
    c.private-in-St.ensures.within c.args.program.now c.args.task.now

pub returns-in-Ldx-clause-within : goal.returns-in-Ldx-clause-within
returns-in-Ldx-clause-within c =
    c.private-in-Ldx.ensures.within c.args.program.now c.args.task.now

pub returns-in-Stx-clause-within : goal.returns-in-Stx-clause-within
returns-in-Stx-clause-within c =
    c.private-in-Stx.ensures.within c.args.program.now c.args.task.now

pub returns-in-Ldm-clause-within : goal.returns-in-Ldm-clause-within
returns-in-Ldm-clause-within c =
    c.private-in-Ldm.ensures.within c.args.program.now c.args.task.now

pub returns-in-Stm-clause-within : goal.returns-in-Stm-clause-within
returns-in-Stm-clause-within c =
    c.private-in-Stm.ensures.within c.args.program.now c.args.task.now

pub returns-in-Un-clause-within : goal.returns-in-Un-clause-within
returns-in-Un-clause-within c =
    c.private-in-Un.ensures.within c.args.program.now c.args.task.now

pub returns-in-Bin-clause-within : goal.returns-in-Bin-clause-within
returns-in-Bin-clause-within c =
    c.private-in-Bin.ensures.within c.args.program.now c.args.task.now

pub returns-in-Cast-clause-within : goal.returns-in-Cast-clause-within
returns-in-Cast-clause-within c =
    c.private-in-Cast.ensures.within c.args.program.now c.args.task.now

pub returns-in-Jz-clause-within : goal.returns-in-Jz-clause-within
returns-in-Jz-clause-within c =
    c.private-in-Jz.ensures.within c.args.program.now c.args.task.now

pub returns-in-Call-clause-within : goal.returns-in-Call-clause-within
returns-in-Call-clause-within c =
    c.private-in-Call.ensures.within c.args.program.now c.args.task.now

pub returns-in-Ret-clause-within : goal.returns-in-Ret-clause-within
returns-in-Ret-clause-within c =
    c.private-in-Ret.ensures.within c.args.program.now c.args.task.now

pub returns-in-Bclr-clause-within : goal.returns-in-Bclr-clause-within
returns-in-Bclr-clause-within c =
    c.private-in-Bclr.ensures.within c.args.program.now c.args.task.now

pub returns-in-Bput-clause-within : goal.returns-in-Bput-clause-within
returns-in-Bput-clause-within c =
    c.private-in-Bput.ensures.within c.args.program.now c.args.task.now

pub returns-in-Badd-clause-within : goal.returns-in-Badd-clause-within
returns-in-Badd-clause-within c =
    c.private-in-Badd.ensures.within c.args.program.now c.args.task.now

pub returns-in-Bget-clause-within : goal.returns-in-Bget-clause-within
returns-in-Bget-clause-within c =
    c.private-in-Bget.ensures.within c.args.program.now c.args.task.now

pub returns-in-Bcnt-clause-within : goal.returns-in-Bcnt-clause-within
returns-in-Bcnt-clause-within c =
    c.private-in-Bcnt.ensures.within c.args.program.now c.args.task.now

pub returns-in-Take-clause-within : goal.returns-in-Take-clause-within
returns-in-Take-clause-within c =
    let P : Instr → Type 0 = IsInstr c.args.program.now c.args.task.now in
    c.take.ensures.within c.args.program.now c.args.task.now (subst P c.in-Take.is c.requires)

pub returns-in-Lock-clause-within : goal.returns-in-Lock-clause-within
returns-in-Lock-clause-within c =
    let P : Instr → Type 0 = IsInstr c.args.program.now c.args.task.now in
    c.lock.ensures.within c.args.program.now c.args.task.now (subst P c.in-Lock.is c.requires)

pub returns-in-Out-clause-within : goal.returns-in-Out-clause-within
returns-in-Out-clause-within c =
    let P : Instr → Type 0 = IsInstr c.args.program.now c.args.task.now in
    let is = subst P c.in-Out.is c.requires in
    c.out.ensures.within c.args.program.now c.args.task.now is.0

pub returns-in-Bput-clause-effect : goal.returns-in-Bput-clause-effect
returns-in-Bput-clause-effect c =
    let e = rw c.as_slice-buffers.ensures at c.fill.ensures.effect in
    c.private-in-Bput.ensures.effect ∙ rw c.in-Bput.is e

pub returns-in-Bget-clause-effect : goal.returns-in-Bget-clause-effect
returns-in-Bget-clause-effect c =
    let e = rw c.as_slice-buffers.ensures at c.read.ensures.effect in
    c.private-in-Bget.ensures.effect ∙ rw c.in-Bget.is e
