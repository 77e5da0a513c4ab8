use Rattle.std.proofs.Common.{◌≡◌, ◌+◌, [], ◌∷◌, length, pos, refl, rules}
use Rattle.tower_types.specs.declared.scalar.Scalar.TheVariants.{U64}
use Rattle.tower_types.specs.declared.scalar.BinOp.TheVariants.{Add, Less}
use Rattle.task_code.specs.declared.program.Instr.TheVariants.{Push, Ld, St, Bin, Jmp, Jz, Bcnt}
use Rattle.emit_code.specs.Framed.{entries_in}
use Rattle.emit_code.proofs.Added.{emitter_added}
use Rattle.emit_code.proofs.delivery.add_emitter.Goals as goal

pub returns-clause-ok : goal.returns-clause-ok
returns-clause-ok c =
    let out = c.args.out in
    let i = out.counter in
    let turn = c.in_ok-turn.turn in
    let exit = c.in_ok-exit.exit in
    let back : turn ≡ length c.args.code.now + 2 = search rules in
    emitter_added (entries_in c.args.frames.now) i out.buffer out.scratch out.width (length c.args.code.now) turn exit c.args.listeners.now
    c.args.code.now c.add_all.new.code c.add_items.new.code c.add_all-2.new.code
    (Push (pos 0) ∷ St i ∷ Ld i ∷ Bcnt out.buffer ∷ Bin Less U64 ∷ Jz exit ∷ [])
    (Ld i ∷ Push (pos 1) ∷ Bin Add U64 ∷ St i ∷ Jmp turn ∷ [])
    back c.in_ok-exit.ensures c.in_ok-add_all.ensures.ok c.in_ok-add_items.ensures.ok c.in_ok-add_all-2.ensures.ok refl refl
