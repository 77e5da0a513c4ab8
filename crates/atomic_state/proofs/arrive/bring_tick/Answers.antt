use Rattle.std.proofs.Common.{◌≡◌, ◌∙◌, ◌<◌, length, ap, sym, arith, refl}
use Rattle.tower_syntax.specs.declared.arch.SourceKind.TheVariants as kind
use Rattle.tower_meaning.specs.Atomic.{bring}
use Rattle.atomic_state.specs.Queues.{with_queues}
use Rattle.atomic_state.proofs.Arrived.{one_due, one_not_due, all_due}
use Rattle.atomic_state.proofs.arrive.bring_tick.Goals as goal
use Rattle.atomic_state.proofs.arrive.bring_tick.Goals.{then-is_due, else-is_due}

pub bring-requires-clause-source : goal.bring-requires-clause-source
bring-requires-clause-source c = omega (arith, c.loop-x.invariant.count, c.requires.sources)

pub bring-requires-clause-room : goal.bring-requires-clause-room
bring-requires-clause-room c = λ q e. c.requires.room c.loop-x.x q (sym (c.loop-x.invariant.ahead c.loop-x.x (omega arith)) ∙ e)

pub loop-x-preserved : goal.loop-x-preserved
loop-x-preserved c =
    let x = c.loop-x.x in
    let inv = c.loop-x.invariant in
    elim c.if-is_due.branch [
      | then-is_due w ↦
          rw w.queues-is (record {
            brought = one_due c.args.depths.now c.args.kinds.now c.args.k x c.args.queues.now.items c.loop-x.queues.items w.bring.new.queues.items _ kind.Init c.loop-x-test.true refl (sym w.if-is_due.ensures)
                (λ system s same. w.bring.ensures.state system s same ∙ ap (λ v. bring system (with_queues s c.loop-x.queues.items) (x, v)) w.number.ensures) inv.brought;
            ahead = λ y le. w.bring.ensures.others y (λ here. absurd (omega (arith, le, here))) ∙ inv.ahead y (omega (arith, le));
            count = w.bring.ensures.count ∙ inv.count;
          })
      | else-is_due w ↦
          rw w.queues-is (record {
            brought = one_not_due c.args.depths.now c.args.kinds.now c.args.k x c.args.queues.now.items c.loop-x.queues.items _ kind.Init c.loop-x-test.true refl (sym w.if-is_due.ensures) inv.brought;
            ahead = λ y le. inv.ahead y (omega (arith, le));
            count = inv.count;
          })
    ]

pub returns : goal.returns
returns c =
    let end : c.loop-x.x ≡ length c.args.kinds.now = omega arith in
    all_due c.args.depths.now c.args.kinds.now c.args.k c.loop-x.x c.args.queues.now.items c.loop-x.queues.items end c.loop-x.invariant.brought
