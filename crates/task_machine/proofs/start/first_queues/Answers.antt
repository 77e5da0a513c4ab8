use Rattle.std.proofs.Common.{◌≡◌, ℕ, sym, ◌∙◌, subst, map, inl, inr, arith, length-append, slice_index_or}
use Rattle.tower_syntax.specs.declared.arch.SourceKind.TheVariants as kind
use Rattle.tower_syntax.specs.View.{entry_of}
use Rattle.task_machine.specs.Queue.{Queue}
use Rattle.task_machine.specs.Brought.{kind_in, depth_at}
use Rattle.task_machine.specs.Kept.{coming}
use Rattle.task_machine.specs.Start.{Starts}
use Rattle.task_machine.proofs.Lists.{get_push}
use Rattle.task_machine.proofs.Brought.{index_any}
use Rattle.task_machine.proofs.start.first_queues.Goals as goal

pub loop-x-preserved : goal.loop-x-preserved
loop-x-preserved c =
    let x = c.loop-x.x in
    let kinds = c.args.kinds.now in
    let depths = c.args.depths.now in
    let entries = map entry_of c.args.entries.now in
    let queue = c.in_ok-queue.queue in
    let Starting : ℕ → Queue → Type 0 = λ y q. Starts (kind_in kinds y) (depth_at depths y) (coming (kind_in kinds y) y 0 entries) q in
    let kind : slice_index_or kinds x kind.Init ≡ kind_in kinds x = index_any kinds x kind.Init kind.Signal c.loop-x-test.true in
    let starts : Starting x queue = rw (kind, c.depth_of.ensures) at c.in_ok-queue.ensures in
    rw c.in_ok-push.ensures.items (record {
      count = let n = c.loop-x.invariant.count in rw length-append (omega (arith, n));
      each = λ y q e. elim (get_push c.loop-x.queues.items queue y q e) [
        | inl f ↦ c.loop-x.invariant.each y q f
        | inr f ↦ subst (Starting y) f.1 (subst (λ (z : ℕ). Starting z queue) (sym (f.0 ∙ c.loop-x.invariant.count)) starts)
      ];
    })
