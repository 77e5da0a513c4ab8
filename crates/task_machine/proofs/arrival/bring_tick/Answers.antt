use Rattle.std.proofs.Common.{drop, slice_index_or, ◌≡◌, ◌+◌, ◌<◌, ◌≤◌, length, ap, sym, ◌∙◌, slice_get, Some, arith, true, false, inl, inr}
use Rattle.std.specs.Prelude.{fold}
use Rattle.std.proofs.lemmas.Bool.{cases_eq}
use Rattle.tower_syntax.specs.declared.arch.SourceKind.TheVariants as kind
use Rattle.tower_syntax.specs.Arrival.{is_due}
use Rattle.task_code.specs.Machine.{Machine, bring}
use Rattle.task_machine.specs.Brought.{with_queues, kind_in, tick_messages}
use Rattle.task_machine.proofs.Lists.{get_at, get_within}
use Rattle.task_machine.proofs.Brought.{due_step, not_due_step, index_any}
use Rattle.task_machine.proofs.arrival.bring_tick.Goals as goal
use Rattle.task_machine.proofs.arrival.bring_tick.Goals.{then-is_due, else-is_due}

pub bring-requires-clause-room : goal.bring-requires-clause-room
bring-requires-clause-room c = λ q e.
    let x = c.loop-x.x in
    let kinds = c.args.kinds.now in
    let within : x < length kinds = c.loop-x-test.true in
    let at = get_at kinds x kind.Init within in
    let same : slice_index_or kinds x kind.Init ≡ kind_in kinds x = index_any kinds x kind.Init kind.Signal within in
    let due : is_due c.args.k (kind_in kinds x) ≡ true = rw same at (sym c.if-is_due.ensures) in
    c.requires.room x q (sym (c.loop-x.invariant.ahead x (omega arith)) ∙ e) due

pub loop-x-preserved : goal.loop-x-preserved
loop-x-preserved c =
    let x = c.loop-x.x in
    let kinds = c.args.kinds.now in
    let within : x < length kinds = c.loop-x-test.true in
    let at = get_at kinds x kind.Init within in
    let same : slice_index_or kinds x kind.Init ≡ kind_in kinds x = index_any kinds x kind.Init kind.Signal within in
    let old = c.loop-x.queues.items in
    let inv = c.loop-x.invariant in
    elim c.if-is_due.branch [
      | then-is_due w ↦
          let new = w.bring.new.queues.items in
          let due : is_due c.args.k (slice_index_or kinds x kind.Init) ≡ true = sym w.if-is_due.ensures in
          let due_in : is_due c.args.k (kind_in kinds x) ≡ true = rw same at due in
          let comes = w.bring.ensures.machine in
          let is = w.bring.ensures.brought in
          rw w.queues-is (record {
            machine = λ m. ap (λ (s : Machine). fold (bring c.args.depths.now) s (tick_messages (drop (x + 1) kinds) c.args.k (x + 1))) (comes m)
                ∙ sym (due_step c.args.depths.now kinds c.args.k x (slice_index_or kinds x kind.Init) at due (with_queues m old)) ∙ inv.machine m;
            brought = λ y q r below e f d. elim (cases_eq y x) [
              | inl here ↦
                  let e' : slice_get old x ≡ Some q = inv.ahead x (omega arith) ∙ rw here at e in
                  let g : slice_get new x ≡ Some r = rw here at f in
                  rw here (is q r e' g)
              | inr other ↦ inv.brought y q r (omega arith) e (sym (w.bring.ensures.others y other) ∙ f) d
            ];
            passed = λ y d. elim (cases_eq y x) [
              | inl here ↦ let a : is_due c.args.k (kind_in kinds x) ≡ false = rw here at d in let b : true ≡ false = sym due_in ∙ a in cc
              | inr other ↦ w.bring.ensures.others y other ∙ inv.passed y d
            ];
            ahead = λ y le. w.bring.ensures.others y (λ here. absurd (omega (arith, le, here))) ∙ inv.ahead y (omega (arith, le));
            count = w.bring.ensures.count ∙ inv.count;
          })
      | else-is_due w ↦
          let due : is_due c.args.k (slice_index_or kinds x kind.Init) ≡ false = sym w.if-is_due.ensures in
          let due_in : is_due c.args.k (kind_in kinds x) ≡ false = rw same at due in
          rw w.queues-is (record {
            machine = λ m. sym (not_due_step c.args.depths.now kinds c.args.k x (slice_index_or kinds x kind.Init) at due (with_queues m old)) ∙ inv.machine m;
            brought = λ y q r below e f d. elim (cases_eq y x) [
              | inl here ↦ let a : is_due c.args.k (kind_in kinds x) ≡ true = rw here at d in let b : true ≡ false = sym a ∙ due_in in cc
              | inr other ↦ inv.brought y q r (omega arith) e f d
            ];
            passed = inv.passed;
            ahead = λ y le. inv.ahead y (omega (arith, le));
            count = inv.count;
          })
    ]

pub returns-clause-brought : goal.returns-clause-brought
returns-clause-brought c = λ x q r e f due.
    let within = get_within c.args.queues.now.items x q e in
    let last : length c.args.kinds.now ≤ c.loop-x.x = c.loop-x-test.false in
    let below : x < c.loop-x.x = omega (arith, within, last, c.requires.sources) in
    c.loop-x.invariant.brought x q r below e f due
