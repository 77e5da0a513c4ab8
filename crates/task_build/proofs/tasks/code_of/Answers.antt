use Rattle.std.proofs.Common.{◌≡◌, ◌∙◌, length, replicate, get_or, ap, sym, subst, arith}
use Rattle.std.proofs.lemmas.List.{get_or-replicate}
use Rattle.thread_split.specs.declared.plan.TaskPlan.{TaskPlan}
use Rattle.thread_split.proofs.Planned.{reached_below, plans_hold}
use Rattle.emit_code.specs.Framed.{entries_in}
use Rattle.task_build.specs.CodeOf.{frames_from}
use Rattle.task_build.specs.Tables.{entries_at, Agrees, head_of}
use Rattle.task_code.specs.Piece.{end}
use Rattle.task_build.proofs.Tabled.{replicate_length}
use Rattle.task_build.proofs.Same.{placed_count, code_is}
use Rattle.task_build.proofs.tasks.code_of.Goals as goal

pub table-requires-clause-below : goal.table-requires-clause-below
table-requires-clause-below c =
    reached_below c.args.arch.now c.args.plan.now.source c.as_slice-handlers.result.now c.requires.numbered.listeners (c.as_slice-handlers.ensures ∙ ap (λ (p : TaskPlan). p.handlers) c.requires.plan)

pub write_code-requires-clause-below : goal.write_code-requires-clause-below
write_code-requires-clause-below c =
    reached_below c.args.arch.now c.args.plan.now.source c.args.plan.now.handlers c.requires.numbered.listeners (ap (λ (p : TaskPlan). p.handlers) c.requires.plan)

pub table-requires-2-clause-below : goal.table-requires-2-clause-below
table-requires-2-clause-below c =
    reached_below c.args.arch.now c.args.plan.now.source c.as_slice-handlers.result.now c.requires.numbered.listeners (c.as_slice-handlers.ensures ∙ ap (λ (p : TaskPlan). p.handlers) c.requires.plan)

pub table-requires-2-clause-each : goal.table-requires-2-clause-each
table-requires-2-clause-each c =
    let arch = c.args.arch.now in
    let es = entries_in c.in_ok-bare.bare in
    ap length c.as_slice-2.ensures ∙ ap length c.in_ok-first.ensures.places ∙ placed_count arch es c.args.plan.now.handlers (end 0 (head_of arch es c.args.plan.now.source)) ∙ ap length (sym c.as_slice-handlers.ensures)

pub write_code-requires-2-clause-below : goal.write_code-requires-2-clause-below
write_code-requires-2-clause-below c =
    reached_below c.args.arch.now c.args.plan.now.source c.args.plan.now.handlers c.requires.numbered.listeners (ap (λ (p : TaskPlan). p.handlers) c.requires.plan)

pub returns : goal.returns
returns c =
    let arch = c.args.arch.now in
    let s = c.args.plan.now.source in
    let hs = c.args.plan.now.handlers in
    let n = length c.as_slice-handlers.result.now in
    let zeros = c.as_slice.result.now in
    let places = c.as_slice-2.result.now in
    let zeros_are : zeros ≡ replicate n 0 = c.as_slice.ensures.value ∙ c.in_ok-zeros.ensures.items_if_clones_equal (λ y e. e) in
    let count : length zeros ≡ n = ap length zeros_are ∙ replicate_length n 0 in
    λ source.
    code_is arch s source (plans_hold arch s c.requires.numbered).handlers_ascend hs (ap (λ (p : TaskPlan). p.handlers) c.requires.plan) zeros places c.in_ok-bare.bare c.in_ok-full.full c.instrs.result
    (count ∙ ap length c.as_slice-handlers.ensures)
    (λ k l. ap (λ xs. get_or xs k 0) zeros_are ∙ get_or-replicate n k 0 0 (omega (arith, l, count)))
    (subst (λ xs. Agrees (entries_at xs (frames_from arch 0 0 xs) zeros) c.in_ok-bare.bare) c.as_slice-handlers.ensures c.in_ok-bare.ensures.agrees)
    (c.as_slice-2.ensures ∙ c.in_ok-first.ensures.places)
    (subst (λ xs. Agrees (entries_at xs (frames_from arch 0 0 xs) places) c.in_ok-full.full) c.as_slice-handlers.ensures c.in_ok-full.ensures.agrees)
    (c.instrs.ensures ∙ c.in_ok-second.ensures.code)
