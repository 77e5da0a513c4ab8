use Rattle.std.proofs.Common.{length, sym, subst}
use Rattle.tower_syntax.specs.RawView.{raw_of}
use Rattle.tower_syntax.specs.NamedView.{named_of}
use Rattle.arch_order.proofs.InOrder.{names_ascend}
use Rattle.arch_order.proofs.LinkedOrder.{linked_ascends}
use Rattle.arch_order.proofs.Handlers.{numbered}
use Rattle.arch_checks.specs.Faults.{of_name, of_type}
use Rattle.arch_checks.specs.Firsts.{IsBoundFault, IsCycleFault, IsSizeFault, IsWorkFault}
use Rattle.arch_checks.specs.Offences.{IsAccepted}
use Rattle.arch_checks.proofs.Order.{Bounded, Acyclic, Sized, bound_is_fault, cycle_is_fault, size_is_fault, work_is_fault, accepted}
use Rattle.arch_checks.proofs.Told.{exit_told, name_told, type_told, stage_told, is_named, is_typed}
use Rattle.arch_checks.proofs.checking.check_raw.Goals as goal

pub returns-in_err-named-clause-fault : goal.returns-in_err-named-clause-fault
returns-in_err-named-clause-fault c bs s =
    let raw = raw_of c.args.raw.now in
    let f = c.in_err-named.field-0.0 in
    exit_told bs c.from_residual.result (of_name f) c.from_residual.ensures.1 (name_told bs raw f s (c.in_err-named.ensures.first (names_ascend bs raw s)))

pub check_types-requires : goal.check_types-requires
check_types-requires c =
    let s = c.requires.spelled in
    record { numbered = numbered s.0 (raw_of c.args.raw.now) (named_of c.in_ok-named.named) s.1 c.in_ok-named.ensures.linked }

pub returns-in_err-arch-clause-fault : goal.returns-in_err-arch-clause-fault
returns-in_err-arch-clause-fault c bs s =
    let raw = raw_of c.args.raw.now in
    let t = named_of c.in_ok-named.named in
    let f = c.in_err-arch.field-0.0 in
    let n = is_named bs raw t s c.in_ok-named.ensures.linked in
    let first = c.in_err-arch.ensures.first (length bs) (linked_ascends bs raw t s c.in_ok-named.ensures.linked) in
    exit_told bs c.from_residual-in_err-arch.result (of_type f) c.from_residual-in_err-arch.ensures.1 (type_told bs t f n c.in_ok-named.ensures.clean first)

pub returns-in_err-check_bounds-clause-fault : goal.returns-in_err-check_bounds-clause-fault
returns-in_err-check_bounds-clause-fault c bs s =
    let arch = c.in_ok-arch.arch in
    let f = c.in_err-check_bounds.field-0.0 in
    let typed = is_typed bs (raw_of c.args.raw.now) (named_of c.in_ok-named.named) arch s c.in_ok-named.ensures.linked c.in_ok-named.ensures.clean c.in_ok-arch.ensures.checked c.in_ok-arch.ensures.clean in
    exit_told bs c.from_residual-in_err-check_bounds.result f c.from_residual-in_err-check_bounds.ensures.1 (stage_told bs (IsBoundFault arch) f (λ k p. bound_is_fault bs arch k typed p) c.in_err-check_bounds.ensures.fault)

pub returns-in_err-check_cycle-clause-fault : goal.returns-in_err-check_cycle-clause-fault
returns-in_err-check_cycle-clause-fault c bs s =
    let arch = c.in_ok-arch.arch in
    let f = c.in_err-check_cycle.field-0.0 in
    let typed = is_typed bs (raw_of c.args.raw.now) (named_of c.in_ok-named.named) arch s c.in_ok-named.ensures.linked c.in_ok-named.ensures.clean c.in_ok-arch.ensures.checked c.in_ok-arch.ensures.clean in
    let bounded : Bounded bs arch = record { typed = typed; bounded = c.in_ok-check_bounds.ensures.bounded } in
    exit_told bs c.from_residual-in_err-check_cycle.result f c.from_residual-in_err-check_cycle.ensures.1 (stage_told bs (IsCycleFault arch) f (λ k p. cycle_is_fault bs arch k bounded p) c.in_err-check_cycle.ensures.fault)

pub returns-in_err-check_sizes-clause-fault : goal.returns-in_err-check_sizes-clause-fault
returns-in_err-check_sizes-clause-fault c bs s =
    let arch = c.in_ok-arch.arch in
    let f = c.in_err-check_sizes.field-0.0 in
    let typed = is_typed bs (raw_of c.args.raw.now) (named_of c.in_ok-named.named) arch s c.in_ok-named.ensures.linked c.in_ok-named.ensures.clean c.in_ok-arch.ensures.checked c.in_ok-arch.ensures.clean in
    let acyclic : Acyclic bs arch = record { bounded = record { typed = typed; bounded = c.in_ok-check_bounds.ensures.bounded }; acyclic = c.in_ok-check_cycle.ensures.none } in
    exit_told bs c.from_residual-in_err-check_sizes.result f c.from_residual-in_err-check_sizes.ensures.1 (stage_told bs (IsSizeFault arch) f (λ k p. size_is_fault bs arch k acyclic p) c.in_err-check_sizes.ensures.fault)

pub returns-in_err-costs-clause-fault : goal.returns-in_err-costs-clause-fault
returns-in_err-costs-clause-fault c bs s =
    let arch = c.in_ok-arch.arch in
    let f = c.in_err-costs.field-0.0 in
    let typed = is_typed bs (raw_of c.args.raw.now) (named_of c.in_ok-named.named) arch s c.in_ok-named.ensures.linked c.in_ok-named.ensures.clean c.in_ok-arch.ensures.checked c.in_ok-arch.ensures.clean in
    let acyclic : Acyclic bs arch = record { bounded = record { typed = typed; bounded = c.in_ok-check_bounds.ensures.bounded }; acyclic = c.in_ok-check_cycle.ensures.none } in
    let sized : Sized bs arch = record { acyclic = acyclic; within = c.in_ok-check_sizes.ensures.within } in
    exit_told bs c.from_residual-in_err-costs.result f c.from_residual-in_err-costs.ensures.1 (stage_told bs (IsWorkFault arch) f (λ k p. work_is_fault bs arch k sized p) c.in_err-costs.ensures.fault)

pub new-requires-clause-accepted : goal.new-requires-clause-accepted
new-requires-clause-accepted c =
    let bs = c.requires.spelled.0 in
    let arch = c.in_ok-arch.arch in
    let typed = is_typed bs (raw_of c.args.raw.now) (named_of c.in_ok-named.named) arch c.requires.spelled.1 c.in_ok-named.ensures.linked c.in_ok-named.ensures.clean c.in_ok-arch.ensures.checked c.in_ok-arch.ensures.clean in
    let acyclic : Acyclic bs arch = record { bounded = record { typed = typed; bounded = c.in_ok-check_bounds.ensures.bounded }; acyclic = c.in_ok-check_cycle.ensures.none } in
    (bs, accepted bs arch (record { acyclic = acyclic; within = c.in_ok-check_sizes.ensures.within }) c.in_ok-costs.ensures.cheap)

pub returns-clause-ok : goal.returns-clause-ok
returns-clause-ok c bs s =
    let arch = c.in_ok-arch.arch in
    let typed = is_typed bs (raw_of c.args.raw.now) (named_of c.in_ok-named.named) arch s c.in_ok-named.ensures.linked c.in_ok-named.ensures.clean c.in_ok-arch.ensures.checked c.in_ok-arch.ensures.clean in
    let acyclic : Acyclic bs arch = record { bounded = record { typed = typed; bounded = c.in_ok-check_bounds.ensures.bounded }; acyclic = c.in_ok-check_cycle.ensures.none } in
    let whole = accepted bs arch (record { acyclic = acyclic; within = c.in_ok-check_sizes.ensures.within }) c.in_ok-costs.ensures.cheap in
    subst (IsAccepted bs) (sym c.in_ok-checked.ensures) whole
