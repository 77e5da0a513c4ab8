use Rattle.std.proofs.Common.{◌≡◌, ◌∙◌, ap, sym}
use Rattle.tower_syntax.specs.View.{source_of}
use Rattle.tower_syntax.specs.Graph.{reached_by}
use Rattle.thread_split.specs.Plans.{monitors_of, priority_of}
use Rattle.thread_split.proofs.Planned.{reached_below, priority_got}
use Rattle.thread_split.proofs.plan.plan.Goals as goal

pub monitors-requires : goal.monitors-requires
monitors-requires c =
    reached_below c.args.arch.now c.args.s c.as_slice.result.now c.requires.numbered.listeners (c.as_slice.ensures ∙ c.from_vec-handlers.ensures ∙ c.in_ok-reached.ensures.list)

pub returns : goal.returns
returns c =
    let arch = c.args.arch.now in
    let s = c.args.s in
    let handlers : c.from_vec-handlers.result ≡ reached_by arch s = c.from_vec-handlers.ensures ∙ c.in_ok-reached.ensures.list in
    let monitors : c.in_ok-monitors.monitors ≡ monitors_of arch (reached_by arch s) = c.in_ok-monitors.ensures ∙ ap (monitors_of arch) (c.as_slice.ensures ∙ handlers) in
    let priority : c.source.result.now.priority ≡ priority_of arch s = sym (priority_got arch.sources s (source_of c.source.result.now) c.source.ensures.value) in
    λ t. record { source = s; priority = priority t; handlers = handlers t; monitors = monitors t }
