use Rattle.std.proofs.Common.{◌≡◌, ◌∙◌, ◌<◌, length, All, ap, sym, subst}
use Rattle.tower_syntax.specs.declared.arch.On.TheVariants as on
use Rattle.tower_syntax.specs.Arch.{Arch}
use Rattle.tower_syntax.specs.Graph.{reached_by}
use Rattle.tower_syntax.specs.Weights.{message_words}
use Rattle.thread_split.specs.declared.plan.TaskPlan.{TaskPlan}
use Rattle.thread_split.proofs.Planned.{reached_below, priority_got}
use Rattle.task_build.specs.CodeOf.{frames_from, end_of, all_buffers, task_of}
use Rattle.task_build.proofs.tasks.task_of.Goals as goal

pub frames-requires : goal.frames-requires
frames-requires c =
    reached_below c.args.arch.now c.args.plan.now.source c.as_slice-handlers.result.now c.requires.numbered.listeners (c.as_slice-handlers.ensures ∙ ap (λ (p : TaskPlan). p.handlers) c.requires.plan)

pub all_buffers-requires : goal.all_buffers-requires
all_buffers-requires c =
    let below = reached_below c.args.arch.now c.args.plan.now.source c.as_slice-handlers.result.now c.requires.numbered.listeners (c.as_slice-handlers.ensures ∙ ap (λ (p : TaskPlan). p.handlers) c.requires.plan) in
    subst (λ (a : Arch). All (λ h. h < length a.handlers) c.as_slice-handlers.result.now) (sym c.arch-2.ensures.value) below

pub returns : goal.returns
returns c =
    let arch = c.args.arch.now in
    let s = c.args.plan.now.source in
    let here : c.as_slice-handlers.result.now ≡ reached_by arch s = c.as_slice-handlers.ensures ∙ ap (λ (p : TaskPlan). p.handlers) c.requires.plan in
    let width : c.in_ok-width.width ≡ message_words arch (on.Source s) = c.in_ok-width.ensures ∙ ap (λ (a : Arch). message_words a (on.Source s)) c.arch.ensures.value in
    let laid : c.as_slice.result.now ≡ frames_from arch 0 0 (reached_by arch s) = c.as_slice.ensures ∙ c.in_ok-laid.ensures ∙ ap (frames_from arch 0 0) here in
    let room : c.room.result ≡ end_of (message_words arch (on.Source s)) (frames_from arch 0 0 (reached_by arch s)) = c.room.ensures ∙ (λ t. end_of (width t) (laid t)) in
    let buffers : c.in_ok-buffers.buffers ≡ all_buffers arch (reached_by arch s) = c.in_ok-buffers.ensures ∙ ap (λ (a : Arch). all_buffers a c.as_slice-handlers.result.now) c.arch-2.ensures.value ∙ ap (all_buffers arch) here in
    λ source there.
    let priority : c.args.plan.now.priority ≡ source.priority = ap (λ (p : TaskPlan). p.priority) c.requires.plan ∙ priority_got arch.sources s source there in
    let code : c.in_ok-code.code ≡ (task_of arch s source).code = c.in_ok-code.ensures source in
    λ t. record { priority = priority t; message = width t; room = room t; buffers = buffers t; code = code t }
