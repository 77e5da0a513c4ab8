-- A frame is laid out part by part.
use Rattle.std.proofs.Common.{◌≡◌, ◌∙◌, ℕ, ◌+◌, map, sum, ap, sym, subst}
use Rattle.tower_syntax.specs.Arch.{Arch, Handler}
use Rattle.tower_syntax.specs.Graph.{handler}
use Rattle.tower_syntax.specs.Weights.{message_words, emitter_words}
use Rattle.task_code.specs.declared.frame.Frame.{Frame}
use Rattle.stmt_code.specs.FrameOf.{laid, binder_words, binders_laid, binders_of, frame_of}

same_frame : (f g : Frame) → f.param ≡ g.param → f.binders ≡ g.binders → f.temps ≡ g.temps → f.scratch ≡ g.scratch → f.first_buffer ≡ g.first_buffer → f.end ≡ g.end → f ≡ g
same_frame f g p b t s n e = λ i. record { param = p i; binders = b i; temps = t i; scratch = s i; first_buffer = n i; end = e i }

-- each part begins where the one before it ends
pub framed : (arch : Arch) (k base buffer : ℕ) (h : Handler) (f : Frame) (names temps sent end : ℕ)
    → handler arch k ≡ h
    → f.param ≡ base
    → names ≡ base + message_words arch h.on
    → f.binders ≡ binders_laid arch names h.callbacks
    → temps ≡ names + binders_of arch h
    → f.temps ≡ temps
    → sent ≡ temps + 3
    → f.scratch ≡ laid sent (map (emitter_words arch) h.emitters)
    → end ≡ sent + sum (map (emitter_words arch) h.emitters)
    → f.first_buffer ≡ buffer
    → f.end ≡ end
    → f ≡ frame_of arch k base buffer
framed arch k base buffer h f names temps sent end is param names_at binders temps_at f_temps sent_at scratch end_at first f_end =
    let g = frame_of arch k base buffer in
    let at = sym is in
    let names_is : names ≡ base + message_words arch (handler arch k).on = names_at ∙ ap (λ (x : Handler). base + message_words arch x.on) at in
    let temps_is : temps ≡ g.temps = temps_at ∙ ap (λ (x : Handler). names + binders_of arch x) at ∙ ap (λ n. n + binders_of arch (handler arch k)) names_is in
    let sent_is : sent ≡ g.temps + 3 = sent_at ∙ ap (λ n. n + 3) temps_is in
    let binders_is : f.binders ≡ g.binders = binders ∙ ap (λ (x : Handler). binders_laid arch names x.callbacks) at ∙ ap (λ n. binders_laid arch n (handler arch k).callbacks) names_is in
    let scratch_is : f.scratch ≡ g.scratch = scratch ∙ ap (λ (x : Handler). laid sent (map (emitter_words arch) x.emitters)) at ∙ ap (λ n. laid n (map (emitter_words arch) (handler arch k).emitters)) sent_is in
    let end_is : f.end ≡ g.end = f_end ∙ end_at ∙ ap (λ (x : Handler). sent + sum (map (emitter_words arch) x.emitters)) at ∙ ap (λ n. n + sum (map (emitter_words arch) (handler arch k).emitters)) sent_is in
    same_frame f g param binders_is (f_temps ∙ temps_is) scratch_is first end_is
