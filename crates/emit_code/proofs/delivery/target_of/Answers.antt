use Rattle.std.proofs.Common.{sym, ap}
use Rattle.emit_code.proofs.Looked.{both, no_frame, no_frames, no_place}
use Rattle.emit_code.proofs.delivery.target_of.Goals as goal

pub returns-in-Some-clause-param : goal.returns-in-Some-clause-param
returns-in-Some-clause-param c =
    sym (ap (λ e. e.frame.param) (both c.args.frames.now c.args.h c.in-Some-Some.frame c.in-Some.place.now (rw c.in-Some-Some.field-0-is at (sym c.in-Some-Some.ensures.value)) (sym c.in-Some.ensures.value)))

pub returns-in-Some-clause-place : goal.returns-in-Some-clause-place
returns-in-Some-clause-place c =
    sym (ap (λ e. e.place) (both c.args.frames.now c.args.h c.in-Some-Some.frame c.in-Some.place.now (rw c.in-Some-Some.field-0-is at (sym c.in-Some-Some.ensures.value)) (sym c.in-Some.ensures.value)))

pub returns-in-None-get-clause-param : goal.returns-in-None-get-clause-param
returns-in-None-get-clause-param c = sym (ap (λ e. e.frame.param) (no_place c.args.frames.now c.args.h (sym c.in-None-get.ensures.value)))

pub returns-in-None-get-clause-place : goal.returns-in-None-get-clause-place
returns-in-None-get-clause-place c = sym (ap (λ e. e.place) (no_place c.args.frames.now c.args.h (sym c.in-None-get.ensures.value)))

pub returns-in-Some-None-clause-param : goal.returns-in-Some-None-clause-param
returns-in-Some-None-clause-param c =
    sym (ap (λ e. e.frame.param) (no_frame c.args.frames.now c.args.h (rw c.in-Some-None.field-0-is at (sym c.in-Some-None.ensures.value))))

pub returns-in-Some-None-clause-place : goal.returns-in-Some-None-clause-place
returns-in-Some-None-clause-place c =
    sym (ap (λ e. e.place) (no_frame c.args.frames.now c.args.h (rw c.in-Some-None.field-0-is at (sym c.in-Some-None.ensures.value))))

pub returns-in-None-clause-param : goal.returns-in-None-clause-param
returns-in-None-clause-param c = sym (ap (λ e. e.frame.param) (no_frames c.args.frames.now c.args.h (sym c.in-None.ensures.value)))

pub returns-in-None-clause-place : goal.returns-in-None-clause-place
returns-in-None-clause-place c = sym (ap (λ e. e.place) (no_frames c.args.frames.now c.args.h (sym c.in-None.ensures.value)))
