use Rattle.std.proofs.Common.{◌≡◌, ◌^◌, ◌-◌, min, length, arith}
use Rattle.std.proofs.lemmas.List.{length-map}
use Rattle.tower_syntax.specs.View.{handler_of, emitter_of}
use Rattle.stmt_code.proofs.Sectioned.{section_made}
use Rattle.stmt_code.proofs.section.add_section.Goals as goal

pub returns-clause-ok : goal.returns-clause-ok
returns-clause-ok c =
    let h = handler_of c.args.h.now in
    let few : c.len.result ≡ min (2 ^ 64 - 1) (length h.emitters) = omega (arith, c.len.ensures, length-map c.args.h.now.emitters emitter_of, c.requires.few) in
    section_made c.args.arch.now (handler_of c.args.h.now) c.args.frame.now c.args.code.now c.push.new.self c.add_cleared.new.code c.add_bodies.new.code c.push-2.new.self c.in_ok-emitters.emitters
    (c.in_ok-emitters.ensures (length h.emitters) few)
    c.in_ok-push.ensures.ok c.in_ok-add_cleared.ensures.ok c.in_ok-add_bodies.ensures.ok c.in_ok-push-2.ensures.ok
