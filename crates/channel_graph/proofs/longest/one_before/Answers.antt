use Rattle.std.proofs.Common.{◌≡◌, ◌<◌, ◌∙◌, List, Bool, true, false, cond, length, ap, subst, refl, arith}
use mir.Val.{bool_byte}
use Rattle.std.proofs.lemmas.List.{length-map}
use Rattle.tower_syntax.specs.View.{handler_of}
use Rattle.channel_graph.specs.Ranked.{is_loud}
use Rattle.channel_graph.proofs.Walked.{before_more}
use Rattle.channel_graph.proofs.longest.one_before.Goals as goal

byte : (b : Bool) → bool_byte b ≡ cond b 1 0
byte true = refl
byte false = refl

pub loop-k-preserved : goal.loop-k-preserved
loop-k-preserved c =
    let arch = c.args.arch.now in
    let below : c.loop-k.k < length arch.handlers = omega (arith, c.loop-k-test.true, ap length c.handlers-k-end.ensures.value, length-map c.handlers-k-end.result.now handler_of) in
    let test = subst (λ (xs : List Bool). c.is_heard-leads.result ≡ is_loud arch xs c.loop-k.k) c.as_slice.ensures c.is_heard-leads.ensures in
    before_more arch c.args.ranks.now c.in_ok-loud.loud c.loop-k.k c.loop-k.before c.push.new.self c.is_heard-leads.result c.from.result c.handlers-k-end.ensures.numbered c.in_ok-loud.ensures below c.loop-k.invariant test (c.from.ensures ∙ byte c.is_heard-leads.result) c.in_ok-push.ensures.ok
