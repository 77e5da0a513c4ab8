use Rattle.std.proofs.Common.{◌≡◌, ap, sym, ◌∙◌}
use Rattle.std.specs.Prelude.{bytes_eq}
use Rattle.tower_syntax.specs.View.{source_of}
use Rattle.event_record.proofs.Positions.{seen_here, seen_more, seen_none}
use Rattle.event_record.proofs.order.source_named.Goals as goal

pub returns-then-eq : goal.returns-then-eq
returns-then-eq c =
    let name = c.args.name.now in
    seen_here source_of (λ s. bytes_eq s.name name) c.args.sources.now c.loop-x.x c.index-sources-x.result c.loop-x-test.true c.index-sources-x.is (ap (λ b. bytes_eq b name) (sym c.bytes.ensures.value) ∙ sym c.if-eq.ensures) c.loop-x.invariant

pub loop-x-preserved : goal.loop-x-preserved
loop-x-preserved c =
    let name = c.args.name.now in
    seen_more source_of (λ s. bytes_eq s.name name) c.args.sources.now c.loop-x.x c.index-sources-x.result c.loop-x-test.true c.index-sources-x.is (ap (λ b. bytes_eq b name) (sym c.bytes.ensures.value) ∙ sym c.if-eq.ensures) c.loop-x.invariant

pub returns : goal.returns
returns c = seen_none source_of (λ s. bytes_eq s.name c.args.name.now) c.args.sources.now c.loop-x.x c.loop-x-test.false c.loop-x.invariant
