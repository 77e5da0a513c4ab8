use Rattle.std.proofs.Common.{◌∙◌, sym}
use Rattle.arch_types.proofs.Finding.{stays, put}
use Rattle.arch_types.proofs.system.FieldPlaces.add.Goals as goal

pub returns-then-contains_key : goal.returns-then-contains_key
returns-then-contains_key c = stays (λ k. k.items) _ _ c.self.view_is _ _ c.bytes.ensures.value _ _ c.if-contains_key.true c.contains_key.ensures

pub returns : goal.returns
returns c = put (λ k. k.items) _ _ _ _ c.self.view_is _ _ c.bytes.ensures.value _ c.if-contains_key.false c.contains_key.ensures (c.in_ok-key.ensures.items ∙ c.bytes-2.ensures.value ∙ sym c.bytes.ensures.value) _ c.in_ok-insert.ensures.entries
