use Rattle.std.proofs.Common.{ap, ◌∙◌}
use Rattle.tower_io.specs.Texts.{begun}
use Rattle.tower_io.proofs.Finding.{position_text}
use Rattle.tower_io.proofs.texts.Texts.open.Goals as goal

pub returns-clause-begun : goal.returns-clause-begun
returns-clause-begun c =
    let h = position_text c.deref.result.now c.as_str.result.now c.index_of-file.result c.index_of-file.ensures in
    let there = rw (c.deref.ensures.value, c.as_str.ensures.value) at h.1 in
    rw (← c.self.view_is) (ap (begun _ _) there)

pub returns-clause-is_there : goal.returns-clause-is_there
returns-clause-is_there c =
    let h = position_text c.deref.result.now c.as_str.result.now c.index_of-file.result c.index_of-file.ensures in
    let there = rw (c.deref.ensures.value, c.as_str.ensures.value) at h.2 in
    c.is_some.ensures ∙ rw (← c.self.view_is) there
