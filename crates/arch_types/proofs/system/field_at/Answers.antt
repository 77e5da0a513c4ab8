use Rattle.std.proofs.Common.{sym}
use Rattle.arch_types.proofs.Fields.{field_there, field_past, field_nowhere}
use Rattle.arch_types.proofs.system.field_at.Goals as goal

pub returns-in-None : goal.returns-in-None
returns-in-None c = sym (field_nowhere _ _ _ c.requires c.in-None.ensures)

pub returns-in-Some-get : goal.returns-in-Some-get
returns-in-Some-get c = rw c.of.ensures (sym (field_there _ _ _ c.requires _ _ c.in-Some.ensures c.in-Some-get.ensures.lookup.1 c.in-Some-get.ensures.lookup.3.0))

pub returns-in-None-get : goal.returns-in-None-get
returns-in-None-get c = field_past _ _ _ c.requires _ c.in-Some.ensures c.in-None-get.ensures.lookup.3
