use Rattle.std.proofs.Common.{◌∙◌, ap, arith}
use Rattle.arch_types.specs.Typing.{field_of}
use Rattle.arch_types.proofs.Fields.{in_record, places_at, places_past}
use Rattle.arch_types.proofs.system.System.field.Goals as goal

pub field_at-requires : goal.field_at-requires
field_at-requires c = places_at _ _ _ _ _ c.self.invariant c.in-Some.ensures.value c.fields.ensures.value

pub returns-in-Some : goal.returns-in-Some
returns-in-Some c = c.field_at.ensures ∙ in_record c.self.inside.parts.now.records c.args.r _ _ c.fields.ensures.value ∙ ap (λ a. field_of a.records c.args.r c.args.name.now) c.self.view_is

pub returns-in-None : goal.returns-in-None
returns-in-None c = places_past _ _ _ c.self.invariant c.in-None.ensures.value (omega (arith, c.if-r-len.false, c.len.ensures.count))
