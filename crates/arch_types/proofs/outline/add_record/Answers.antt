use Rattle.std.proofs.Common.{length, map, subst, sym}
use Rattle.tower_syntax.specs.NamedView.{named_field_of, named_item_of}
use Rattle.arch_types.specs.Numbered.{DeclaresFields}
use Rattle.arch_types.proofs.Declares.{AreWritten, fields_among}
use Rattle.arch_types.proofs.outline.add_record.Goals as goal

pub push-requires-clause-known : goal.push-requires-clause-known
push-requires-clause-known c =
    let n = length c.args.made.now in
    let h = subst (λ x. DeclaresFields n (named_item_of x)) c.in-Record.is c.requires.known in
    let k = subst (λ fs. AreWritten n (map named_field_of fs)) (sym c.as_slice.ensures) h in
    fields_among n (map named_field_of c.as_slice.result.now) _ c.in_ok-fields-in-Record.ensures k
