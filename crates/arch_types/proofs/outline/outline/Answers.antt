use Rattle.std.proofs.Common.{map, subst, sym}
use Rattle.tower_syntax.specs.NamedView.{named_item_of, named_of}
use Rattle.arch_types.specs.Outline.{outline}
use Rattle.arch_types.specs.Numbered.{DeclareRecords}
use Rattle.arch_types.proofs.Declares.{declare}
use Rattle.arch_types.proofs.outline.outline.Goals as goal

pub records-requires-clause-known : goal.records-requires-clause-known
records-requires-clause-known c =
    let raw = named_of c.args.named.now in
    subst (λ items. DeclareRecords 0 (map named_item_of items)) (sym c.as_slice-items.ensures) (declare (outline raw) raw.version 0 raw.items c.requires.numbered.items)
