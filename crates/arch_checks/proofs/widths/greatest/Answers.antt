use Rattle.std.proofs.Common.{◌∙◌, ap, sym}
use Rattle.tower_types.specs.Records.{saturated}
use Rattle.arch_checks.proofs.Greatest.{greatest_parts, cut_max}
use Rattle.arch_checks.proofs.widths.greatest.Goals as goal

pub returns : goal.returns
returns c =
    let messages = cut_max _ _ _ _ c.max-messages.result c.sources_width.ensures c.channels_width.ensures c.max-messages.ensures in
    let names = cut_max _ _ _ _ c.max-names.result c.states_width.ensures c.handlers_width.ensures c.max-names.ensures in
    let first = cut_max _ _ _ _ c.max.result c.records_width.ensures messages c.max.ensures in
    cut_max _ _ _ _ c.max-2.result first names c.max-2.ensures ∙ ap saturated (sym (greatest_parts c.args.measure c.args.arch.now))
