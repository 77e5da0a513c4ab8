use Rattle.std.proofs.Common.{◌≡◌, ◌<◌, ◌≤◌, ◌∙◌, map, length, ap, arith}
use Rattle.std.proofs.lemmas.List.{take_all}
use Rattle.tower_types.specs.Ty.{table_of, shape_in, rec, all, no_shapes}
use Rattle.tower_types.specs.Records.{saturated}
use Rattle.tower_types.proofs.Seen.{ty_of-Rec}
use Rattle.arch_checks.specs.Sizes.{greatest}
use Rattle.arch_checks.specs.Measured.{measured}
use Rattle.arch_checks.proofs.Greatest.{greatest-more, greatest_step, table_length}
use Rattle.arch_checks.proofs.widths.records_width.Goals as goal

pub loop-r-preserved : goal.loop-r-preserved
loop-r-preserved c =
    let records = c.args.arch.now.records in
    let within : c.loop-r.r < length (table_of records) = omega (arith, c.loop-r-test.true, c.len-r-end.ensures.count, ap length c.records.ensures.value, table_length records) in
    let more = greatest-more (measured c.args.measure) (table_of records) c.loop-r.r (all no_shapes) within in
    let here : c.type_width.result ≡ saturated (measured c.args.measure (shape_in (table_of records) (rec c.loop-r.r))) = c.type_width.ensures ∙ ap (λ t. saturated (measured c.args.measure (shape_in (table_of records) t))) (ty_of-Rec c.loop-r.r) in
    greatest_step c.loop-r.most c.type_width.result c.max-most.result _ _ _ c.loop-r.invariant here c.max-most.ensures more

pub returns : goal.returns
returns c =
    let records = c.args.arch.now.records in
    let whole : length (table_of records) ≤ c.loop-r.r = omega (arith, c.loop-r-test.false, c.len-r-end.ensures.count, ap length c.records.ensures.value, table_length records) in
    c.loop-r.invariant ∙ ap (λ ss. saturated (greatest (map (measured c.args.measure) ss))) (take_all c.loop-r.r (table_of records) whole)
