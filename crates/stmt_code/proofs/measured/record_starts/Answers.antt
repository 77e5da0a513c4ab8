use Rattle.std.proofs.Common.{◌≡◌, ◌∙◌, slice_get, Some, ap, sym, subst}
use Rattle.tower_types.specs.Ty.{Records, rec, shape_of, shape_of_fields, table_of}
use Rattle.tower_types.specs.View.{fields_of}
use Rattle.channel_graph.proofs.Shaped.{fields_numbered}
use Rattle.stmt_code.proofs.Begun.{records_begun, records_more}
use Rattle.stmt_code.proofs.measured.record_starts.Goals as goal

pub loop-r-init : goal.loop-r-init
loop-r-init c = records_begun c.args.arch.now c.new-all.result c.new-all.ensures

pub starts_of-requires : goal.starts_of-requires
starts_of-requires c =
    let arch = c.args.arch.now in
    let fields = fields_of c.fields.result.now in
    let found = subst (λ (rs : Records). slice_get rs c.loop-r.r ≡ Some fields) c.records-records.ensures.value c.fields.ensures.value in
    fields_numbered arch c.loop-r.r fields c.records-records.ensures.numbered.records.1 found

pub loop-r-preserved : goal.loop-r-preserved
loop-r-preserved c =
    let arch = c.args.arch.now in
    let fields = fields_of c.fields.result.now in
    let shape = subst (λ (rs : Records). shape_of rs (rec c.loop-r.r) ≡ shape_of_fields (table_of rs) fields) c.records-records.ensures.value c.fields.ensures.shape in
    records_more arch c.loop-r.r c.loop-r.all c.push.new.self c.in_ok-starts.starts fields c.loop-r.invariant c.in_ok-push.ensures.ok shape c.in_ok-starts.ensures
