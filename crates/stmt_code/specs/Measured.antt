-- Where the fields of records and the states of monitors begin.
use Rattle.std.specs.Prelude.{◌≡◌, ◌<◌, ℕ, List, [], length, slice_index_or}
use Rattle.tower_types.specs.Ty.{Shape, rec, shape_of, table_of}
use Rattle.tower_syntax.specs.Arch.{Arch}
use Rattle.tower_syntax.specs.Weights.{field_shapes, states_of}
use Rattle.channel_graph.specs.Site.{Site, scope_at}
use Rattle.stmt_code.specs.Layout.{words_before, field_offset}
use Rattle.stmt_code.specs.declared.measured.Starts.{Starts}
use Rattle.stmt_code.specs.declared.measured.StartTable.{StartTable}

-- where part k begins, or where the last ends
abbrev pub start_at : Starts → ℕ → ℕ
start_at s k = slice_index_or s.starts k s.end

abbrev pub AreStarts : List Shape → Starts → Type 0
AreStarts parts s = (k : ℕ) → start_at s k ≡ words_before parts k

abbrev pub no_starts : Starts
no_starts = record { starts = []; end = 0 }

-- for each of the first n records, where its fields begin
pub record AreRecordStarts (arch : Arch) (n : ℕ) (all : List Starts) : Type 0 where
  pub each : length all ≡ n
  pub has : (r : ℕ) → r < n → (k : ℕ) → start_at (slice_index_or all r no_starts) k ≡ field_offset k (shape_of arch.records (rec r))

-- for each of the first n monitors, where its states begin
pub record AreMonitorStarts (arch : Arch) (n : ℕ) (all : List Starts) : Type 0 where
  pub each : length all ≡ n
  pub has : (m : ℕ) → m < n → AreStarts (field_shapes (table_of arch.records) (states_of arch m)) (slice_index_or all m no_starts)

-- the table has all records and all monitors
pub record IsTableOf (arch : Arch) (t : StartTable) : Type 0 where
  pub records_begin : AreRecordStarts arch (length arch.records) t.records
  pub monitors_begin : AreMonitorStarts arch (length arch.monitors) t.monitors

-- where the fields of all records, and the states that a callback may name, begin
pub record HasStarts (site : Site) (records : List Starts) (states : Starts) : Type 0 where
  pub fields_begin : AreRecordStarts site.arch (length site.arch.records) records
  pub states_begin : AreStarts (scope_at site).states states
