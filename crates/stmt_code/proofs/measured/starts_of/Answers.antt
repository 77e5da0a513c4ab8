use Rattle.tower_types.specs.View.{fields_of}
use Rattle.stmt_code.proofs.Begun.{starts_are}
use Rattle.stmt_code.proofs.measured.starts_of.Goals as goal

pub returns : goal.returns
returns c = starts_are c.args.arch.now (fields_of c.args.fields.now) (record { starts = c.in_ok-starts.starts; end = c.lay_names.new.end }) c.in_ok-starts.ensures.0 c.in_ok-starts.ensures.1
