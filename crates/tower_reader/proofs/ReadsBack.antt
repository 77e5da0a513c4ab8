-- What is printed of a tree reads back.
use Rattle.std.proofs.Common.{sym, subst}
use Rattle.tower_syntax.specs.Form.{text}
use Rattle.tower_syntax.specs.Printed.{raw_form}
use Rattle.tower_reader.specs.declared.table.Place.TheVariants as place
use Rattle.tower_reader.specs.Spelled.{Reads, Spells}
use Rattle.tower_reader.specs.Laws.{PrintReadsBack}
use Rattle.tower_reader.proofs.Lines.{tree_at, form_spells, form_faultless}
use Rattle.tower_reader.proofs.Wordy.{read_wordy}
use Rattle.tower_reader.proofs.ItemsBack.{raw_backs}

pub reads_back : PrintReadsBack
reads_back r h l =
    let f = raw_form r in
    let b = raw_backs r h 0 in
    let w = read_wordy place.Tower (tree_at 0 f) b.part b.reads in
    let s : Spells (text f) b.alike.0 = record {
      within = l;
      faultless = form_faultless f w h.nested;
      node = tree_at 0 f;
      spelled = form_spells f w;
      reads = subst (Reads place.Tower (tree_at 0 f)) b.alike.1 b.reads;
    } in
    (b.alike.0, s, sym b.alike.2)
