use Rattle.std.proofs.Common.{◌≡◌, true, false}
use Rattle.std.specs.Str.{IsUtf8}
use Rattle.std.proofs.lemmas.Str.{IsUtf8-from_ascii}
use Rattle.tower_syntax.specs.RawView.{raw_of}
use Rattle.tower_syntax.specs.Form.{text}
use Rattle.tower_syntax.specs.Printed.{raw_form}
use Rattle.tower_syntax.proofs.Ascii.{IsAscii-printed}
use Rattle.tower_syntax.proofs.printed.print.Goals as goal

pub unreachable-requires : goal.unreachable-requires
unreachable-requires c =
    let raw = raw_of c.args.raw.now in
    let read : IsUtf8 c.in_ok-bytes.bytes.items = rw c.in_ok-bytes.ensures (IsUtf8-from_ascii (text (raw_form raw)) (IsAscii-printed raw c.requires)) in
    let failed : false ≡ true = c.in-Err.ensures.succeeds read in
    cc
