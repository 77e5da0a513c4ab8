-- What the program's parts and frames stand for.
use Rattle.std.specs.Prelude.{List, ◌∷◌, map, reverse}
use Rattle.tower_syntax.specs.RawView.{id_of, raw_type_of, raw_place_of, raw_expr_of, raw_stmt_of, all_raw_stmts_of, raw_field_of, raw_hpart_of, raw_part_of, raw_item_of, raw_of}
use Rattle.tower_reader.specs.declared.part.Part.{Part as PartValue}
use Rattle.tower_reader.specs.declared.part.Part.TheVariants as part
use Rattle.tower_reader.specs.declared.frame.Frame.{Frame as FrameValue}
use Rattle.tower_reader.specs.declared.lists.Lists.{Lists}
use Rattle.tower_reader.specs.Part.{Part, nothing, a_name, a_number, a_literal, a_type, a_place, an_expr, a_stmt, a_block, a_field, an_hpart, a_part, an_item, a_tower}
use Rattle.tower_reader.specs.Machine.{Frame}

abbrev pub seen : PartValue → Part
seen part.Nothing = nothing
seen (part.Name i) = a_name (id_of i)
seen (part.Number n) = a_number n
seen (part.Literal z) = a_literal z
seen (part.Type t) = a_type (raw_type_of t)
seen (part.Place p) = a_place (raw_place_of p)
seen (part.Expr e) = an_expr (raw_expr_of e)
seen (part.Stmt s) = a_stmt (raw_stmt_of s)
seen (part.Block b) = a_block b.at (all_raw_stmts_of b.stmts)
seen (part.Field f) = a_field (raw_field_of f)
seen (part.Hpart h) = an_hpart (raw_hpart_of h)
seen (part.Part p) = a_part (raw_part_of p)
seen (part.Item x) = an_item (raw_item_of x)
seen (part.Tower r) = a_tower (raw_of r)

abbrev pub all_seen : List PartValue → List Part
all_seen ps = map seen ps

abbrev pub frame_of : FrameValue → Frame
frame_of f = record { place = f.place; at = f.at; heading = f.heading; count = f.count; parts = all_seen f.parts.items; found = f.found }

-- the frames, the innermost first
abbrev pub frames_of : Lists → List Frame
frames_of l = frame_of l.top ∷ reverse (map frame_of l.outer.items)
