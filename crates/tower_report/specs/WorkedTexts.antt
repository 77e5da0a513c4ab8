-- Worked texts of values, marks and the last lines.
use Rattle.std.specs.Prelude.{◌≡◌, ℕ, pos, negsuc, List, [], ◌∷◌, ◌++◌, Some, None, codes}
use Rattle.tower_types.specs.declared.scalar.Scalar.TheVariants as scalar
use Rattle.tower_types.specs.Ty.{Shape, one, many, all, no_shapes, shape}
use Rattle.tower_types.specs.Value.{word, parts, no_values, value}
use Rattle.tower_syntax.specs.declared.event.Mark.TheVariants as mark
use Rattle.tower_report.specs.Bytes.{Bytes}
use Rattle.tower_report.specs.ValueText.{words_text, value_text}
use Rattle.tower_report.specs.MarkText.{mark_line, out_line}
use Rattle.tower_report.specs.EndText.{monitor_text, losses_text}
use Rattle.tower_report.specs.ReplayText.{message_line, monitor_value_text, source_text}
use Rattle.tower_report.specs.Worked.{worked}

-- lines that each end with LF
abbrev pub lines : List Bytes → Bytes
lines [] = []
lines (l ∷ ls) = l ++ (10 ∷ lines ls)

abbrev pub fix_shape : Shape
fix_shape = all (shape (one scalar.I32) (shape (one scalar.I32) no_shapes))

pub record WorkedValues : Type 0 where
  pub words_of_records : words_text (many 2 fix_shape) (pos 7 ∷ negsuc 2 ∷ pos 0 ∷ pos 0 ∷ []) ≡ codes "((7 -3) (0 0))"
  pub a_record : value_text fix_shape (parts (value (word (pos 7)) (value (word (negsuc 2)) no_values))) ≡ codes "(7 -3)"
  pub a_truth : words_text (one scalar.Bool) (pos 1 ∷ []) ≡ codes "true"
  pub no_truth : value_text (one scalar.Bool) (word (pos 0)) ≡ codes "false"
  pub one_is_no_truth : words_text (one scalar.U8) (pos 1 ∷ []) ≡ codes "1"
  pub least : words_text (one scalar.I64) (negsuc 9223372036854775807 ∷ []) ≡ codes "-9223372036854775808"
  pub greatest : value_text (one scalar.U64) (word (pos 18446744073709551615)) ≡ codes "18446744073709551615"
  pub nothing : words_text (all no_shapes) [] ≡ codes "()"
  pub an_array : value_text (many 1 fix_shape) (parts (value (parts (value (word (pos 1)) (value (word (pos 2)) no_values))) no_values)) ≡ codes "((1 2))"

-- of the system with a record
pub record WorkedLines : Type 0 where
  pub an_arrival : mark_line worked 0 mark.Arrive ≡ codes "0 a\n"
  pub a_start : mark_line worked 1 (mark.Start 1) ≡ codes "1 s gps\n"
  pub a_handler : mark_line worked 12 (mark.Run 1) ≡ codes "12 r gps\n"
  pub an_output_mark : mark_line worked 1000000000 (mark.Out 0) ≡ codes "1000000000 o boot\n"
  pub an_output : out_line worked (0, pos 6 ∷ []) ≡ codes "out seen 6\n"
  pub a_message : message_line worked (0, word (pos 6)) ≡ codes "out seen 6\n"
  pub states : monitor_text worked 0 (Some (pos 7 ∷ negsuc 2 ∷ pos 0 ∷ pos 0 ∷ pos 1 ∷ pos 1 ∷ []))
      ≡ lines (codes "state track ring ((7 -3) (0 0))" ∷ codes "state track pos 1" ∷ codes "state track on true" ∷ [])
  pub state_values : monitor_value_text worked 0 (parts (value (parts no_values) (value (word (pos 1)) (value (word (pos 0)) no_values))))
      ≡ lines (codes "state track ring ()" ∷ codes "state track pos 1" ∷ codes "state track on false" ∷ [])
  pub held : monitor_text worked 0 None ≡ codes "held track\n"
  -- an init source has no line
  pub losses : losses_text worked (0 ∷ 3 ∷ []) ≡ codes "lost gps 3\n"
  pub waiting : source_text worked 1 2 0 ≡ lines (codes "waiting gps 2" ∷ codes "pending gps 0" ∷ [])
