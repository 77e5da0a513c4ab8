use Rattle.std.proofs.Common.{◌≡◌, ◌+◌, ◌*◌, map, take, drop}
use Rattle.tower_io.specs.declared.answers.Put.TheVariants.{Done}
use Rattle.tower_types.specs.Ty.{shape_of, shapes_of, depth, words}
use Rattle.tower_types.specs.View.{ty_of, fields_of}
use Rattle.tower_report.specs.Bytes.{spaced}
use Rattle.tower_report.specs.Puts.{Puts}
use Rattle.tower_report.specs.ValueText.{words_text, texts_of_words, cut, shapes_in, shapes_depth, shapes_words}
use Rattle.tower_report.proofs.words.+words.Given as goal

abbrev pub decreases-put_typed_words : goal.decreases-put_typed_words
decreases-put_typed_words g l = 2 * depth (shape_of l.records.now (ty_of l.t.now))

abbrev pub decreases-put_element_words : goal.decreases-put_element_words
decreases-put_element_words g l = 2 * depth (shape_of l.records.now (ty_of l.t.now)) + 1

abbrev pub decreases-put_field_words : goal.decreases-put_field_words
decreases-put_field_words g l = 2 * shapes_depth (shapes_in l.records.now (fields_of l.fields.now)) + 1

abbrev pub invariant-put_element_words-loop-i : goal.invariant-put_element_words-loop-i
invariant-put_element_words-loop-i g l =
    let s = shape_of l.records (ty_of l.t) in
    record {
      put : Puts g.O.Sink.written g.O.Sink.faults l.initial.out l.out (spaced (take l.i (map (words_text s) (cut l.len (words s) l.words)))) Done;
      rest : l.rest ≡ drop (l.i * words s) l.words;
    }

abbrev pub invariant-put_field_words-loop-i : goal.invariant-put_field_words-loop-i
invariant-put_field_words-loop-i g l =
    let ss = shapes_in l.records (fields_of l.fields) in
    record {
      put : Puts g.O.Sink.written g.O.Sink.faults l.initial.out l.out (spaced (take l.i (texts_of_words (shapes_of ss) l.words))) Done;
      rest : l.rest ≡ drop (shapes_words (take l.i ss)) l.words;
    }
