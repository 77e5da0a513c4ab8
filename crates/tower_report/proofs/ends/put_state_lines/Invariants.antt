use Rattle.std.proofs.Common.{◌≡◌, take, drop}
use Rattle.std.specs.List.{flat_map, zip}
use Rattle.tower_io.specs.declared.answers.Put.TheVariants.{Done}
use Rattle.tower_types.specs.Ty.{shapes_of}
use Rattle.tower_types.specs.View.{fields_of}
use Rattle.tower_report.specs.EndText.{state_line}
use Rattle.tower_report.specs.Puts.{Puts}
use Rattle.tower_report.specs.ValueText.{texts_of_words, shapes_in, shapes_words}
use Rattle.tower_report.proofs.ends.put_state_lines.Given as goal

abbrev pub invariant-loop-name : goal.invariant-loop-name
invariant-loop-name g l =
    let states = fields_of l.states in
    let ss = shapes_in l.records states in
    record {
      put : Puts g.O.Sink.written g.O.Sink.faults l.initial.out l.out (flat_map (λ s. state_line l.monitor s.0.0 s.1) (take l.name-index (zip states (texts_of_words (shapes_of ss) l.words)))) Done;
      rest : l.rest ≡ drop (shapes_words (take l.name-index ss)) l.words;
    }
