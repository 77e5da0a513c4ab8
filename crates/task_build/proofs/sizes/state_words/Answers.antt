use Rattle.std.proofs.Common.{◌≡◌, ◌∙◌, map, sum, ap, sym, subst}
use Rattle.tower_types.specs.Ty.{words, table_of}
use Rattle.tower_types.specs.View.{fields_of}
use Rattle.tower_types.specs.Records.{saturated}
use Rattle.tower_syntax.specs.Weights.{field_shapes}
use Rattle.channel_graph.proofs.Sized.{words-all}
use Rattle.task_build.proofs.sizes.state_words.Goals as goal

pub returns : goal.returns
returns c =
    let table = table_of c.args.arch.now.records in
    let whole = subst (λ fs. c.fields_words.result ≡ saturated (sum (map words (field_shapes table (fields_of fs))))) c.as_slice.ensures c.fields_words.ensures in
    whole ∙ ap saturated (sym (words-all (field_shapes table (fields_of c.args.m.now.states))))
