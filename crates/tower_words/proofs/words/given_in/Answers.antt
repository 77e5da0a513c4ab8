use Rattle.std.proofs.Common.{◌≡◌, ◌∙◌, sym, ap, codes}
use Rattle.std.specs.Prelude.{option_map}
use Rattle.clap.specs.Matches.{found_of}
use Rattle.clap.specs.Walk.{rows_of}
use Rattle.tower_words.specs.Words.{given_of}
use Rattle.tower_words.proofs.WordFacts.{read_in, gathered_is, no_command_is, no_file_is}
use Rattle.tower_words.proofs.words.given_in.Goals as goal

pub returns-in_err-get_str : goal.returns-in_err-get_str
returns-in_err-get_str c =
    let f = found_of c.args.matches.now in
    rw c.from_residual.ensures (no_command_is (rows_of f) (read_in f (codes "command") _ c.in_err-get_str.ensures))

pub returns-in_err-get_str-2 : goal.returns-in_err-get_str-2
returns-in_err-get_str-2 c =
    let f = found_of c.args.matches.now in
    rw c.from_residual-in_err-get_str-2.ensures
    (no_file_is (rows_of f) c.in_ok-get_str.field-0.now (read_in f (codes "command") _ c.in_ok-get_str.ensures) (read_in f (codes "file") _ c.in_err-get_str-2.ensures))

pub returns : goal.returns
returns c =
    let f = found_of c.args.matches.now in
    gathered_is (rows_of f) _ _ _ _ _ _ _ _ _ _ _ _ (read_in f (codes "command") _ c.in_ok-get_str.ensures) (read_in f (codes "file") _ c.in_ok-get_str-2.ensures)
    (read_in f (codes "record") _ c.get_str-3.ensures) (read_in f (codes "choices") _ c.get_str-4.ensures)
    (read_in f (codes "order") _ c.get_str-5.ensures) (read_in f (codes "steps") _ c.get_str-6.ensures)
    (read_in f (codes "policy") _ c.get_str-7.ensures) (read_in f (codes "cores") _ c.get_str-8.ensures)
    (read_in f (codes "listing") _ c.get_str-9.ensures) (read_in f (codes "notes") _ c.get_str-10.ensures) (read_in f (codes "rate") _ c.get_str-11.ensures) (read_in f (codes "gap") _ c.get_str-12.ensures)
