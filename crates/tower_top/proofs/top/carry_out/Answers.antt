use Rattle.std.proofs.Common.{sym}
use Rattle.tower_top.specs.Commands.{asked_by, asked_of}
use Rattle.tower_top.specs.Check.{check}
use Rattle.tower_top.specs.Compile.{compile}
use Rattle.tower_top.specs.Run.{run}
use Rattle.tower_top.specs.Requests.{Request, no_command}
use Rattle.tower_words.specs.Words.{Given, given_of}
use Rattle.tower_top.proofs.Endings.{chosen, not_chosen}
use Rattle.tower_top.proofs.top.carry_out.Goals as goal

abbrev from_run : Given → Request
from_run g = asked_by run g no_command

abbrev from_compile : Given → Request
from_compile g = asked_by compile g (from_run g)

pub returns-then-eq : goal.returns-then-eq
returns-then-eq g c =
    let words = given_of c.args.given.now in
    chosen (asked_of check words) (from_compile words) _ (sym c.if-eq.ensures) c.check.ensures

pub returns-then-eq-2 : goal.returns-then-eq-2
returns-then-eq-2 g c =
    let words = given_of c.args.given.now in
    not_chosen (asked_of check words) (from_compile words) _ (sym c.if-eq.ensures)
    (chosen (asked_of compile words) (from_run words) _ (sym c.if-eq-2.ensures) c.compile.ensures)

pub returns-then-eq-3 : goal.returns-then-eq-3
returns-then-eq-3 g c =
    let words = given_of c.args.given.now in
    not_chosen (asked_of check words) (from_compile words) _ (sym c.if-eq.ensures)
    (not_chosen (asked_of compile words) (from_run words) _ (sym c.if-eq-2.ensures)
    (chosen (asked_of run words) no_command _ (sym c.if-eq-3.ensures) c.run.ensures))

pub returns : goal.returns
returns g c =
    let words = given_of c.args.given.now in
    not_chosen (asked_of check words) (from_compile words) _ (sym c.if-eq.ensures)
    (not_chosen (asked_of compile words) (from_run words) _ (sym c.if-eq-2.ensures)
    (not_chosen (asked_of run words) no_command _ (sym c.if-eq-3.ensures) (c.usage.ensures _ _)))
