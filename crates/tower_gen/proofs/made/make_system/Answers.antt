use Rattle.std.proofs.Common.{◌∙◌, ap, sym, subst, refl}
use Rattle.tower_syntax.specs.RawTree.{Id, Raw}
use Rattle.tower_syntax.specs.Form.{text}
use Rattle.tower_syntax.specs.Printed.{raw_form}
use Rattle.tower_syntax.specs.Printable.{IsPrintable}
use Rattle.arch_checks.specs.Offences.{IsAccepted}
use Rattle.tower_gen.specs.Words.{words_of}
use Rattle.tower_gen.specs.Draws.{drawn_by, choices_by}
use Rattle.tower_gen.specs.File.{made}
use Rattle.tower_gen.specs.System.{system}
use Rattle.tower_gen.specs.Made.{drawn_of}
use Rattle.tower_gen.proofs.Drawing.{word_at, choices_same, drawn_is, choices_are}
use Rattle.tower_gen.proofs.MadeRight.{made_files_are_right}
use Rattle.tower_gen.proofs.made.make_system.Goals as goal

pub returns-clause-made : goal.returns-clause-made
returns-clause-made c =
    let g = c.new-generator.result in
    record {
      file = c.in_ok-raw.ensures.made ∙ ap (λ h. made (drawn_by (words_of h))) c.new-generator.ensures ∙ ap made (drawn_is c.args.n);
      ticks = refl;
      choices =
          c.in_ok-choices.ensures
          ∙ choices_same (words_of c.file.new.generator) (words_of g) 128 (word_at g c.file.new.generator 128 c.in_ok-raw.ensures.moved) 400 0
          ∙ ap (λ h. choices_by (words_of h)) c.new-generator.ensures
          ∙ choices_are c.args.n;
    }

pub returns-clause-printable : goal.returns-clause-printable
returns-clause-printable c =
    let is = c.in_ok-raw.ensures.made ∙ ap (λ h. made (drawn_by (words_of h))) c.new-generator.ensures ∙ ap made (drawn_is c.args.n) in
    subst IsPrintable (sym is) (made_files_are_right c.args.n).printable

pub returns-clause-accepted : goal.returns-clause-accepted
returns-clause-accepted c =
    let is = c.in_ok-raw.ensures.made ∙ ap (λ h. made (drawn_by (words_of h))) c.new-generator.ensures ∙ ap made (drawn_is c.args.n) in
    subst (λ (r : Raw Id). IsAccepted (text (raw_form r)) (system (drawn_of c.args.n))) (sym is) (made_files_are_right c.args.n).accepted
