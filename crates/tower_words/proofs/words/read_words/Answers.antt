use Rattle.std.proofs.Common.{◌≡◌, ◌∙◌, sym, map, string_bytes}
use Rattle.clap.specs.Simple.{app_of}
use Rattle.tower_words.proofs.WordFacts.{refused_is, matched_is}
use Rattle.tower_words.proofs.words.read_words.Goals as goal

pub returns-in_default : goal.returns-in_default
returns-in_default c =
    refused_is (app_of c.in_ok-towerc.field-0) (map string_bytes c.args.words.now) c.in-Err.error c.in_ok-towerc.ensures c.in-Err.ensures.kinds (λ h. c.in_default.not-OutOfMemory (c.kind.ensures ∙ h))

pub returns : goal.returns
returns c =
    c.given_in.ensures ∙ matched_is (app_of c.in_ok-towerc.field-0) (map string_bytes c.args.words.now) c.in-Ok.matches c.in_ok-towerc.ensures c.in-Ok.ensures.kinds c.in-Ok.ensures.matches
