use Rattle.std.proofs.Common.{◌≡◌, subst, sym, ◌∙◌, ap, refl, decimal, Ok, true}
use Rattle.std.specs.Str.{IsUtf8, IsAscii}
use Rattle.std.proofs.lemmas.Str.{IsUtf8-from_ascii}
use Rattle.std.proofs.lemmas.Fmt.{IsAscii-decimal, parse-decimal}
use Rattle.std.proofs.lemmas.Slice.Eq.{bytes_eq-Decides}
use Rattle.std.specs.Str.{bytes_eq}
use Rattle.tower_syntax.proofs.spelling.natural.Goals as goal

pub returns-in_default : goal.returns-in_default
returns-in_default c = λ n small e. c.in_default.ensures.cases.0 (IsUtf8-from_ascii _ (subst IsAscii (sym e) (IsAscii-decimal n small)))

pub returns-in_default-parse : goal.returns-in_default-parse
returns-in_default-parse c = λ n small e.
    c.in_default-parse.not-Ok n (parse-decimal 64 n _ c.parse.result small small (c.in-Ok.ensures.cases.0 ∙ e) c.parse.ensures.value.0)

pub returns-else-eq : goal.returns-else-eq
returns-else-eq c = λ n small e.
    let parsed = parse-decimal 64 n _ c.parse.result small small (c.in-Ok.ensures.cases.0 ∙ e) c.parse.ensures.value.0 in
    let same : Ok c.in-Ok-parse.number ≡ Ok n = sym c.in-Ok-parse.is ∙ parsed in
    let numbers : c.in-Ok-parse.number ≡ n = cc in
    let texts : c.as_bytes.result.now ≡ c.args.text.now = c.as_bytes.ensures.value ∙ c.format.ensures.text ∙ ap decimal numbers ∙ sym e in
    let equal : bytes_eq c.as_bytes.result.now c.args.text.now ≡ true = (bytes_eq-Decides c.as_bytes.result.now c.args.text.now).1 texts in cc
