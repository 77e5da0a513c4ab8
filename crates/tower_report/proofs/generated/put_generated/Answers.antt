use Rattle.std.proofs.Common.{ℕ, List, ◌++◌, Option, false}
use Rattle.tower_io.specs.declared.answers.Put.{Put}
use Rattle.tower_io.specs.declared.answers.Put.TheVariants.{Done, Failed}
use Rattle.tower_report.specs.EndText.{last_line}
use Rattle.tower_report.specs.Puts.{Puts}
use Rattle.tower_report.proofs.Puts.{Puts-then, Puts-fail, Puts-stop}
use Rattle.tower_report.proofs.generated.put_generated.Goals as goal

ended : {S : Type 0} {w : S → Option (List ℕ)} {f : S → ℕ} {a b c : S} {xs ys : List ℕ} (r : Put) → Puts w f a b xs Done → Puts w f b c ys r → Puts w f a c (xs ++ ys) r
ended Done p q = Puts-then p q
ended Failed p q = Puts-fail p q

pub returns-in-Ok : goal.returns-in-Ok
returns-in-Ok g c = ended c.put_end.result c.in-Ok.ensures c.put_end.ensures

pub returns-in-Err : goal.returns-in-Err
returns-in-Err g c = Puts-stop (last_line false) c.in-Err.ensures
