use Rattle.std.proofs.Common.{ℕ, List, ◌++◌, Option}
use Rattle.tower_io.specs.declared.answers.Put.{Put}
use Rattle.tower_io.specs.declared.answers.Put.TheVariants.{Done, Failed}
use Rattle.tower_report.specs.Bytes.{Bytes}
use Rattle.tower_report.specs.Puts.{Puts}
use Rattle.tower_report.proofs.Puts.{Puts-then, Puts-fail}
use Rattle.tower_run.proofs.piece.put_lines.Goals as goal

-- the last text, put after another
last : {S : Type 0} {w : S → Option (List ℕ)} {f : S → ℕ} {a b c : S} {xs ys : Bytes} (r : Put) → Puts w f a b xs Done → Puts w f b c ys r → Puts w f a c (xs ++ ys) r
last Done first next = Puts-then first next
last Failed first next = Puts-fail first next

pub returns-in-Done : goal.returns-in-Done
returns-in-Done g c = last c.put_wrote.result c.in-Done.ensures c.put_wrote.ensures
