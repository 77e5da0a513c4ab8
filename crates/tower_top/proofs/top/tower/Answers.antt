use Rattle.std.proofs.Common.{refl, sym, map, string_bytes}
use Rattle.tower_top.specs.Top.{asked, request_of}
use Rattle.tower_words.specs.Words.{given_by, given_of}
use Rattle.tower_top.proofs.Endings.{where_some, where_none, lacks_memory}
use Rattle.tower_top.proofs.top.tower.Goals as goal

pub returns-in-Ok-Some : goal.returns-in-Ok-Some
unfolding request_of
returns-in-Ok-Some g c =
    where_some asked (given_by (map string_bytes c.args.words.now)) (given_of c.in-Ok-Some.given) (sym (rw c.in-Ok-Some.field-0-is at c.in-Ok-Some.ensures)) c.carry_out.ensures

pub returns-in-Ok-None : goal.returns-in-Ok-None
unfolding request_of
returns-in-Ok-None g c =
    where_none asked (given_by (map string_bytes c.args.words.now)) (sym (rw c.in-Ok-None.field-0-is at c.in-Ok-None.ensures)) (c.usage.ensures _ _)

pub returns-in-Err : goal.returns-in-Err
returns-in-Err g c = lacks_memory _ _ refl refl refl
