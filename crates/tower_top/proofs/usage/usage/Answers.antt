use Rattle.std.proofs.Common.{refl}
use Rattle.tower_top.specs.Calls.{still}
use Rattle.tower_top.proofs.Endings.{refused_words}
use Rattle.tower_top.proofs.usage.usage.Goals as goal

pub returns : goal.returns
returns g c = λ shelf out. rw c.after.ensures (refused_words {shelf = still shelf} {out = still out} c.put_usage.result refl refl c.put_usage.ensures)
