use Rattle.std.proofs.Common.{length}
use Rattle.tower_syntax.specs.View.{monitor_of}
use Rattle.tower_syntax.specs.WellNumbered.{AreNumberedFields}
use Rattle.tower_syntax.proofs.Elements.{kept}
use Rattle.tower_syntax.proofs.arch.Arch.monitor.Goals as goal

pub returns-clause-numbered : goal.returns-clause-numbered
returns-clause-numbered c = kept (λ m. AreNumberedFields (length c.args.self.now.records) m.states) monitor_of _ _ _ _ c.monitors.ensures.value c.monitors.ensures.numbered.monitors c.index-monitors-m.is c.requires
