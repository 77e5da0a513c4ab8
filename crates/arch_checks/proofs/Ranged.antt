-- The numbers of an accepted text are in their ranges, and each record has a field.
use Rattle.std.proofs.Common.{ℕ, List}
use Rattle.tower_syntax.specs.Arch.{Arch}
use Rattle.arch_types.proofs.Ranged.{ItemRanged, has_fields, kinds_ranged, depths_ranged, bounds_ranged}
use Rattle.arch_order.proofs.Lists.{AllOf}
use Rattle.arch_order.proofs.Ranged.{read_ranged, linked_ranged}
use Rattle.arch_checks.specs.Kept.{KeepsNumbers}
use Rattle.arch_checks.specs.Offences.{IsAccepted}

pub keeps_numbers : (bs : List ℕ) (arch : Arch) → IsAccepted bs arch → KeepsNumbers arch
keeps_numbers bs arch h =
    let s = h.system in
    let items : AllOf ItemRanged s.named.items = linked_ranged s.is.raw s.named s.is.linked (read_ranged bs s.is.raw s.is.spelled) in
    record {
      records = has_fields s.named arch s.checked items;
      kinds = kinds_ranged s.named arch s.checked items;
      depths = depths_ranged s.named arch s.checked items;
      bounds = bounds_ranged s.named arch s.checked items;
    }
