-- What a monitor declares.
use Rattle.std.proofs.Common.{◌≡◌, ℕ, List, [], ◌∷◌, ◌++◌, map, sym, ap, ◌∙◌, append_assoc}
use Rattle.tower_syntax.specs.RawView.{id_of, raw_part_of, raw_item_of}
use Rattle.tower_syntax.specs.declared.raw.Id.{Id as IdValue}
use Rattle.tower_syntax.specs.declared.raw.RawPart.{RawPart as PartValue}
use Rattle.tower_syntax.specs.declared.raw.RawItem.{RawItem as ItemValue}
use Rattle.tower_syntax.specs.declared.raw.RawItem.TheVariants as item
use Rattle.arch_names.specs.declared.names.Counts.{Counts}
use Rattle.arch_names.specs.declared.names.Thing.{Thing}
use Rattle.arch_names.specs.declared.names.Thing.TheVariants as thing
use Rattle.arch_names.specs.Names.{Names, find}
use Rattle.arch_names.specs.Sets.{declared_as, each, handler_of, declared_by}
use Rattle.arch_names.proofs.Gathered.{find_more}

pub monitor_names : (n : Counts) (i : ItemValue) (at : ℕ) (x : IdValue) (ps qs : List PartValue) (old one both : Names Thing) → i ≡ item.Monitor at x ps → qs ≡ ps → find one ≡ find (old ++ declared_as (id_of x) thing.Monitor ∷ []) → find both ≡ find (one ++ each handler_of (map raw_part_of qs)) → find both ≡ find (old ++ declared_by n (raw_item_of i))
monitor_names n i at x ps qs old one both is p h k =
    let d = declared_as (id_of x) thing.Monitor in
    let hs = each handler_of (map raw_part_of qs) in
    k ∙ find_more one (old ++ d ∷ []) hs h ∙ ap find (append_assoc old (d ∷ []) hs) ∙ (λ j. find (old ++ d ∷ each handler_of (map raw_part_of (p j)))) ∙ (λ j. find (old ++ declared_by n (raw_item_of (sym is j))))
