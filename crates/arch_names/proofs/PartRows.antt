-- The sites of a handler by those of its parts, and what is made of it.
use Rattle.std.proofs.Common.{◌≡◌, ℕ, List, [], ◌∷◌, map, None, Result, sym, ap, subst, ◌∙◌}
use Rattle.std.specs.Result.{IsErrAnd, IfErr}
use Rattle.tower_syntax.specs.declared.named.Target.{Target}
use Rattle.tower_syntax.specs.RawTree.{handler}
use Rattle.tower_syntax.specs.RawView.{id_of, raw_hpart_of, raw_part_of}
use Rattle.tower_syntax.specs.NamedView.{link_of, named_hpart_of, named_part_of}
use Rattle.tower_syntax.specs.declared.raw.Id.{Id as IdValue}
use Rattle.tower_syntax.specs.declared.raw.RawHpart.{RawHpart as HpartValue}
use Rattle.tower_syntax.specs.declared.raw.RawPart.{RawPart as PartValue}
use Rattle.tower_syntax.specs.declared.raw.RawPart.TheVariants as part
use Rattle.tower_syntax.specs.declared.named.Link.{Link as LinkValue}
use Rattle.tower_syntax.specs.declared.named.NamedHpart.{NamedHpart as NamedHpartValue}
use Rattle.tower_syntax.specs.declared.named.NamedPart.TheVariants as npart
use Rattle.arch_names.specs.declared.names.Thing.{Thing}
use Rattle.arch_names.specs.declared.fault.NameFault.{NameFault}
use Rattle.arch_names.specs.declared.fault.Sort.TheVariants as sort
use Rattle.arch_names.specs.Names.{Find}
use Rattle.arch_names.specs.Sets.{each}
use Rattle.arch_names.specs.Site.{Site, refers}
use Rattle.arch_names.specs.Sites.{around, own, hpart_sites, part_sites}
use Rattle.arch_names.specs.Linked.{link, linked_hpart, linked_part}
use Rattle.arch_names.specs.Walk.{first, meant, IsMade, IsFault}
use Rattle.arch_names.proofs.First.{clean_both, fault_right, exit}

module _ (file : Find Thing) where
  module _ (states : Find Target) (p : PartValue) (at : ℕ) (x u : IdValue) (hs ks : List HpartValue) (is : p ≡ part.Handler at x u hs) (same : ks ≡ hs) where
    abbrev pub Inner : List Site
    Inner = each (hpart_sites (around file states (map raw_hpart_of ks))) (map raw_hpart_of ks)

    abbrev pub OnUse : Site
    OnUse = refers sort.SourceOrChannel (file (id_of u).name) (id_of u)

    handler_sites : part_sites file states (raw_part_of p) ≡ own file (id_of x) ∷ OnUse ∷ Inner
    handler_sites = ap (λ z. part_sites file states (raw_part_of z)) is ∙ (λ i. own file (id_of x) ∷ OnUse ∷ each (hpart_sites (around file states (map raw_hpart_of (sym same i)))) (map raw_hpart_of (sym same i)))

    pub handler_exit : {R : Type 0} (r : Result R NameFault) (f : NameFault) → IsErrAnd r (λ z. z ≡ f) → first (own file (id_of x) ∷ []) ≡ None → first (OnUse ∷ []) ≡ None → IsFault Inner f → IfErr r (IsFault (part_sites file states (raw_part_of p)))
    handler_exit r f h a b q = exit r (part_sites file states (raw_part_of p)) f h (subst (λ ss. IsFault ss f) (sym handler_sites) (fault_right (own file (id_of x) ∷ []) (OnUse ∷ Inner) f a (fault_right (OnUse ∷ []) Inner f b q)))

    pub handler_made : (y : IdValue) (on : LinkValue) (ms : List NamedHpartValue) → id_of y ≡ id_of x → first (own file (id_of x) ∷ []) ≡ None → IsMade (OnUse ∷ []) link_of (link meant OnUse) on → IsMade Inner (map named_hpart_of) (map (linked_hpart meant (around file states (map raw_hpart_of ks))) (map raw_hpart_of ks)) ms → IsMade (part_sites file states (raw_part_of p)) named_part_of (linked_part meant file states (raw_part_of p)) (npart.Handler at y on ms)
    handler_made y on ms e a b q = (
      ap first handler_sites ∙ clean_both (own file (id_of x) ∷ []) (OnUse ∷ Inner) a (clean_both (OnUse ∷ []) Inner b.0 q.0),
      (λ i. handler at (e i) (b.1 i) (q.1 i)) ∙ (λ i. handler at (id_of x) (link meant OnUse) (map (linked_hpart meant (around file states (map raw_hpart_of (same i)))) (map raw_hpart_of (same i)))) ∙ sym (ap (λ z. linked_part meant file states (raw_part_of z)) is),
    )
