-- A whole file: its sites by those of its items, and the offences by the sites.
use Rattle.std.proofs.Common.{◌≡◌, ◌⊎◌, inl, inr, List, map, None, Some, Result, sym, ap, subst, ◌∙◌}
use Rattle.std.specs.Result.{IsErrAnd, IfErr}
use Rattle.std.proofs.lemmas.Result.{err_from_is_err_and}
use Rattle.tower_syntax.specs.RawTree.{Id, Link, Raw}
use Rattle.tower_syntax.specs.RawView.{id_of, raw_item_of, raw_of}
use Rattle.tower_syntax.specs.NamedView.{named_item_of, named_of}
use Rattle.tower_syntax.specs.declared.raw.Id.{Id as IdValue}
use Rattle.tower_syntax.specs.declared.raw.RawItem.{RawItem as ItemValue}
use Rattle.tower_syntax.specs.declared.raw.Raw.{Raw as RawValue}
use Rattle.tower_syntax.specs.declared.named.NamedItem.{NamedItem as NamedItemValue}
use Rattle.tower_syntax.specs.declared.named.Named.{Named as NamedValue}
use Rattle.arch_names.specs.declared.names.Thing.{Thing}
use Rattle.arch_names.specs.declared.fault.NameFault.{NameFault}
use Rattle.arch_names.specs.declared.fault.NameFault.TheVariants as fault
use Rattle.arch_names.specs.Names.{Names, find}
use Rattle.arch_names.specs.Sets.{each, declared_in}
use Rattle.arch_names.specs.Sites.{item_sites, sites}
use Rattle.arch_names.specs.Linked.{linked_item, linked}
use Rattle.arch_names.specs.Resolved.{Offences, IsLinked, IsClean, IsFirst}
use Rattle.arch_names.specs.Written.{AreAscending, Ascends}
use Rattle.arch_names.specs.Walk.{first, meant, IsMade, IsFault}
use Rattle.arch_names.proofs.First.{exit}
use Rattle.arch_names.proofs.Places.{site_places}
use Rattle.arch_names.proofs.Offending.{offends_fault, clean_means, clean_at, first_at, least_at}

module _ (raw : RawValue) (file : Names Thing) (xs ys : List ItemValue) (p : xs ≡ raw.items) (q : ys ≡ raw.items) (sees : find file ≡ find (declared_in (map raw_item_of xs))) where
  same_file : find file ≡ find (declared_in (map raw_item_of raw.items))
  same_file = sees ∙ ap (λ z. find (declared_in (map raw_item_of z))) p

  file_sites : sites (raw_of raw) ≡ each (item_sites (find file)) (map raw_item_of ys)
  file_sites = λ i. each (item_sites (sym same_file i)) (map raw_item_of (sym q i))

  pub file_exit : {R : Type 0} (r : Result R NameFault) (f : NameFault) → IsErrAnd r (λ z. z ≡ f) → IsFault (each (item_sites (find file)) (map raw_item_of ys)) f → IfErr r (IsFault (sites (raw_of raw)))
  file_exit r f h k = exit r (sites (raw_of raw)) f h (subst (λ ss. IsFault ss f) (sym file_sites) k)

  pub file_made : (name : IdValue) (items : List NamedItemValue) → id_of name ≡ id_of raw.name → IsMade (each (item_sites (find file)) (map raw_item_of ys)) (map named_item_of) (map (linked_item meant (find file)) (map raw_item_of ys)) items → (let n : NamedValue = record { at = raw.at; version = raw.version; name = name; items = items } in IsMade (sites (raw_of raw)) named_of (linked meant (raw_of raw)) n)
  file_made name items e h = (
    ap first file_sites ∙ h.0,
    λ i. record { at = raw.at; version = raw.version; name = e i; items = (h.1 ∙ (λ j. map (linked_item meant (same_file j)) (map raw_item_of (q j)))) i },
  )

exit_by : {T : Type 0} (r : Result T NameFault) (Q : NameFault → Type 0) (f : NameFault) → IsErrAnd r (λ x. x ≡ f) → Q f → IfErr r Q
exit_by r Q f h k = let p = err_from_is_err_and r h in rw (p.1, p.2) k

module _ (raw : Raw Id) where
  fault_is : (f : NameFault) → IsFault (sites raw) f → (f ≡ fault.NoMemory) ⊎ Offences raw f
  fault_is f (inl h) = inl h
  fault_is f (inr h) = inr (first_at (sites raw) f h)

  pub least_is : (f : NameFault) → first (sites raw) ≡ Some f → Ascends raw → IsFirst (Offences raw) f
  least_is f h o = record { is_one = first_at (sites raw) f h; least = λ g k. least_at (sites raw) f g k.0 (subst AreAscending (sym (site_places raw)) o) h k.1 k.2 }

  first_is : Ascends raw → (f : NameFault) → IsFault (sites raw) f → (f ≡ fault.NoMemory) ⊎ IsFirst (Offences raw) f
  first_is o f (inl h) = inl h
  first_is o f (inr h) = inr (least_is f h o)

  pub fault_exit : {T : Type 0} (r : Result T NameFault) (f : NameFault) → IsErrAnd r (λ x. x ≡ f) → IsFault (sites raw) f → IfErr r (λ g. (g ≡ fault.NoMemory) ⊎ Offences raw g)
  fault_exit r f h k = exit_by r (λ g. (g ≡ fault.NoMemory) ⊎ Offences raw g) f h (fault_is f k)

  pub first_exit : {T : Type 0} (r : Result T NameFault) (f : NameFault) → IsErrAnd r (λ x. x ≡ f) → IsFault (sites raw) f → Ascends raw → IfErr r (λ g. (g ≡ fault.NoMemory) ⊎ IsFirst (Offences raw) g)
  first_exit r f h k o = exit_by r (λ g. (g ≡ fault.NoMemory) ⊎ IsFirst (Offences raw) g) f h (first_is o f k)

  pub clean_is : first (sites raw) ≡ None → IsClean (Offences raw)
  clean_is h f k = let e : None ≡ Some f = sym (clean_at (sites raw) k.0 h k.1) ∙ offends_fault k.0 f k.2 in cc

  pub linked_is : (t : Raw Link) → first (sites raw) ≡ None → t ≡ linked meant raw → IsLinked raw t
  linked_is t h e = (meant, λ s k used. clean_means s used (clean_at (sites raw) s h k), e)
