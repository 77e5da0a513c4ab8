-- Where no name is declared twice, each source's name finds that source.
use Rattle.std.proofs.Common.{◌≡◌, ℕ, eqb, cond, List, [], ◌∷◌, ◌++◌, Bool, true, false, Option, Some, None, is_some, refl, sym, ap, ◌∙◌, true≢false}
use Rattle.std.specs.Option.{option_or}
use Rattle.std.specs.Cmp.Lexicographic.{bytes_decides}
use Rattle.std.proofs.lemmas.Bool.{eqb-true, eq-eqb}
use Rattle.tower_types.specs.Ty.{Name}
use Rattle.tower_syntax.specs.RawTree.{Id, RawItem, init, period, signal, Raw}
use Rattle.arch_names.specs.declared.names.Declared.{Declared}
use Rattle.arch_names.specs.declared.names.Thing.{Thing}
use Rattle.arch_names.specs.declared.names.Counts.{Counts}
use Rattle.arch_names.specs.declared.fault.NameFault.{NameFault}
use Rattle.arch_names.specs.declared.fault.NameFault.TheVariants as fault
use Rattle.arch_names.specs.Names.{Names, Find, find, same}
use Rattle.arch_names.specs.Sets.{counting, declared_by, counted, none_before, declared_in}
use Rattle.arch_names.specs.Sets as names
use Rattle.arch_names.specs.Site.{Site, declares, Offends}
use Rattle.arch_names.specs.Sites.{place_of, item_sites, sites}
use Rattle.arch_names.specs.Resolved.{Offences}
use Rattle.arch_names.proofs.Found.{find-append}
use Rattle.arch_types.specs.Outline.{each}
use Rattle.arch_types.proofs.Lists.{AllOf, all_both, all_left, all_right, all_more, all_contained, zipped}

-- the name of a source
abbrev pub source_id : {U : Type 0} → RawItem U → List Id
source_id (init at x p) = x ∷ []
source_id (period at x ms p d) = x ∷ []
source_id (signal at x t p d) = x ∷ []
source_id _ = []

-- the first declaration of the name is this one
pub record IsOwn (file : Find Thing) (x : Id) : Type 0 where
  pub declared : Declared Thing
  pub found : file x.name ≡ Some declared
  pub here : declared.at ≡ x.at

-- ---- it is found

abbrev IsFound : Names Thing → Id → Type 0
IsFound ns x = is_some (find ns x.name) ≡ true

same_name : (n : Name) → same n n ≡ true
same_name n = (bytes_decides n n).1 refl

first_found : (x : Id) (d : Declared Thing) → IsFound ((x.name, d) ∷ []) x
first_found x d = ap (λ b. is_some (cond b (Some d) None)) (same_name x.name)

or_left : {X : Type 0} (a b : Option X) → is_some a ≡ true → is_some (option_or a b) ≡ true
or_left None b h = absurd (true≢false (sym h))
or_left (Some x) b h = refl

or_right : {X : Type 0} (a b : Option X) → is_some b ≡ true → is_some (option_or a b) ≡ true
or_right None b h = h
or_right (Some x) b h = refl

in_left : (es fs : Names Thing) (x : Id) → IsFound es x → IsFound (es ++ fs) x
in_left es fs x h = ap is_some (find-append es fs x.name) ∙ or_left (find es x.name) (find fs x.name) h

in_right : (es fs : Names Thing) (x : Id) → IsFound fs x → IsFound (es ++ fs) x
in_right es fs x h = ap is_some (find-append es fs x.name) ∙ or_right (find es x.name) (find fs x.name) h

item_found : (n : Counts) (it : RawItem Id) → AllOf (IsFound (declared_by n it)) (source_id it)
item_found n (init at x p) = (first_found x _, tt)
item_found n (period at x ms p d) = (first_found x _, tt)
item_found n (signal at x t p d) = (first_found x _, tt)
item_found n _ = tt

all_found : (n : Counts) (items : List (RawItem Id)) → AllOf (IsFound (counting declared_by counted n items)) (each source_id items)
all_found n [] = tt
all_found n (it ∷ items) =
    let es = declared_by n it in
    let fs = counting declared_by counted (counted n it) items in
    all_both (IsFound (es ++ fs)) (source_id it) (each source_id items)
    (all_more (IsFound es) (IsFound (es ++ fs)) (in_left es fs) (source_id it) (item_found n it))
    (all_more (IsFound fs) (IsFound (es ++ fs)) (in_right es fs) (each source_id items) (all_found (counted n it) items))

-- ---- it is the only one

abbrev IsCleanSite : Site → Type 0
IsCleanSite s = (f : NameFault) → Offends s f → ⊥

abbrev IsOnce : Find Thing → Id → Type 0
IsOnce file x = IsCleanSite (declares (place_of (file x.name)) x)

item_once : (file : Find Thing) (it : RawItem Id) → AllOf IsCleanSite (item_sites file it) → AllOf (IsOnce file) (source_id it)
item_once file (init at x p) h = (h.0, tt)
item_once file (period at x ms p d) h = (h.0, tt)
item_once file (signal at x t p d) h = (h.0, tt)
item_once file _ h = tt

all_once : (file : Find Thing) (items : List (RawItem Id)) → AllOf IsCleanSite (names.each (item_sites file) items) → AllOf (IsOnce file) (each source_id items)
all_once file [] h = tt
all_once file (it ∷ items) h =
    let ss = item_sites file it in
    let rest = names.each (item_sites file) items in
    all_both (IsOnce file) (source_id it) (each source_id items) (item_once file it (all_left IsCleanSite ss rest h)) (all_once file items (all_right IsCleanSite ss rest h))

equal_by : (a b : ℕ) (c : Bool) → eqb a b ≡ c → ((a ≡ b → ⊥) → ⊥) → a ≡ b
equal_by a b true e h = eqb-true a b e
equal_by a b false e h = absurd (h (λ p. true≢false (sym (eq-eqb a b p) ∙ e)))

own_by : (file : Find Thing) (x : Id) (o : Option (Declared Thing)) → file x.name ≡ o → is_some o ≡ true → IsCleanSite (declares (place_of o) x) → IsOwn file x
own_by file x None e h clean = absurd (true≢false (sym h))
own_by file x (Some d) e h clean = record {
  declared = d;
  found = e;
  here = equal_by d.at x.at (eqb d.at x.at) refl (λ other. clean (fault.Twice x.at d.at) (d.at, refl, other, refl));
}

pub all_own : (raw : Raw Id) → ((f : NameFault) → Offences raw f → ⊥) → AllOf (IsOwn (find (declared_in raw.items))) (each source_id raw.items)
all_own raw clean =
    let ns = declared_in raw.items in
    let sites_clean : AllOf IsCleanSite (sites raw) = all_contained IsCleanSite (sites raw) (λ s k f o. clean f (s, k, o)) in
    zipped (IsFound ns) (IsOnce (find ns)) (IsOwn (find ns)) (λ x found once. own_by (find ns) x (find ns x.name) refl found once) (each source_id raw.items)
    (all_found none_before raw.items) (all_once (find ns) raw.items sites_clean)
