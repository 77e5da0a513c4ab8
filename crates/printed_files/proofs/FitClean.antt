-- Where each set has each name once and each use is right, no name offends.
use Rattle.std.proofs.Common.{◌≡◌, ◌⊎◌, inl, inr, ℕ, ◌+◌, ◌<◌, ◌≤◌, nat_eq, List, [], ◌∷◌, ◌++◌, map, Bool, true, false, ◌&&◌, cond, if◌then◌else◌, Option, Some, None, is_some, is_none, Contains, refl, sym, ap, ap₂, subst, ◌∙◌, true≢false, arith}
use Rattle.std.proofs.lemmas.Bool.{eq-eqb, ltb-true, lt-ltb}
use Rattle.std.specs.Option.{option_map, option_or, unwrap_or}
use Rattle.std.specs.List.{list_all}
use Rattle.std.specs.Cmp.Lexicographic.{bytes_decides}
use Rattle.std.proofs.lemmas.List.Elements.{Contains-append_cases, Contains-push_cases}
use Rattle.tower_types.specs.Ty.{Name}
use Rattle.tower_syntax.specs.RawTree.{Id, RawType, word, rec, array, RawField, RawHpart, emitter, callback, RawPart, state, handler, RawItem, fields, init, period, signal, channel, output, monitor, Raw}
use Rattle.tower_syntax.specs.declared.named.Target.{Target}
use Rattle.tower_syntax.specs.declared.named.Target.TheVariants as target
use Rattle.arch_names.specs.declared.names.Declared.{Declared}
use Rattle.arch_names.specs.declared.names.Thing.{Thing}
use Rattle.arch_names.specs.declared.names.Thing.TheVariants as thing
use Rattle.arch_names.specs.declared.names.Counts.{Counts}
use Rattle.arch_names.specs.declared.fault.Sort.{Sort}
use Rattle.arch_names.specs.declared.fault.Sort.TheVariants as sort
use Rattle.arch_names.specs.declared.fault.NameFault.TheVariants as fault
use Rattle.arch_names.specs.Names.{Names, Find, same, find, serves}
use Rattle.arch_names.specs.Sets.{declared_as, each, counting, fields_of, emitter_of, next_emitter, emitters_of, state_of, next_state, states_of, handler_of, declared_by, counted, declared_in}
use Rattle.arch_names.specs.Trees.{AreOnce}
use Rattle.arch_names.specs.Site.{Site, declares, binds, refers, part_type, picks, Means, IsUse}
use Rattle.arch_names.specs.Sites.{Around, around, around_of, own, type_sites, hpart_sites, part_sites, field_sites, item_sites, sites}
use Rattle.arch_names.specs.Written.{in_field, in_item, IsBelow, AreAscending, Ascends}
use Rattle.arch_names.specs.Walk.{unless_found, first_but_own, kind_fault, fault_at, first}
use Rattle.printed_files.specs.Fit.{what_of, plainly, is_right, are_right, hpart_fits, part_fits, is_earlier, type_is_earlier, field_fits, item_fits, items_fit, Each, HasEmittersOnce, HasSetsOnce, FitNamesAreClean}

-- no fault, and a use means what is plain
pub record IsSound (s : Site) : Type 0 where
  pub clean : fault_at s ≡ None
  pub means : IsUse s → Means s (plainly s)

abbrev AreSound : List Site → Type 0
AreSound [] = Unit {0}
AreSound (s ∷ ss) = IsSound s × AreSound ss

sound_append : (ss ts : List Site) → AreSound ss → AreSound ts → AreSound (ss ++ ts)
sound_append [] ts h k = k
sound_append (s ∷ ss) ts h k = (h.0, sound_append ss ts h.1 k)

no_fault : (ss : List Site) → AreSound ss → first ss ≡ None
no_fault [] h = refl
no_fault (s ∷ ss) h = ap₂ (λ o p. option_or o p) (h.0.clean) (no_fault ss h.1)

in_cons : (a s : Site) (ss : List Site) → Contains (a ∷ ss) s → (a ≡ s) ⊎ Contains ss s
in_cons a s ss h = elim (Contains-append_cases (a ∷ []) ss s h) [
  | inl k ↦ elim (Contains-push_cases [] a s k) [ inl n ↦ absurd (omega Rattle.std.proofs.Common.arith) | inr e ↦ inl e ]
  | inr k ↦ inr k
]

sound_at : (ss : List Site) → AreSound ss → (s : Site) → Contains ss s → IsSound s
sound_at [] h s k = absurd (omega Rattle.std.proofs.Common.arith)
sound_at (a ∷ ss) h s k = elim (in_cons a s ss k) [ inl e ↦ subst IsSound e h.0 | inr m ↦ sound_at ss h.1 s m ]

-- ---- uses

served_sound : (want : Sort) (d : Declared Thing) (u : Id) (r : Option Target) → serves want d.what ≡ r → is_some r ≡ true → IsSound (refers want (Some d) u)
served_sound want d u None e h = absurd (true≢false (sym h))
served_sound want d u (Some t) e h = record {
  clean = ap (λ o. unless_found o (kind_fault want u (Some d))) e;
  means = λ used. (d, refl, e ∙ ap (λ o. Some (unwrap_or o target.Param)) (sym e));
}

right_sound : (s : Site) → is_right s ≡ true → IsSound s
right_sound (declares at x) h = absurd (true≢false (sym h))
right_sound (binds None x) h = record { clean = refl; means = λ used. absurd used }
right_sound (binds (Some at) x) h = absurd (true≢false (sym h))
right_sound (refers want None u) h = absurd (true≢false (sym h))
right_sound (refers want (Some d) u) h = served_sound want d u (serves want d.what) refl h
right_sound (part_type record_at found u) h = absurd (true≢false (sym h))
right_sound (picks None u) h = absurd (true≢false (sym h))
right_sound (picks (Some d) u) h = record { clean = refl; means = λ used. (d, refl, refl) }

both : (a b : Bool) → (a && b) ≡ true → (a ≡ true) × (b ≡ true)
both true b h = (refl, h)
both false b h = absurd (true≢false (sym h))

all_sound : (ss : List Site) → are_right ss ≡ true → AreSound ss
all_sound [] h = tt
all_sound (s ∷ ss) h = let p = both (is_right s) (are_right ss) h in (right_sound s p.0, all_sound ss p.1)

-- ---- declarations

abbrev pub In : {X : Type 0} → X → List X → Type 0
In e [] = ⊥
In e (d ∷ ds) = (e ≡ d) ⊎ In e ds

abbrev Within : {X : Type 0} → List X → List X → Type 0
Within {X} ds es = (e : X) → In e ds → In e es

pub in_left : {X : Type 0} (ds es : List X) → Within ds (ds ++ es)
in_left [] es e h = absurd h
in_left (d ∷ ds) es e h = elim h [ inl i ↦ inl i | inr k ↦ inr (in_left ds es e k) ]

pub in_right : {X : Type 0} (ds es : List X) → Within es (ds ++ es)
in_right [] es e h = h
in_right (d ∷ ds) es e h = inr (in_right ds es e h)

found_here : {T : Type 0} (n k : Name) (d c : Declared T) (ds : Names T) → ◌≡◌ {A = Name × Declared T} (n, d) (k, c) → find ((k, c) ∷ ds) n ≡ Some d
found_here n k d c ds h =
    let e : k ≡ n = sym (ap (λ p. p.0) h) in let f : c ≡ d = sym (ap (λ p. p.1) h) in
    ap₂ (λ b x. cond b (Some x) (find ds n)) (ap (same n) e ∙ (bytes_decides n n).1 refl) f

none_some : {X : Type 0} {x : X} → None ≡ Some x → ⊥
none_some e = cc

found_once : {T : Type 0} (n : Name) (d : Declared T) (ds : Names T) → AreOnce ds → In (n, d) ds → find ds n ≡ Some d
found_once n d [] o h = absurd h
found_once n d (c ∷ ds) o h = elim h [
  | inl e ↦ found_here n c.0 d c.1 ds e
  | inr k ↦ by (same n c.0) refl (found_once n d ds o.1 k)
]
  where
    by : (b : Bool) → same n c.0 ≡ b → find ds n ≡ Some d → find (c ∷ ds) n ≡ Some d
    by false e h = ap (λ b. cond b (Some c.1) (find ds n)) e ∙ h
    by true e h = absurd (none_some (sym o.0 ∙ ap (find ds) (sym ((bytes_decides n c.0).0 e)) ∙ h))

own_sound : {T : Type 0} (ds : Names T) (x : Id) (t : T) → AreOnce ds → In (declared_as x t) ds → IsSound (own (find ds) x)
own_sound {T} ds x t o h =
    let d : Declared T = record { at = x.at; what = t } in
    record {
      clean = ap (λ f. first_but_own x (option_map (λ e. e.at) f)) (found_once x.name d ds o h) ∙ ap (λ b. if b then None else Some (fault.Twice x.at x.at)) (eq-eqb x.at x.at refl);
      means = λ used. absurd used;
    }

-- ---- records stand in the order of their numbers

abbrev RecordsAscend : Names Thing → Type 0
RecordsAscend all = (x y : Name × Declared Thing) (r q : ℕ) → In x all → In y all → x.1.what ≡ thing.Record r → y.1.what ≡ thing.Record q → r < q → x.1.at < y.1.at

in_append_left : (a : ℕ) (xs ys : List ℕ) → In a xs → In a (xs ++ ys)
in_append_left a xs ys h = in_left xs ys a h

below_in : (m : ℕ) (ns : List ℕ) → IsBelow m ns → (a : ℕ) → In a ns → m < a
below_in m [] o a h = absurd h
below_in m (n ∷ ns) o a h = elim h [ inl e ↦ subst (λ z. m < z) (sym e) o.0 | inr k ↦ below_in m ns o.1 a k ]

ascending_right : (ms ns : List ℕ) → AreAscending (ms ++ ns) → AreAscending ns
ascending_right [] ns o = o
ascending_right (m ∷ ms) ns o = ascending_right ms ns o.1

-- a record among the declarations of the items behind so many
pub record StandsIn (n : ℕ) (written : List ℕ) (r at : ℕ) : Type 0 where
  pub number : n ≤ r
  pub place : In at written

no_record : (ps : List (RawPart Id)) (e : Name × Declared Thing) (r : ℕ) → In e (each handler_of ps) → e.1.what ≡ thing.Record r → ⊥
no_record [] e r h k = absurd h
no_record (state at x t ∷ ps) e r h k = no_record ps e r h k
no_record (handler at x u hs ∷ ps) e r h k = elim h [ inl i ↦ absurd (let s : thing.Handler ≡ thing.Record r = sym (ap (λ z. z.1.what) i) ∙ k in cc) | inr j ↦ no_record ps e r j k ]

pub in_either : {X : Type 0} (e : X) (xs ys : List X) → In e (xs ++ ys) → In e xs ⊎ In e ys
in_either e [] ys h = inr h
in_either e (x ∷ xs) ys h = elim h [ inl i ↦ inl (inl i) | inr k ↦ elim (in_either e xs ys k) [ inl j ↦ inl (inr j) | inr j ↦ inr j ] ]

moved : (n m : ℕ) (ws vs : List ℕ) (r at : ℕ) → n ≤ m → StandsIn m ws r at → StandsIn n (vs ++ ws) r at
moved n m ws vs r at l s = let k = s.number in record { number = omega (arith, l, k); place = in_right vs ws at s.place }

same_record : (d : Declared Thing) (e : Name × Declared Thing) (x : Id) (t : Thing) (r : ℕ) → ◌≡◌ {A = Name × Declared Thing} e (declared_as x t) → e.1.what ≡ thing.Record r → t ≡ thing.Record r
same_record d e x t r i k = sym (ap (λ z. z.1.what) i) ∙ k

stands : (n : Counts) (xs : List (RawItem Id)) (e : Name × Declared Thing) (r : ℕ) → In e (counting declared_by counted n xs) → e.1.what ≡ thing.Record r → StandsIn n.records (each in_item xs) r e.1.at
stands n [] e r h k = absurd h
stands n (fields at x fs ∷ xs) e r h k = elim h [
  | inl i ↦ (let s : thing.Record n.records ≡ thing.Record r = same_record e.1 e x (thing.Record n.records) r i k in let q : n.records ≡ r = cc in record { number = omega (arith, q); place = inl (ap (λ z. z.1.at) i) })
  | inr j ↦ moved n.records (n.records + 1) (each in_item xs) (in_item (fields at x fs)) r e.1.at (omega arith) (stands (record n { records = n.records + 1 }) xs e r j k)
]
stands n (init at x p ∷ xs) e r h k = elim h [ inl i ↦ absurd (let s = same_record e.1 e x (thing.Source n.sources) r i k in cc) | inr j ↦ moved n.records n.records (each in_item xs) (in_item (init at x p)) r e.1.at (omega arith) (stands (record n { sources = n.sources + 1 }) xs e r j k) ]
stands n (period at x ms p d ∷ xs) e r h k = elim h [ inl i ↦ absurd (let s = same_record e.1 e x (thing.Source n.sources) r i k in cc) | inr j ↦ moved n.records n.records (each in_item xs) (in_item (period at x ms p d)) r e.1.at (omega arith) (stands (record n { sources = n.sources + 1 }) xs e r j k) ]
stands n (signal at x t p d ∷ xs) e r h k = elim h [ inl i ↦ absurd (let s = same_record e.1 e x (thing.Source n.sources) r i k in cc) | inr j ↦ moved n.records n.records (each in_item xs) (in_item (signal at x t p d)) r e.1.at (omega arith) (stands (record n { sources = n.sources + 1 }) xs e r j k) ]
stands n (channel at x t ∷ xs) e r h k = elim h [ inl i ↦ absurd (let s = same_record e.1 e x (thing.Channel n.channels) r i k in cc) | inr j ↦ moved n.records n.records (each in_item xs) (in_item (channel at x t)) r e.1.at (omega arith) (stands (record n { channels = n.channels + 1 }) xs e r j k) ]
stands n (output at x u ∷ xs) e r h k = elim h [ inl i ↦ absurd (let s = same_record e.1 e x thing.Output r i k in cc) | inr j ↦ moved n.records n.records (each in_item xs) (in_item (output at x u)) r e.1.at (omega arith) (stands n xs e r j k) ]
stands n (monitor at x ps ∷ xs) e r h k = elim h [
  | inl i ↦ absurd (let s = same_record e.1 e x thing.Monitor r i k in cc)
  | inr j ↦ elim (in_either e (each handler_of ps) (counting declared_by counted n xs) j) [
    | inl m ↦ absurd (no_record ps e r m k)
    | inr m ↦ moved n.records n.records (each in_item xs) (in_item (monitor at x ps)) r e.1.at (omega arith) (stands n xs e r m k)
  ]
]

abbrev AscendFrom : Counts → List (RawItem Id) → Type 0
AscendFrom n xs = RecordsAscend (counting declared_by counted n xs)

-- the head of the declarations is no record
behind_head : (c : Name × Declared Thing) (es : Names Thing) → ((r : ℕ) → c.1.what ≡ thing.Record r → ⊥) → RecordsAscend es → RecordsAscend (c ∷ es)
behind_head c es none asc x y r q h j k l m =
    let away : (z : Name × Declared Thing) (p : ℕ) → In z (c ∷ es) → z.1.what ≡ thing.Record p → In z es = λ z p i same. elim i [ inl e ↦ absurd (none p (sym (ap (λ w. w.1.what) e) ∙ same)) | inr s ↦ s ] in
    asc x y r q (away x r h k) (away y q j l) k l m

behind_handlers : (ps : List (RawPart Id)) (es : Names Thing) → RecordsAscend es → RecordsAscend (each handler_of ps ++ es)
behind_handlers ps es asc x y r q h j k l m =
    let away : (z : Name × Declared Thing) (p : ℕ) → In z (each handler_of ps ++ es) → z.1.what ≡ thing.Record p → In z es = λ z p i same. elim (in_either z (each handler_of ps) es i) [ inl s ↦ absurd (no_record ps z p s same) | inr s ↦ s ] in
    asc x y r q (away x r h k) (away y q j l) k l m

ascend_from : (n : Counts) (xs : List (RawItem Id)) → AreAscending (each in_item xs) → AscendFrom n xs
ascend_from n [] o = λ x y r q h j k l m. absurd h
ascend_from n (fields at z fs ∷ xs) o = λ x y r q h j k l m.
    let next : Counts = record n { records = n.records + 1 } in
    let rest = ascend_from next xs (ascending_right (in_item (fields at z fs)) (each in_item xs) o) in
    elim h [
      | inl e ↦ elim j [
        | inl f ↦ absurd (let s : thing.Record n.records ≡ thing.Record r = same_record x.1 x z (thing.Record n.records) r e k in let t : thing.Record n.records ≡ thing.Record q = same_record y.1 y z (thing.Record n.records) q f l in let a : n.records ≡ r = cc in let b : n.records ≡ q = cc in omega (arith, a, b, m))
        | inr f ↦ (let p = stands next xs y q f l in subst (λ a. a < y.1.at) (sym (ap (λ w. w.1.at) e)) (below_in z.at (each in_field fs ++ each in_item xs) o.0 y.1.at (in_right (each in_field fs) (each in_item xs) y.1.at p.place)))
      ]
      | inr e ↦ elim j [
        | inl f ↦ absurd (let p = stands next xs x r e k in let t : thing.Record n.records ≡ thing.Record q = same_record y.1 y z (thing.Record n.records) q f l in let b : n.records ≡ q = cc in let c = p.number in omega (arith, b, c, m))
        | inr f ↦ rest x y r q e f k l m
      ]
    ]
ascend_from n (init at z p ∷ xs) o = behind_head (declared_as z (thing.Source n.sources)) _ (λ r e. let s : thing.Source n.sources ≡ thing.Record r = e in cc) (ascend_from (record n { sources = n.sources + 1 }) xs (ascending_right (in_item (init at z p)) (each in_item xs) o))
ascend_from n (period at z ms p d ∷ xs) o = behind_head (declared_as z (thing.Source n.sources)) _ (λ r e. let s : thing.Source n.sources ≡ thing.Record r = e in cc) (ascend_from (record n { sources = n.sources + 1 }) xs (ascending_right (in_item (period at z ms p d)) (each in_item xs) o))
ascend_from n (signal at z t p d ∷ xs) o = behind_head (declared_as z (thing.Source n.sources)) _ (λ r e. let s : thing.Source n.sources ≡ thing.Record r = e in cc) (ascend_from (record n { sources = n.sources + 1 }) xs (ascending_right (in_item (signal at z t p d)) (each in_item xs) o))
ascend_from n (channel at z t ∷ xs) o = behind_head (declared_as z (thing.Channel n.channels)) _ (λ r e. let s : thing.Channel n.channels ≡ thing.Record r = e in cc) (ascend_from (record n { channels = n.channels + 1 }) xs (ascending_right (in_item (channel at z t)) (each in_item xs) o))
ascend_from n (output at z u ∷ xs) o = behind_head (declared_as z thing.Output) _ (λ r e. let s : thing.Output ≡ thing.Record r = e in cc) (ascend_from n xs (ascending_right (in_item (output at z u)) (each in_item xs) o))
ascend_from n (monitor at z ps ∷ xs) o = behind_head (declared_as z thing.Monitor) _ (λ r e. let s : thing.Monitor ≡ thing.Record r = e in cc) (behind_handlers ps _ (ascend_from n xs (ascending_right (in_item (monitor at z ps)) (each in_item xs) o)))

pub records_ascend : (raw : Raw Id) → Ascends raw → RecordsAscend (declared_in raw.items)
records_ascend raw o = ascend_from (record { records = 0; sources = 0; channels = 0 }) raw.items o

-- ---- the parts of a file

module _ (file : Find Thing) (states : Find Target) (all : Names Target) (once : AreOnce all) where
  abbrev place : Around
  place = around_of file states (find all)

  hparts_sound : (n : ℕ) (hs : List (RawHpart Id)) → Within (counting emitter_of next_emitter n hs) all → list_all (hpart_fits place) hs ≡ true → AreSound (each (hpart_sites place) hs)
  hparts_sound n [] w h = tt
  hparts_sound n (emitter at x u bound ∷ hs) w h =
      let p = both (hpart_fits place (emitter at x u bound)) (list_all (hpart_fits place) hs) h in
      (own_sound all x (target.Emitter n) once (w (declared_as x (target.Emitter n)) (inl refl)), (right_sound (refers sort.Channel (file u.name) u) p.0, hparts_sound (n + 1) hs (λ e k. w e (inr k)) p.1))
  hparts_sound n (callback at x ss ∷ hs) w h =
      let p = both (hpart_fits place (callback at x ss)) (list_all (hpart_fits place) hs) h in
      sound_append (hpart_sites place (callback at x ss)) (each (hpart_sites place) hs) (all_sound (hpart_sites place (callback at x ss)) p.0) (hparts_sound n hs w p.1)

-- ---- records

found_in : {T : Type 0} (n : Name) (d : Declared T) (ds : Names T) → find ds n ≡ Some d → (k : Name) × In (k, d) ds
found_in {T} n d [] h = absurd (none_some h)
found_in {T} n d (c ∷ ds) h = by (same n c.0) refl (found_in n d ds)
  where
    taken : {x y : Declared T} → Some x ≡ Some y → x ≡ y
    taken e = cc

    by : (b : Bool) → same n c.0 ≡ b → (find ds n ≡ Some d → (k : Name) × In (k, d) ds) → (k : Name) × In (k, d) (c ∷ ds)
    by true e more = (c.0, inl (λ i. (c.0, taken (sym h ∙ ap (λ b. cond b (Some c.1) (find ds n)) e) i)))
    by false e more = let r = more (sym (ap (λ b. cond b (Some c.1) (find ds n)) e) ∙ h) in (r.0, inr r.1)

earlier_sound : (at n : ℕ) (d : Declared Thing) (u : Id) (t : Thing) → d.what ≡ t → is_earlier n (Some t) ≡ true → ((r : ℕ) → t ≡ thing.Record r → r < n → d.at < at) → IsSound (part_type at (Some d) u)
earlier_sound at n d u (thing.Record r) e h before =
    let l : d.at < at = before r refl (ltb-true r n h) in
    let served : serves sort.Record d.what ≡ Some (target.Record r) = ap (serves sort.Record) e in
    record {
      clean = ap (λ b. unless_found (if b then serves sort.Record d.what else None) (fault.Unknown u.at)) (lt-ltb d.at at l) ∙ ap (λ o. unless_found o (fault.Unknown u.at)) served;
      means = λ used. (d, refl, served ∙ ap (λ o. Some (unwrap_or o target.Param)) (sym served), l);
    }
earlier_sound at n d u (thing.Source r) e h before = absurd (true≢false (sym h))
earlier_sound at n d u (thing.Channel r) e h before = absurd (true≢false (sym h))
earlier_sound at n d u thing.Output e h before = absurd (true≢false (sym h))
earlier_sound at n d u thing.Monitor e h before = absurd (true≢false (sym h))
earlier_sound at n d u thing.Handler e h before = absurd (true≢false (sym h))

-- the records with smaller numbers that the names find stand before the offset
abbrev StandBefore : Names Thing → ℕ → ℕ → Type 0
StandBefore all n at = (k : Name) (d : Declared Thing) (r : ℕ) → In (k, d) all → d.what ≡ thing.Record r → r < n → d.at < at

use_sound : (all : Names Thing) (n at : ℕ) (u : Id) (found : Option (Declared Thing)) → find all u.name ≡ found → is_earlier n (what_of found) ≡ true → StandBefore all n at → IsSound (part_type at found u)
use_sound all n at u None e h before = absurd (true≢false (sym h))
use_sound all n at u (Some d) e h before =
    let k = found_in u.name d all e in
    earlier_sound at n d u d.what refl h (λ r same l. before k.0 d r k.1 same l)

type_sound : (all : Names Thing) (n at : ℕ) → StandBefore all n at → (t : RawType Id) → type_is_earlier (find all) n t ≡ true → AreSound (type_sites (find all) (Some at) t)
type_sound all n at before (word a s) h = tt
type_sound all n at before (rec u) h = (use_sound all n at u (find all u.name) refl h before, tt)
type_sound all n at before (array a k t) h = type_sound all n at before t h

module _ (all : Names Thing) (once : AreOnce all) (ascend : RecordsAscend all) where
  abbrev in_file : Find Thing
  in_file = find all

  parts_sound : (own_states : Names Target) → AreOnce own_states → (n : ℕ) (ps : List (RawPart Id)) → Within (counting state_of next_state n ps) own_states → Within (each handler_of ps) all
      → Each HasEmittersOnce ps → list_all (part_fits in_file (find own_states)) ps ≡ true → AreSound (each (part_sites in_file (find own_states)) ps)
  parts_sound ds o n [] w v k h = tt
  parts_sound ds o n (state at x t ∷ ps) w v k h =
      let p = both (part_fits in_file (find ds) (state at x t)) (list_all (part_fits in_file (find ds)) ps) h in (
        own_sound ds x (target.State n) o (w (declared_as x (target.State n)) (inl refl)),
        sound_append (type_sites in_file None t) (each (part_sites in_file (find ds)) ps) (all_sound (type_sites in_file None t) p.0) (parts_sound ds o (n + 1) ps (λ e j. w e (inr j)) v k.1 p.1),
      )
  parts_sound ds o n (handler at x u hs ∷ ps) w v k h =
      let p = both (part_fits in_file (find ds) (handler at x u hs)) (list_all (part_fits in_file (find ds)) ps) h in
      let q = both (is_right (refers sort.SourceOrChannel (in_file u.name) u)) (list_all (hpart_fits (around in_file (find ds) hs)) hs) p.0 in (
        own_sound all x thing.Handler once (v (declared_as x thing.Handler) (inl refl)),
        (
          right_sound (refers sort.SourceOrChannel (in_file u.name) u) q.0,
          sound_append (each (hpart_sites (around in_file (find ds) hs)) hs) (each (part_sites in_file (find ds)) ps)
              (hparts_sound in_file (find ds) (emitters_of hs) k.0 0 hs (λ e j. j) q.1)
              (parts_sound ds o n ps w (λ e j. v e (inr j)) k.1 p.1),
        ),
      )

  fields_sound : (n m : ℕ) → StandBefore all n m → (ds : Names (Unit {0})) → AreOnce ds → (fs : List (RawField Id)) → Within (fields_of fs) ds → list_all (field_fits in_file n) fs ≡ true → AreSound (each (field_sites in_file m (find ds)) fs)
  fields_sound n m before ds o [] w h = tt
  fields_sound n m before ds o (f ∷ fs) w h =
      let p = both (field_fits in_file n f) (list_all (field_fits in_file n) fs) h in (
        own_sound ds f.name tt o (w (declared_as f.name tt) (inl refl)),
        sound_append (type_sites in_file (Some m) f.ty) (each (field_sites in_file m (find ds)) fs) (type_sound all n m before f.ty p.0) (fields_sound n m before ds o fs (λ e j. w e (inr j)) p.1),
      )

  items_sound : (n : Counts) (xs : List (RawItem Id)) → Within (counting declared_by counted n xs) all → Each HasSetsOnce xs → items_fit in_file n.records xs ≡ true → AreSound (each (item_sites in_file) xs)
  items_sound n [] w k h = tt
  items_sound n (fields at x fs ∷ xs) w k h =
      let p = both (list_all (field_fits in_file n.records) fs) (items_fit in_file (n.records + 1) xs) h in
      let own_in : In (declared_as x (thing.Record n.records)) all = w (declared_as x (thing.Record n.records)) (inl refl) in (
        own_sound all x (thing.Record n.records) once (w (declared_as x (thing.Record n.records)) (inl refl)),
        sound_append (each (field_sites in_file x.at (find (fields_of fs))) fs) (each (item_sites in_file) xs)
            (fields_sound n.records x.at (λ key d r i same l. ascend (key, d) (declared_as x (thing.Record n.records)) r n.records i own_in same refl l) (fields_of fs) k.0 fs (λ e j. j) p.0) (items_sound (record n { records = n.records + 1 }) xs (λ e j. w e (inr j)) k.1 p.1),
      )
  items_sound n (init at x p ∷ xs) w k h = (own_sound all x (thing.Source n.sources) once (w (declared_as x (thing.Source n.sources)) (inl refl)), items_sound (record n { sources = n.sources + 1 }) xs (λ e j. w e (inr j)) k.1 h)
  items_sound n (period at x ms p d ∷ xs) w k h = (own_sound all x (thing.Source n.sources) once (w (declared_as x (thing.Source n.sources)) (inl refl)), items_sound (record n { sources = n.sources + 1 }) xs (λ e j. w e (inr j)) k.1 h)
  items_sound n (signal at x t p d ∷ xs) w k h =
      let q = both (are_right (type_sites in_file None t)) (items_fit in_file n.records xs) h in (
        own_sound all x (thing.Source n.sources) once (w (declared_as x (thing.Source n.sources)) (inl refl)),
        sound_append (type_sites in_file None t) (each (item_sites in_file) xs) (all_sound (type_sites in_file None t) q.0) (items_sound (record n { sources = n.sources + 1 }) xs (λ e j. w e (inr j)) k.1 q.1),
      )
  items_sound n (channel at x t ∷ xs) w k h =
      let q = both (are_right (type_sites in_file None t)) (items_fit in_file n.records xs) h in (
        own_sound all x (thing.Channel n.channels) once (w (declared_as x (thing.Channel n.channels)) (inl refl)),
        sound_append (type_sites in_file None t) (each (item_sites in_file) xs) (all_sound (type_sites in_file None t) q.0) (items_sound (record n { channels = n.channels + 1 }) xs (λ e j. w e (inr j)) k.1 q.1),
      )
  items_sound n (output at x u ∷ xs) w k h =
      let q = both (is_right (refers sort.Channel (in_file u.name) u)) (items_fit in_file n.records xs) h in
      (own_sound all x thing.Output once (w (declared_as x thing.Output) (inl refl)), (right_sound (refers sort.Channel (in_file u.name) u) q.0, items_sound n xs (λ e j. w e (inr j)) k.1 q.1))
  items_sound n (monitor at x ps ∷ xs) w k h =
      let q = both (item_fits in_file n.records (monitor at x ps)) (items_fit in_file n.records xs) h in (
        own_sound all x thing.Monitor once (w (declared_as x thing.Monitor) (inl refl)),
        sound_append (each (part_sites in_file (find (states_of ps))) ps) (each (item_sites in_file) xs)
            (parts_sound (states_of ps) k.0.0 0 ps (λ e j. j) (λ e j. w e (inr (in_left (each handler_of ps) (counting declared_by counted n xs) e j))) k.0.1 q.0)
            (items_sound n xs (λ e j. w e (inr (in_right (each handler_of ps) (counting declared_by counted n xs) e j))) k.1 q.1),
      )

pub fit_names_are_clean : FitNamesAreClean
fit_names_are_clean raw ascends h =
    let sound : AreSound (sites raw) = items_sound (declared_in raw.items) h.file (records_ascend raw ascends) (record { records = 0; sources = 0; channels = 0 }) raw.items (λ e j. j) h.inside h.fits in
    (no_fault (sites raw) sound, (plainly, (λ s k used. (sound_at (sites raw) sound s k).means used), refl))
