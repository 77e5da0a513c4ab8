-- The first field of a name, by the places of the fields.
use Rattle.std.proofs.Common.{◌≡◌, ℕ, zero, suc, ◌+◌, ◌<◌, ◌≤◌, List, [], ◌∷◌, ◌++◌, length, map, take, slice_get, slice_index_or, bytes_eq, Bool, true, false, cond, Some, None, Option, refl, ap, sym, ◌∙◌, get_or, arith}
use Rattle.std.specs.Option.{option_map, option_or}
use Rattle.std.proofs.lemmas.List.{take_more, take_all, length-map, map-append}
use Rattle.std.proofs.lemmas.Option.{none-some, same_Some, slice_get-map, slice_get-get_or, slice_get_within, get_or_from_slice_get, slice_get_past}
use Rattle.std.specs.Cmp.Lexicographic.{nat_list_eq_equiv}
use Rattle.tower_types.specs.Ty.{Ty, Name, Fields, Records}
use Rattle.tower_types.specs.View.{ty_of, fields_of}
use Rattle.tower_types.specs.declared.ty.Ty.{Ty as TyValue}
use Rattle.arch_types.proofs.Finding.{find-append, bytes_same}
use Rattle.arch_types.specs.Places.{Places, same, find, place_in}
use Rattle.arch_types.specs.Typing.{field_in, field_of, if_found, one_later}

same_bytes : (a b : Name) → bytes_eq a b ≡ same b a
same_bytes a b = bytes_same a b ∙ nat_list_eq_equiv.symm a b

-- ---- the places of some fields, and of one more

place_later : (r : Option (ℕ × Ty)) → option_map (λ f. f.0) (one_later r) ≡ option_map suc (option_map (λ f. f.0) r)
place_later None = refl
place_later (Some f) = refl

or_later : (a b : Option ℕ) → option_map suc (option_or a b) ≡ option_or (option_map suc a) (option_map suc b)
or_later None b = refl
or_later (Some k) b = refl

cond_later : (b : Bool) (k : ℕ) → option_map suc (cond b (Some k) None) ≡ cond b (Some (suc k)) None
cond_later true k = refl
cond_later false k = refl

place_more : (fs : Fields) (f : Name × Ty) (n : Name) → place_in (fs ++ f ∷ []) n ≡ option_or (place_in fs n) (cond (same n f.0) (Some (length fs)) None)
place_more [] f n = rw (same_bytes f.0 n) (by (same n f.0))
  where
    by : (b : Bool) → option_map (λ f. f.0) (if_found b f.1 None) ≡ cond b (Some 0) None
    by true = refl
    by false = refl
place_more (g ∷ fs) f n = by (bytes_eq g.0 n) (place_more fs f n)
  where
    by : (b : Bool) → place_in (fs ++ f ∷ []) n ≡ option_or (place_in fs n) (cond (same n f.0) (Some (length fs)) None) → option_map (λ f. f.0) (if_found b g.1 (field_in (fs ++ f ∷ []) n)) ≡ option_or (option_map (λ f. f.0) (if_found b g.1 (field_in fs n))) (cond (same n f.0) (Some (suc (length fs))) None)
    by true h = refl
    by false h =
        place_later (field_in (fs ++ f ∷ []) n) ∙ ap (option_map suc) h ∙ or_later (place_in fs n) (cond (same n f.0) (Some (length fs)) None)
        ∙ (λ i. option_or (sym (place_later (field_in fs n)) i) (cond_later (same n f.0) (length fs) i))

at_item : (fs : List (Name × TyValue)) (i : ℕ) (x : Name × TyValue) → x ≡ get_or fs i x → i < length fs → slice_get (fields_of fs) i ≡ Some (x.0, ty_of x.1)
at_item fs i x e l = slice_get-map (λ f. (f.0, ty_of f.1)) fs i ∙ ap (option_map (λ f. (f.0, ty_of f.1))) (slice_get-get_or fs i x l ∙ ap Some (sym e))

take_one_more : {X : Type 0} (xs : List X) (i : ℕ) (x : X) → slice_get xs i ≡ Some x → take (i + 1) xs ≡ take i xs ++ x ∷ []
take_one_more xs i x h = take_more xs i x (slice_get_within xs i x h) ∙ ap (λ y. take i xs ++ y ∷ []) (get_or_from_slice_get xs i x x h)

length_take : {X : Type 0} (xs : List X) (i : ℕ) → i < length xs → length (take i xs) ≡ i
length_take [] i l = absurd (omega (arith, l))
length_take (x ∷ xs) zero l = refl
length_take (x ∷ xs) (suc i) l = ap suc (length_take xs i (omega (arith, l)))

module _ (fs : List (Name × TyValue)) (i : ℕ) (places : Places) (h : find places ≡ place_in (take i (fields_of fs))) where
  pub one_placed : (x : Name × TyValue) (k : ℕ) (more : Places) → x ≡ get_or fs i x → i < length fs → k ≡ i → find more ≡ find (places ++ (x.0, k) ∷ []) → find more ≡ place_in (take (i + 1) (fields_of fs))
  one_placed x k more e l is m =
      let y : Name × Ty = (x.0, ty_of x.1) in
      let at = at_item fs i x e l in
      let count : length (take i (fields_of fs)) ≡ i = length_take (fields_of fs) i (slice_get_within _ _ _ at) in
      let each : (n : Name) → find (places ++ (x.0, k) ∷ []) n ≡ place_in (take i (fields_of fs) ++ y ∷ []) n =
      λ n. find-append places ((x.0, k) ∷ []) n ∙ (λ j. option_or (h j n) (cond (same n x.0) (Some ((is ∙ sym count) j)) None)) ∙ sym (place_more (take i (fields_of fs)) y n) in
      m ∙ (λ j n. each n j) ∙ ap place_in (sym (take_one_more (fields_of fs) i y at))

pub all_placed : (fs : List (Name × TyValue)) (i : ℕ) (places : Places) → length fs ≤ i → find places ≡ place_in (take i (fields_of fs)) → find places ≡ place_in (fields_of fs)
all_placed fs i places l h = h ∙ ap place_in (take_all i (fields_of fs) (let f : Name × TyValue → Name × Ty = λ g. (g.0, ty_of g.1) in rw (length-map fs f) l))

-- ---- the places of all records

pub one_record : (rs : Records) (i : ℕ) (all : List Places) (fs : Fields) (p : Places) → map find all ≡ map place_in (take i rs) → slice_get rs i ≡ Some fs → find p ≡ place_in fs → map find (all ++ p ∷ []) ≡ map place_in (take (i + 1) rs)
one_record rs i all fs p h at e =
    map-append find all (p ∷ []) ∙ (λ j. h j ++ e j ∷ []) ∙ sym (map-append place_in (take i rs) (fs ∷ [])) ∙ ap (map place_in) (sym (take_one_more rs i fs at))

-- ---- the field at a place

found_here : (fs : Fields) (n : Name) (k : ℕ) (f : Name × Ty) → place_in fs n ≡ Some k → slice_get fs k ≡ Some f → field_in fs n ≡ Some (k, f.1)
found_here [] n k f h at = absurd (none-some _ h)
found_here (g ∷ fs) n k f h at = by (λ j p q. found_here fs n j f p q) (bytes_eq g.0 n) (field_in fs n) refl h
  where
    by : ((j : ℕ) → place_in fs n ≡ Some j → slice_get fs j ≡ Some f → field_in fs n ≡ Some (j, f.1)) → (b : Bool) (r : Option (ℕ × Ty)) → field_in fs n ≡ r → option_map (λ f. f.0) (if_found b g.1 r) ≡ Some k → if_found b g.1 r ≡ Some (k, f.1)
    by rest true r e h = let z = same_Some _ _ h in (λ i. Some (z i, (same_Some _ _ (ap (slice_get (g ∷ fs)) z ∙ at) i).1))
    by rest false None e h = absurd (none-some _ h)
    by rest false (Some q) e h =
        let z : suc q.0 ≡ k = same_Some _ _ h in
        let there : slice_get fs q.0 ≡ Some f = ap (slice_get (g ∷ fs)) z ∙ at in
        let w = same_Some _ _ (sym e ∙ rest q.0 (ap (option_map (λ f. f.0)) e) there) in
        (λ i. Some (z i, (w i).1))

never_past : (fs : Fields) (n : Name) (k : ℕ) → place_in fs n ≡ Some k → slice_get fs k ≡ None → ⊥
never_past [] n k h at = none-some _ h
never_past (g ∷ fs) n k h at = by (λ j p q. never_past fs n j p q) (bytes_eq g.0 n) (field_in fs n) refl h
  where
    by : ((j : ℕ) → place_in fs n ≡ Some j → slice_get fs j ≡ None → ⊥) → (b : Bool) (r : Option (ℕ × Ty)) → field_in fs n ≡ r → option_map (λ f. f.0) (if_found b g.1 r) ≡ Some k → ⊥
    by rest true r e h = none-some _ (sym (ap (slice_get (g ∷ fs)) (same_Some _ _ h) ∙ at))
    by rest false None e h = none-some _ h
    by rest false (Some q) e h = rest q.0 (ap (option_map (λ f. f.0)) e) (ap (slice_get (g ∷ fs)) (same_Some _ _ h) ∙ at)

no_place : (r : Option (ℕ × Ty)) → option_map (λ f. f.0) r ≡ None → r ≡ None
no_place None h = refl
no_place (Some f) h = absurd (none-some _ (sym h))

module _ (fs : List (Name × TyValue)) (places : Places) (n : Name) (h : find places ≡ place_in (fields_of fs)) where
  pub field_there : (k : ℕ) (x : Name × TyValue) → Some k ≡ find places n → x ≡ get_or fs k x → k < length fs → field_in (fields_of fs) n ≡ Some (k, ty_of x.1)
  field_there k x e is l = found_here (fields_of fs) n k (x.0, ty_of x.1) (sym (e ∙ (λ i. h i n))) (at_item fs k x is l)

  pub field_past : {A : Type 0} (k : ℕ) → Some k ≡ find places n → length fs ≤ k → A
  field_past k e l =
      let see : Name × TyValue → Name × Ty = λ g. (g.0, ty_of g.1) in
      absurd (never_past (fields_of fs) n k (sym (e ∙ (λ i. h i n))) (slice_get_past (fields_of fs) k (rw (length-map fs see) l)))

  pub field_nowhere : None ≡ find places n → field_in (fields_of fs) n ≡ None
  field_nowhere e = no_place _ (sym (e ∙ (λ i. h i n)))

-- ---- the field of a record

there_at : {X : Type 0} (xs : List X) (k : ℕ) (d x : X) → slice_get xs k ≡ Some x → slice_index_or xs k d ≡ x
there_at [] k d x h = absurd (none-some _ h)
there_at (y ∷ xs) zero d x h = same_Some _ _ h
there_at (y ∷ xs) (suc k) d x h = there_at xs k d x h

past_at : {X : Type 0} (xs : List X) (k : ℕ) (d : X) → length xs ≤ k → slice_index_or xs k d ≡ d
past_at [] k d l = refl
past_at (y ∷ xs) zero d l = absurd (omega (arith, l))
past_at (y ∷ xs) (suc k) d l = past_at xs k d (omega (arith, l))

module _ (rs : Records) (r : ℕ) where
  pub in_record : (fs : Fields) (n : Name) → slice_get rs r ≡ Some fs → field_in fs n ≡ field_of rs r n
  in_record fs n h = ap (λ f. field_in f n) (sym (there_at rs r [] fs h))

  pub past_records : (n : Name) → length rs ≤ r → field_of rs r n ≡ None
  past_records n l = ap (λ f. field_in f n) (past_at rs r [] l)

  pub places_at : (all : List Places) (p : Places) (fs : Fields) → map find all ≡ map place_in rs → Some p ≡ slice_get all r → slice_get rs r ≡ Some fs → find p ≡ place_in fs
  places_at all p fs h e at =
      same_Some _ _ (ap (option_map find) e ∙ sym (slice_get-map find all r) ∙ ap (λ l. slice_get l r) h ∙ slice_get-map place_in rs r ∙ ap (option_map place_in) at)

  pub places_past : {A : Type 0} (all : List Places) → map find all ≡ map place_in rs → None ≡ slice_get all r → r < length rs → A
  places_past all h e l =
      absurd (none-some _ (ap (option_map find) e ∙ sym (slice_get-map find all r) ∙ ap (λ l. slice_get l r) h ∙ slice_get-map place_in rs r ∙ ap (option_map place_in) (slice_get-get_or rs r [] l)))
